-- What happens at servers while a proxy takes its steps, where each applies what came over a connection in its order, and nothing of it after that was closed. Source: mcgate's own.
use Rattle.std.specs.Prelude.{◌≡◌, ℕ, zero, suc, List, [], ◌∷◌, ◌++◌, Option, Some, None, ◌⊎◌, if◌then◌else◌, nat_eq}
use Rattle.mc_types.specs.declared.call.Origin.{Origin}
use Rattle.mc_types.specs.declared.call.Origin.TheVariants.{Client}
use Rattle.mc_types.specs.Items.{Item}
use Rattle.fresh_runs.specs.Calls.{Call}
use Rattle.fresh_runs.specs.Single.{FitsOutcome}
use Rattle.fresh_runs.specs.Run.{Event, Begins, Calls, Replies, Breaks, Turns, Restarts, calls_so_far}
use Rattle.fresh_runs.specs.Overlap.{Ticket, Entry, ticket_in, out_of, run_of}
use Rattle.core_proxy.specs.CoreState.{dialect}
use Rattle.core_accepted.specs.declared.served.ServedCore.{ServedCore}
use Rattle.core_accepted.specs.Logs.{MayHaveLed}
use Rattle.core_accepted.specs.Late as at_servers
use Rattle.core_accepted.specs.Late.{Moment, Lands, seen, IsFreshBy, WasOver}
use Rattle.core_accepted.specs.Pipes as pipes
use Rattle.core_accepted.specs.Pipes.{Sends, Moves, Closes, moments_of, behind_first, tickets_after, IsFirstIn, IsInTurn}
use Rattle.core_accepted.specs.Parts.{ServesPipes, PipesInOrder}
use Rattle.core_accepted.specs.LateCores.{only_line, LateRunsAreFreshFrom}
use Rattle.serve_links.specs.CoreSteps.{Step, Opened, NotOpened, Fed, Polled, Stopped, Settled, Gave, Closed, LeftLine, Broke, Ticked, Loaded, Linked, Asked, Greeted, Spelled, Late, CameLate, Lost, Noted, Does}
use Rattle.serve_links.specs.Called.{TellsCallsOut}
use Rattle.serve_links.specs.Talks.{Standing, Apart, InUse, Ending, standing_after, IsOrderly}

-- a step of the proxy, and what the log has of it; or something happens at a server. Where that applies a call, it came over this one of the connections to it that aren't closed, the latest of which is 0
pub data Move : Type 0 where
  OfProxy : Step → List (Entry dialect) → Move
  OfServer : (place : ℕ) → Moment → Move

-- The past is a list of moves, the latest first.

-- the proxy's steps
abbrev pub walk_of : List Move → List Step
walk_of [] = []
walk_of (OfProxy step entries ∷ past) = step ∷ walk_of past
walk_of (OfServer place moment ∷ past) = walk_of past

-- its log
abbrev pub log_of : List Move → List (Entry dialect)
log_of [] = []
log_of (OfProxy step entries ∷ past) = entries ++ log_of past
log_of (OfServer place moment ∷ past) = log_of past

-- commands begin and are over as these events say; the results of calls, and what is lost, are told by what happens at servers
abbrev pub with_commands : List Event → List Moment → List Moment
with_commands [] moments = moments
with_commands (Begins number ask ∷ events) moments = at_servers.Does (Begins number ask) ∷ with_commands events moments
with_commands (Replies number key reply from ∷ events) moments = at_servers.Does (Replies number key reply from) ∷ with_commands events moments
with_commands (Breaks number ∷ events) moments = at_servers.Does (Breaks number) ∷ with_commands events moments
with_commands (Calls number server ask origin end ∷ events) moments = with_commands events moments
with_commands (Turns server key turned ∷ events) moments = with_commands events moments
with_commands (Restarts server ∷ events) moments = with_commands events moments

-- what happened: commands begin and are over in the proxy's steps, as its log has it, and servers apply calls, and lose items, when they do
abbrev pub moments_in : List Move → List Moment
moments_in [] = []
moments_in (OfProxy step entries ∷ past) = with_commands (run_of entries) (moments_in past)
moments_in (OfServer place moment ∷ past) = moment ∷ moments_in past

-- the origin of the call of this number that is out
abbrev pub ticket_origin : Option Ticket → Origin
ticket_origin None = Client
ticket_origin (Some ticket) = ticket.origin

abbrev pub out_origin : List (Entry dialect) → (server number : ℕ) → Origin
out_origin log server number = ticket_origin (ticket_in (out_of log server) number)

-- a call is sent over the latest of these connections, if there is one
abbrev pub sent_over : Ticket → List (List Ticket) → List (List Ticket)
sent_over ticket [] = []
sent_over ticket (calls ∷ others) = (calls ++ ticket ∷ []) ∷ others

-- the latest was given up: it is closed, or its end is awaited still
abbrev pub left_with : Standing → List (List Ticket) → List (List Ticket)
left_with Apart [] = []
left_with Apart (calls ∷ others) = others
left_with InUse conns = conns
left_with Ending conns = conns

-- what stands in the connection of this place
abbrev pub queued_at : List (List Ticket) → ℕ → List Ticket
queued_at [] place = []
queued_at (calls ∷ others) zero = calls
queued_at (calls ∷ others) (suc place) = queued_at others place

-- that of this place alone changes
abbrev pub changed_in : (List Ticket → List Ticket) → List (List Ticket) → ℕ → List (List Ticket)
changed_in change [] place = []
changed_in change (calls ∷ others) zero = change calls ∷ others
changed_in change (calls ∷ others) (suc place) = calls ∷ changed_in change others place

-- what a step of the proxy makes of the connections to a server, where its log so far is this: one is begun, whether or not another is there; a call is sent; or one is given up
abbrev pub conns_by : Step → List (Entry dialect) → ℕ → List (List Ticket) → List (List Ticket)
conns_by (Linked at greeting) log s conns = if nat_eq at s then [] ∷ conns else conns
conns_by (Asked at number spoken ask since) log s conns = if nat_eq at s then sent_over (record { number = number; ask = ask; origin = out_origin log at number }) conns else conns
conns_by (Lost at why limit) log s conns = if nat_eq at s then left_with (standing_after why) conns else conns
conns_by (Opened client) log s conns = conns
conns_by (NotOpened fault) log s conns = conns
conns_by (Fed client piece) log s conns = conns
conns_by (Polled client poll) log s conns = conns
conns_by (Stopped client fault) log s conns = conns
conns_by (Settled number outcome) log s conns = conns
conns_by (Gave client bytes) log s conns = conns
conns_by (Closed client) log s conns = conns
conns_by (LeftLine client) log s conns = conns
conns_by (Ticked now) log s conns = conns
conns_by (Broke client) log s conns = conns
conns_by (Loaded configuration generation) log s conns = conns
conns_by (Greeted at spoken bytes) log s conns = conns
conns_by (Noted at obstacle) log s conns = conns
conns_by (Late at number limit now) log s conns = conns
conns_by (CameLate at number ask answer bytes) log s conns = conns
conns_by (Spelled at number ask answer bytes) log s conns = conns

-- what a server makes of the connections to it: a call that it applies is taken from the one over which it came
abbrev pub conns_after : ℕ → Moment → ℕ → List (List Ticket) → List (List Ticket)
conns_after place (at_servers.Does (Calls number server ask origin end)) s conns = if nat_eq server s then changed_in (tickets_after end) conns place else conns
conns_after place (Lands number server ask origin stamp answer spaces) s conns = if nat_eq server s then changed_in behind_first conns place else conns
conns_after place (at_servers.Does (Begins number ask)) s conns = conns
conns_after place (at_servers.Does (Replies number key reply from)) s conns = conns
conns_after place (at_servers.Does (Breaks number)) s conns = conns
conns_after place (at_servers.Does (Turns server key turned)) s conns = conns
conns_after place (at_servers.Does (Restarts server)) s conns = conns

-- the connections to a server that aren't closed, the latest first, and in each of them what was sent over it and isn't applied yet, in order. That there is one at most isn't said here
abbrev pub conns_in : List Move → ℕ → List (List Ticket)
conns_in [] s = []
conns_in (OfProxy step entries ∷ past) s = conns_by step (log_of past) s (conns_in past s)
conns_in (OfServer place moment ∷ past) s = conns_after place moment s (conns_in past s)

-- a server applies what came over a connection in its order, and nothing of it after that was closed, once its end was seen or as it was dropped; and commands begin and are over at the proxy alone
abbrev pub MayApply : List Move → ℕ → Moment → Type 0
MayApply past place (at_servers.Does (Calls number server ask origin end)) = IsInTurn (queued_at (conns_in past server) place) number ask origin end
MayApply past place (Lands number server ask origin stamp answer spaces) = IsFirstIn (queued_at (conns_in past server) place) number ask origin
MayApply past place (at_servers.Does (Turns server key turned)) = Unit {0}
MayApply past place (at_servers.Does (Restarts server)) = Unit {0}
MayApply past place (at_servers.Does (Begins number ask)) = ⊥
MayApply past place (at_servers.Does (Replies number key reply from)) = ⊥
MayApply past place (at_servers.Does (Breaks number)) = ⊥

-- each moment at a server may be applied over its connection, after those before it
abbrev pub AreApplied : List Move → Type 0
AreApplied [] = Unit {0}
AreApplied (OfProxy step entries ∷ past) = AreApplied past
AreApplied (OfServer place moment ∷ past) = MayApply past place moment × AreApplied past

-- from one state to the other the core goes by these steps, and in each of them the log goes on by its entries, and may have led to the core then
abbrev pub LeadAlong : (ℕ → List ℕ → Option Item) → List Move → ServedCore → ServedCore → Type 0
LeadAlong believes [] old new = (new ≡ old) × MayHaveLed believes [] new
LeadAlong believes (OfProxy step entries ∷ past) old new = (mid : ServedCore) × LeadAlong believes past old mid × Does step mid new × MayHaveLed believes (entries ++ log_of past) new
LeadAlong believes (OfServer place moment ∷ past) old new = LeadAlong believes past old new

-- by the log this call of the command is out, and it has ended with an answer that fits what it asks, or with none
pub record CallIsAwaited (log : List (Entry dialect)) (number : ℕ) (call : Call) : Type 0 where
  pub out : ticket_in (out_of log call.server) number ≡ Some (record { number = number; ask = call.ask; origin = call.origin })
  pub fits : FitsOutcome call.ask call.outcome

-- of each command, what happened and the log tell the same calls with the same results; but for one that is out, which has ended, and whose result the log doesn't have yet
abbrev pub TellAlike : List Move → Type 0
TellAlike past =
    (n : ℕ) → (calls_so_far (seen (moments_in past)) n ≡ calls_so_far (run_of (log_of past)) n)
    ⊎ ((call : Call) × (calls_so_far (seen (moments_in past)) n ≡ calls_so_far (run_of (log_of past)) n ++ call ∷ []) × CallIsAwaited (log_of past) n call)

-- at each time what happened and the log tell alike
abbrev pub TellAlways : List Move → Type 0
TellAlways [] = Unit {0}
TellAlways (move ∷ past) = TellAlike (move ∷ past) × TellAlways past

-- steps of one connection to each server, and then what of these events is the proxy's alone
abbrev pub with_moves : List Event → List pipes.PipeStep → List pipes.PipeStep
with_moves [] steps = steps
with_moves (Begins number ask ∷ events) steps = Moves (at_servers.Does (Begins number ask)) ∷ with_moves events steps
with_moves (Replies number key reply from ∷ events) steps = Moves (at_servers.Does (Replies number key reply from)) ∷ with_moves events steps
with_moves (Breaks number ∷ events) steps = Moves (at_servers.Does (Breaks number)) ∷ with_moves events steps
with_moves (Calls number server ask origin end ∷ events) steps = with_moves events steps
with_moves (Turns server key turned ∷ events) steps = with_moves events steps
with_moves (Restarts server ∷ events) steps = with_moves events steps

abbrev pub closed_if : Standing → ℕ → List pipes.PipeStep → List pipes.PipeStep
closed_if Apart at steps = Closes 0 at ∷ steps
closed_if InUse at steps = steps
closed_if Ending at steps = steps

-- steps of one connection to each server, and then a step of the proxy as one of these: what it asks is sent, and what stands in a connection is gone once that is closed, or another takes its place
abbrev pub with_step : Step → List (Entry dialect) → List pipes.PipeStep → List pipes.PipeStep
with_step (Linked at greeting) log steps = Closes 0 at ∷ steps
with_step (Asked at number spoken ask since) log steps = Sends number at ask (out_origin log at number) ∷ steps
with_step (Lost at why limit) log steps = closed_if (standing_after why) at steps
with_step (Opened client) log steps = steps
with_step (NotOpened fault) log steps = steps
with_step (Fed client piece) log steps = steps
with_step (Polled client poll) log steps = steps
with_step (Stopped client fault) log steps = steps
with_step (Settled number outcome) log steps = steps
with_step (Gave client bytes) log steps = steps
with_step (Closed client) log steps = steps
with_step (LeftLine client) log steps = steps
with_step (Ticked now) log steps = steps
with_step (Broke client) log steps = steps
with_step (Loaded configuration generation) log steps = steps
with_step (Greeted at spoken bytes) log steps = steps
with_step (Noted at obstacle) log steps = steps
with_step (Late at number limit now) log steps = steps
with_step (CameLate at number ask answer bytes) log steps = steps
with_step (Spelled at number ask answer bytes) log steps = steps

-- all that happened, as one connection to each server has it
abbrev pub as_pipes : List Move → List pipes.PipeStep
as_pipes [] = []
as_pipes (OfProxy step entries ∷ past) = with_moves (run_of entries) (with_step step (log_of past) (as_pipes past))
as_pipes (OfServer place moment ∷ past) = Moves moment ∷ as_pipes past

-- a law of all walks in which all happens in order, also that none begins a connection while another is there: it is as if there were one connection to each server, over which what is sent is applied in its order
abbrev pub ConnectionsAreInOrder : Type 0
ConnectionsAreInOrder =
    (first last : ServedCore) (believes : ℕ → List ℕ → Option Item) (moves : List Move)
    → TellsCallsOut [] first → LeadAlong believes moves first last → IsOrderly (walk_of moves) → AreApplied moves
    → (moments_of (as_pipes moves) ≡ moments_in moves) × PipesInOrder only_line (as_pipes moves)

-- what happens at servers while the core goes from one state to the other: they do as memcached does, each applies what came over a connection in its order, and nobody else writes them; and what they answer is what the log has, once it has it
pub record HappensAlong (opening : ℕ → List ℕ → Option Item) (moves : List Move) (first last : ServedCore) : Type 0 where
  -- what the log says that servers held at first
  pub believes : ℕ → List ℕ → Option Item
  pub leads : LeadAlong believes moves first last
  pub alike : TellAlways moves
  pub serves : ServesPipes opening (moments_in moves)
  pub applied : AreApplied moves

-- whatever happens at servers that held this at first, in these steps, and however late: a command that begins after a delete of its key was acknowledged shows no item of a store that was over when the delete began
abbrev pub AreFreshAlong : (ℕ → List ℕ → Option Item) → List Step → ServedCore → ServedCore → Type 0
AreFreshAlong opening steps first last = (moves : List Move) → walk_of moves ≡ steps → HappensAlong opening moves first last → IsFreshBy opening WasOver (moments_in moves)

-- a law of all walks: where all happens in order, and the core to which they lead is fresh over connections in order to servers that held this at first, it is fresh over its own
abbrev pub WalksAreFreshLate : Type 0
WalksAreFreshLate =
    (steps : List Step) (first last : ServedCore) → TellsCallsOut [] first → IsOrderly steps
    → (opening : ℕ → List ℕ → Option Item) → LateRunsAreFreshFrom opening last → AreFreshAlong opening steps first last
