-- Connections of any number of proxies to the same servers. In each, calls stand in the order in which they were sent until the server applies them or its end closes; a proxy may give a call up and keep the connection. Source: mcgate's own.
use Rattle.std.specs.Prelude.{◌≡◌, ℕ, Bool, true, false, List, [], ◌∷◌, ◌++◌, Option, Some, if◌then◌else◌, nat_eq, slice_get}
use Rattle.mc_types.specs.declared.ask.Ask.{Ask}
use Rattle.mc_types.specs.declared.answer.Answer.{Answer}
use Rattle.mc_types.specs.declared.call.Origin.{Origin}
use Rattle.mc_types.specs.declared.call.Outcome.TheVariants.{Failed}
use Rattle.mc_types.specs.Items.{Item}
use Rattle.fresh_runs.specs.Calls.{Call, End, Read, Unread, Never}
use Rattle.fresh_runs.specs.Run.{Event, Begins, Calls, Replies, Breaks, Turns, Restarts, under_way, calls_so_far, HasEnded}
use Rattle.fresh_runs.specs.Overlap.{Ticket}
use Rattle.core_accepted.specs.Late.{Moment, Does, Lands, seen, MayComeLate, LandsEver, begins_stamp}

-- the next call of a command goes into its connection to the server; something happens; or what stands in a connection is gone, since the server's end of it has closed. A proxy that takes a new connection in place of one whose other end has closed may be seen as one that goes on with it
pub data PipeStep : Type 0 where
  Sends : (number server : ℕ) (ask : Ask) (origin : Origin) → PipeStep
  Moves : Moment → PipeStep
  Closes : (line server : ℕ) → PipeStep

-- what happens
abbrev pub moments_of : List PipeStep → List Moment
moments_of [] = []
moments_of (Sends number server ask origin ∷ past) = moments_of past
moments_of (Moves moment ∷ past) = moment ∷ moments_of past
moments_of (Closes line server ∷ past) = moments_of past

-- both are the same connection to the same server
abbrev pub is_pipe : ℕ → ℕ → ℕ → ℕ → Bool
is_pipe q t p s = if nat_eq q p then nat_eq t s else false

-- what stands behind the first
abbrev pub behind_first : List Ticket → List Ticket
behind_first [] = []
behind_first (ticket ∷ tickets) = tickets

-- what a call leaves there: one that was applied is gone, one that was given up stays
abbrev pub tickets_after : End → List Ticket → List Ticket
tickets_after (Read stamp answer spaces) tickets = behind_first tickets
tickets_after (Unread stamp answer spaces) tickets = behind_first tickets
tickets_after Never tickets = tickets

-- the connection's first call is this one
abbrev pub IsFirstIn : List Ticket → ℕ → Ask → Origin → Type 0
IsFirstIn tickets number ask origin = (rest : List Ticket) × (tickets ≡ record { number = number; ask = ask; origin = origin } ∷ rest)

-- a call that is applied is the first
abbrev pub IsInTurn : List Ticket → ℕ → Ask → Origin → End → Type 0
IsInTurn tickets number ask origin (Read stamp answer spaces) = IsFirstIn tickets number ask origin
IsInTurn tickets number ask origin (Unread stamp answer spaces) = IsFirstIn tickets number ask origin
IsInTurn tickets number ask origin Never = Unit {0}

-- `line n s`: the connection to server s over which command n sends its calls: the number of its proxy, or of one of the connections that proxies have had
module _ (line : ℕ → ℕ → ℕ) where
  -- the calls that stand in a connection to a server, in order, after something happens
  abbrev pub pipe_after : Moment → ℕ → ℕ → List Ticket → List Ticket
  pipe_after (Does (Begins number ask)) p s tickets = tickets
  pipe_after (Does (Calls number server ask origin end)) p s tickets = if is_pipe (line number server) server p s then tickets_after end tickets else tickets
  pipe_after (Does (Replies number key reply from)) p s tickets = tickets
  pipe_after (Does (Breaks number)) p s tickets = tickets
  pipe_after (Does (Turns server key turned)) p s tickets = tickets
  pipe_after (Does (Restarts server)) p s tickets = tickets
  pipe_after (Lands number server ask origin stamp answer spaces) p s tickets = if is_pipe (line number server) server p s then behind_first tickets else tickets

  -- the calls that stand in a connection to a server, in order, after all steps
  abbrev pub pipe_of : List PipeStep → ℕ → ℕ → List Ticket
  pipe_of [] p s = []
  pipe_of (Sends number server ask origin ∷ past) p s =
      if is_pipe (line number server) server p s then pipe_of past p s ++ record { number = number; ask = ask; origin = origin } ∷ [] else pipe_of past p s
  pipe_of (Moves moment ∷ past) p s = pipe_after moment p s (pipe_of past p s)
  pipe_of (Closes q server ∷ past) p s = if is_pipe q server p s then [] else pipe_of past p s

  -- what is applied is the first of its connection
  abbrev pub Obeys : List PipeStep → Moment → Type 0
  Obeys past (Does (Calls number server ask origin end)) = IsInTurn (pipe_of past (line number server) server) number ask origin end
  Obeys past (Lands number server ask origin stamp answer spaces) = IsFirstIn (pipe_of past (line number server) server) number ask origin
  Obeys past (Does (Begins number ask)) = Unit {0}
  Obeys past (Does (Replies number key reply from)) = Unit {0}
  Obeys past (Does (Breaks number)) = Unit {0}
  Obeys past (Does (Turns server key turned)) = Unit {0}
  Obeys past (Does (Restarts server)) = Unit {0}

  module _ (words : ℕ → Ask → List Call → Answer → Option ℕ → Type 0) (Bars : ℕ → Ask → ℕ → Ask → Type 0) (opening : ℕ → List ℕ → Option Item) where
    -- the step may come after the past
    abbrev pub PipeMayStep : List PipeStep → PipeStep → Type 0
    -- a call is sent for a command under way, on its key
    PipeMayStep past (Sends number server ask origin) = (client : Ask) × (under_way (seen (moments_of past)) number ≡ Some client) × (ask.key ≡ client.key)
    -- a call that had failed may land at any time, but in its turn
    PipeMayStep past (Moves moment) = MayComeLate words Bars opening LandsEver (moments_of past) moment × Obeys past moment
    PipeMayStep past (Closes q server) = Unit {0}

    -- one step after another
    abbrev pub PipeSteps : List PipeStep → Type 0
    PipeSteps [] = Unit {0}
    PipeSteps (step ∷ past) = PipeMayStep past step × PipeSteps past

  -- its command was over; and each store of it that had failed was sent over the connection over which the delete sends its calls to that server
  abbrev pub WasOverOn : List Event → ℕ → ℕ → Type 0
  WasOverOn past n s =
      HasEnded past s × ((j : ℕ) (call : Call) → slice_get (calls_so_far past s) j ≡ Some call → begins_stamp call.ask.op ≡ true → call.outcome ≡ Failed → line n call.server ≡ line s call.server)
