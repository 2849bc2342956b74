-- Connections that are begun where none is there are one to each server, over which all is applied in order.
use Rattle.std.proofs.Common.{◌≡◌, ℕ, zero, suc, Bool, true, false, if◌then◌else◌, List, [], ◌∷◌, ◌++◌, Option, Some, None, option_map, ◌⊎◌, inl, inr, ⊎_elim, refl, sym, ap, ◌∙◌, subst, nat_eq, append-nil}
use Rattle.std.proofs.lemmas.Bool.{eqb-true}
use Rattle.mc_types.specs.declared.ask.Ask.{Ask}
use Rattle.mc_types.specs.declared.call.Origin.{Origin}
use Rattle.mc_types.specs.Items.{Item}
use Rattle.fresh_runs.specs.Calls.{End, Read, Unread, Never}
use Rattle.fresh_runs.specs.Run.{Event, Begins, Calls, Replies, Breaks, Turns, Restarts, under_way}
use Rattle.fresh_runs.specs.Overlap as log
use Rattle.fresh_runs.specs.Overlap.{Ticket, Entry, Happens, run_of}
use Rattle.fresh_runs.proofs.OverlapSteps.{owner_way}
use Rattle.route_tree.specs.Word.{tree_words}
use Rattle.route_job.specs.Jobs.{IsCall}
use Rattle.route_job.specs.declared.frame.Pending.{Pending as NextStep}
use Rattle.route_job.specs.declared.frame.Pending.TheVariants.{Enter, Call as Calling, Back}
use Rattle.route_job.specs.Rest.{ask_under}
use Rattle.route_job.specs.Jobs.{server_of_pending}
use Rattle.core_commands.specs.declared.command.Command.{Command}
use Rattle.core_commands.specs.Begun.{owner_by}
use Rattle.core_commands.specs.Out.{is_call, has_call_out}
use Rattle.core_proxy.specs.CoreState.{dialect, command_at, bars_of, version_by}
use Rattle.core_proxy.specs.CallsStay.{called_by, called}
use Rattle.core_proxy.proofs.Commands.{call_key}
use Rattle.core_accepted.specs.declared.served.ServedCore.{ServedCore}
use Rattle.core_accepted.specs.Logs.{MayHaveLed}
use Rattle.core_accepted.specs.Late as at_servers
use Rattle.core_accepted.specs.Late.{Moment, Lands, seen}
use Rattle.core_accepted.specs.Pipes as pipes
use Rattle.core_accepted.specs.Pipes.{Sends, moments_of, behind_first, tickets_after, IsFirstIn, IsInTurn, pipe_of, Obeys}
use Rattle.core_accepted.specs.Parts.{PipesInOrder}
use Rattle.core_accepted.specs.LateCores.{only_line}
use Rattle.serve_links.specs.declared.settings.Greeting.{Greeting}
use Rattle.serve_links.specs.CoreSteps.{Step, Opened, NotOpened, Fed, Polled, Stopped, Settled, Gave, Closed, LeftLine, Broke, Ticked, Loaded, Linked, Asked, Greeted, Spelled, Late, CameLate, Lost, Noted, Walks}
use Rattle.serve_links.specs.Called.{TellsCallsOut}
use Rattle.serve_links.specs.Talks.{Standing, Apart, InUse, Ending, standing_after, Talk, first_talk, with_ask, greeted, with_first_answer, turned_late, with_late, given_up, talk_in, MayComeNext, IsOrderly}
use Rattle.serve_links.specs.InOrder.{Move, OfProxy, OfServer, walk_of, log_of, with_commands, moments_in, out_origin, sent_over, left_with, queued_at, changed_in, conns_by, conns_after, conns_in, MayApply, AreApplied, LeadAlong, with_moves, closed_if, with_step, as_pipes, ConnectionsAreInOrder}
use Rattle.serve_links.proofs.Called.{walks_tell_calls}
use Rattle.serve_links.proofs.Due.{due_out}

-- of these connections there is one at most, in which just these calls stand; and none where none is in use, nor its end awaited
abbrev Keeps : Standing → List (List Ticket) → List Ticket → Type 0
Keeps stands conns pipe = (stands ≡ Apart → conns ≡ []) × ((conns ≡ []) ⊎ (conns ≡ pipe ∷ []))

used : InUse ≡ Apart → ⊥
used e = cc

awaited : Ending ≡ Apart → ⊥
awaited e = cc

linked :
    (b : Bool) (talk : Talk) (conns : List (List Ticket)) (pipe : List Ticket) (greeting : Greeting) → (b ≡ true → conns ≡ []) → Keeps talk.stands conns pipe
    → Keeps (if b then first_talk greeting talk.failed else talk).stands (if b then [] ∷ conns else conns) (if b then [] else pipe)
linked true talk conns pipe greeting none was = ((λ e. absurd (used e)), inr (ap (λ l. [] ∷ l) (none refl)))
linked false talk conns pipe greeting none was = was

asked :
    (b : Bool) (talk new : Talk) (conns : List (List Ticket)) (pipe : List Ticket) (ticket : Ticket) → new.stands ≡ talk.stands → Keeps talk.stands conns pipe
    → Keeps (if b then new else talk).stands (if b then sent_over ticket conns else conns) (if b then pipe ++ ticket ∷ [] else pipe)
asked true talk new conns pipe ticket same was =
    ((λ e. ap (sent_over ticket) (was.0 (sym same ∙ e))), ⊎_elim (λ e. inl (ap (sent_over ticket) e)) (λ e. inr (ap (sent_over ticket) e)) was.1)
asked false talk new conns pipe ticket same was = was

left_apart :
    (b : Bool) (talk new : Talk) (conns : List (List Ticket)) (pipe : List Ticket) → Keeps talk.stands conns pipe
    → Keeps (if b then new else talk).stands (if b then left_with Apart conns else conns) (if b then [] else pipe)
left_apart true talk new conns pipe was =
    let none : left_with Apart conns ≡ [] = ⊎_elim (λ e. ap (left_with Apart) e) (λ e. ap (left_with Apart) e) was.1 in
    ((λ e. none), inl none)
left_apart false talk new conns pipe was = was

left_there :
    (b : Bool) (talk new : Talk) (conns : List (List Ticket)) (pipe : List Ticket) → (new.stands ≡ Apart → ⊥) → Keeps talk.stands conns pipe
    → Keeps (if b then new else talk).stands (if b then conns else conns) pipe
left_there true talk new conns pipe there was = ((λ e. absurd (there e)), was.1)
left_there false talk new conns pipe there was = was

-- it was given up
lost :
    (s : Standing) (at i : ℕ) (talk new : Talk) (conns : List (List Ticket)) (steps : List pipes.PipeStep) → new.stands ≡ s → Keeps talk.stands conns (pipe_of only_line steps 0 i)
    → Keeps (if nat_eq at i then new else talk).stands (if nat_eq at i then left_with s conns else conns) (pipe_of only_line (closed_if s at steps) 0 i)
lost Apart at i talk new conns steps is was = left_apart (nat_eq at i) talk new conns (pipe_of only_line steps 0 i) was
lost InUse at i talk new conns steps is was = left_there (nat_eq at i) talk new conns (pipe_of only_line steps 0 i) (λ e. used (sym is ∙ e)) was
lost Ending at i talk new conns steps is was = left_there (nat_eq at i) talk new conns (pipe_of only_line steps 0 i) (λ e. awaited (sym is ∙ e)) was

-- nothing changes of that
stays : (b : Bool) (talk new : Talk) (conns : List (List Ticket)) (pipe : List Ticket) → new.stands ≡ talk.stands → Keeps talk.stands conns pipe → Keeps (if b then new else talk).stands conns pipe
stays true talk new conns pipe same was = ((λ e. was.0 (sym same ∙ e)), was.1)
stays false talk new conns pipe same was = was

-- a step of the proxy
step_keeps :
    (step : Step) (past : List Step) (log : List (Entry dialect)) (i : ℕ) (conns : List (List Ticket)) (steps : List pipes.PipeStep) → MayComeNext step past
    → Keeps (talk_in past i).stands conns (pipe_of only_line steps 0 i) → Keeps (talk_in (step ∷ past) i).stands (conns_by step log i conns) (pipe_of only_line (with_step step log steps) 0 i)
step_keeps (Linked at greeting) past log i conns steps may was =
    linked (nat_eq at i) (talk_in past i) conns (pipe_of only_line steps 0 i) greeting (λ same. was.0 (subst (λ j. (talk_in past j).stands ≡ Apart) (eqb-true at i same) may)) was
step_keeps (Asked at number spoken ask since) past log i conns steps may was =
    asked (nat_eq at i) (talk_in past i) (with_ask number spoken ask since (talk_in past i)) conns (pipe_of only_line steps 0 i) (record { number = number; ask = ask; origin = out_origin log at number }) refl was
step_keeps (Lost at why limit) past log i conns steps may was = lost (standing_after why) at i (talk_in past i) (given_up why (talk_in past i)) conns steps refl was
step_keeps (Greeted at spoken bytes) past log i conns steps may was = stays (nat_eq at i) (talk_in past i) (greeted spoken bytes (talk_in past i)) conns (pipe_of only_line steps 0 i) refl was
step_keeps (Noted at obstacle) past log i conns steps may was = was
step_keeps (Late at number limit now) past log i conns steps may was = stays (nat_eq at i) (talk_in past i) (turned_late (talk_in past i)) conns (pipe_of only_line steps 0 i) refl was
step_keeps (CameLate at number ask answer bytes) past log i conns steps may was = stays (nat_eq at i) (talk_in past i) (with_late bytes (talk_in past i)) conns (pipe_of only_line steps 0 i) refl was
step_keeps (Spelled at number ask answer bytes) past log i conns steps may was = stays (nat_eq at i) (talk_in past i) (with_first_answer bytes (talk_in past i)) conns (pipe_of only_line steps 0 i) refl was
step_keeps (Opened client) past log i conns steps may was = was
step_keeps (NotOpened fault) past log i conns steps may was = was
step_keeps (Fed client piece) past log i conns steps may was = was
step_keeps (Polled client poll) past log i conns steps may was = was
step_keeps (Stopped client fault) past log i conns steps may was = was
step_keeps (Settled number outcome) past log i conns steps may was = was
step_keeps (Gave client bytes) past log i conns steps may was = was
step_keeps (Closed client) past log i conns steps may was = was
step_keeps (LeftLine client) past log i conns steps may was = was
step_keeps (Ticked now) past log i conns steps may was = was
step_keeps (Broke client) past log i conns steps may was = was
step_keeps (Loaded configuration generation) past log i conns steps may was = was

-- what commands do leaves what stands in a connection
pipe_still : (events : List Event) (steps : List pipes.PipeStep) (i : ℕ) → pipe_of only_line (with_moves events steps) 0 i ≡ pipe_of only_line steps 0 i
pipe_still [] steps i = refl
pipe_still (Begins number ask ∷ events) steps i = pipe_still events steps i
pipe_still (Replies number key reply from ∷ events) steps i = pipe_still events steps i
pipe_still (Breaks number ∷ events) steps i = pipe_still events steps i
pipe_still (Calls number server ask origin end ∷ events) steps i = pipe_still events steps i
pipe_still (Turns server key turned ∷ events) steps i = pipe_still events steps i
pipe_still (Restarts server ∷ events) steps i = pipe_still events steps i

-- where something is applied, it stands in that one connection
none_first : (place number : ℕ) (ask : Ask) (origin : Origin) → IsFirstIn (queued_at [] place) number ask origin → ⊥
none_first place number ask origin first = no first.0 first.1
  where
    no : (rest : List Ticket) → [] ≡ record { number = number; ask = ask; origin = origin } ∷ rest → ⊥
    no rest e = cc

is_first : (place : ℕ) (pipe : List Ticket) (number : ℕ) (ask : Ask) (origin : Origin) → IsFirstIn (queued_at (pipe ∷ []) place) number ask origin → (place ≡ zero) × IsFirstIn pipe number ask origin
is_first zero pipe number ask origin first = (refl, first)
is_first (suc place) pipe number ask origin first = absurd (none_first place number ask origin first)

module _ (place number : ℕ) (ask : Ask) (origin : Origin) where
  first_there : (conns : List (List Ticket)) → conns ≡ [] → IsFirstIn (queued_at conns place) number ask origin → ⊥
  first_there conns none first = none_first place number ask origin (subst (λ (l : List (List Ticket)). IsFirstIn (queued_at l place) number ask origin) none first)

  first_in : (conns : List (List Ticket)) (pipe : List Ticket) → (conns ≡ []) ⊎ (conns ≡ pipe ∷ []) → IsFirstIn (queued_at conns place) number ask origin → (place ≡ zero) × IsFirstIn pipe number ask origin
  first_in conns pipe or first =
      ⊎_elim (λ none. absurd (first_there conns none first))
      (λ one. is_first place pipe number ask origin (subst (λ (l : List (List Ticket)). IsFirstIn (queued_at l place) number ask origin) one first)) or

  -- and is gone from it then
  taken :
      (stands : Standing) (conns : List (List Ticket)) (pipe : List Ticket) → IsFirstIn (queued_at conns place) number ask origin → Keeps stands conns pipe → Keeps stands (changed_in behind_first conns place) (behind_first pipe)
  taken stands conns pipe first was = (
    (λ e. absurd (first_there conns (was.0 e) first)),
    inr (⊎_elim (λ none. absurd (first_there conns none first))
        (λ one. ap (λ (l : List (List Ticket)). changed_in behind_first l place) one ∙ ap (λ k. changed_in behind_first (pipe ∷ []) k) (first_in conns pipe was.1 first).0) was.1),
  )

-- what is never applied changes nothing
unchanged : (conns : List (List Ticket)) (place : ℕ) → changed_in (tickets_after Never) conns place ≡ conns
unchanged [] place = refl
unchanged (calls ∷ others) zero = refl
unchanged (calls ∷ others) (suc place) = ap (λ l. calls ∷ l) (unchanged others place)

-- something happens at a server
call_keeps :
    (b : Bool) (end : End) (place number : ℕ) (ask : Ask) (origin : Origin) (stands : Standing) (conns : List (List Ticket)) (pipe : List Ticket) → (b ≡ true → IsInTurn (queued_at conns place) number ask origin end)
    → Keeps stands conns pipe → Keeps stands (if b then changed_in (tickets_after end) conns place else conns) (if b then tickets_after end pipe else pipe)
call_keeps false end place number ask origin stands conns pipe turn was = was
call_keeps true (Read stamp answer spaces) place number ask origin stands conns pipe turn was = taken place number ask origin stands conns pipe (turn refl) was
call_keeps true (Unread stamp answer spaces) place number ask origin stands conns pipe turn was = taken place number ask origin stands conns pipe (turn refl) was
call_keeps true Never place number ask origin stands conns pipe turn was = subst (λ (l : List (List Ticket)). Keeps stands l pipe) (sym (unchanged conns place)) was

landed :
    (b : Bool) (place number : ℕ) (ask : Ask) (origin : Origin) (stands : Standing) (conns : List (List Ticket)) (pipe : List Ticket) → (b ≡ true → IsFirstIn (queued_at conns place) number ask origin)
    → Keeps stands conns pipe → Keeps stands (if b then changed_in behind_first conns place else conns) (if b then behind_first pipe else pipe)
landed false place number ask origin stands conns pipe first was = was
landed true place number ask origin stands conns pipe first was = taken place number ask origin stands conns pipe (first refl) was

moment_keeps :
    (place : ℕ) (moment : Moment) (past : List Move) (i : ℕ) (stands : Standing) → MayApply past place moment → Keeps stands (conns_in past i) (pipe_of only_line (as_pipes past) 0 i)
    → Keeps stands (conns_after place moment i (conns_in past i)) (pipe_of only_line (as_pipes (OfServer place moment ∷ past)) 0 i)
moment_keeps place (at_servers.Does (Calls number server ask origin end)) past i stands may was =
    call_keeps (nat_eq server i) end place number ask origin stands (conns_in past i) (pipe_of only_line (as_pipes past) 0 i)
    (λ same. subst (λ s. IsInTurn (queued_at (conns_in past s) place) number ask origin end) (eqb-true server i same) may) was
moment_keeps place (Lands number server ask origin stamp answer spaces) past i stands may was =
    landed (nat_eq server i) place number ask origin stands (conns_in past i) (pipe_of only_line (as_pipes past) 0 i)
    (λ same. subst (λ s. IsFirstIn (queued_at (conns_in past s) place) number ask origin) (eqb-true server i same) may) was
moment_keeps place (at_servers.Does (Turns server key turned)) past i stands may was = was
moment_keeps place (at_servers.Does (Restarts server)) past i stands may was = was
moment_keeps place (at_servers.Does (Begins number ask)) past i stands may was = absurd may
moment_keeps place (at_servers.Does (Replies number key reply from)) past i stands may was = absurd may
moment_keeps place (at_servers.Does (Breaks number)) past i stands may was = absurd may

-- so there is one connection to a server at a time, and all that stands in it is what stands in the one that it is taken for
keeps : (moves : List Move) → IsOrderly (walk_of moves) → AreApplied moves → (i : ℕ) → Keeps (talk_in (walk_of moves) i).stands (conns_in moves i) (pipe_of only_line (as_pipes moves) 0 i)
keeps [] orderly applied i = ((λ e. refl), inl refl)
keeps (OfProxy step entries ∷ past) orderly applied i =
    subst (λ (l : List Ticket). Keeps (talk_in (step ∷ walk_of past) i).stands (conns_by step (log_of past) i (conns_in past i)) l) (sym (pipe_still (run_of entries) (with_step step (log_of past) (as_pipes past)) i))
    (step_keeps step (walk_of past) (log_of past) i (conns_in past i) (as_pipes past) orderly.0 (keeps past orderly.1 applied i))
keeps (OfServer place moment ∷ past) orderly applied i = moment_keeps place moment past i (talk_in (walk_of past) i).stands applied.0 (keeps past orderly applied.1 i)

-- the same happens
moments_with : (events : List Event) (steps : List pipes.PipeStep) → moments_of (with_moves events steps) ≡ with_commands events (moments_of steps)
moments_with [] steps = refl
moments_with (Begins number ask ∷ events) steps = ap (λ l. at_servers.Does (Begins number ask) ∷ l) (moments_with events steps)
moments_with (Replies number key reply from ∷ events) steps = ap (λ l. at_servers.Does (Replies number key reply from) ∷ l) (moments_with events steps)
moments_with (Breaks number ∷ events) steps = ap (λ l. at_servers.Does (Breaks number) ∷ l) (moments_with events steps)
moments_with (Calls number server ask origin end ∷ events) steps = moments_with events steps
moments_with (Turns server key turned ∷ events) steps = moments_with events steps
moments_with (Restarts server ∷ events) steps = moments_with events steps

moments_ended : (s : Standing) (at : ℕ) (steps : List pipes.PipeStep) → moments_of (closed_if s at steps) ≡ moments_of steps
moments_ended Apart at steps = refl
moments_ended InUse at steps = refl
moments_ended Ending at steps = refl

moments_step : (step : Step) (log : List (Entry dialect)) (steps : List pipes.PipeStep) → moments_of (with_step step log steps) ≡ moments_of steps
moments_step (Lost at why limit) log steps = moments_ended (standing_after why) at steps
moments_step (Linked at greeting) log steps = refl
moments_step (Asked at number spoken ask since) log steps = refl
moments_step (Opened client) log steps = refl
moments_step (NotOpened fault) log steps = refl
moments_step (Fed client piece) log steps = refl
moments_step (Polled client poll) log steps = refl
moments_step (Stopped client fault) log steps = refl
moments_step (Settled number outcome) log steps = refl
moments_step (Gave client bytes) log steps = refl
moments_step (Closed client) log steps = refl
moments_step (LeftLine client) log steps = refl
moments_step (Ticked now) log steps = refl
moments_step (Broke client) log steps = refl
moments_step (Loaded configuration generation) log steps = refl
moments_step (Greeted at spoken bytes) log steps = refl
moments_step (Noted at obstacle) log steps = refl
moments_step (Late at number limit now) log steps = refl
moments_step (CameLate at number ask answer bytes) log steps = refl
moments_step (Spelled at number ask answer bytes) log steps = refl

same_moments : (moves : List Move) → moments_of (as_pipes moves) ≡ moments_in moves
same_moments [] = refl
same_moments (OfProxy step entries ∷ past) =
    moments_with (run_of entries) (with_step step (log_of past) (as_pipes past)) ∙ ap (with_commands (run_of entries)) (moments_step step (log_of past) (as_pipes past) ∙ same_moments past)
same_moments (OfServer place moment ∷ past) = ap (λ l. moment ∷ l) (same_moments past)

-- what happens and the log know the same commands under way
pub way_entries :
    (entries : List (Entry dialect)) (moments : List Moment) (past : List (Entry dialect)) (n : ℕ) → under_way (seen moments) n ≡ under_way (run_of past) n
    → under_way (seen (with_commands (run_of entries) moments)) n ≡ under_way (run_of (entries ++ past)) n
way_entries [] moments past n same = same
way_entries (log.Feeds client bytes ∷ entries) moments past n same = way_entries entries moments past n same
way_entries (log.Starts client number part ∷ entries) moments past n same = ap (λ x. if nat_eq number n then Some part.ask else x) (way_entries entries moments past n same)
way_entries (log.Sends number server ask origin ∷ entries) moments past n same = way_entries entries moments past n same
way_entries (Happens (Begins number ask) ∷ entries) moments past n same = ap (λ x. if nat_eq number n then Some ask else x) (way_entries entries moments past n same)
way_entries (Happens (Calls number server ask origin end) ∷ entries) moments past n same = way_entries entries moments past n same
way_entries (Happens (Replies number key reply from) ∷ entries) moments past n same = ap (λ x. if nat_eq number n then None else x) (way_entries entries moments past n same)
way_entries (Happens (Breaks number) ∷ entries) moments past n same = ap (λ x. if nat_eq number n then None else x) (way_entries entries moments past n same)
way_entries (Happens (Turns server key turned) ∷ entries) moments past n same = way_entries entries moments past n same
way_entries (Happens (Restarts server) ∷ entries) moments past n same = way_entries entries moments past n same
way_entries (log.Ends client number part reply from ∷ entries) moments past n same = ap (λ x. if nat_eq number n then None else x) (way_entries entries moments past n same)
way_entries (log.Shows client slot reply ∷ entries) moments past n same = way_entries entries moments past n same
way_entries (log.Passes client message next ∷ entries) moments past n same = way_entries entries moments past n same
way_entries (log.Gives client bytes ∷ entries) moments past n same = way_entries entries moments past n same
way_entries (log.Drops client ∷ entries) moments past n same = way_entries entries moments past n same
way_entries (log.Frees number ∷ entries) moments past n same = ap (λ x. if nat_eq number n then None else x) (way_entries entries moments past n same)
way_entries (log.Resets client ∷ entries) moments past n same = way_entries entries moments past n same

way_moment : (place : ℕ) (moment : Moment) (past : List Move) (n : ℕ) → MayApply past place moment → under_way (seen (moment ∷ moments_in past)) n ≡ under_way (seen (moments_in past)) n
way_moment place (at_servers.Does (Calls number server ask origin end)) past n may = refl
way_moment place (Lands number server ask origin stamp answer spaces) past n may = refl
way_moment place (at_servers.Does (Turns server key turned)) past n may = refl
way_moment place (at_servers.Does (Restarts server)) past n may = refl
way_moment place (at_servers.Does (Begins number ask)) past n may = absurd may
way_moment place (at_servers.Does (Replies number key reply from)) past n may = absurd may
way_moment place (at_servers.Does (Breaks number)) past n may = absurd may

pub same_way : (moves : List Move) → AreApplied moves → (n : ℕ) → under_way (seen (moments_in moves)) n ≡ under_way (run_of (log_of moves)) n
same_way [] applied n = refl
same_way (OfProxy step entries ∷ past) applied n = way_entries entries (moments_in past) (log_of past) n (same_way past applied n)
same_way (OfServer place moment ∷ past) applied n = way_moment place moment past n applied.0 ∙ same_way past applied.1 n

-- a call that is out is of a command under way, on its key
false_true : false ≡ true → ⊥
false_true e = cc

pub none_some : {A : Type 0} {x : A} → None ≡ Some x → ⊥
none_some e = cc

pub is_calling : (out : Bool) (next : NextStep) → (if out then is_call next else false) ≡ true → IsCall next
is_calling true (Enter tree) e = absurd (false_true e)
is_calling true (Calling server) e = tt
is_calling true (Back done) e = absurd (false_true e)
is_calling false next e = absurd (false_true e)

same_pair : (x y : ℕ × Ask) → Some x ≡ Some y → x ≡ y
same_pair x y e = cc

pair_is : (out : Bool) (pair other : ℕ × Ask) → (if out then Some pair else None) ≡ Some other → (out ≡ true) × (pair ≡ other)
pair_is true pair other e = (refl, same_pair pair other e)
pair_is false pair other e = absurd (none_some e)

pub call_way :
    (served : ServedCore) (believes : ℕ → List ℕ → Option Item) (past : List (Entry dialect)) (led : MayHaveLed believes past served) (n at : ℕ) (ask : Ask) → called served.core n ≡ Some (at, ask)
    → (client : Ask) × (under_way (run_of past) n ≡ Some client) × (ask.key ≡ client.key)
call_way served believes past led n at ask is = by (command_at served.core n) refl
  where
    by : (o : Option Command) → command_at served.core n ≡ o → (client : Ask) × (under_way (run_of past) n ≡ Some client) × (ask.key ≡ client.key)
    by None e = absurd (none_some (sym (ap called_by e) ∙ is))
    by (Some a) e =
        let c = pair_is (has_call_out a) (server_of_pending a.job.pending, ask_under a.job.frames.items a.job.ask) (at, ask) (sym (ap called_by e) ∙ is) in (
          a.ask,
          owner_way (tree_words led.beside.at) (bars_of served.core led.beside) believes (version_by served.core.limits) past led.leads.follows n (owner_by a) (sym (led.leads.owner n) ∙ ap (option_map owner_by) e),
          ap (λ (p : ℕ × Ask). p.1.key) (sym c.1)
              ∙ call_key served.core.limits.sharing (led.beside.at n a.ask.key) a (led.fits.to_come n a e) (is_calling a.is_out a.job.pending c.0),
        )

-- so all is in order
order_with : (events : List Event) (steps : List pipes.PipeStep) → PipesInOrder only_line steps → PipesInOrder only_line (with_moves events steps)
order_with [] steps order = order
order_with (Begins number ask ∷ events) steps order = (tt, order_with events steps order)
order_with (Replies number key reply from ∷ events) steps order = (tt, order_with events steps order)
order_with (Breaks number ∷ events) steps order = (tt, order_with events steps order)
order_with (Calls number server ask origin end ∷ events) steps order = order_with events steps order
order_with (Turns server key turned ∷ events) steps order = order_with events steps order
order_with (Restarts server ∷ events) steps order = order_with events steps order

order_ended : (s : Standing) (at : ℕ) (steps : List pipes.PipeStep) → PipesInOrder only_line steps → PipesInOrder only_line (closed_if s at steps)
order_ended Apart at steps order = order
order_ended InUse at steps order = order
order_ended Ending at steps order = order

turn_in :
    (end : End) (place number : ℕ) (ask : Ask) (origin : Origin) (conns : List (List Ticket)) (pipe : List Ticket) → (conns ≡ []) ⊎ (conns ≡ pipe ∷ []) → IsInTurn (queued_at conns place) number ask origin end
    → IsInTurn pipe number ask origin end
turn_in (Read stamp answer spaces) place number ask origin conns pipe or first = (first_in place number ask origin conns pipe or first).1
turn_in (Unread stamp answer spaces) place number ask origin conns pipe or first = (first_in place number ask origin conns pipe or first).1
turn_in Never place number ask origin conns pipe or first = tt

obeys :
    (place : ℕ) (moment : Moment) (past : List Move) → ((i : ℕ) → (conns_in past i ≡ []) ⊎ (conns_in past i ≡ pipe_of only_line (as_pipes past) 0 i ∷ [])) → MayApply past place moment
    → Obeys only_line (as_pipes past) moment
obeys place (at_servers.Does (Calls number server ask origin end)) past one may = turn_in end place number ask origin (conns_in past server) (pipe_of only_line (as_pipes past) 0 server) (one server) may
obeys place (Lands number server ask origin stamp answer spaces) past one may = (first_in place number ask origin (conns_in past server) (pipe_of only_line (as_pipes past) 0 server) (one server) may).1
obeys place (at_servers.Does (Turns server key turned)) past one may = tt
obeys place (at_servers.Does (Restarts server)) past one may = tt
obeys place (at_servers.Does (Begins number ask)) past one may = absurd may
obeys place (at_servers.Does (Replies number key reply from)) past one may = absurd may
obeys place (at_servers.Does (Breaks number)) past one may = absurd may

module _ (first : ServedCore) (believes : ℕ → List ℕ → Option Item) (tells : TellsCallsOut [] first) where
  walk_along : (moves : List Move) (last : ServedCore) → LeadAlong believes moves first last → Walks (walk_of moves) first last
  walk_along [] last leads = leads.0
  walk_along (OfProxy step entries ∷ past) last leads = (leads.0, walk_along past leads.0 leads.1, leads.2)
  walk_along (OfServer place moment ∷ past) last leads = walk_along past last leads

  pub led_along : (moves : List Move) (last : ServedCore) → LeadAlong believes moves first last → MayHaveLed believes (log_of moves) last
  led_along [] last leads = leads.1
  led_along (OfProxy step entries ∷ past) last leads = leads.3
  led_along (OfServer place moment ∷ past) last leads = led_along past last leads

  tells_along : (moves : List Move) (last : ServedCore) → LeadAlong believes moves first last → TellsCallsOut (walk_of moves) last
  tells_along moves last leads = subst (λ (l : List Step). TellsCallsOut l last) (append-nil (walk_of moves)) (walks_tell_calls.goes_on (walk_of moves) [] first last tells (walk_along moves last leads)).0

  order_step :
      (step : Step) (past : List Move) (mid : ServedCore) → LeadAlong believes past first mid → AreApplied past → MayComeNext step (walk_of past) → PipesInOrder only_line (as_pipes past)
      → PipesInOrder only_line (with_step step (log_of past) (as_pipes past))
  order_step (Asked at number spoken ask since) past mid leads applied may order =
      let way = call_way mid believes (log_of past) (led_along past mid leads) number at ask ((tells_along past mid leads).calls number (at, ask) (due_out (walk_of past) number (at, ask) may.1)) in
      ((way.0, ap (λ (l : List Moment). under_way (seen l) number) (same_moments past) ∙ same_way past applied number ∙ way.1, way.2), order)
  order_step (Lost at why limit) past mid leads applied may order = order_ended (standing_after why) at (as_pipes past) order
  order_step (Linked at greeting) past mid leads applied may order = order
  order_step (Opened client) past mid leads applied may order = order
  order_step (NotOpened fault) past mid leads applied may order = order
  order_step (Fed client piece) past mid leads applied may order = order
  order_step (Polled client poll) past mid leads applied may order = order
  order_step (Stopped client fault) past mid leads applied may order = order
  order_step (Settled number outcome) past mid leads applied may order = order
  order_step (Gave client bytes) past mid leads applied may order = order
  order_step (Closed client) past mid leads applied may order = order
  order_step (LeftLine client) past mid leads applied may order = order
  order_step (Ticked now) past mid leads applied may order = order
  order_step (Broke client) past mid leads applied may order = order
  order_step (Loaded configuration generation) past mid leads applied may order = order
  order_step (Greeted at spoken bytes) past mid leads applied may order = order
  order_step (Noted at obstacle) past mid leads applied may order = order
  order_step (Late at number limit now) past mid leads applied may order = order
  order_step (CameLate at number ask answer bytes) past mid leads applied may order = order
  order_step (Spelled at number ask answer bytes) past mid leads applied may order = order

  in_order : (moves : List Move) (last : ServedCore) → LeadAlong believes moves first last → IsOrderly (walk_of moves) → AreApplied moves → PipesInOrder only_line (as_pipes moves)
  in_order [] last leads orderly applied = tt
  in_order (OfProxy step entries ∷ past) last leads orderly applied =
      order_with (run_of entries) (with_step step (log_of past) (as_pipes past)) (order_step step past leads.0 leads.1 applied orderly.0 (in_order past leads.0 leads.1 orderly.1 applied))
  in_order (OfServer place moment ∷ past) last leads orderly applied =
      (obeys place moment past (λ i. (keeps past orderly applied.1 i).1) applied.0, in_order past last leads orderly applied.1)

pub connections_are_in_order : ConnectionsAreInOrder
connections_are_in_order first last believes moves tells leads orderly applied = (same_moments moves, in_order first believes tells moves last leads orderly applied)
