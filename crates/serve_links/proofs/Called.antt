-- Those calls of a core are out that a walk tells to be.
use Rattle.std.proofs.Common.{◌≡◌, ℕ, Bool, true, false, if◌then◌else◌, List, [], ◌∷◌, ◌++◌, Option, Some, None, option_map, inl, inr, refl, sym, ap, ◌∙◌, subst, nat_eq}
use Rattle.std.proofs.lemmas.Bool.{cases_Bool, eqb-true}
use Rattle.mc_types.specs.declared.ask.Ask.{Ask}
use Rattle.mc_types.specs.declared.call.Outcome.{Outcome}
use Rattle.core_commands.specs.declared.ticket.Ticket.{Ticket}
use Rattle.core_proxy.specs.declared.fault.CoreFault.{CoreFault}
use Rattle.core_proxy.specs.declared.fault.CoreFault.TheVariants as faults
use Rattle.core_proxy.specs.declared.note.Poll.{Poll}
use Rattle.core_proxy.specs.declared.note.Poll.TheVariants as polls
use Rattle.core_proxy.specs.declared.proxy.Core.{Core}
use Rattle.core_proxy.specs.Settles.{asked, SettleFault}
use Rattle.core_proxy.specs.CallsStay.{CanStand, called, KeepsCalls, GivesCall, EndsCall, PollsCalls, CallsStay}
use Rattle.core_proxy.proofs.CallsStay.{calls_stay}
use Rattle.core_accepted.specs.declared.served.ServedCore.{ServedCore}
use Rattle.core_accepted.specs.Results.{SettleStops, IsSettled}
use Rattle.serve_links.specs.CoreSteps.{Step, Opened, NotOpened, Fed, Polled, Stopped, Settled, Gave, Closed, LeftLine, Broke, Ticked, Loaded, Linked, Asked, Greeted, Spelled, Late, CameLate, Lost, Noted, Does, Walks}
use Rattle.serve_links.specs.Called.{call_in, TellsCallsOut, GivesOnce, GiveOnce, WalksTellCalls}

law : CallsStay
law = calls_stay

-- what a step does, and what it tells
abbrev Goes : Step → List Step → ServedCore → Type 0
Goes step past new = TellsCallsOut (step ∷ past) new × GivesOnce step past

-- where nothing of calls changes
kept : (past : List Step) (old new : ServedCore) → TellsCallsOut past old → KeepsCalls old.core new.core → TellsCallsOut past new
kept past old new was keeps = record { stands = keeps.stands; calls = λ n call is. keeps.calls n ∙ was.calls n call is }

stayed : (past : List Step) (old new : ServedCore) → TellsCallsOut past old → new ≡ old → TellsCallsOut past new
stayed past old new was same = subst (TellsCallsOut past) (sym same) was

nobody : {A : Type 0} {x : A} → None ≡ Some x → ⊥
nobody e = cc

-- none of its number was out
was_none : (o : Option (ℕ × Ask)) (past : List Step) (old : ServedCore) (n : ℕ) → TellsCallsOut past old → called old.core n ≡ None → call_in past n ≡ o → call_in past n ≡ None
was_none None past old n was none e = e
was_none (Some call) past old n was none e = absurd (nobody (sym none ∙ was.calls n call e))

polled : (client : ℕ) (poll : Poll) (past : List Step) (old new : ServedCore) → TellsCallsOut past old → PollsCalls old.core poll new.core → Goes (Polled client poll) past new
polled client (polls.Call ticket) past old new was gives = (
  record { stands = gives.stands; calls = λ n call is. gives.calls n ∙ by (nat_eq ticket.number n) n call is },
  was_none (call_in past ticket.number) past old ticket.number was gives.none refl,
)
  where
    by : (b : Bool) (n : ℕ) (call : ℕ × Ask) → (if b then Some (ticket.server, ticket.ask) else call_in past n) ≡ Some call → (if b then Some (ticket.server, ticket.ask) else called old.core n) ≡ Some call
    by true n call is = is
    by false n call is = was.calls n call is
polled client polls.Idle past old new was keeps = let k = kept past old new was keeps in (record { stands = k.stands; calls = k.calls }, tt)
polled client polls.Own past old new was keeps = let k = kept past old new was keeps in (record { stands = k.stands; calls = k.calls }, tt)
polled client polls.Refused past old new was keeps = let k = kept past old new was keeps in (record { stands = k.stands; calls = k.calls }, tt)
polled client polls.Waiting past old new was keeps = let k = kept past old new was keeps in (record { stands = k.stands; calls = k.calls }, tt)
polled client polls.Queued past old new was keeps = let k = kept past old new was keeps in (record { stands = k.stands; calls = k.calls }, tt)
polled client polls.Busy past old new was keeps = let k = kept past old new was keeps in (record { stands = k.stands; calls = k.calls }, tt)
polled client (polls.Did note) past old new was keeps = let k = kept past old new was keeps in (record { stands = k.stands; calls = k.calls }, tt)

-- also but for the step that gave out a call
pub given_besides : (client : ℕ) (ticket : Ticket) (past : List Step) (old new : ServedCore) → TellsCallsOut past old → Does (Polled client (polls.Call ticket)) old new → TellsCallsOut past new
given_besides client ticket past old new was does = record { stands = gives.stands; calls = λ n call is. gives.calls n ∙ by n call is }
  where
    gives : GivesCall old.core ticket new.core
    gives = law.polls old.core new.core client (polls.Call ticket) was.stands does.0

    by : (n : ℕ) (call : ℕ × Ask) → call_in past n ≡ Some call → (if nat_eq ticket.number n then Some (ticket.server, ticket.ask) else called old.core n) ≡ Some call
    by n call is = elim (cases_Bool (nat_eq ticket.number n)) [ inl e ↦ absurd (nobody (sym gives.none ∙ ap (called old.core) (eqb-true ticket.number n e) ∙ was.calls n call is)) | inr e ↦ ap (λ b. if b then Some (ticket.server, ticket.ask) else called old.core n) e ∙ was.calls n call is ]

ended : (number : ℕ) (outcome : Outcome) (past : List Step) (old new : ServedCore) → TellsCallsOut past old → EndsCall old.core number new.core → TellsCallsOut (Settled number outcome ∷ past) new
ended number outcome past old new was ends = record { stands = ends.stands; calls = λ n call is. ends.calls n ∙ by (nat_eq number n) n call is }
  where
    by : (b : Bool) (n : ℕ) (call : ℕ × Ask) → (if b then None else call_in past n) ≡ Some call → (if b then None else called old.core n) ≡ Some call
    by true n call is = is
    by false n call is = was.calls n call is

faulted : (old new : ServedCore) (number : ℕ) (outcome : Outcome) (fault : CoreFault) → SettleStops old number outcome fault new → SettleFault old.core number outcome fault new.core
faulted old new number outcome faults.NoMemory stops = stops.breaks
faulted old new number outcome faults.NoTicket stops = (stops.0, ap (λ (c : ServedCore). c.core) stops.1)
faulted old new number outcome faults.TooManyClients stops = absurd stops
faulted old new number outcome faults.NoClient stops = absurd stops
faulted old new number outcome faults.InputFull stops = absurd stops
faulted old new number outcome faults.UnderWay stops = absurd stops
faulted old new number outcome faults.Spent stops = absurd stops

settled : (number : ℕ) (outcome : Outcome) (past : List Step) (old new : ServedCore) → TellsCallsOut past old → IsSettled old number outcome new → TellsCallsOut (Settled number outcome ∷ past) new
settled number outcome past old new was (inl takes) = ended number outcome past old new was (law.settles old.core new.core number outcome was.stands takes.settles)
settled number outcome past old new was (inr stops) = ended number outcome past old new was (law.faults old.core new.core number outcome stops.0 was.stands (faulted old new number outcome stops.0 stops.1))

-- the core's call of this number asks what these steps tell
pub asks_told : (past : List Step) (core : ServedCore) (number at : ℕ) (said ask : Ask) → TellsCallsOut past core → call_in past number ≡ Some (at, said) → asked core.core number ≡ Some ask → ask ≡ said
asks_told past core number at said ask tells is asks = inside (sym asks ∙ law.asks core.core number ∙ ap (option_map (λ (c : ℕ × Ask). c.1)) (tells.calls number (at, said) is))
  where
    inside : {x y : Ask} → Some x ≡ Some y → x ≡ y
    inside e = cc

keep : (step : Step) (past : List Step) (new : ServedCore) → ((n : ℕ) → call_in (step ∷ past) n ≡ call_in past n) → TellsCallsOut past new → TellsCallsOut (step ∷ past) new
keep step past new same k = record { stands = k.stands; calls = λ n call is. k.calls n call (sym (same n) ∙ is) }

same_calls : (past : List Step) (old new : ServedCore) → new.core ≡ old.core → TellsCallsOut past old → TellsCallsOut past new
same_calls past old new same was = record {
  stands = subst (λ (c : Core). CanStand c) (sym same) was.stands;
  calls = λ n call is. ap (λ (c : Core). called c n) same ∙ was.calls n call is;
}

step_goes : (step : Step) (past : List Step) (old new : ServedCore) → TellsCallsOut past old → Does step old new → Goes step past new
step_goes (Opened client) past old new was does = (keep (Opened client) past new (λ n. refl) (kept past old new was (law.opens old.core new.core client was.stands does.1)), tt)
step_goes (NotOpened fault) past old new was does = (keep (NotOpened fault) past new (λ n. refl) (kept past old new was (law.unopened old.core new.core fault was.stands does.0)), tt)
step_goes (Fed client piece) past old new was does = (keep (Fed client piece) past new (λ n. refl) (kept past old new was (law.feeds old.core new.core client piece was.stands does.1)), tt)
step_goes (Polled client poll) past old new was does = polled client poll past old new was (law.polls old.core new.core client poll was.stands does.0)
step_goes (Stopped client fault) past old new was does = (keep (Stopped client fault) past new (λ n. refl) (kept past old new was (law.stops old.core new.core client fault was.stands does.0)), tt)
step_goes (Settled number outcome) past old new was does = (settled number outcome past old new was does, tt)
step_goes (Gave client bytes) past old new was does = (keep (Gave client bytes) past new (λ n. refl) (kept past old new was (law.gives old.core new.core client bytes was.stands does.0)), tt)
step_goes (Closed client) past old new was does = (keep (Closed client) past new (λ n. refl) (kept past old new was (law.closes old.core new.core client was.stands does.1)), tt)
step_goes (LeftLine client) past old new was does = (keep (LeftLine client) past new (λ n. refl) (kept past old new was (law.leaves old.core new.core client was.stands does.0)), tt)
step_goes (Ticked now) past old new was does = (keep (Ticked now) past new (λ n. refl) (stayed past old new was does), tt)
step_goes (Broke client) past old new was does = (keep (Broke client) past new (λ n. refl) (stayed past old new was does), tt)
step_goes (Loaded configuration generation) past old new was does =
    (keep (Loaded configuration generation) past new (λ n. refl) (kept past old new was (law.reloads old.core new.core configuration.tree was.stands does.reloads)), tt)
step_goes (Linked at dialect) past old new was does = (keep (Linked at dialect) past new (λ n. refl) (stayed past old new was does), tt)
step_goes (Asked at number dialect ask since) past old new was does = (keep (Asked at number dialect ask since) past new (λ n. refl) (stayed past old new was does), tt)
step_goes (Greeted at dialect bytes) past old new was does = (keep (Greeted at dialect bytes) past new (λ n. refl) (stayed past old new was does), tt)
step_goes (Noted at obstacle) past old new was does = (keep (Noted at obstacle) past new (λ n. refl) (same_calls past old new (ap (λ (c : ServedCore). c.core) does) was), tt)
step_goes (Late at number limit now) past old new was does = (keep (Late at number limit now) past new (λ n. refl) (stayed past old new was does), tt)
step_goes (CameLate at number ask answer bytes) past old new was does = (keep (CameLate at number ask answer bytes) past new (λ n. refl) (stayed past old new was does), tt)
step_goes (Spelled at number ask answer bytes) past old new was does =
    (keep (Spelled at number ask answer bytes) past new (λ n. refl) (stayed past old new was does.0), tt)
step_goes (Lost at why limit) past old new was does = (keep (Lost at why limit) past new (λ n. refl) (stayed past old new was does), tt)

walk_tells : (steps past : List Step) (old new : ServedCore) → TellsCallsOut past old → Walks steps old new → TellsCallsOut (steps ++ past) new × GiveOnce steps past
walk_tells [] past old new was same = (stayed past old new was same, tt)
walk_tells (step ∷ steps) past old new was walks =
    let before = walk_tells steps past old walks.0 was walks.1 in
    let last = step_goes step (steps ++ past) walks.0 new before.0 walks.2 in
    (last.0, (last.1, before.1))

pub walks_tell_calls : WalksTellCalls
walks_tell_calls = record {
  begins = λ tree limits core fresh. let b = law.begins tree limits core.core fresh in record { stands = b.0; calls = λ n call is. absurd (nobody is) };
  goes_on = walk_tells;
}
