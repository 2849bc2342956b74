-- Walks of a core, one after another, and each call of it as a walk.
use Rattle.std.proofs.Common.{◌≡◌, ℕ, List, [], ◌∷◌, ◌++◌, Option, Some, None, Result, Ok, Err, ◌⊎◌, refl, sym, ap, ◌∙◌, subst, inl, inr}
use Rattle.std.specs.Prelude.{IfOk, IfErr, OnOk, Box, option_map}
use Rattle.mc_types.specs.declared.call.Outcome.{Outcome}
use Rattle.mc_types.specs.declared.call.Outcome.TheVariants.{Answered, Failed}
use Rattle.fresh_runs.specs.Overlap as log
use Rattle.core_proxy.specs.declared.fault.CoreFault.{CoreFault}
use Rattle.core_proxy.specs.declared.fault.CoreFault.TheVariants as faults
use Rattle.core_proxy.specs.declared.note.Poll.{Poll}
use Rattle.core_proxy.specs.Faults.{CanFeed, CanClose, FeedFault, OutputFault, CloseFault}
use Rattle.core_proxy.specs.CoreState.{Feeds, GivesAll, ClosesClient, LeavesLine, client_at, dropped_by, output_by}
use Rattle.core_proxy.specs.Polls.{Polls, PollFault}
use Rattle.route_json.specs.Configuration.{Configuration}
use Rattle.core_accepted.specs.declared.served.ServedCore.{ServedCore}
use Rattle.core_accepted.specs.Logs.{LogsGoBy, IsAccepted, IsAcceptedSince, fed}
use Rattle.core_accepted.specs.Results.{PollGoes, PollStops, SettleStops}
use Rattle.serve_links.specs.declared.calls.calls.SentCall.{SentCall}
use Rattle.serve_links.specs.declared.calls.calls.Next.{Next}
use Rattle.serve_links.specs.declared.calls.calls.Next.TheVariants as nexts
use Rattle.core_accepted.specs.Results.{IsSettled}
use Rattle.core_accepted.specs.declared.beginnings.Beginnings.{Beginnings}
use Rattle.core_accepted.specs.Begun.{any_begun}
use Rattle.core_accepted.specs.Known.{Known, more}
use Rattle.core_accepted.specs.Loading.{IsLoaded}
use Rattle.serve_links.specs.Calls.{SettlesFirst, SettlesNext}
use Rattle.serve_links.specs.CoreSteps.{WalksKeepSince}
use Rattle.serve_links.specs.CoreSteps.{Step, Opened, NotOpened, Fed, Polled, Stopped, Settled, Gave, Closed, LeftLine, Broke, Ticked, Loaded, Linked, Asked, Greeted, Spelled, Late, CameLate, Lost, Noted, Does, Walks, StepsAreOf, GoesBy, IsOfTurn, IsSettlement, IsFailure, GoesOn, OnlyFails, WalksKeep}

pub walked : (later first : List Step) (a b c : ServedCore) → Walks first a b → Walks later b c → Walks (later ++ first) a c
walked [] first a b c w v = subst (λ x. Walks first a x) (sym v) w
walked (step ∷ later) first a b c w v = (v.0, walked later first a b v.0 w v.1, v.2)

pub of_both : (Is : Step → Type 0) (later first : List Step) → StepsAreOf Is later → StepsAreOf Is first → StepsAreOf Is (later ++ first)
of_both Is [] first l f = f
of_both Is (step ∷ later) first l f = (l.0, of_both Is later first l.1 f)

-- nothing was done
pub still : {Is : Step → Type 0} {a b : ServedCore} → b ≡ a → GoesBy Is a b
still e = record { steps = []; kinds = tt; walks = e }

-- one after another
pub then : {Is : Step → Type 0} {a b c : ServedCore} → GoesBy Is a b → GoesBy Is b c → GoesBy Is a c
then {Is} {a} {b} {c} g h = record { steps = h.steps ++ g.steps; kinds = of_both Is h.steps g.steps h.kinds g.kinds; walks = walked h.steps g.steps a b c g.walks h.walks }

-- the same where both are equal only
pub on : {Is : Step → Type 0} {a b x c : ServedCore} → GoesBy Is a b → x ≡ b → GoesBy Is x c → GoesBy Is a c
on {Is} {c = c} g e h = then g (subst (λ y. GoesBy Is y c) e h)

pub from : {Is : Step → Type 0} {a x c : ServedCore} → x ≡ a → GoesBy Is x c → GoesBy Is a c
from {Is} {c = c} e h = subst (λ y. GoesBy Is y c) e h

pub to : {Is : Step → Type 0} {a b c : ServedCore} → GoesBy Is a b → c ≡ b → GoesBy Is a c
to {Is} {a} g e = subst (λ y. GoesBy Is a y) (sym e) g

-- the same of a box that was left as it was
pub stood : {Is : Step → Type 0} {Z : Type 0} {x y : Box ServedCore Z} → y ≡ x → GoesBy Is x.value y.value
stood e = still (ap (λ b. b.value) e)

pub and_stood : {Is : Step → Type 0} {Z : Type 0} {a : ServedCore} {x y : Box ServedCore Z} → GoesBy Is a x.value → y ≡ x → GoesBy Is a y.value
and_stood g e = to g (ap (λ b. b.value) e)

pub stood_and : {Is : Step → Type 0} {Z : Type 0} {c : ServedCore} {x y : Box ServedCore Z} → y ≡ x → GoesBy Is y.value c → GoesBy Is x.value c
stood_and e g = from (ap (λ b. b.value) e) g

-- one call
one : (Is : Step → Type 0) (step : Step) (a b : ServedCore) → Is step → Does step a b → GoesBy Is a b
one Is step a b is does = record { steps = step ∷ []; kinds = (is, tt); walks = (a, refl, does) }

-- what fails goes on
each_of_turn : (steps : List Step) → StepsAreOf IsFailure steps → StepsAreOf IsOfTurn steps
each_of_turn [] kinds = tt
each_of_turn (step ∷ steps) each = (of_turn step each.0, each_of_turn steps each.1)
  where
    of_turn : (s : Step) → IsFailure s → IsOfTurn s
    of_turn (Settled number outcome) is = tt
    of_turn (Opened client) is = tt
    of_turn (NotOpened fault) is = tt
    of_turn (Fed client piece) is = tt
    of_turn (Polled client poll) is = tt
    of_turn (Stopped client fault) is = tt
    of_turn (Gave client bytes) is = tt
    of_turn (Closed client) is = tt
    of_turn (LeftLine client) is = tt
    of_turn (Ticked now) is = tt
    of_turn (Broke client) is = tt
    of_turn (Loaded configuration generation) is = is
    of_turn (Linked at dialect) is = tt
    of_turn (Asked at number dialect ask since) is = tt
    of_turn (Greeted at dialect bytes) is = tt
    of_turn (Noted at obstacle) is = tt
    of_turn (Late at number limit now) is = tt
    of_turn (CameLate at number ask answer bytes) is = tt
    of_turn (Spelled at number ask answer bytes) is = tt
    of_turn (Lost at why limit) is = absurd is

pub failed : {a b : ServedCore} → OnlyFails a b → GoesOn a b
failed f = record { steps = f.steps; kinds = each_of_turn f.steps f.kinds; walks = f.walks }

-- where calls have outcomes it goes on
pub each_settled : (steps : List Step) → StepsAreOf IsSettlement steps → StepsAreOf IsOfTurn steps
each_settled [] kinds = tt
each_settled (step ∷ steps) each = (of_turn step each.0, each_settled steps each.1)
  where
    of_turn : (s : Step) → IsSettlement s → IsOfTurn s
    of_turn (Settled number outcome) is = tt
    of_turn (Opened client) is = tt
    of_turn (NotOpened fault) is = tt
    of_turn (Fed client piece) is = tt
    of_turn (Polled client poll) is = tt
    of_turn (Stopped client fault) is = tt
    of_turn (Gave client bytes) is = tt
    of_turn (Closed client) is = tt
    of_turn (LeftLine client) is = tt
    of_turn (Ticked now) is = tt
    of_turn (Broke client) is = tt
    of_turn (Loaded configuration generation) is = is
    of_turn (Linked at dialect) is = tt
    of_turn (Asked at number dialect ask since) is = tt
    of_turn (Greeted at dialect bytes) is = tt
    of_turn (Noted at obstacle) is = tt
    of_turn (Late at number limit now) is = tt
    of_turn (CameLate at number ask answer bytes) is = tt
    of_turn (Spelled at number ask answer bytes) is = tt
    of_turn (Lost at why limit) is = absurd is

pub settled : {a b : ServedCore} → GoesBy IsSettlement a b → GoesOn a b
settled g = record { steps = g.steps; kinds = each_settled g.steps g.kinds; walks = g.walks }

-- ---- each call of a core

pub by_feed :
    (client : ℕ) (piece : List ℕ) (r : Result (Unit {0}) CoreFault) (a b : ServedCore) → OnOk r (CanFeed a.core client piece × Feeds a.core client piece b.core)
    → IfErr r (λ fault. FeedFault a.core client piece fault × (b ≡ a)) → OnOk r (LogsGoBy a (λ entries. entries ≡ fed (dropped_by (client_at a.core client)) client piece) b)
    → GoesOn a b
by_feed client piece (Ok done) a b ok err fresh = one IsOfTurn (Fed client piece) a b tt (ok.0, ok.1, fresh)
by_feed client piece (Err fault) a b ok err fresh = still err.1

pub by_output :
    (client : ℕ) (r : Result (Unit {0}) CoreFault) (a b : ServedCore) → OnOk r (GivesAll a.core client (output_by (client_at a.core client)) b.core)
    → IfErr r (λ fault. OutputFault a.core client fault × (b ≡ a))
    → OnOk r (LogsGoBy a (λ entries. entries ≡ log.Gives client (output_by (client_at a.core client)) ∷ []) b) → GoesOn a b
by_output client (Ok done) a b ok err fresh = one IsOfTurn (Gave client (output_by (client_at a.core client))) a b tt (ok, fresh)
by_output client (Err fault) a b ok err fresh = still err.1

pub by_close :
    (client : ℕ) (r : Result (Unit {0}) CoreFault) (a b : ServedCore) → OnOk r (CanClose a.core client × ClosesClient a.core client b.core)
    → IfErr r (λ fault. CloseFault a.core client fault × (b ≡ a)) → OnOk r (LogsGoBy a (λ entries. entries ≡ log.Resets client ∷ []) b) → GoesOn a b
by_close client (Ok done) a b ok err fresh = one IsOfTurn (Closed client) a b tt (ok.0, ok.1, fresh)
by_close client (Err fault) a b ok err fresh = still err.1

pub by_poll :
    (client : ℕ) (r : Result Poll CoreFault) (a b : ServedCore) → IfOk r (λ poll. Polls a.core client poll b.core) → IfErr r (λ fault. PollFault a.core client fault b.core)
    → IfOk r (λ poll. PollGoes a client poll b) → IfErr r (λ fault. PollStops a client fault b) → GoesOn a b
by_poll client (Ok poll) a b ok err fresh stops = one IsOfTurn (Polled client poll) a b tt (ok, fresh)
by_poll client (Err fault) a b ok err fresh stops = one IsOfTurn (Stopped client fault) a b tt (err, stops)

pub by_leave : (client : ℕ) (a b : ServedCore) → LeavesLine a.core client b.core → LogsGoBy a (λ entries. entries ≡ []) b → GoesOn a b
by_leave client a b left fresh = one IsOfTurn (LeftLine client) a b tt (left, fresh)

pub by_failure : (number : ℕ) (a b : ServedCore) → IsSettled a number Failed b → OnlyFails a b
by_failure number a b is = one IsFailure (Settled number Failed) a b refl is

pub by_fail_next : (sent : List SentCall) (client : Option ℕ) (sent' : List SentCall) (a b : ServedCore) → SettlesFirst sent a Failed client sent' b → OnlyFails a b
by_fail_next [] client sent' a b is = still is.2
by_fail_next (call ∷ sent) client sent' a b is = by_failure call.ticket.number a b is.2

by_first : (sent : List SentCall) (outcome : Outcome) (client : Option ℕ) (sent' : List SentCall) (a b : ServedCore) → SettlesFirst sent a outcome client sent' b → GoesBy IsSettlement a b
by_first [] outcome client sent' a b is = still is.2
by_first (call ∷ sent) outcome client sent' a b is = one IsSettlement (Settled call.ticket.number outcome) a b tt is.2

pub by_settle_next : (sent : List SentCall) (bytes : List ℕ) (next : Next) (sent' : List SentCall) (a b : ServedCore) → SettlesNext sent bytes a next sent' b → GoesBy IsSettlement a b
by_settle_next sent bytes (nexts.Settled client used) sent' a b is = by_first sent (Answered is.0) (Some client) sent' a b is.2
by_settle_next sent bytes (nexts.Left left) sent' a b is = still is.2

-- ---- what all walks keep

abbrev IsWordKept : ServedCore → ServedCore → Type 0
IsWordKept a b = (b.accepted ≡ a.accepted) ⊎ ((configuration : Configuration) × (b.accepted ≡ option_map (more configuration) a.accepted))

by_word : (a b : ServedCore) → b.accepted ≡ a.accepted → IsWordKept a b
by_word a b same = inl same

as_it_was : (a b : ServedCore) → b ≡ a → IsWordKept a b
as_it_was a b same = by_word a b (ap (λ (x : ServedCore). x.accepted) same)

stopped_keeps : (client : ℕ) (fault : CoreFault) (a b : ServedCore) → PollStops a client fault b → IsWordKept a b
stopped_keeps client faults.NoMemory a b stops = by_word a b stops.goes.word
stopped_keeps client faults.NoClient a b stops = as_it_was a b stops
stopped_keeps client faults.Spent a b stops = as_it_was a b stops
stopped_keeps client faults.TooManyClients a b stops = as_it_was a b stops
stopped_keeps client faults.InputFull a b stops = as_it_was a b stops
stopped_keeps client faults.UnderWay a b stops = as_it_was a b stops
stopped_keeps client faults.NoTicket a b stops = as_it_was a b stops

settle_keeps : (number : ℕ) (outcome : Outcome) (fault : CoreFault) (a b : ServedCore) → SettleStops a number outcome fault b → IsWordKept a b
settle_keeps number outcome faults.NoMemory a b stops = by_word a b stops.word
settle_keeps number outcome faults.NoClient a b stops = absurd stops
settle_keeps number outcome faults.Spent a b stops = absurd stops
settle_keeps number outcome faults.TooManyClients a b stops = absurd stops
settle_keeps number outcome faults.InputFull a b stops = absurd stops
settle_keeps number outcome faults.UnderWay a b stops = absurd stops
settle_keeps number outcome faults.NoTicket a b stops = as_it_was a b stops.1

settled_keeps : (number : ℕ) (outcome : Outcome) (a b : ServedCore) → IsSettled a number outcome b → IsWordKept a b
settled_keeps number outcome a b (inl takes) = by_word a b takes.word
settled_keeps number outcome a b (inr stops) = settle_keeps number outcome stops.0 a b stops.1

-- what was there before one more was taken
one_fewer : (was now : Option Known) (config : Configuration) (known : Known) → now ≡ option_map (more config) was → now ≡ Some known → known.begun ≡ any_begun → (k : Known) × (was ≡ Some k) × (k.begun ≡ any_begun)
one_fewer (Some k) now config known e is any = (k, refl, (let same = sym e ∙ is in cc (same, any)))
one_fewer None now config known e is any = absurd (let none = sym e ∙ is in cc none)

loaded_keeps : (configuration : Configuration) (generation : ℕ) (a b : ServedCore) → IsLoaded a configuration generation b → IsWordKept a b
loaded_keeps configuration generation a b loaded = inr (configuration, loaded.word)

does_keep : (step : Step) (a b : ServedCore) → Does step a b → IsWordKept a b
does_keep (Opened client) a b does = by_word a b does.2.word
does_keep (NotOpened fault) a b does = by_word a b does.1.word
does_keep (Fed client piece) a b does = by_word a b does.2.word
does_keep (Polled client poll) a b does = by_word a b does.1.word
does_keep (Stopped client fault) a b does = stopped_keeps client fault a b does.1
does_keep (Settled number outcome) a b does = settled_keeps number outcome a b does
does_keep (Gave client bytes) a b does = by_word a b does.1.word
does_keep (Closed client) a b does = by_word a b does.2.word
does_keep (LeftLine client) a b does = by_word a b does.1.word
does_keep (Ticked now) a b does = as_it_was a b does
does_keep (Broke client) a b does = as_it_was a b does
does_keep (Loaded configuration generation) a b does = loaded_keeps configuration generation a b does
does_keep (Linked at dialect) a b does = as_it_was a b does
does_keep (Asked at number dialect ask since) a b does = as_it_was a b does
does_keep (Greeted at dialect bytes) a b does = as_it_was a b does
does_keep (Noted at obstacle) a b does = as_it_was a b does
does_keep (Late at number limit now) a b does = as_it_was a b does
does_keep (CameLate at number ask answer bytes) a b does = as_it_was a b does
does_keep (Spelled at number ask answer bytes) a b does = as_it_was a b does.0
does_keep (Lost at why limit) a b does = as_it_was a b does

accepted_keeps : (a b : ServedCore) → IsWordKept a b → (IsAccepted a → IsAccepted b) × (IsAccepted b → IsAccepted a)
accepted_keeps a b (inl same) = (λ is. (is.0, same ∙ is.1, is.2), λ is. (is.0, sym same ∙ is.1, is.2))
accepted_keeps a b (inr loaded) = (λ is. (more loaded.0 is.0, loaded.1 ∙ ap (option_map (more loaded.0)) is.1, is.2), λ is. one_fewer a.accepted b.accepted loaded.0 is.0 loaded.1 is.1 is.2)

since_keeps : (first : Configuration) (begun : Beginnings) (a b : ServedCore) → IsWordKept a b → IsAcceptedSince first begun a → IsAcceptedSince first begun b
since_keeps first begun a b (inl same) is = (is.0, same ∙ is.1)
since_keeps first begun a b (inr loaded) is = (is.0 ++ loaded.0 ∷ [], loaded.1 ∙ ap (option_map (more loaded.0)) is.1)

pub walks_keep : WalksKeep
walks_keep [] a b same = accepted_keeps a b (as_it_was a b same)
walks_keep (step ∷ steps) a b walks =
    let before = walks_keep steps a walks.0 walks.1 in
    let last = accepted_keeps walks.0 b (does_keep step walks.0 b walks.2) in
    (λ is. last.0 (before.0 is), λ is. before.1 (last.1 is))

pub walks_keep_since : WalksKeepSince
walks_keep_since [] a b same first begun is = since_keeps first begun a b (as_it_was a b same) is
walks_keep_since (step ∷ steps) a b walks first begun is =
    since_keeps first begun walks.0 b (does_keep step walks.0 b walks.2) (walks_keep_since steps a walks.0 walks.1 first begun is)
