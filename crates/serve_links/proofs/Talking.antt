-- What steps leave of what was told before them.
use Rattle.std.proofs.Common.{◌≡◌, ◌≢◌, ◌⊎◌, ℕ, false, if◌then◌else◌, List, [], ◌∷◌, ◌++◌, Option, Some, inl, inr, refl, sym, ap, ◌∙◌, subst, append_assoc}
use Rattle.std.specs.Prelude.{nat_eq}
use Rattle.mc_types.specs.declared.ask.Ask.{Ask}
use Rattle.mc_types.specs.declared.call.Outcome.TheVariants.{Failed}
use Rattle.core_proxy.specs.declared.note.Poll.TheVariants as polls
use Rattle.serve_links.specs.declared.calls.calls.SentCall.{SentCall}
use Rattle.serve_links.specs.declared.news.Cause.{Cause}
use Rattle.serve_links.specs.CoreSteps.{Step, Opened, NotOpened, Fed, Polled, Stopped, Settled, Gave, Closed, LeftLine, Broke, Ticked, Loaded, Linked, Asked, Greeted, Spelled, Late, CameLate, Lost, Noted, StepsAreOf}
use Rattle.serve_links.specs.Talks.{SaidAsk, InUse, first_talk, with_ask, greeted, with_first_answer, turned_late, with_late, given_up, talk_in, IsCalledIn, IsNotAmong, IsAmong, AreDue, AreCalled, AreGivenUp, WasGivenUp, FailsFor, MaySettle, MayComeNext, IsOrderly, IsOfClients, IsOfServer}
use Rattle.serve_links.specs.Story.{TellsNone, MayGo, MayAllGo, said_asks}
use Rattle.serve_links.specs.Called.{call_in, due_in, clock_in, given_in, GivesOnce, GiveOnce}
use Rattle.serve_links.proofs.Due.{turned, among_first, said_both, due_out, KeepsBut, keeps_settled, own_nowhere}
use Rattle.serve_links.specs.Links.{AllFail}
use Rattle.serve_links.specs.CoreSteps.{Walks, IsFailure, IsSending}
use Rattle.core_accepted.specs.declared.served.ServedCore.{ServedCore}
use Rattle.core_accepted.specs.Results.{IsSettled}
use Rattle.serve_links.proofs.Walked.{walked, of_both}

-- ---- calls that the core gave out

pub called_later : (later past : List Step) (number at : ℕ) (ask : Ask) → IsCalledIn past number at ask → IsCalledIn (later ++ past) number at ask
called_later later past number at ask c = record {
  client = c.client;
  ticket = c.ticket;
  number_is = c.number_is;
  server_is = c.server_is;
  ask_is = c.ask_is;
  later = later ++ c.later;
  earlier = c.earlier;
  was = ap (λ l. later ++ l) c.was ∙ sym (append_assoc later c.later (Polled c.client (polls.Call c.ticket) ∷ c.earlier));
}

pub go_later : (later past : List Step) (at : ℕ) (call : SentCall) → MayGo past at call → MayGo (later ++ past) at call
go_later later past at call m = record { later = later ++ m.later; earlier = m.earlier; parts = ap (λ l. later ++ l) m.parts ∙ sym (append_assoc later m.later m.earlier); called = m.called; speaks = m.speaks }

pub calls_later : (later past : List Step) (at : ℕ) (calls : List SentCall) → MayAllGo past at calls → MayAllGo (later ++ past) at calls
calls_later later past at [] are = tt
calls_later later past at (call ∷ calls) are = (go_later later past at call are.0, calls_later later past at calls are.1)

pub one_more : (past : List Step) (at : ℕ) (calls : List SentCall) (call : SentCall) → MayAllGo past at calls → MayGo past at call → MayAllGo past at (calls ++ call ∷ [])
one_more past at [] call are is = (is, tt)
one_more past at (first ∷ calls) call are is = (are.0, one_more past at calls call are.1 is)

-- ---- steps of clients, and calls that fail

abbrev pub IsPlain : Step → Type 0
IsPlain (Settled number outcome) = outcome ≡ Failed
IsPlain (Opened client) = Unit {0}
IsPlain (NotOpened fault) = Unit {0}
IsPlain (Fed client piece) = Unit {0}
IsPlain (Polled client poll) = Unit {0}
IsPlain (Stopped client fault) = Unit {0}
IsPlain (Gave client bytes) = Unit {0}
IsPlain (Closed client) = Unit {0}
IsPlain (LeftLine client) = Unit {0}
IsPlain (Ticked now) = Unit {0}
IsPlain (Broke client) = Unit {0}
IsPlain (Loaded configuration generation) = Unit {0}
IsPlain (Linked at dialect) = ⊥
IsPlain (Asked at number dialect ask since) = ⊥
IsPlain (Greeted at dialect bytes) = ⊥
IsPlain (Noted at obstacle) = ⊥
IsPlain (Late at number limit now) = ⊥
IsPlain (CameLate at number ask answer bytes) = ⊥
IsPlain (Spelled at number ask answer bytes) = ⊥
IsPlain (Lost at why limit) = ⊥

pub clients_plain : (steps : List Step) → StepsAreOf IsOfClients steps → StepsAreOf IsPlain steps
clients_plain [] kinds = tt
clients_plain (step ∷ steps) kinds = (plain step kinds.0, clients_plain steps kinds.1)
  where
    plain : (s : Step) → IsOfClients s → IsPlain s
    plain (Settled number outcome) is = absurd is
    plain (Opened client) is = tt
    plain (NotOpened fault) is = tt
    plain (Fed client piece) is = tt
    plain (Polled client poll) is = tt
    plain (Stopped client fault) is = tt
    plain (Gave client bytes) is = tt
    plain (Closed client) is = tt
    plain (LeftLine client) is = tt
    plain (Ticked now) is = tt
    plain (Broke client) is = tt
    plain (Loaded configuration generation) is = tt
    plain (Linked at dialect) is = is
    plain (Asked at number dialect ask since) is = is
    plain (Greeted at dialect bytes) is = is
    plain (Noted at obstacle) is = is
    plain (Late at number limit now) is = is
    plain (CameLate at number ask answer bytes) is = is
    plain (Spelled at number ask answer bytes) is = is
    plain (Lost at why limit) is = is

-- nothing is told of servers
pub plain_talk : (steps : List Step) → StepsAreOf IsPlain steps → (past : List Step) (j : ℕ) → talk_in (steps ++ past) j ≡ talk_in past j
plain_talk [] kinds past j = refl
plain_talk (Settled number outcome ∷ steps) kinds past j = plain_talk steps kinds.1 past j
plain_talk (Opened client ∷ steps) kinds past j = plain_talk steps kinds.1 past j
plain_talk (NotOpened fault ∷ steps) kinds past j = plain_talk steps kinds.1 past j
plain_talk (Fed client piece ∷ steps) kinds past j = plain_talk steps kinds.1 past j
plain_talk (Polled client poll ∷ steps) kinds past j = plain_talk steps kinds.1 past j
plain_talk (Stopped client fault ∷ steps) kinds past j = plain_talk steps kinds.1 past j
plain_talk (Gave client bytes ∷ steps) kinds past j = plain_talk steps kinds.1 past j
plain_talk (Closed client ∷ steps) kinds past j = plain_talk steps kinds.1 past j
plain_talk (LeftLine client ∷ steps) kinds past j = plain_talk steps kinds.1 past j
plain_talk (Ticked now ∷ steps) kinds past j = plain_talk steps kinds.1 past j
plain_talk (Broke client ∷ steps) kinds past j = plain_talk steps kinds.1 past j
plain_talk (Loaded configuration generation ∷ steps) kinds past j = plain_talk steps kinds.1 past j
plain_talk (Linked at dialect ∷ steps) kinds past j = absurd kinds.0
plain_talk (Asked at number dialect ask since ∷ steps) kinds past j = absurd kinds.0
plain_talk (Greeted at dialect bytes ∷ steps) kinds past j = absurd kinds.0
plain_talk (Noted at obstacle ∷ steps) kinds past j = absurd kinds.0
plain_talk (Late at number limit now ∷ steps) kinds past j = absurd kinds.0
plain_talk (CameLate at number ask answer bytes ∷ steps) kinds past j = absurd kinds.0
plain_talk (Spelled at number ask answer bytes ∷ steps) kinds past j = absurd kinds.0
plain_talk (Lost at why limit ∷ steps) kinds past j = absurd kinds.0

-- steps of clients may come at any time
pub clients_orderly : (steps : List Step) → StepsAreOf IsOfClients steps → (past : List Step) → GiveOnce steps past → IsOrderly past → IsOrderly (steps ++ past)
clients_orderly [] kinds past once o = o
clients_orderly (step ∷ steps) kinds past once o = (follows step (steps ++ past) kinds.0 once.0, clients_orderly steps kinds.1 past once.1 o)
  where
    follows : (s : Step) (before : List Step) → IsOfClients s → GivesOnce s before → MayComeNext s before
    follows (Opened client) before is once = tt
    follows (NotOpened fault) before is once = tt
    follows (Fed client piece) before is once = tt
    follows (Polled client poll) before is once = once
    follows (Stopped client fault) before is once = tt
    follows (Gave client bytes) before is once = tt
    follows (Closed client) before is once = tt
    follows (LeftLine client) before is once = tt
    follows (Ticked now) before is once = tt
    follows (Broke client) before is once = tt
    follows (Loaded configuration generation) before is once = tt
    follows (Settled number outcome) before is once = absurd is
    follows (Linked at dialect) before is once = absurd is
    follows (Asked at number dialect ask since) before is once = absurd is
    follows (Greeted at dialect bytes) before is once = absurd is
    follows (Noted at obstacle) before is once = absurd is
    follows (Late at number limit now) before is once = absurd is
    follows (CameLate at number ask answer bytes) before is once = absurd is
    follows (Spelled at number ask answer bytes) before is once = absurd is
    follows (Lost at why limit) before is once = absurd is

-- ---- calls that fail

-- each of these calls is out, and no two have one number
abbrev pub AreOut : List Step → ℕ → List SaidAsk → Type 0
AreOut past at [] = Unit {0}
AreOut past at (said ∷ others) = (call_in past said.0 ≡ Some (at, said.2)) × IsNotAmong said.0 others × AreOut past at others

pub sent_out : (past : List Step) (at : ℕ) (first later : List SentCall) → AreCalled past at (said_asks (first ++ later)) → AreOut past at (said_asks first)
sent_out past at [] later called = tt
sent_out past at (call ∷ first) later called =
    (called.0, among_first call.ticket.number (said_asks first) (said_asks later) (subst (IsNotAmong call.ticket.number) (said_both first later) called.2), sent_out past at first later called.3)

pub waiting_out : (past : List Step) (at : ℕ) (first later : List SentCall) → AreDue past at (said_asks (first ++ later)) → AreOut past at (said_asks first)
waiting_out past at [] later due = tt
waiting_out past at (call ∷ first) later due = (
  due_out past call.ticket.number (at, call.ticket.ask) due.0,
  among_first call.ticket.number (said_asks first) (said_asks later) (subst (IsNotAmong call.ticket.number) (said_both first later) due.1),
  waiting_out past at first later due.2,
)

-- for what they fail: what was told before stays told

given_up_later : (steps past : List Step) (number : ℕ) → WasGivenUp number past → WasGivenUp number (steps ++ past)
given_up_later steps past number g = record {
  at = g.at;
  why = g.why;
  limit = g.limit;
  later = steps ++ g.later;
  earlier = g.earlier;
  was = ap (λ l. steps ++ l) g.was ∙ sym (append_assoc steps g.later (Lost g.at g.why g.limit ∷ g.earlier));
  out = g.out;
}

pub all_given_later : (steps past : List Step) (calls : List SaidAsk) → AreGivenUp past calls → AreGivenUp (steps ++ past) calls
all_given_later steps past [] given = tt
all_given_later steps past (call ∷ calls) given = (given_up_later steps past call.0 given.0, all_given_later steps past calls given.1)

-- of the first of them, and of the others
pub given_parts : (past : List Step) (first later : List SentCall) → AreGivenUp past (said_asks (first ++ later)) → AreGivenUp past (said_asks first) × AreGivenUp past (said_asks later)
given_parts past [] later given = (tt, given)
given_parts past (call ∷ first) later given = let rest = given_parts past first later given.1 in ((given.0, rest.0), rest.1)

-- those that are out there as their connection is given up
pub given_now : (past : List Step) (at : ℕ) (why : Option Cause) (limit : ℕ) (calls : List SaidAsk) → ((n : ℕ) → IsAmong n calls → IsAmong n (talk_in past at).out) → AreGivenUp (Lost at why limit ∷ past) calls
given_now past at why limit [] among = tt
given_now past at why limit (call ∷ calls) among =
    (record { at = at; why = why; limit = limit; later = []; earlier = past; was = refl; out = among call.0 (inl refl) }, given_now past at why limit calls (λ n is. among n (inr is)))

-- no server was sent the call of this number, and no connection to its server is in use
pub record IsUnconnected (number : ℕ) (past : List Step) : Type 0 where
  pub at : ℕ
  pub ask : Ask
  pub due : due_in past number ≡ Some (at, ask)
  pub apart : (talk_in past at).stands ≢ InUse

-- reasons that stay while others fail
abbrev pub FailsStill : ℕ → List Step → Type 0
FailsStill number past = IsUnconnected number past ⊎ WasGivenUp number past

-- each of these calls fails for one
abbrev pub AllFailFor : List Step → List SaidAsk → Type 0
AllFailFor past [] = Unit {0}
AllFailFor past (said ∷ others) = FailsStill said.0 past × AllFailFor past others

still_reason : (past : List Step) (number : ℕ) → FailsStill number past → FailsFor number past
still_reason past number (inl none) = inl (record { at = none.at; ask = none.ask; due = none.due; why = inl none.apart })
still_reason past number (inr given) = inr (inl given)

-- those whose connection was given up
pub sent_fail : (past : List Step) (calls : List SaidAsk) → AreGivenUp past calls → AllFailFor past calls
sent_fail past [] given = tt
sent_fail past (call ∷ calls) given = (inr given.0, sent_fail past calls given.1)

-- and those that are still to be asked, where none is in use
pub waiting_fail : (past : List Step) (at : ℕ) (first later : List SentCall) → (talk_in past at).stands ≢ InUse → AreDue past at (said_asks (first ++ later)) → AllFailFor past (said_asks first)
waiting_fail past at [] later apart due = tt
waiting_fail past at (call ∷ first) later apart due = (inl (record { at = at; ask = call.ticket.ask; due = due.0; apart = apart }), waiting_fail past at first later apart due.2)

-- the walk that they make as they fail, while none is out there
pub record FailsInOrder (at : ℕ) (calls : List SentCall) (a b : ServedCore) : Type 0 where
  pub steps : List Step
  pub kinds : StepsAreOf IsFailure steps
  pub walks : Walks steps a b
  pub keeps : (past : List Step) → KeepsBut (said_asks calls) past (steps ++ past)
  pub orderly : (past : List Step) → AreOut past at (said_asks calls) → AllFailFor past (said_asks calls) → (talk_in past at).out ≡ [] → IsOrderly past → IsOrderly (steps ++ past)

-- one more has failed before
fails_before : (at : ℕ) (call : SentCall) (calls : List SentCall) (a mid b : ServedCore) → IsSettled a call.ticket.number Failed mid → FailsInOrder at calls mid b → FailsInOrder at (call ∷ calls) a b
fails_before at call calls a mid b is rest = record {
  steps = rest.steps ++ step ∷ [];
  kinds = of_both IsFailure rest.steps (step ∷ []) rest.kinds (refl, tt);
  walks = walked rest.steps (step ∷ []) a mid b (a, refl, is) rest.walks;
  keeps = λ past. subst (KeepsBut (said_asks (call ∷ calls)) past) (sym (append_assoc rest.steps (step ∷ []) past)) (keeps past);
  orderly = λ past out fail none o.
      subst IsOrderly (sym (append_assoc rest.steps (step ∷ []) past)) (rest.orderly (step ∷ past) (still past (said_asks calls) out.1 out.2) (still_fail past (said_asks calls) out.1 fail.1) none ((settles past out.0 none o, still_reason past number fail.0), o));
}
  where
    number : ℕ
    number = call.ticket.number

    step : Step
    step = Settled number Failed

    keeps : (past : List Step) → KeepsBut (said_asks (call ∷ calls)) past (rest.steps ++ step ∷ past)
    keeps past = λ n not.
        let first = keeps_settled past number Failed call.dialect call.ticket.ask call.since n (not.0, tt) in let later = rest.keeps (step ∷ past) n not.1 in (later.0 ∙ first.0, later.1 ∙ first.1, later.2 ∙ first.2)

    settles : (past : List Step) → call_in past number ≡ Some (at, call.ticket.ask) → (talk_in past at).out ≡ [] → IsOrderly past → MaySettle number past
    settles past out none o = record { call = (at, call.ticket.ask); is_out = out; nowhere = own_nowhere past at number call.ticket.ask o out (subst (IsNotAmong number) (sym none) tt) }

    still : (past : List Step) (l : List SaidAsk) → IsNotAmong number l → AreOut past at l → AreOut (step ∷ past) at l
    still past [] not out = tt
    still past (one ∷ l) not out = ((keeps_settled past number Failed call.dialect call.ticket.ask call.since one.0 (turned not.0, tt)).0 ∙ out.0, out.1, still past l not.1 out.2)

    for_same : (past : List Step) (n : ℕ) → due_in (step ∷ past) n ≡ due_in past n → FailsStill n past → FailsStill n (step ∷ past)
    for_same past n same (inl none) = inl (record { at = none.at; ask = none.ask; due = same ∙ none.due; apart = none.apart })
    for_same past n same (inr given) = inr (given_up_later (step ∷ []) past n given)

    still_fail : (past : List Step) (l : List SaidAsk) → IsNotAmong number l → AllFailFor past l → AllFailFor (step ∷ past) l
    still_fail past [] not fail = tt
    still_fail past (one ∷ l) not fail = (for_same past one.0 (keeps_settled past number Failed call.dialect call.ticket.ask call.since one.0 (turned not.0, tt)).1 fail.0, still_fail past l not.1 fail.1)

pub fail_in_order : (at : ℕ) (calls : List SentCall) (a b : ServedCore) → AllFail calls a b → FailsInOrder at calls a b
fail_in_order at [] a b all = record { steps = []; kinds = tt; walks = all; keeps = λ past n not. (refl, refl, refl); orderly = λ past out fail none o. o }
fail_in_order at (call ∷ calls) a b all = fails_before at call calls a all.0 b all.1 (fail_in_order at calls all.0 b all.2)

-- ---- steps of one server

-- nothing is told of clients
pub server_tells_none : (at : ℕ) (steps : List Step) → StepsAreOf (IsOfServer at) steps → (past : List Step) (j : ℕ) → TellsNone j past steps
server_tells_none at [] own past j = (refl, refl, refl, refl)
server_tells_none at (Settled number outcome ∷ steps) own past j = server_tells_none at steps own.1 past j
server_tells_none at (Linked a dialect ∷ steps) own past j = server_tells_none at steps own.1 past j
server_tells_none at (Asked a number dialect ask since ∷ steps) own past j = server_tells_none at steps own.1 past j
server_tells_none at (Greeted a dialect bytes ∷ steps) own past j = server_tells_none at steps own.1 past j
server_tells_none at (Noted a obstacle ∷ steps) own past j = server_tells_none at steps own.1 past j
server_tells_none at (Late a number limit now ∷ steps) own past j = server_tells_none at steps own.1 past j
server_tells_none at (CameLate a number ask answer bytes ∷ steps) own past j = server_tells_none at steps own.1 past j
server_tells_none at (Spelled a number ask answer bytes ∷ steps) own past j = server_tells_none at steps own.1 past j
server_tells_none at (Lost a why limit ∷ steps) own past j = server_tells_none at steps own.1 past j
server_tells_none at (Opened client ∷ steps) own past j = absurd own.0
server_tells_none at (NotOpened fault ∷ steps) own past j = absurd own.0
server_tells_none at (Fed client piece ∷ steps) own past j = absurd own.0
server_tells_none at (Polled client poll ∷ steps) own past j = absurd own.0
server_tells_none at (Stopped client fault ∷ steps) own past j = absurd own.0
server_tells_none at (Gave client bytes ∷ steps) own past j = absurd own.0
server_tells_none at (Closed client ∷ steps) own past j = absurd own.0
server_tells_none at (LeftLine client ∷ steps) own past j = absurd own.0
server_tells_none at (Ticked now ∷ steps) own past j = absurd own.0
server_tells_none at (Broke client ∷ steps) own past j = absurd own.0
server_tells_none at (Loaded configuration generation ∷ steps) own past j = absurd own.0

-- nor of other servers
pub talk_elsewhere : (at : ℕ) (steps : List Step) → StepsAreOf (IsOfServer at) steps → (past : List Step) (j : ℕ) → nat_eq at j ≡ false → talk_in (steps ++ past) j ≡ talk_in past j
talk_elsewhere at [] own past j other = refl
talk_elsewhere at (Settled number outcome ∷ steps) own past j other = talk_elsewhere at steps own.1 past j other
talk_elsewhere at (Linked a dialect ∷ steps) own past j other =
    ap (λ b. if b then first_talk dialect (talk_in (steps ++ past) j).failed else talk_in (steps ++ past) j) (ap (λ n. nat_eq n j) own.0 ∙ other) ∙ talk_elsewhere at steps own.1 past j other
talk_elsewhere at (Asked a number dialect ask since ∷ steps) own past j other =
    ap (λ b. if b then with_ask number dialect ask since (talk_in (steps ++ past) j) else talk_in (steps ++ past) j) (ap (λ n. nat_eq n j) own.0 ∙ other) ∙ talk_elsewhere at steps own.1 past j other
talk_elsewhere at (Greeted a dialect bytes ∷ steps) own past j other =
    ap (λ b. if b then greeted dialect bytes (talk_in (steps ++ past) j) else talk_in (steps ++ past) j) (ap (λ n. nat_eq n j) own.0 ∙ other) ∙ talk_elsewhere at steps own.1 past j other
talk_elsewhere at (Noted a obstacle ∷ steps) own past j other = talk_elsewhere at steps own.1 past j other
talk_elsewhere at (Spelled a number ask answer bytes ∷ steps) own past j other =
    ap (λ b. if b then with_first_answer bytes (talk_in (steps ++ past) j) else talk_in (steps ++ past) j) (ap (λ n. nat_eq n j) own.0 ∙ other) ∙ talk_elsewhere at steps own.1 past j other
talk_elsewhere at (Late a number limit now ∷ steps) own past j other =
    ap (λ b. if b then turned_late (talk_in (steps ++ past) j) else talk_in (steps ++ past) j) (ap (λ n. nat_eq n j) own.0 ∙ other) ∙ talk_elsewhere at steps own.1 past j other
talk_elsewhere at (CameLate a number ask answer bytes ∷ steps) own past j other =
    ap (λ b. if b then with_late bytes (talk_in (steps ++ past) j) else talk_in (steps ++ past) j) (ap (λ n. nat_eq n j) own.0 ∙ other) ∙ talk_elsewhere at steps own.1 past j other
talk_elsewhere at (Lost a why limit ∷ steps) own past j other =
    ap (λ b. if b then given_up why (talk_in (steps ++ past) j) else talk_in (steps ++ past) j) (ap (λ n. nat_eq n j) own.0 ∙ other) ∙ talk_elsewhere at steps own.1 past j other
talk_elsewhere at (Opened client ∷ steps) own past j other = absurd own.0
talk_elsewhere at (NotOpened fault ∷ steps) own past j other = absurd own.0
talk_elsewhere at (Fed client piece ∷ steps) own past j other = absurd own.0
talk_elsewhere at (Polled client poll ∷ steps) own past j other = absurd own.0
talk_elsewhere at (Stopped client fault ∷ steps) own past j other = absurd own.0
talk_elsewhere at (Gave client bytes ∷ steps) own past j other = absurd own.0
talk_elsewhere at (Closed client ∷ steps) own past j other = absurd own.0
talk_elsewhere at (LeftLine client ∷ steps) own past j other = absurd own.0
talk_elsewhere at (Ticked now ∷ steps) own past j other = absurd own.0
talk_elsewhere at (Broke client ∷ steps) own past j other = absurd own.0
talk_elsewhere at (Loaded configuration generation ∷ steps) own past j other = absurd own.0

-- ---- the clock

-- by steps of clients it isn't looked at
pub clients_clock : (steps : List Step) → StepsAreOf IsOfClients steps → (past : List Step) → clock_in (steps ++ past) ≡ clock_in past
clients_clock [] own past = refl
clients_clock (Settled number outcome ∷ steps) own past = absurd own.0
clients_clock (Opened client ∷ steps) own past = clients_clock steps own.1 past
clients_clock (NotOpened fault ∷ steps) own past = clients_clock steps own.1 past
clients_clock (Fed client piece ∷ steps) own past = clients_clock steps own.1 past
clients_clock (Polled client poll ∷ steps) own past = clients_clock steps own.1 past
clients_clock (Stopped client fault ∷ steps) own past = clients_clock steps own.1 past
clients_clock (Gave client bytes ∷ steps) own past = clients_clock steps own.1 past
clients_clock (Closed client ∷ steps) own past = clients_clock steps own.1 past
clients_clock (LeftLine client ∷ steps) own past = clients_clock steps own.1 past
clients_clock (Ticked now ∷ steps) own past = absurd own.0
clients_clock (Broke client ∷ steps) own past = clients_clock steps own.1 past
clients_clock (Loaded configuration generation ∷ steps) own past = clients_clock steps own.1 past
clients_clock (Linked at dialect ∷ steps) own past = absurd own.0
clients_clock (Asked at number dialect ask since ∷ steps) own past = absurd own.0
clients_clock (Greeted at dialect bytes ∷ steps) own past = absurd own.0
clients_clock (Noted at obstacle ∷ steps) own past = absurd own.0
clients_clock (Late at number limit now ∷ steps) own past = absurd own.0
clients_clock (CameLate at number ask answer bytes ∷ steps) own past = absurd own.0
clients_clock (Spelled at number ask answer bytes ∷ steps) own past = absurd own.0
clients_clock (Lost at why limit ∷ steps) own past = absurd own.0

-- nor by those of one server
pub server_clock : (at : ℕ) (steps : List Step) → StepsAreOf (IsOfServer at) steps → (past : List Step) → clock_in (steps ++ past) ≡ clock_in past
server_clock at [] own past = refl
server_clock at (Settled number outcome ∷ steps) own past = server_clock at steps own.1 past
server_clock at (Opened client ∷ steps) own past = absurd own.0
server_clock at (NotOpened fault ∷ steps) own past = absurd own.0
server_clock at (Fed client piece ∷ steps) own past = absurd own.0
server_clock at (Polled client poll ∷ steps) own past = absurd own.0
server_clock at (Stopped client fault ∷ steps) own past = absurd own.0
server_clock at (Gave client bytes ∷ steps) own past = absurd own.0
server_clock at (Closed client ∷ steps) own past = absurd own.0
server_clock at (LeftLine client ∷ steps) own past = absurd own.0
server_clock at (Ticked now ∷ steps) own past = absurd own.0
server_clock at (Broke client ∷ steps) own past = absurd own.0
server_clock at (Loaded configuration generation ∷ steps) own past = absurd own.0
server_clock at (Linked a dialect ∷ steps) own past = server_clock at steps own.1 past
server_clock at (Asked a number dialect ask since ∷ steps) own past = server_clock at steps own.1 past
server_clock at (Greeted a dialect bytes ∷ steps) own past = server_clock at steps own.1 past
server_clock at (Noted a obstacle ∷ steps) own past = server_clock at steps own.1 past
server_clock at (Late a number limit now ∷ steps) own past = server_clock at steps own.1 past
server_clock at (CameLate a number ask answer bytes ∷ steps) own past = server_clock at steps own.1 past
server_clock at (Spelled a number ask answer bytes ∷ steps) own past = server_clock at steps own.1 past
server_clock at (Lost a why limit ∷ steps) own past = server_clock at steps own.1 past

-- nor as calls are sent
pub sending_clock : (steps : List Step) → StepsAreOf IsSending steps → (past : List Step) → clock_in (steps ++ past) ≡ clock_in past
sending_clock [] kinds past = refl
sending_clock (Settled number outcome ∷ steps) kinds past = sending_clock steps kinds.1 past
sending_clock (Opened client ∷ steps) kinds past = absurd kinds.0
sending_clock (NotOpened fault ∷ steps) kinds past = absurd kinds.0
sending_clock (Fed client piece ∷ steps) kinds past = absurd kinds.0
sending_clock (Polled client poll ∷ steps) kinds past = absurd kinds.0
sending_clock (Stopped client fault ∷ steps) kinds past = absurd kinds.0
sending_clock (Gave client bytes ∷ steps) kinds past = absurd kinds.0
sending_clock (Closed client ∷ steps) kinds past = absurd kinds.0
sending_clock (LeftLine client ∷ steps) kinds past = absurd kinds.0
sending_clock (Ticked now ∷ steps) kinds past = absurd kinds.0
sending_clock (Broke client ∷ steps) kinds past = absurd kinds.0
sending_clock (Loaded configuration generation ∷ steps) kinds past = absurd kinds.0
sending_clock (Linked at dialect ∷ steps) kinds past = sending_clock steps kinds.1 past
sending_clock (Asked at number dialect ask since ∷ steps) kinds past = sending_clock steps kinds.1 past
sending_clock (Greeted at dialect bytes ∷ steps) kinds past = absurd kinds.0
sending_clock (Noted at obstacle ∷ steps) kinds past = sending_clock steps kinds.1 past
sending_clock (Late at number limit now ∷ steps) kinds past = sending_clock steps kinds.1 past
sending_clock (CameLate at number ask answer bytes ∷ steps) kinds past = absurd kinds.0
sending_clock (Spelled at number ask answer bytes ∷ steps) kinds past = absurd kinds.0
sending_clock (Lost at why limit ∷ steps) kinds past = sending_clock steps kinds.1 past

-- and none is given out by that
pub sending_given : (steps : List Step) → StepsAreOf IsSending steps → (past : List Step) (n : ℕ) → given_in (steps ++ past) n ≡ given_in past n
sending_given [] kinds past n = refl
sending_given (Settled number outcome ∷ steps) kinds past n = sending_given steps kinds.1 past n
sending_given (Opened client ∷ steps) kinds past n = absurd kinds.0
sending_given (NotOpened fault ∷ steps) kinds past n = absurd kinds.0
sending_given (Fed client piece ∷ steps) kinds past n = absurd kinds.0
sending_given (Polled client poll ∷ steps) kinds past n = absurd kinds.0
sending_given (Stopped client fault ∷ steps) kinds past n = absurd kinds.0
sending_given (Gave client bytes ∷ steps) kinds past n = absurd kinds.0
sending_given (Closed client ∷ steps) kinds past n = absurd kinds.0
sending_given (LeftLine client ∷ steps) kinds past n = absurd kinds.0
sending_given (Ticked now ∷ steps) kinds past n = absurd kinds.0
sending_given (Broke client ∷ steps) kinds past n = absurd kinds.0
sending_given (Loaded configuration generation ∷ steps) kinds past n = absurd kinds.0
sending_given (Linked at dialect ∷ steps) kinds past n = sending_given steps kinds.1 past n
sending_given (Asked at number dialect ask since ∷ steps) kinds past n = sending_given steps kinds.1 past n
sending_given (Greeted at dialect bytes ∷ steps) kinds past n = absurd kinds.0
sending_given (Noted at obstacle ∷ steps) kinds past n = sending_given steps kinds.1 past n
sending_given (Late at number limit now ∷ steps) kinds past n = sending_given steps kinds.1 past n
sending_given (CameLate at number ask answer bytes ∷ steps) kinds past n = absurd kinds.0
sending_given (Spelled at number ask answer bytes ∷ steps) kinds past n = absurd kinds.0
sending_given (Lost at why limit ∷ steps) kinds past n = sending_given steps kinds.1 past n
