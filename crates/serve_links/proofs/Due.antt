-- Calls that are out, and those of them that are still to be asked.
use Rattle.std.proofs.Common.{◌≡◌, ◌≢◌, ℕ, ◌≤◌, Bool, true, false, if◌then◌else◌, List, [], ◌∷◌, ◌++◌, Option, Some, None, ◌⊎◌, inl, inr, refl, sym, ap, ◌∙◌, subst}
use Rattle.std.proofs.lemmas.Bool.{cases_Bool, eqb-true, eq-eqb, ne_eqb}
use Rattle.std.specs.Prelude.{nat_eq}
use Rattle.mc_types.specs.declared.ask.Ask.{Ask}
use Rattle.mc_types.specs.declared.ask.Dialect.{Dialect}
use Rattle.mc_types.specs.declared.call.Outcome.{Outcome}
use Rattle.core_commands.specs.declared.ticket.Ticket.{Ticket}
use Rattle.core_proxy.specs.declared.note.Poll.{Poll}
use Rattle.core_proxy.specs.declared.note.Poll.TheVariants as polls
use Rattle.serve_wire.proofs.Steps.{equal}
use Rattle.serve_links.specs.declared.calls.calls.SentCall.{SentCall}
use Rattle.serve_links.specs.CoreSteps.{Step, Opened, NotOpened, Fed, Polled, Stopped, Settled, Gave, Closed, LeftLine, Broke, Ticked, Loaded, Linked, Asked, Greeted, Spelled, Late, CameLate, Lost, Noted, StepsAreOf}
use Rattle.serve_links.specs.Called.{call_by, call_in, due_in, clock_in, given_in, IsGivenOnce, GivesOnce, GiveOnce}
use Rattle.serve_links.specs.Talks.{SaidAsk, Talk, behind, first_talk, with_ask, greeted, with_first_answer, turned_late, with_late, given_up, talk_in, IsCalledIn, IsNotAmong, AreDue, AreCalled, MayComeNext, IsOrderly, IsOfClients}
use Rattle.serve_links.specs.Story.{said_asks, StayOut, LeavesCalls}

none_some : {A : Type 0} {x : A} → None ≡ Some x → ⊥
none_some e = cc

same_some : {A : Type 0} {x y : A} → Some x ≡ Some y → x ≡ y
same_some e = cc

-- ---- numbers of calls

-- what is so for one number and not for another tells them apart
apart_by : (f : ℕ → Option (ℕ × Ask)) (m n : ℕ) (call : ℕ × Ask) → f m ≡ Some call → f n ≡ None → m ≢ n
apart_by f m n call some none same = none_some (sym none ∙ ap f (sym same) ∙ some)

-- calls of two servers have two numbers
apart_servers : (past : List Step) (m n i j : ℕ) (a b : Ask) → nat_eq i j ≡ false → call_in past m ≡ Some (i, a) → call_in past n ≡ Some (j, b) → m ≢ n
apart_servers past m n i j a b other of_m of_n same = two (sym other ∙ eq-eqb i j (ap (λ (c : ℕ × Ask). c.0) (same_some (sym of_m ∙ ap (call_in past) same ∙ of_n))))
  where
    two : false ≡ true → ⊥
    two e = cc

pub turned : {m n : ℕ} → m ≢ n → n ≢ m
turned apart e = apart (sym e)

among_last : (n : ℕ) (first later : List SaidAsk) → IsNotAmong n (first ++ later) → IsNotAmong n later
among_last n [] later not = not
among_last n (said ∷ first) later not = among_last n first later not.1

pub among_first : (n : ℕ) (first later : List SaidAsk) → IsNotAmong n (first ++ later) → IsNotAmong n first
among_first n [] later not = tt
among_first n (said ∷ first) later not = (not.0, among_first n first later not.1)

among_both : (n : ℕ) (first later : List SaidAsk) → IsNotAmong n first → IsNotAmong n later → IsNotAmong n (first ++ later)
among_both n [] later a b = b
among_both n (said ∷ first) later a b = (a.0, among_both n first later a.1 b)

-- ---- calls by what was done

-- what is still to be asked is out: so it stays with a poll, where something settled is out no more, and where one was asked
due_polled : (poll : Poll) (n : ℕ) (call : ℕ × Ask) (due out : Option (ℕ × Ask)) → (due ≡ Some call → out ≡ Some call) → call_by poll n due ≡ Some call → call_by poll n out ≡ Some call
due_polled (polls.Call ticket) n call due out was is = by (nat_eq ticket.number n) is
  where
    by : (b : Bool) → (if b then Some (ticket.server, ticket.ask) else due) ≡ Some call → (if b then Some (ticket.server, ticket.ask) else out) ≡ Some call
    by true e = e
    by false e = was e
due_polled polls.Idle n call due out was is = was is
due_polled polls.Own n call due out was is = was is
due_polled polls.Refused n call due out was is = was is
due_polled polls.Waiting n call due out was is = was is
due_polled polls.Queued n call due out was is = was is
due_polled polls.Busy n call due out was is = was is
due_polled (polls.Did note) n call due out was is = was is

due_settled : (b : Bool) (call : ℕ × Ask) (due out : Option (ℕ × Ask)) → (due ≡ Some call → out ≡ Some call) → (if b then None else due) ≡ Some call → (if b then None else out) ≡ Some call
due_settled true call due out was is = is
due_settled false call due out was is = was is

due_asked : (b : Bool) (call : ℕ × Ask) (due : Option (ℕ × Ask)) → (if b then None else due) ≡ Some call → due ≡ Some call
due_asked true call due is = absurd (none_some is)
due_asked false call due is = is

pub due_out : (past : List Step) (n : ℕ) (call : ℕ × Ask) → due_in past n ≡ Some call → call_in past n ≡ Some call
due_out [] n call is = is
due_out (Asked at number dialect ask since ∷ past) n call is = due_out past n call (due_asked (nat_eq number n) call (due_in past n) is)
due_out (Polled client poll ∷ past) n call is = due_polled poll n call (due_in past n) (call_in past n) (due_out past n call) is
due_out (Settled number outcome ∷ past) n call is = due_settled (nat_eq number n) call (due_in past n) (call_in past n) (due_out past n call) is
due_out (Opened client ∷ past) n call is = due_out past n call is
due_out (NotOpened fault ∷ past) n call is = due_out past n call is
due_out (Fed client piece ∷ past) n call is = due_out past n call is
due_out (Stopped client fault ∷ past) n call is = due_out past n call is
due_out (Gave client bytes ∷ past) n call is = due_out past n call is
due_out (Closed client ∷ past) n call is = due_out past n call is
due_out (LeftLine client ∷ past) n call is = due_out past n call is
due_out (Ticked now ∷ past) n call is = due_out past n call is
due_out (Broke client ∷ past) n call is = due_out past n call is
due_out (Loaded configuration generation ∷ past) n call is = due_out past n call is
due_out (Linked at dialect ∷ past) n call is = due_out past n call is
due_out (Greeted at dialect bytes ∷ past) n call is = due_out past n call is
due_out (Noted at obstacle ∷ past) n call is = due_out past n call is
due_out (Late at number limit now ∷ past) n call is = due_out past n call is
due_out (CameLate at number ask answer bytes ∷ past) n call is = due_out past n call is
due_out (Spelled at number ask answer bytes ∷ past) n call is = due_out past n call is
due_out (Lost at why limit ∷ past) n call is = due_out past n call is

-- but for these calls all are out that were, given out when they were, and still to be asked that were
abbrev pub KeepsBut : List SaidAsk → List Step → List Step → Type 0
KeepsBut gone past past' = (n : ℕ) → IsNotAmong n gone → (call_in past' n ≡ call_in past n) × (due_in past' n ≡ due_in past n) × (given_in past' n ≡ given_in past n)

-- the call of this number was settled
pub keeps_settled : (past : List Step) (number : ℕ) (outcome : Outcome) (dialect : Dialect) (ask : Ask) (since : ℕ) → KeepsBut ((number, dialect, ask, since) ∷ []) past (Settled number outcome ∷ past)
keeps_settled past number outcome dialect ask since n not =
    let other = ne_eqb number n not.0 in (ap (λ b. if b then None else call_in past n) other, ap (λ b. if b then None else due_in past n) other, refl)

pub keeps_twice : (first later : List SaidAsk) (a b c : List Step) → KeepsBut first a b → KeepsBut later b c → KeepsBut (first ++ later) a c
keeps_twice first later a b c f l n not = let x = f n (among_first n first later not) in let y = l n (among_last n first later not) in (y.0 ∙ x.0, y.1 ∙ x.1, y.2 ∙ x.2)

-- ---- calls that stay out

-- each of these is none of those
abbrev AreApart : List SaidAsk → List SaidAsk → Type 0
AreApart gone [] = Unit {0}
AreApart gone (said ∷ others) = IsNotAmong said.0 gone × AreApart gone others

-- no later than it was
as_given : {given given' since : ℕ} → given' ≡ given → given ≤ since → given' ≤ since
as_given {since = since} same was = subst (λ g. g ≤ since) (sym same) was

due_but : (gone : List SaidAsk) (past past' : List Step) (at : ℕ) (said : List SaidAsk) → KeepsBut gone past past' → AreApart gone said → AreDue past at said → AreDue past' at said
due_but gone past past' at [] keeps apart due = tt
due_but gone past past' at (one ∷ said) keeps apart due =
    let same = keeps one.0 apart.0 in (same.1 ∙ due.0, due.1, due_but gone past past' at said keeps apart.1 due.2, as_given same.2 due.3)

called_but : (gone : List SaidAsk) (past past' : List Step) (at : ℕ) (said : List SaidAsk) → KeepsBut gone past past' → AreApart gone said → AreCalled past at said → AreCalled past' at said
called_but gone past past' at [] keeps apart called = tt
called_but gone past past' at (one ∷ said) keeps apart called =
    let same = keeps one.0 apart.0 in (same.0 ∙ called.0, same.1 ∙ called.1, called.2, called_but gone past past' at said keeps apart.1 called.3)

-- those of this server
pub due_stays : (past past' : List Step) (at : ℕ) (said : List SaidAsk) → StayOut at past past' → AreDue past at said → AreDue past' at said
due_stays past past' at [] stay due = tt
due_stays past past' at (one ∷ said) stay due =
    let same = stay one.0 one.2 (due_out past one.0 (at, one.2) due.0) in (same.1 ∙ due.0, due.1, due_stays past past' at said stay due.2, as_given same.2 due.3)

pub called_stays : (past past' : List Step) (at : ℕ) (said : List SaidAsk) → StayOut at past past' → AreCalled past at said → AreCalled past' at said
called_stays past past' at [] stay called = tt
called_stays past past' at (one ∷ said) stay called =
    let same = stay one.0 one.2 called.0 in (same.0 ∙ called.0, same.1 ∙ called.1, called.2, called_stays past past' at said stay called.3)

-- where no call was given out, asked or settled
pub stay_all : (at : ℕ) (past past' : List Step) → ((n : ℕ) → call_in past' n ≡ call_in past n) → ((n : ℕ) → due_in past' n ≡ due_in past n) → ((n : ℕ) → given_in past' n ≡ given_in past n) → StayOut at past past'
stay_all at past past' calls due given = λ n ask is. (calls n, due n, given n)

pub leaves_twice : (at : ℕ) (a b c : List Step) → LeavesCalls at a b → LeavesCalls at b c → LeavesCalls at a c
leaves_twice at a b c first later = λ j other n ask is.
    let x = first j other n ask is in let y = later j other n ask (x.0 ∙ is) in (y.0 ∙ x.0, y.1 ∙ x.1, y.2 ∙ x.2)

-- ---- lists of such calls

pub said_both : (xs ys : List SentCall) → said_asks (xs ++ ys) ≡ said_asks xs ++ said_asks ys
said_both [] ys = refl
said_both (call ∷ xs) ys = ap (λ (l : List SaidAsk). (call.ticket.number, call.dialect, call.ticket.ask, call.since) ∷ l) (said_both xs ys)

due_rest : (past : List Step) (at : ℕ) (first later : List SaidAsk) → AreDue past at (first ++ later) → AreDue past at later
due_rest past at [] later due = due
due_rest past at (said ∷ first) later due = due_rest past at first later due.2

due_front : (past : List Step) (at : ℕ) (first later : List SaidAsk) → AreDue past at (first ++ later) → AreDue past at first
due_front past at [] later due = tt
due_front past at (said ∷ first) later due = (due.0, among_first said.0 first later due.1, due_front past at first later due.2, due.3)

called_rest : (past : List Step) (at : ℕ) (first later : List SaidAsk) → AreCalled past at (first ++ later) → AreCalled past at later
called_rest past at [] later called = called
called_rest past at (said ∷ first) later called = called_rest past at first later called.3

called_front : (past : List Step) (at : ℕ) (first later : List SaidAsk) → AreCalled past at (first ++ later) → AreCalled past at first
called_front past at [] later called = tt
called_front past at (said ∷ first) later called = (called.0, called.1, among_first said.0 first later called.2, called_front past at first later called.3)

-- the same of calls of a link
pub due_last : (past : List Step) (at : ℕ) (first later : List SentCall) → AreDue past at (said_asks (first ++ later)) → AreDue past at (said_asks later)
due_last past at first later due = due_rest past at (said_asks first) (said_asks later) (subst (AreDue past at) (said_both first later) due)

pub called_last : (past : List Step) (at : ℕ) (first later : List SentCall) → AreCalled past at (said_asks (first ++ later)) → AreCalled past at (said_asks later)
called_last past at first later called = called_rest past at (said_asks first) (said_asks later) (subst (AreCalled past at) (said_both first later) called)

-- one behind others
due_more : (past : List Step) (at : ℕ) (said : List SaidAsk) (one : SaidAsk) → AreDue past at said → due_in past one.0 ≡ Some (at, one.2) → IsNotAmong one.0 said → given_in past one.0 ≤ one.3 → AreDue past at (said ++ one ∷ [])
due_more past at [] one due is not given = (is, tt, tt, given)
due_more past at (first ∷ said) one due is not given = (due.0, among_both first.0 said (one ∷ []) due.1 (turned not.0, tt), due_more past at said one due.2 is not.1 given, due.3)

called_more :
    (past : List Step) (at : ℕ) (said : List SaidAsk) (one : SaidAsk) → AreCalled past at said → call_in past one.0 ≡ Some (at, one.2) → due_in past one.0 ≡ None → IsNotAmong one.0 said → AreCalled past at (said ++ one ∷ [])
called_more past at [] one called is none not = (is, none, tt, tt)
called_more past at (first ∷ said) one called is none not =
    (called.0, called.1, among_both first.0 said (one ∷ []) called.2 (turned not.0, tt), called_more past at said one called.3 is none not.1)

-- the first of them as the last
pub due_behind : (past : List Step) (at : ℕ) (calls : List SentCall) (call : SentCall) → AreDue past at (said_asks (call ∷ calls)) → AreDue past at (said_asks (calls ++ call ∷ []))
due_behind past at calls call due =
    subst (AreDue past at) (sym (said_both calls (call ∷ []))) (due_more past at (said_asks calls) (call.ticket.number, call.dialect, call.ticket.ask, call.since) due.2 due.0 due.1 due.3)

-- one from among them as the first
due_between : (past : List Step) (at : ℕ) (before : List SaidAsk) (one : SaidAsk) (after : List SaidAsk) → AreDue past at (before ++ one ∷ after) → AreDue past at (one ∷ (before ++ after))
due_between past at [] one after due = due
due_between past at (first ∷ before) one after due =
    let rest = due_between past at before one after due.2 in
    let apart = among_last first.0 before (one ∷ after) due.1 in
    (rest.0, (turned apart.0, rest.1), (due.0, among_both first.0 before after (among_first first.0 before (one ∷ after) due.1) apart.1, rest.2, due.3), rest.3)

pub due_taken : (past : List Step) (at : ℕ) (before : List SentCall) (call : SentCall) (after : List SentCall) → AreDue past at (said_asks (before ++ call ∷ after)) → AreDue past at (said_asks (call ∷ (before ++ after)))
due_taken past at before call after due =
    subst (λ l. AreDue past at ((call.ticket.number, call.dialect, call.ticket.ask, call.since) ∷ l)) (sym (said_both before after))
    (due_between past at (said_asks before) (call.ticket.number, call.dialect, call.ticket.ask, call.since) (said_asks after) (subst (AreDue past at) (said_both before (call ∷ after)) due))

-- ---- which calls have two numbers

-- one that is still to be asked is none of those that were asked
pub due_apart : (past : List Step) (at n : ℕ) (call : ℕ × Ask) (said : List SaidAsk) → due_in past n ≡ Some call → AreCalled past at said → IsNotAmong n said
due_apart past at n call [] is called = tt
due_apart past at n call (one ∷ said) is called = (turned (apart_by (due_in past) n one.0 call is called.1), due_apart past at n call said is called.3)

-- one of another server is none of them
other_apart : (past : List Step) (i j n : ℕ) (ask : Ask) (said : List SaidAsk) → nat_eq i j ≡ false → call_in past n ≡ Some (j, ask) → AreCalled past i said → IsNotAmong n said
other_apart past i j n ask [] other is called = tt
other_apart past i j n ask (one ∷ said) other is called = (apart_servers past one.0 n i j one.2 ask other called.0 is, other_apart past i j n ask said other is called.3)

other_due : (past : List Step) (i j n : ℕ) (ask : Ask) (said : List SaidAsk) → nat_eq i j ≡ false → call_in past n ≡ Some (j, ask) → AreDue past i said → IsNotAmong n said
other_due past i j n ask [] other is due = tt
other_due past i j n ask (one ∷ said) other is due = (apart_servers past one.0 n i j one.2 ask other (due_out past one.0 (i, one.2) due.0) is, other_due past i j n ask said other is due.2)

all_due_apart : (past : List Step) (at : ℕ) (waiting said : List SaidAsk) → AreDue past at waiting → AreCalled past at said → AreApart said waiting
all_due_apart past at [] said due called = tt
all_due_apart past at (one ∷ waiting) said due called = (due_apart past at one.0 (at, one.2) said due.0 called, all_due_apart past at waiting said due.2 called)

all_called_apart : (past : List Step) (at : ℕ) (waiting said : List SaidAsk) → AreDue past at waiting → AreCalled past at said → AreApart waiting said
all_called_apart past at waiting [] due called = tt
all_called_apart past at waiting (one ∷ said) due called = (not waiting due, all_called_apart past at waiting said due called.3)
  where
    not : (w : List SaidAsk) → AreDue past at w → IsNotAmong one.0 w
    not [] d = tt
    not (first ∷ w) d = (apart_by (due_in past) first.0 one.0 (at, first.2) d.0 called.1, not w d.2)

-- the last are none of the first
apart_more : (first : SaidAsk) (gone left : List SaidAsk) → IsNotAmong first.0 left → AreApart gone left → AreApart (first ∷ gone) left
apart_more first gone [] not apart = tt
apart_more first gone (one ∷ left) not apart = ((turned not.0, apart.0), apart_more first gone left not.1 apart.1)

none_apart : (said : List SaidAsk) → AreApart [] said
none_apart [] = tt
none_apart (one ∷ said) = (tt, none_apart said)

called_parts : (past : List Step) (at : ℕ) (gone left : List SaidAsk) → AreCalled past at (gone ++ left) → AreApart gone left
called_parts past at [] left called = none_apart left
called_parts past at (first ∷ gone) left called = apart_more first gone left (among_last first.0 gone left called.2) (called_parts past at gone left called.3)

due_parts : (past : List Step) (at : ℕ) (gone left : List SaidAsk) → AreDue past at (gone ++ left) → AreApart gone left
due_parts past at [] left due = none_apart left
due_parts past at (first ∷ gone) left due = apart_more first gone left (among_last first.0 gone left due.1) (due_parts past at gone left due.2)

-- ---- calls of a server that are gone

-- the first of those that were asked are: the others are as they were, and so are those that wait, and those of other servers
pub record SentGone (at : ℕ) (past past' : List Step) (left waiting : List SentCall) : Type 0 where
  pub called : AreCalled past' at (said_asks left)
  pub due : AreDue past' at (said_asks waiting)
  pub others : LeavesCalls at past past'

pub sent_gone :
    (at : ℕ) (past past' : List Step) (gone left waiting : List SentCall) → KeepsBut (said_asks gone) past past' → AreCalled past at (said_asks (gone ++ left)) → AreDue past at (said_asks waiting)
    → SentGone at past past' left waiting
sent_gone at past past' gone left waiting keeps called due = record {
  called = called_but (said_asks gone) past past' at (said_asks left) keeps (called_parts past at (said_asks gone) (said_asks left) all) (called_rest past at (said_asks gone) (said_asks left) all);
  due = due_but (said_asks gone) past past' at (said_asks waiting) keeps (all_due_apart past at (said_asks waiting) (said_asks gone) due mine) due;
  others = λ j other n ask is. keeps n (other_apart past at j n ask (said_asks gone) other is mine);
}
  where
    all : AreCalled past at (said_asks gone ++ said_asks left)
    all = subst (AreCalled past at) (said_both gone left) called

    mine : AreCalled past at (said_asks gone)
    mine = called_front past at (said_asks gone) (said_asks left) all

-- the first of those that wait are
pub waiting_gone :
    (at : ℕ) (past past' : List Step) (gone left sent : List SentCall) → KeepsBut (said_asks gone) past past' → AreDue past at (said_asks (gone ++ left)) → AreCalled past at (said_asks sent) → SentGone at past past' sent left
waiting_gone at past past' gone left sent keeps due called = record {
  called = called_but (said_asks gone) past past' at (said_asks sent) keeps (all_called_apart past at (said_asks gone) (said_asks sent) mine called) called;
  due = due_but (said_asks gone) past past' at (said_asks left) keeps (due_parts past at (said_asks gone) (said_asks left) all) (due_rest past at (said_asks gone) (said_asks left) all);
  others = λ j other n ask is. keeps n (other_due past at j n ask (said_asks gone) other is mine);
}
  where
    all : AreDue past at (said_asks gone ++ said_asks left)
    all = subst (AreDue past at) (said_both gone left) due

    mine : AreDue past at (said_asks gone)
    mine = due_front past at (said_asks gone) (said_asks left) all

-- one that is in hand is: all that agree but with it stay as they were
pub hand_gone :
    (past past' : List Step) (at number : ℕ) (ask : Ask) (said : SaidAsk) → said.0 ≡ number → due_in past number ≡ Some (at, ask) → KeepsBut (said ∷ []) past past' → (j : ℕ) (sent waiting : List SentCall)
    → (at ≡ j → IsNotAmong number (said_asks waiting)) → AreCalled past j (said_asks sent) → AreDue past j (said_asks waiting) → AreCalled past' j (said_asks sent) × AreDue past' j (said_asks waiting)
hand_gone past past' at number ask said same is keeps j sent waiting apart called due = (
  called_but (said ∷ []) past past' j (said_asks sent) keeps (each (said_asks sent) (due_apart past j number (at, ask) (said_asks sent) is called)) called,
  due_but (said ∷ []) past past' j (said_asks waiting) keeps (each (said_asks waiting) not) due,
)
  where
    each : (l : List SaidAsk) → IsNotAmong number l → AreApart (said ∷ []) l
    each [] not = tt
    each (one ∷ l) not = ((λ e. not.0 (sym e ∙ same), tt), each l not.1)

    not : IsNotAmong number (said_asks waiting)
    not = elim (cases_Bool (nat_eq j at)) [ inl e ↦ apart (sym (eqb-true j at e)) | inr e ↦ other_due past j at number ask (said_asks waiting) e (due_out past number (at, ask) is) due ]

-- ---- a call that was asked

pub record AskedOne (at : ℕ) (past past' : List Step) (sent : List SentCall) (call : SentCall) (waiting : List SentCall) : Type 0 where
  pub called : AreCalled past' at (said_asks (sent ++ call ∷ []))
  pub due : AreDue past' at (said_asks waiting)
  pub others : LeavesCalls at past past'

pub asked_one :
    (at : ℕ) (past : List Step) (sent : List SentCall) (call : SentCall) (waiting : List SentCall) → AreCalled past at (said_asks sent) → AreDue past at (said_asks (call ∷ waiting))
    → AskedOne at past (Asked at call.ticket.number call.dialect call.ticket.ask call.since ∷ past) sent call waiting
asked_one at past sent call waiting called due = record {
  called = subst (AreCalled past' at) (sym (said_both sent (call ∷ []))) (called_more past' at (said_asks sent) said (still (said_asks sent) called) out (ap (λ b. if b then None else due_in past said.0) (equal said.0)) (due_apart past at said.0 (at, said.2) (said_asks sent) due.0 called));
  due = waits (said_asks waiting) due.1 due.2;
  others = λ j other n ask is. (refl, ap (λ b. if b then None else due_in past n) (ne_eqb said.0 n (apart_servers past said.0 n at j said.2 ask other out is)), refl);
}
  where
    said : SaidAsk
    said = (call.ticket.number, call.dialect, call.ticket.ask, call.since)

    past' : List Step
    past' = Asked at call.ticket.number call.dialect call.ticket.ask call.since ∷ past

    out : call_in past said.0 ≡ Some (at, said.2)
    out = due_out past said.0 (at, said.2) due.0

    none_by : (b : Bool) (o : Option (ℕ × Ask)) → o ≡ None → (if b then None else o) ≡ None
    none_by true o e = refl
    none_by false o e = e

    still : (l : List SaidAsk) → AreCalled past at l → AreCalled past' at l
    still [] c = tt
    still (one ∷ l) c = (c.0, none_by (nat_eq said.0 one.0) (due_in past one.0) c.1, c.2, still l c.3)

    waits : (l : List SaidAsk) → IsNotAmong said.0 l → AreDue past at l → AreDue past' at l
    waits [] not d = tt
    waits (one ∷ l) not d = (ap (λ b. if b then None else due_in past one.0) (ne_eqb said.0 one.0 (turned not.0)) ∙ d.0, d.1, waits l not.1 d.2, d.3)

-- ---- calls that are given out

-- none of its number was out: all that were stay so
pub stay_polled : (at client : ℕ) (poll : Poll) (past : List Step) → IsGivenOnce poll past → StayOut at past (Polled client poll ∷ past)
stay_polled at client (polls.Call ticket) past once = λ n ask is.
    let other = ne_eqb ticket.number n (turned (apart_by (call_in past) n ticket.number (at, ask) is once)) in
    (ap (λ b. if b then Some (ticket.server, ticket.ask) else call_in past n) other, ap (λ b. if b then Some (ticket.server, ticket.ask) else due_in past n) other, ap (λ b. if b then clock_in past else given_in past n) other)
stay_polled at client polls.Idle past once = λ n ask is. (refl, refl, refl)
stay_polled at client polls.Own past once = λ n ask is. (refl, refl, refl)
stay_polled at client polls.Refused past once = λ n ask is. (refl, refl, refl)
stay_polled at client polls.Waiting past once = λ n ask is. (refl, refl, refl)
stay_polled at client polls.Queued past once = λ n ask is. (refl, refl, refl)
stay_polled at client polls.Busy past once = λ n ask is. (refl, refl, refl)
stay_polled at client (polls.Did note) past once = λ n ask is. (refl, refl, refl)

-- ---- what servers have out

-- where nothing of this changes
same_out : (past past' : List Step) (at : ℕ) → ((n : ℕ) → call_in past' n ≡ call_in past n) → ((n : ℕ) → due_in past' n ≡ due_in past n) → ((n : ℕ) → given_in past' n ≡ given_in past n) → (talk_in past' at).out ≡ (talk_in past at).out → AreCalled past at (talk_in past at).out
    → AreCalled past' at (talk_in past' at).out
same_out past past' at calls due given out was =
    subst (AreCalled past' at) (sym out) (called_stays past past' at (talk_in past at).out (stay_all at past past' calls due given) was)

-- or the first is out no more, or none is
abbrev IsLess : List SaidAsk → List SaidAsk → Type 0
IsLess l l' = (l' ≡ l) ⊎ (l' ≡ behind l) ⊎ (l' ≡ [])

called_behind : (past : List Step) (at : ℕ) (l : List SaidAsk) → AreCalled past at l → AreCalled past at (behind l)
called_behind past at [] are = tt
called_behind past at (one ∷ l) are = are.3

less_out : (past past' : List Step) (at : ℕ) → ((n : ℕ) → call_in past' n ≡ call_in past n) → ((n : ℕ) → due_in past' n ≡ due_in past n) → ((n : ℕ) → given_in past' n ≡ given_in past n) → IsLess (talk_in past at).out (talk_in past' at).out → AreCalled past at (talk_in past at).out
    → AreCalled past' at (talk_in past' at).out
less_out past past' at calls due given (inl same) was = same_out past past' at calls due given same was
less_out past past' at calls due given (inr (inl one)) was =
    subst (AreCalled past' at) (sym one) (called_stays past past' at (behind (talk_in past at).out) (stay_all at past past' calls due given) (called_behind past at (talk_in past at).out was))
less_out past past' at calls due given (inr (inr none)) was = subst (AreCalled past' at) (sym none) tt

-- by whether a step tells of this server
out_by : (b : Bool) (t t' : Talk) → IsLess t.out t'.out → IsLess t.out (if b then t' else t).out
out_by true t t' less = less
out_by false t t' less = inl refl

-- one more is, where it was still to be asked
asked_out :
    (past : List Step) (at i number : ℕ) (dialect : Dialect) (ask : Ask) (since : ℕ) → due_in past number ≡ Some (i, ask) → AreCalled past at (talk_in past at).out
    → AreCalled (Asked i number dialect ask since ∷ past) at (talk_in (Asked i number dialect ask since ∷ past) at).out
asked_out past at i number dialect ask since due was = elim (cases_Bool (nat_eq i at)) [ inl e ↦ mine (eqb-true i at e) e | inr e ↦ other e ]
  where
    step : Step
    step = Asked i number dialect ask since

    none_by : (b : Bool) (x : Option (ℕ × Ask)) → x ≡ None → (if b then None else x) ≡ None
    none_by true x e = refl
    none_by false x e = e

    still : (l : List SaidAsk) → AreCalled past at l → AreCalled (step ∷ past) at l
    still [] c = tt
    still (one ∷ l) c = (c.0, none_by (nat_eq number one.0) (due_in past one.0) c.1, c.2, still l c.3)

    mine : i ≡ at → nat_eq i at ≡ true → AreCalled (step ∷ past) at (talk_in (step ∷ past) at).out
    mine same e =
        let here : due_in past number ≡ Some (at, ask) = subst (λ k. due_in past number ≡ Some (k, ask)) same due in
        subst (AreCalled (step ∷ past) at) (sym (ap (λ b. (if b then with_ask number dialect ask since (talk_in past at) else talk_in past at).out) e))
        (called_more (step ∷ past) at (talk_in past at).out (number, dialect, ask, since) (still (talk_in past at).out was) (due_out past number (at, ask) here) (ap (λ b. if b then None else due_in past number) (equal number)) (due_apart past at number (at, ask) (talk_in past at).out here was))

    other : nat_eq i at ≡ false → AreCalled (step ∷ past) at (talk_in (step ∷ past) at).out
    other e = subst (AreCalled (step ∷ past) at) (sym (ap (λ b. (if b then with_ask number dialect ask since (talk_in past at) else talk_in past at).out) e)) (still (talk_in past at).out was)

-- each call that a server has out is out in the core, and asks there what was asked
pub out_called : (past : List Step) (at : ℕ) → IsOrderly past → AreCalled past at (talk_in past at).out
out_called [] at o = tt
out_called (Linked i dialect ∷ past) at o = less_out past (Linked i dialect ∷ past) at (λ n. refl) (λ n. refl) (λ n. refl) (out_by (nat_eq i at) (talk_in past at) (first_talk dialect (talk_in past at).failed) (inr (inr refl))) (out_called past at o.1)
out_called (Asked i number dialect ask since ∷ past) at o = asked_out past at i number dialect ask since o.0.1 (out_called past at o.1)
out_called (Greeted i dialect bytes ∷ past) at o =
    less_out past (Greeted i dialect bytes ∷ past) at (λ n. refl) (λ n. refl) (λ n. refl) (out_by (nat_eq i at) (talk_in past at) (greeted dialect bytes (talk_in past at)) (inl refl)) (out_called past at o.1)
out_called (Noted i obstacle ∷ past) at o = same_out past (Noted i obstacle ∷ past) at (λ n. refl) (λ n. refl) (λ n. refl) refl (out_called past at o.1)
out_called (Spelled i number ask answer bytes ∷ past) at o =
    less_out past (Spelled i number ask answer bytes ∷ past) at (λ n. refl) (λ n. refl) (λ n. refl) (out_by (nat_eq i at) (talk_in past at) (with_first_answer bytes (talk_in past at)) (inr (inl refl))) (out_called past at o.1)
out_called (Late i number limit now ∷ past) at o = less_out past (Late i number limit now ∷ past) at (λ n. refl) (λ n. refl) (λ n. refl) (out_by (nat_eq i at) (talk_in past at) (turned_late (talk_in past at)) (inr (inl refl))) (out_called past at o.1)
out_called (CameLate i number ask answer bytes ∷ past) at o =
    less_out past (CameLate i number ask answer bytes ∷ past) at (λ n. refl) (λ n. refl) (λ n. refl) (out_by (nat_eq i at) (talk_in past at) (with_late bytes (talk_in past at)) (inl refl)) (out_called past at o.1)
out_called (Lost i why limit ∷ past) at o = less_out past (Lost i why limit ∷ past) at (λ n. refl) (λ n. refl) (λ n. refl) (out_by (nat_eq i at) (talk_in past at) (given_up why (talk_in past at)) (inr (inr refl))) (out_called past at o.1)
out_called (Settled number outcome ∷ past) at o = still (talk_in past at).out (o.0.0.nowhere at) (out_called past at o.1)
  where
    still : (l : List SaidAsk) → IsNotAmong number l → AreCalled past at l → AreCalled (Settled number outcome ∷ past) at l
    still [] not c = tt
    still (one ∷ l) not c =
        let other = ne_eqb number one.0 (turned not.0) in
        (ap (λ b. if b then None else call_in past one.0) other ∙ c.0, ap (λ b. if b then None else due_in past one.0) other ∙ c.1, c.2, still l not.1 c.3)
out_called (Polled client poll ∷ past) at o = called_stays past (Polled client poll ∷ past) at (talk_in past at).out (stay_polled at client poll past o.0) (out_called past at o.1)
out_called (Opened client ∷ past) at o = same_out past (Opened client ∷ past) at (λ n. refl) (λ n. refl) (λ n. refl) refl (out_called past at o.1)
out_called (NotOpened fault ∷ past) at o = same_out past (NotOpened fault ∷ past) at (λ n. refl) (λ n. refl) (λ n. refl) refl (out_called past at o.1)
out_called (Fed client piece ∷ past) at o = same_out past (Fed client piece ∷ past) at (λ n. refl) (λ n. refl) (λ n. refl) refl (out_called past at o.1)
out_called (Stopped client fault ∷ past) at o = same_out past (Stopped client fault ∷ past) at (λ n. refl) (λ n. refl) (λ n. refl) refl (out_called past at o.1)
out_called (Gave client bytes ∷ past) at o = same_out past (Gave client bytes ∷ past) at (λ n. refl) (λ n. refl) (λ n. refl) refl (out_called past at o.1)
out_called (Closed client ∷ past) at o = same_out past (Closed client ∷ past) at (λ n. refl) (λ n. refl) (λ n. refl) refl (out_called past at o.1)
out_called (LeftLine client ∷ past) at o = same_out past (LeftLine client ∷ past) at (λ n. refl) (λ n. refl) (λ n. refl) refl (out_called past at o.1)
out_called (Ticked now ∷ past) at o = same_out past (Ticked now ∷ past) at (λ n. refl) (λ n. refl) (λ n. refl) refl (out_called past at o.1)
out_called (Broke client ∷ past) at o = same_out past (Broke client ∷ past) at (λ n. refl) (λ n. refl) (λ n. refl) refl (out_called past at o.1)
out_called (Loaded configuration generation ∷ past) at o = same_out past (Loaded configuration generation ∷ past) at (λ n. refl) (λ n. refl) (λ n. refl) refl (out_called past at o.1)

-- so no server has a call out that is still to be asked
pub due_nowhere : (past : List Step) (n : ℕ) (call : ℕ × Ask) → IsOrderly past → due_in past n ≡ Some call → (j : ℕ) → IsNotAmong n (talk_in past j).out
due_nowhere past n call o is j = due_apart past j n call (talk_in past j).out is (out_called past j o)

-- nor one that its own server hasn't
pub own_nowhere : (past : List Step) (at n : ℕ) (ask : Ask) → IsOrderly past → call_in past n ≡ Some (at, ask) → IsNotAmong n (talk_in past at).out → (j : ℕ) → IsNotAmong n (talk_in past j).out
own_nowhere past at n ask o is not j = elim (cases_Bool (nat_eq j at)) [ inl e ↦ subst (λ k. IsNotAmong n (talk_in past k).out) (sym (eqb-true j at e)) not | inr e ↦ other_apart past j at n ask (talk_in past j).out e is (out_called past j o) ]

-- ---- steps of clients

-- all calls that were out stay so
pub clients_stay : (at : ℕ) (steps : List Step) → StepsAreOf IsOfClients steps → (past : List Step) → GiveOnce steps past → StayOut at past (steps ++ past)
clients_stay at [] kinds past once = λ n ask is. (refl, refl, refl)
clients_stay at (step ∷ steps) kinds past once = λ n ask is.
    let before = clients_stay at steps kinds.1 past once.1 n ask is in
    let last = by step kinds.0 (steps ++ past) once.0 n ask (before.0 ∙ is) in (last.0 ∙ before.0, last.1 ∙ before.1, last.2 ∙ before.2)
  where
    by : (s : Step) → IsOfClients s → (before : List Step) → GivesOnce s before → StayOut at before (s ∷ before)
    by (Polled client poll) is before once = stay_polled at client poll before once
    by (Opened client) is before once = λ n ask out. (refl, refl, refl)
    by (NotOpened fault) is before once = λ n ask out. (refl, refl, refl)
    by (Fed client piece) is before once = λ n ask out. (refl, refl, refl)
    by (Stopped client fault) is before once = λ n ask out. (refl, refl, refl)
    by (Gave client bytes) is before once = λ n ask out. (refl, refl, refl)
    by (Closed client) is before once = λ n ask out. (refl, refl, refl)
    by (LeftLine client) is before once = λ n ask out. (refl, refl, refl)
    by (Ticked now) is before once = absurd is
    by (Broke client) is before once = λ n ask out. (refl, refl, refl)
    by (Loaded configuration generation) is before once = λ n ask out. (refl, refl, refl)
    by (Settled number outcome) is before once = absurd is
    by (Linked i dialect) is before once = absurd is
    by (Asked i number dialect ask since) is before once = absurd is
    by (Greeted i dialect bytes) is before once = absurd is
    by (Noted i obstacle) is before once = absurd is
    by (Late i number limit now) is before once = absurd is
    by (CameLate i number ask answer bytes) is before once = absurd is
    by (Spelled i number ask answer bytes) is before once = absurd is
    by (Lost i why limit) is before once = absurd is

-- ---- a call that was given out

-- the call is still to be asked, and without it none of its number is out: so it is after one more step
given_after :
    (step : Step) (past virtual : List Step) (ticket : Ticket) → MayComeNext step past → MayComeNext step virtual → (due_in past ticket.number ≡ Some (ticket.server, ticket.ask)) × (call_in virtual ticket.number ≡ None)
    → (due_in (step ∷ past) ticket.number ≡ Some (ticket.server, ticket.ask)) × (call_in (step ∷ virtual) ticket.number ≡ None)
given_after (Polled c poll) past virtual ticket real may was = by poll real
  where
    n : ℕ
    n = ticket.number

    by : (p : Poll) → IsGivenOnce p past → (call_by p n (due_in past n) ≡ Some (ticket.server, ticket.ask)) × (call_by p n (call_in virtual n) ≡ None)
    by (polls.Call other) once =
        let apart = ne_eqb other.number n (turned (apart_by (call_in past) n other.number (ticket.server, ticket.ask) (due_out past n (ticket.server, ticket.ask) was.0) once)) in
        (ap (λ b. if b then Some (other.server, other.ask) else due_in past n) apart ∙ was.0, ap (λ b. if b then Some (other.server, other.ask) else call_in virtual n) apart ∙ was.1)
    by polls.Idle once = was
    by polls.Own once = was
    by polls.Refused once = was
    by polls.Waiting once = was
    by polls.Queued once = was
    by polls.Busy once = was
    by (polls.Did note) once = was
given_after (Settled number outcome) past virtual ticket real may was =
    let n = ticket.number in let apart = ne_eqb number n (apart_by (call_in virtual) number n may.0.call may.0.is_out was.1) in
    (ap (λ b. if b then None else due_in past n) apart ∙ was.0, ap (λ b. if b then None else call_in virtual n) apart ∙ was.1)
given_after (Asked i number dialect ask since) past virtual ticket real may was =
    let n = ticket.number in let apart = ne_eqb number n (apart_by (call_in virtual) number n (i, ask) (due_out virtual number (i, ask) may.1) was.1) in (ap (λ b. if b then None else due_in past n) apart ∙ was.0, was.1)
given_after (Opened c) past virtual ticket real may was = was
given_after (NotOpened fault) past virtual ticket real may was = was
given_after (Fed c piece) past virtual ticket real may was = was
given_after (Stopped c fault) past virtual ticket real may was = was
given_after (Gave c bytes) past virtual ticket real may was = was
given_after (Closed c) past virtual ticket real may was = was
given_after (LeftLine c) past virtual ticket real may was = was
given_after (Ticked now) past virtual ticket real may was = was
given_after (Broke c) past virtual ticket real may was = was
given_after (Loaded configuration generation) past virtual ticket real may was = was
given_after (Linked i dialect) past virtual ticket real may was = was
given_after (Greeted i dialect bytes) past virtual ticket real may was = was
given_after (Noted i obstacle) past virtual ticket real may was = was
given_after (Late i number limit now) past virtual ticket real may was = was
given_after (CameLate i number ask answer bytes) past virtual ticket real may was = was
given_after (Spelled i number ask answer bytes) past virtual ticket real may was = was
given_after (Lost i why limit) past virtual ticket real may was = was

-- with it and without it all was in order: it is still to be asked, and without it none of its number is out
given_out :
    (later earlier : List Step) (client : ℕ) (ticket : Ticket) → IsOrderly (later ++ Polled client (polls.Call ticket) ∷ earlier) → IsOrderly (later ++ earlier)
    → (due_in (later ++ Polled client (polls.Call ticket) ∷ earlier) ticket.number ≡ Some (ticket.server, ticket.ask)) × (call_in (later ++ earlier) ticket.number ≡ None)
given_out [] earlier client ticket o without = (ap (λ b. if b then Some (ticket.server, ticket.ask) else due_in earlier ticket.number) (equal ticket.number), o.0)
given_out (step ∷ later) earlier client ticket o without =
    given_after step (later ++ Polled client (polls.Call ticket) ∷ earlier) (later ++ earlier) ticket o.0 without.0 (given_out later earlier client ticket o.1 without.1)

-- so it is due besides what was due without it
pub one_due : (past : List Step) (number at : ℕ) (ask : Ask) (c : IsCalledIn past number at ask) → IsOrderly past → IsOrderly (c.later ++ c.earlier) → due_in past number ≡ Some (at, ask)
one_due past number at ask c o without =
    let given = (given_out c.later c.earlier c.client c.ticket (subst IsOrderly c.was o) without).0 in
    ap (due_in past) (sym c.number_is) ∙ ap (λ l. due_in l c.ticket.number) c.was ∙ given ∙ ap (λ (k : ℕ). Some (k, c.ticket.ask)) c.server_is ∙ ap (λ (a : Ask). Some (at, a)) c.ask_is

pub one_apart :
    (past : List Step) (number at : ℕ) (ask : Ask) (c : IsCalledIn past number at ask) (said : List SaidAsk) → IsOrderly past → IsOrderly (c.later ++ c.earlier) → AreDue (c.later ++ c.earlier) at said → IsNotAmong number said
one_apart past number at ask c said o without due = by said due
  where
    none : call_in (c.later ++ c.earlier) number ≡ None
    none = ap (call_in (c.later ++ c.earlier)) (sym c.number_is) ∙ (given_out c.later c.earlier c.client c.ticket (subst IsOrderly c.was o) without).1

    by : (l : List SaidAsk) → AreDue (c.later ++ c.earlier) at l → IsNotAmong number l
    by [] d = tt
    by (one ∷ l) d = (apart_by (call_in (c.later ++ c.earlier)) one.0 number (at, one.2) (due_out (c.later ++ c.earlier) one.0 (at, one.2) d.0) none, by l d.2)
