-- What bytes spelled to calls is what servers answered to them.
use Rattle.std.proofs.Common.{◌≡◌, ℕ, ◌+◌, Bool, true, false, cond, List, [], ◌∷◌, ◌++◌, length, Option, Some, None, ◌⊎◌, inl, inr, ⊎_elim, refl, sym, ap, ◌∙◌, subst, arith, nat_eq}
use Rattle.std.proofs.lemmas.Bool.{eqb-true, eq-eqb}
use Rattle.mc_types.specs.declared.ask.Ask.{Ask}
use Rattle.mc_types.specs.declared.ask.Dialect.{Dialect}
use Rattle.mc_types.specs.declared.answer.Answer.{Answer}
use Rattle.mc_types.specs.declared.call.Origin.{Origin}
use Rattle.mc_types.specs.declared.call.Outcome.{Outcome}
use Rattle.mc_types.specs.declared.call.Outcome.TheVariants.{Answered, Failed}
use Rattle.fresh_runs.specs.Calls.{Call, End, Read, Unread, Never, outcome_of}
use Rattle.fresh_runs.specs.Run.{Event, Begins, Calls, Replies, Breaks, Turns, Restarts, calls_so_far}
use Rattle.fresh_runs.specs.Overlap.{Ticket, Entry, run_of}
use Rattle.fresh_runs.proofs.Runs.{differs, differ, second}
use Rattle.core_proxy.specs.CoreState.{dialect}
use Rattle.core_accepted.specs.Late as at_servers
use Rattle.core_accepted.specs.Late.{Moment, Lands, seen}
use Rattle.core_accepted.specs.Pipes.{PipeStep, behind_first, IsFirstIn, pipe_of}
use Rattle.core_accepted.specs.Parts.{PipesInOrder}
use Rattle.core_accepted.specs.LateCores.{only_line}
use Rattle.serve_links.specs.declared.news.Cause.{Cause}
use Rattle.serve_links.specs.declared.news.Cause.TheVariants as causes
use Rattle.serve_links.specs.declared.settings.Greeting.{Greeting}
use Rattle.serve_links.specs.CoreSteps.{Step, Opened, NotOpened, Fed, Polled, Stopped, Settled, Gave, Closed, LeftLine, Broke, Ticked, Loaded, Linked, Asked, Greeted, Spelled, Late, CameLate, Lost, Noted}
use Rattle.serve_links.specs.Called.{call_in, due_in}
use Rattle.serve_links.specs.Talks.{SaidAsk, Standing, Apart, InUse, Ending, standing_after, Talk, behind, first_of_asks, first_talk, with_ask, greeted, with_first_answer, turned_late, with_late, given_up, talk_in, IsAmong, IsNotAmong, AreCalled, IsNextAnswer, IsFirstOut, IsNextLate, MayComeNext, IsOrderly}
use Rattle.serve_links.specs.InOrder.{Move, OfProxy, OfServer, walk_of, log_of, with_commands, moments_in, with_moves, closed_if, with_step, as_pipes, out_origin, AreApplied, CallIsAwaited, TellAlike, TellAlways}
use Rattle.serve_links.proofs.InOrder.{connections_are_in_order}
use Rattle.serve_links.proofs.Due.{out_called, stay_polled}
use Rattle.fresh_theory.specs.Spelled.{GivenAnswer, behind_answer, after_read, unread, IsFirstGiven, SpellsGiven, AnswersCome, SameKind, AreSameCalls, TellKinds, settled_by, HasMore, AreTold, SpelledTellAlways, InOrderHappensAlong}
use Rattle.fresh_theory.proofs.GivenLines.{Out, Stand, AreApart, not_among, stand_map, out_asked, out_has, stand_applied, stand_landed, stand_turned}

-- ---- lists of calls

no_call : {A : Type 0} (call : Call) (calls : List Call) → call ∷ calls ≡ [] → A
no_call call calls e = absurd (let f = e in cc)

empty_more : {A : Type 0} (calls : List Call) (call : Call) → calls ++ call ∷ [] ≡ [] → A
empty_more [] call e = no_call call [] e
empty_more (c ∷ calls) call e = no_call c (calls ++ call ∷ []) e

head_tail : (a b : Call) (xs ys : List Call) → a ∷ xs ≡ b ∷ ys → (a ≡ b) × (xs ≡ ys)
head_tail a b xs ys e = (cc, cc)

last_same : (xs ys : List Call) (a b : Call) → xs ++ a ∷ [] ≡ ys ++ b ∷ [] → (xs ≡ ys) × (a ≡ b)
last_same [] [] a b e = (refl, (head_tail a b [] [] e).0)
last_same [] (y ∷ ys) a b e = empty_more ys b (sym (head_tail a y [] (ys ++ b ∷ []) e).1)
last_same (x ∷ xs) [] a b e = empty_more xs a (head_tail x b (xs ++ a ∷ []) [] e).1
last_same (x ∷ xs) (y ∷ ys) a b e =
    let h = head_tail x y (xs ++ a ∷ []) (ys ++ b ∷ []) e in
    let l = last_same xs ys a b h.1 in
    (ap (λ z. z ∷ xs) h.0 ∙ ap (λ zs. y ∷ zs) l.0, l.1)

longer : (xs : List Call) (a : Call) → length (xs ++ a ∷ []) ≡ length xs + 1
longer [] a = refl
longer (x ∷ xs) a = let e = longer xs a in omega (arith, e)

same_length : (xs ys : List Call) → AreSameCalls xs ys → length xs ≡ length ys
same_length [] [] h = refl
same_length [] (y ∷ ys) h = absurd h
same_length (x ∷ xs) [] h = absurd h
same_length (x ∷ xs) (y ∷ ys) h = let e = same_length xs ys h.4 in omega (arith, e)

-- what the last two have in common
abbrev AreAlike : Call → Call → Type 0
AreAlike a b = (a.server ≡ b.server) × (a.ask ≡ b.ask) × (a.origin ≡ b.origin) × SameKind a.outcome b.outcome

last_alike : (xs : List Call) (a b : Call) → AreSameCalls (xs ++ a ∷ []) (xs ++ b ∷ []) → AreAlike a b
last_alike [] a b h = (h.0, h.1, h.2, h.3)
last_alike (x ∷ xs) a b h = last_alike xs a b h.4

call_same : (a b : Call) → a.server ≡ b.server → a.ask ≡ b.ask → a.origin ≡ b.origin → a.outcome ≡ b.outcome → a ≡ b
call_same a b server ask origin outcome = λ i. record { server = server i; ask = ask i; origin = origin i; outcome = outcome i }

same_outcome : (x y : Outcome) → SameKind x y → ((a b : Answer) → x ≡ Answered a → y ≡ Answered b → a ≡ b) → x ≡ y
same_outcome (Answered a) (Answered b) kind same = ap Answered (same a b refl refl)
same_outcome (Answered a) Failed kind same = absurd kind
same_outcome Failed (Answered b) kind same = absurd kind
same_outcome Failed Failed kind same = refl

answer_is : (a b : Answer) → Answered a ≡ Answered b → a ≡ b
answer_is a b e = cc

not_failed : {A : Type 0} (a : Answer) → Failed ≡ Answered a → A
not_failed a e = absurd (let f = e in cc)

-- ---- what happened, and the log

abbrev happened : List Move → ℕ → List Call
happened moves n = calls_so_far (seen (moments_in moves)) n

abbrev logged : List Move → ℕ → List Call
logged moves n = calls_so_far (run_of (log_of moves)) n

-- a call of the command was answered so, and the log doesn't have it yet
abbrev Pending : List Move → ℕ → Answer → Type 0
Pending moves n a = (call : Call) × (happened moves n ≡ logged moves n ++ call ∷ []) × (call.outcome ≡ Answered a)

-- by what a command does no call has ended
still : (events : List Event) (moments : List Moment) (n : ℕ) → calls_so_far (seen (with_commands events moments)) n ≡ calls_so_far (seen moments) n
still [] moments n = refl
still (Begins number ask ∷ events) moments n = still events moments n
still (Replies number key reply from ∷ events) moments n = still events moments n
still (Breaks number ∷ events) moments n = still events moments n
still (Calls number server ask origin end ∷ events) moments n = still events moments n
still (Turns server key turned ∷ events) moments n = still events moments n
still (Restarts server ∷ events) moments n = still events moments n

-- the step settles no call of this number
abbrev NotSettled : Option (ℕ × Outcome) → ℕ → Type 0
NotSettled None n = Unit {0}
NotSettled (Some settled) n = nat_eq settled.0 n ≡ false

-- a call that the step settles by an answer had that answer
abbrev IsRight : (ℕ → Answer → Type 0) → Option (ℕ × Outcome) → Type 0
IsRight P None = Unit {0}
IsRight P (Some settled) = (a b : Answer) → settled.1 ≡ Answered b → P settled.0 a → a ≡ b

module _ (step : Step) (entries : List (Entry dialect)) (past : List Move) (was : TellAlike past) where
  abbrev now : List Move
  now = OfProxy step entries ∷ past

  same_happened : (n : ℕ) → happened now n ≡ happened past n
  same_happened n = still (run_of entries) (moments_in past) n

  -- where the log has no call more, less than before is told to be pending
  less_plain : (n : ℕ) (a : Answer) → logged now n ≡ logged past n → Pending now n a → Pending past n a
  less_plain n a more p = (p.0, sym (same_happened n) ∙ p.1 ∙ ap (λ l. l ++ p.0 ∷ []) more, p.2)

  -- and where it has one, none is
  none_more : (n : ℕ) (a : Answer) (call : Call) → logged now n ≡ logged past n ++ call ∷ [] → Pending now n a → ⊥
  none_more n a call more p =
      let now_is = ap length (sym (same_happened n) ∙ p.1 ∙ ap (λ l. l ++ p.0 ∷ []) more) in
      let two = longer (logged past n ++ call ∷ []) p.0 in
      let one = longer (logged past n) call in
      ⊎_elim
      (λ e. let is = ap length e in omega (arith, now_is, two, one, is))
      (λ f. let is = ap length f.1 in let last = longer (logged past n) f.0 in omega (arith, now_is, two, one, is, last))
      (was n)

  pending_before : (said : Option (ℕ × Outcome)) → HasMore said entries (log_of past) → (n : ℕ) (a : Answer) → Pending now n a → Pending past n a × NotSettled said n
  pending_before None more n a p = (less_plain n a (more n) p, tt)
  pending_before (Some settled) more n a p =
      (elim (nat_eq settled.0 n) as (λ b. nat_eq settled.0 n ≡ b → logged now n ≡ cond b (logged past n ++ more.0 ∷ []) (logged past n) → Pending past n a × (nat_eq settled.0 n ≡ false)) [
        | true ↦ λ _ has. absurd (none_more n a more.0 has p)
        | false ↦ λ not has. (less_plain n a has p, not)
      ]) refl (more.2 n)

  -- where the log has no call more, both tell as before
  alike_plain : TellKinds now → (n : ℕ) → logged now n ≡ logged past n → (happened now n ≡ logged now n) ⊎ ((call : Call) × (happened now n ≡ logged now n ++ call ∷ []) × CallIsAwaited (log_of now) n call)
  alike_plain kinds n more =
      ⊎_elim
      (λ e. inl (same_happened n ∙ e ∙ sym more))
      (λ f. ⊎_elim
      (λ k. absurd (let l = same_length (happened now n) (logged now n) k in let m = ap length more in let h = ap length (same_happened n ∙ f.1) in let o = longer (logged past n) f.0 in omega (arith, l, m, h, o)))
      (λ k. let is = last_same k.0 (logged past n) k.1 f.0 (sym k.2 ∙ same_happened n ∙ f.1) in inr (k.1, k.2 ∙ ap (λ l. l ++ k.1 ∷ []) (is.0 ∙ sym more), k.4))
      (kinds n))
      (was n)

  -- where it has one more, that is the one that had ended
  alike_more : TellKinds now → (n : ℕ) (call : Call) → logged now n ≡ logged past n ++ call ∷ [] → ((a b : Answer) → call.outcome ≡ Answered b → Pending past n a → a ≡ b) → happened now n ≡ logged now n
  alike_more kinds n call more right =
      let o = longer (logged past n) call in
      let m = ap length more in
      ⊎_elim
      (λ e. absurd (let h = ap length (same_happened n ∙ e) in
      ⊎_elim
      (λ k. let l = same_length (happened now n) (logged now n) k in omega (arith, l, m, h, o))
      (λ k. let l = same_length k.0 (logged now n) k.3 in let two = longer k.0 k.1 in let g = ap length k.2 in omega (arith, l, m, h, o, two, g))
      (kinds n)))
      (λ f. ⊎_elim
      (λ k.
      let both : AreSameCalls (logged past n ++ f.0 ∷ []) (logged past n ++ call ∷ []) = subst (λ l. AreSameCalls (logged past n ++ f.0 ∷ []) l) more (subst (λ l. AreSameCalls l (logged now n)) (same_happened n ∙ f.1) k) in
      let alike = last_alike (logged past n) f.0 call both in
      let outcome = same_outcome f.0.outcome call.outcome alike.3 (λ a b e g. right a b g (f.0, f.1, e)) in
      same_happened n ∙ f.1 ∙ ap (λ c. logged past n ++ c ∷ []) (call_same f.0 call alike.0 alike.1 alike.2 outcome) ∙ sym more)
      (λ k. absurd (let l = same_length k.0 (logged now n) k.3 in let two = longer k.0 k.1 in let g = ap length k.2 in let h = ap length (same_happened n ∙ f.1) in let p = longer (logged past n) f.0 in omega (arith, l, m, h, o, two, g, p)))
      (kinds n))
      (was n)

  alike_now : (said : Option (ℕ × Outcome)) → HasMore said entries (log_of past) → TellKinds now → IsRight (Pending past) said → TellAlike now
  alike_now None more kinds right n = alike_plain kinds n (more n)
  alike_now (Some settled) more kinds right n =
      (elim (nat_eq settled.0 n) as (λ b. nat_eq settled.0 n ≡ b → logged now n ≡ cond b (logged past n ++ more.0 ∷ []) (logged past n) → (happened now n ≡ logged now n) ⊎ ((call : Call) × (happened now n ≡ logged now n ++ call ∷ []) × CallIsAwaited (log_of now) n call)) [
        | true ↦ λ is has. inl (alike_more kinds n more.0 has (λ a b e p. right a b (sym more.1 ∙ e) (subst (λ k. Pending past k a) (sym (eqb-true settled.0 n is)) p)))
        | false ↦ λ _ has. alike_plain kinds n has
      ]) refl (more.2 n)

-- ---- what was said over connections

never_used : {A : Type 0} (why : Option Cause) → standing_after why ≡ InUse → A
never_used None e = absurd cc
never_used (Some causes.Unreachable) e = absurd cc
never_used (Some causes.ConnectLate) e = absurd cc
never_used (Some causes.AnswerLate) e = absurd cc
never_used (Some causes.Closed) e = absurd cc
never_used (Some causes.Broken) e = absurd cc
never_used (Some causes.ForeignAnswer) e = absurd cc
never_used (Some causes.NoRoom) e = absurd cc
never_used (Some causes.VainReads) e = absurd cc

no_said : {A : Type 0} (x : SaidAsk) (xs : List SaidAsk) (l : List SaidAsk) → l ≡ [] → l ≡ x ∷ xs → A
no_said x xs l e f = absurd (let g = sym e ∙ f in cc)

-- over a connection in use answers, and what is still to be applied, stand in the order of what was asked; else nothing is awaited
abbrev Lined : (ℕ → Answer → Type 0) → Talk → List GivenAnswer → List Ticket → Type 0
Lined P talk us ts = ((talk.stands ≡ InUse) × Stand P talk.late talk.out us ts) ⊎ ((talk.stands ≡ InUse → ⊥) × (talk.late ≡ []) × (talk.out ≡ []))

lined_map : (P Q : ℕ → Answer → Type 0) (talk : Talk) (us : List GivenAnswer) (ts : List Ticket) → ((n : ℕ) (a : Answer) → IsAmong n talk.out → Q n a → P n a) → Lined P talk us ts → Lined Q talk us ts
lined_map P Q talk us ts less (inl h) = inl (h.0, stand_map P Q talk.late talk.out us ts less h.1)
lined_map P Q talk us ts less (inr h) = inr h

module _ (P : ℕ → Answer → Type 0) where
  linked_line : (b : Bool) (talk : Talk) (greeting : Greeting) (us : List GivenAnswer) (ts : List Ticket) → Lined P talk us ts → Lined P (cond b (first_talk greeting talk.failed) talk) (cond b [] us) (cond b [] ts)
  linked_line true talk greeting us ts was = inl (refl, tt)
  linked_line false talk greeting us ts was = was

  greeted_line : (b : Bool) (talk : Talk) (spoken : Dialect) (bytes : List ℕ) (us : List GivenAnswer) (ts : List Ticket) → Lined P talk us ts → Lined P (cond b (greeted spoken bytes talk) talk) us ts
  greeted_line true talk spoken bytes us ts was = was
  greeted_line false talk spoken bytes us ts was = was

  lost_line : (b : Bool) (talk : Talk) (why : Option Cause) (us : List GivenAnswer) (ts ts' : List Ticket) → (b ≡ false → ts' ≡ ts) → Lined P talk us ts → Lined P (cond b (given_up why talk) talk) us ts'
  lost_line true talk why us ts ts' same was = inr ((λ e. never_used why e), refl, refl)
  lost_line false talk why us ts ts' same was = subst (Lined P talk us) (sym (same refl)) was

  asked_line :
      (b : Bool) (talk : Talk) (number : ℕ) (spoken : Dialect) (ask : Ask) (since : ℕ) (us : List GivenAnswer) (ts : List Ticket) (ticket : Ticket) → ticket.number ≡ number → (b ≡ true → (talk.stands ≡ InUse) × (talk.late ≡ []))
      → ((a : Answer) → P number a → ⊥) → Lined P talk us ts → Lined P (cond b (with_ask number spoken ask since talk) talk) us (cond b (ts ++ ticket ∷ []) ts)
  asked_line true talk number spoken ask since us ts ticket same may none (inl h) =
      let late = (may refl).1 in
      let out : Out P talk.out us ts = subst (λ l. Stand P l talk.out us ts) late h.1 in
      inl (h.0, subst (λ l. Stand P l (talk.out ++ (number, spoken, ask, since) ∷ []) us (ts ++ ticket ∷ [])) (sym late) (out_asked P talk.out us ts (number, spoken, ask, since) ticket same none out))
  asked_line true talk number spoken ask since us ts ticket same may none (inr h) = absurd (h.0 (may refl).0)
  asked_line false talk number spoken ask since us ts ticket same may none was = was

  -- the first that is out was answered so
  module _ (talk : Talk) (number : ℕ) (ask : Ask) (answer : Answer) (bytes : List ℕ) (us : List GivenAnswer) (ts : List Ticket) (next : IsNextAnswer number ask answer bytes talk) (given : IsFirstGiven answer us) where
    abbrev first_said : SaidAsk
    first_said = (number, next.dialect, ask, next.since)

    spelled_stand : Lined P talk us ts → (talk.stands ≡ InUse) × Stand P [] (first_said ∷ next.others) ((given.0, answer) ∷ given.1) ts
    spelled_stand (inl h) =
        (h.0, subst (λ l. Stand P l (first_said ∷ next.others) ((given.0, answer) ∷ given.1) ts) next.none_late (subst (λ l. Stand P talk.late l ((given.0, answer) ∷ given.1) ts) next.is_first (subst (λ l. Stand P talk.late talk.out l ts) given.2 h.1)))
    spelled_stand (inr h) = no_said first_said next.others talk.out h.2 next.is_first

    spelled_there : Lined P talk us ts → Lined P (with_first_answer bytes talk) (behind_answer us) ts
    spelled_there was =
        let h = spelled_stand was in
        inl (h.0, subst (λ l. Stand P l (behind talk.out) (behind_answer us) ts) (sym next.none_late) (subst (λ l. Out P (behind l) (behind_answer us) ts) (sym next.is_first) (subst (λ l. Out P next.others (behind_answer l) ts) (sym given.2) h.1.2)))

  spelled_line :
      (b : Bool) (talk : Talk) (number : ℕ) (ask : Ask) (answer : Answer) (bytes : List ℕ) (us : List GivenAnswer) (ts : List Ticket) → (b ≡ true → IsNextAnswer number ask answer bytes talk × IsFirstGiven answer us)
      → Lined P talk us ts → Lined P (cond b (with_first_answer bytes talk) talk) (cond b (behind_answer us) us) ts
  spelled_line true talk number ask answer bytes us ts may was = let m = may refl in spelled_there talk number ask answer bytes us ts m.0 m.1 was
  spelled_line false talk number ask answer bytes us ts may was = was

  came_line :
      (b : Bool) (talk : Talk) (number : ℕ) (ask : Ask) (answer : Answer) (bytes : List ℕ) (us : List GivenAnswer) (ts : List Ticket) → (b ≡ true → IsNextLate number ask answer bytes talk × IsFirstGiven answer us)
      → Lined P talk us ts → Lined P (cond b (with_late bytes talk) talk) (cond b (behind_answer us) us) ts
  came_line true talk number ask answer bytes us ts may (inl h) =
      let next = (may refl).0 in
      let given = (may refl).1 in
      let first : SaidAsk = (number, next.dialect, ask, next.since) in
      let stand : Stand P (first ∷ next.others) talk.out ((given.0, answer) ∷ given.1) ts = subst (λ l. Stand P l talk.out ((given.0, answer) ∷ given.1) ts) next.is_first (subst (λ l. Stand P talk.late talk.out l ts) given.2 h.1) in
      inl (h.0, subst (λ l. Stand P (behind l) talk.out (behind_answer us) ts) (sym next.is_first) (subst (λ l. Stand P next.others talk.out (behind_answer l) ts) (sym given.2) stand.2))
  came_line true talk number ask answer bytes us ts may (inr h) = let next = (may refl).0 in no_said (number, next.dialect, ask, next.since) next.others talk.late h.1 next.is_first
  came_line false talk number ask answer bytes us ts may was = was

  late_line :
      (b : Bool) (talk : Talk) (number : ℕ) (us : List GivenAnswer) (ts : List Ticket) → (b ≡ true → IsFirstOut number talk) → AreApart talk.out
      → Lined P talk us ts → Lined P (cond b (turned_late talk) talk) us ts
  late_line true talk number us ts may apart (inl h) =
      let out = may refl in
      let first : SaidAsk = (number, out.dialect, out.ask, out.since) in
      let stand : Stand P talk.late (first ∷ out.others) us ts = subst (λ l. Stand P talk.late l us ts) out.is_first h.1 in
      let own : IsNotAmong number out.others = (subst AreApart out.is_first apart).0 in
      inl (h.0, subst (λ l. Stand P (talk.late ++ first_of_asks l) (behind l) us ts) (sym out.is_first) (stand_turned P talk.late first out.others us ts own stand))
  late_line true talk number us ts may apart (inr h) = let out = may refl in no_said (number, out.dialect, out.ask, out.since) out.others talk.out h.2 out.is_first
  late_line false talk number us ts may apart was = was

  -- what had failed is applied
  landed_line :
      (b : Bool) (talk : Talk) (number : ℕ) (ask : Ask) (origin : Origin) (answer : Answer) (us : List GivenAnswer) (ts : List Ticket) → (b ≡ true → IsFirstIn ts number ask origin)
      → Lined P talk us ts → Lined P talk (cond b (us ++ (number, answer) ∷ []) us) (cond b (behind_first ts) ts)
  landed_line true talk number ask origin answer us ts may (inl h) =
      let first = may refl in
      let ticket : Ticket = record { number = number; ask = ask; origin = origin } in
      inl (h.0, subst (λ l. Stand P talk.late talk.out (us ++ (number, answer) ∷ []) (behind_first l)) (sym first.1) (stand_landed P talk.late talk.out us ticket first.0 answer (subst (λ l. Stand P talk.late talk.out us l) first.1 h.1)))
  landed_line true talk number ask origin answer us ts may (inr h) = inr h
  landed_line false talk number ask origin answer us ts may was = was

-- a call is applied, and its answer is to be read
read_line :
    (P Q : ℕ → Answer → Type 0) (b : Bool) (talk : Talk) (number : ℕ) (ask : Ask) (origin : Origin) (answer : Answer) (us : List GivenAnswer) (ts : List Ticket) → (b ≡ true → IsFirstIn ts number ask origin) → AreApart talk.out
    → ((n : ℕ) (a : Answer) → (n ≡ number → ⊥) → Q n a → P n a) → ((a : Answer) → Q number a → a ≡ answer) → (b ≡ false → (n : ℕ) (a : Answer) → IsAmong n talk.out → Q n a → P n a)
    → Lined P talk us ts → Lined Q talk (cond b (us ++ (number, answer) ∷ []) us) (cond b (behind_first ts) ts)
read_line P Q true talk number ask origin answer us ts may apart less claim away (inl h) =
    let first = may refl in
    let ticket : Ticket = record { number = number; ask = ask; origin = origin } in
    inl (h.0, subst (λ l. Stand Q talk.late talk.out (us ++ (number, answer) ∷ []) (behind_first l)) (sym first.1) (stand_applied P Q talk.late talk.out us ticket first.0 answer apart less claim (subst (λ l. Stand P talk.late talk.out us l) first.1 h.1)))
read_line P Q true talk number ask origin answer us ts may apart less claim away (inr h) = inr h
read_line P Q false talk number ask origin answer us ts may apart less claim away was = lined_map P Q talk us ts (away refl) was

apart_out : (steps : List Step) (at : ℕ) (said : List SaidAsk) → AreCalled steps at said → AreApart said
apart_out steps at [] called = tt
apart_out steps at (x ∷ xs) called = (called.2, apart_out steps at xs called.3)

closed_pipe : (s : Standing) (at i : ℕ) (steps : List PipeStep) → nat_eq at i ≡ false → pipe_of only_line (closed_if s at steps) 0 i ≡ pipe_of only_line steps 0 i
closed_pipe Apart at i steps other = second (nat_eq at i) [] (pipe_of only_line steps 0 i) other
closed_pipe InUse at i steps other = refl
closed_pipe Ending at i steps other = refl

pipe_still : (events : List Event) (steps : List PipeStep) (i : ℕ) → pipe_of only_line (with_moves events steps) 0 i ≡ pipe_of only_line steps 0 i
pipe_still [] steps i = refl
pipe_still (Begins number ask ∷ events) steps i = pipe_still events steps i
pipe_still (Replies number key reply from ∷ events) steps i = pipe_still events steps i
pipe_still (Breaks number ∷ events) steps i = pipe_still events steps i
pipe_still (Calls number server ask origin end ∷ events) steps i = pipe_still events steps i
pipe_still (Turns server key turned ∷ events) steps i = pipe_still events steps i
pipe_still (Restarts server ∷ events) steps i = pipe_still events steps i

no_due : (at : ℕ) (ask : Ask) → ◌≡◌ {A = Option (ℕ × Ask)} None (Some (at, ask)) → ⊥
no_due at ask e = cc

-- in a step of the proxy
lined_step :
    (P : ℕ → Answer → Type 0) (step : Step) (past : List Move) → MayComeNext step (walk_of past) → SpellsGiven step past → IsOrderly (walk_of past)
    → ((n : ℕ) (a : Answer) → P n a → due_in (walk_of past) n ≡ None) → (s : ℕ) → Lined P (talk_in (walk_of past) s) (unread past s) (pipe_of only_line (as_pipes past) 0 s)
    → Lined P (talk_in (step ∷ walk_of past) s) (after_read step s (unread past s)) (pipe_of only_line (with_step step (log_of past) (as_pipes past)) 0 s)
lined_step P (Linked at greeting) past may given orderly asked s was = linked_line P (nat_eq at s) (talk_in (walk_of past) s) greeting (unread past s) (pipe_of only_line (as_pipes past) 0 s) was
lined_step P (Asked at number spoken ask since) past may given orderly asked s was =
    asked_line P (nat_eq at s) (talk_in (walk_of past) s) number spoken ask since (unread past s) (pipe_of only_line (as_pipes past) 0 s) (record { number = number; ask = ask; origin = out_origin (log_of past) at number }) refl
    (λ same. subst (λ k. ((talk_in (walk_of past) k).stands ≡ InUse) × ((talk_in (walk_of past) k).late ≡ [])) (eqb-true at s same) (may.5, may.2))
    (λ a p. no_due at ask (sym (asked number a p) ∙ may.1)) was
lined_step P (Lost at why limit) past may given orderly asked s was =
    lost_line P (nat_eq at s) (talk_in (walk_of past) s) why (unread past s) (pipe_of only_line (as_pipes past) 0 s) _ (λ other. closed_pipe (standing_after why) at s (as_pipes past) other) was
lined_step P (Greeted at spoken bytes) past may given orderly asked s was = greeted_line P (nat_eq at s) (talk_in (walk_of past) s) spoken bytes (unread past s) (pipe_of only_line (as_pipes past) 0 s) was
lined_step P (Late at number limit time) past may given orderly asked s was =
    late_line P (nat_eq at s) (talk_in (walk_of past) s) number (unread past s) (pipe_of only_line (as_pipes past) 0 s) (λ same. subst (λ k. IsFirstOut number (talk_in (walk_of past) k)) (eqb-true at s same) may.0)
    (apart_out (walk_of past) s (talk_in (walk_of past) s).out (out_called (walk_of past) s orderly)) was
lined_step P (CameLate at number ask answer bytes) past may given orderly asked s was =
    came_line P (nat_eq at s) (talk_in (walk_of past) s) number ask answer bytes (unread past s) (pipe_of only_line (as_pipes past) 0 s)
    (λ same. subst (λ k. IsNextLate number ask answer bytes (talk_in (walk_of past) k) × IsFirstGiven answer (unread past k)) (eqb-true at s same) (may, given)) was
lined_step P (Spelled at number ask answer bytes) past may given orderly asked s was =
    spelled_line P (nat_eq at s) (talk_in (walk_of past) s) number ask answer bytes (unread past s) (pipe_of only_line (as_pipes past) 0 s)
    (λ same. subst (λ k. IsNextAnswer number ask answer bytes (talk_in (walk_of past) k) × IsFirstGiven answer (unread past k)) (eqb-true at s same) (may, given)) was
lined_step P (Noted at obstacle) past may given orderly asked s was = was
lined_step P (Opened client) past may given orderly asked s was = was
lined_step P (NotOpened fault) past may given orderly asked s was = was
lined_step P (Fed client piece) past may given orderly asked s was = was
lined_step P (Polled client poll) past may given orderly asked s was = was
lined_step P (Stopped client fault) past may given orderly asked s was = was
lined_step P (Settled number outcome) past may given orderly asked s was = was
lined_step P (Gave client bytes) past may given orderly asked s was = was
lined_step P (Closed client) past may given orderly asked s was = was
lined_step P (LeftLine client) past may given orderly asked s was = was
lined_step P (Ticked time) past may given orderly asked s was = was
lined_step P (Broke client) past may given orderly asked s was = was
lined_step P (Loaded configuration generation) past may given orderly asked s was = was

-- what is pending is out in the core, and was asked
abbrev WasGiven : List Step → ℕ → Type 0
WasGiven steps n = (c : ℕ × Ask) × (call_in steps n ≡ Some c) × (due_in steps n ≡ None)

given_step : (step : Step) (steps : List Step) (n : ℕ) → MayComeNext step steps → NotSettled (settled_by step) n → WasGiven steps n → WasGiven (step ∷ steps) n
given_step (Polled client poll) steps n may not g = let stays = stay_polled g.0.0 client poll steps may n g.0.1 g.1 in (g.0, stays.0 ∙ g.1, stays.1 ∙ g.2)
given_step (Settled number outcome) steps n may not g = (g.0, ap (λ b. cond b None (call_in steps n)) not ∙ g.1, ap (λ b. cond b None (due_in steps n)) not ∙ g.2)
given_step (Asked at number spoken ask since) steps n may not g = (g.0, g.1, due_none (nat_eq number n) (due_in steps n) g.2)
  where
    due_none : (b : Bool) (due : Option (ℕ × Ask)) → due ≡ None → cond b None due ≡ None
    due_none true due e = refl
    due_none false due e = e
given_step (Linked at greeting) steps n may not g = g
given_step (Lost at why limit) steps n may not g = g
given_step (Greeted at spoken bytes) steps n may not g = g
given_step (Late at number limit time) steps n may not g = g
given_step (CameLate at number ask answer bytes) steps n may not g = g
given_step (Spelled at number ask answer bytes) steps n may not g = g
given_step (Noted at obstacle) steps n may not g = g
given_step (Opened client) steps n may not g = g
given_step (NotOpened fault) steps n may not g = g
given_step (Fed client piece) steps n may not g = g
given_step (Stopped client fault) steps n may not g = g
given_step (Gave client bytes) steps n may not g = g
given_step (Closed client) steps n may not g = g
given_step (LeftLine client) steps n may not g = g
given_step (Ticked time) steps n may not g = g
given_step (Broke client) steps n may not g = g
given_step (Loaded configuration generation) steps n may not g = g

-- ---- the call whose answer was just spelled

abbrev spelled_by : Step → Option (ℕ × (ℕ × Answer))
spelled_by (Spelled at number ask answer bytes) = Some (at, (number, answer))
spelled_by _ = None

-- it was answered so, if it was, and nothing of it stands in its connection
abbrev JustFor : (ℕ → Answer → Type 0) → Option (ℕ × (ℕ × Answer)) → List Step → Type 0
JustFor P None steps = Unit {0}
JustFor P (Some said) steps =
    (ask : Ask) × (call_in steps said.1.0 ≡ Some (said.0, ask)) × ((talk_in steps said.0).stands ≡ InUse) × ((talk_in steps said.0).late ≡ []) × IsNotAmong said.1.0 (talk_in steps said.0).out
    × ((a : Answer) → P said.1.0 a → a ≡ said.1.1)

abbrev Just : (ℕ → Answer → Type 0) → List Step → Type 0
Just P [] = Unit {0}
Just P (step ∷ steps) = JustFor P (spelled_by step) (step ∷ steps)

just_map : (P Q : ℕ → Answer → Type 0) (steps : List Step) → ((said : ℕ × (ℕ × Answer)) → JustFor P (Some said) steps → (a : Answer) → Q said.1.0 a → P said.1.0 a) → Just P steps → Just Q steps
just_map P Q [] less just = tt
just_map P Q (step ∷ steps) less just = by (spelled_by step) just
  where
    by : (said : Option (ℕ × (ℕ × Answer))) → JustFor P said (step ∷ steps) → JustFor Q said (step ∷ steps)
    by None j = tt
    by (Some said) j = (j.0, j.1, j.2, j.3, j.4, λ a q. j.5 a (less said j a q))

just_spelled :
    (P : ℕ → Answer → Type 0) (at number : ℕ) (ask : Ask) (answer : Answer) (bytes : List ℕ) (past : List Move) → IsNextAnswer number ask answer bytes (talk_in (walk_of past) at) → IsFirstGiven answer (unread past at) → IsOrderly (walk_of past)
    → Lined P (talk_in (walk_of past) at) (unread past at) (pipe_of only_line (as_pipes past) 0 at) → Just P (Spelled at number ask answer bytes ∷ walk_of past)
just_spelled P at number ask answer bytes past next given orderly was =
    let talk = talk_in (walk_of past) at in
    let here = eq-eqb at at refl in
    let stand = spelled_stand P talk number ask answer bytes (unread past at) (pipe_of only_line (as_pipes past) 0 at) next given was in
    let called : AreCalled (walk_of past) at ((number, next.dialect, ask, next.since) ∷ next.others) = subst (AreCalled (walk_of past) at) next.is_first (out_called (walk_of past) at orderly) in (
      ask,
      called.0,
      ap (λ b. (cond b (with_first_answer bytes talk) talk).stands) here ∙ stand.0,
      ap (λ b. (cond b (with_first_answer bytes talk) talk).late) here ∙ next.none_late,
      subst (λ b. IsNotAmong number (cond b (with_first_answer bytes talk) talk).out) (sym here) (subst (λ l. IsNotAmong number (behind l)) (sym next.is_first) called.2),
      stand.1.1,
    )

just_step :
    (P : ℕ → Answer → Type 0) (step : Step) (past : List Move) → MayComeNext step (walk_of past) → SpellsGiven step past → IsOrderly (walk_of past)
    → ((s : ℕ) → Lined P (talk_in (walk_of past) s) (unread past s) (pipe_of only_line (as_pipes past) 0 s)) → Just P (step ∷ walk_of past)
just_step P (Spelled at number ask answer bytes) past may given orderly was = just_spelled P at number ask answer bytes past may given orderly (was at)
just_step P (Linked at greeting) past may given orderly was = tt
just_step P (Asked at number spoken ask since) past may given orderly was = tt
just_step P (Lost at why limit) past may given orderly was = tt
just_step P (Greeted at spoken bytes) past may given orderly was = tt
just_step P (Late at number limit time) past may given orderly was = tt
just_step P (CameLate at number ask answer bytes) past may given orderly was = tt
just_step P (Noted at obstacle) past may given orderly was = tt
just_step P (Opened client) past may given orderly was = tt
just_step P (NotOpened fault) past may given orderly was = tt
just_step P (Fed client piece) past may given orderly was = tt
just_step P (Polled client poll) past may given orderly was = tt
just_step P (Stopped client fault) past may given orderly was = tt
just_step P (Settled number outcome) past may given orderly was = tt
just_step P (Gave client bytes) past may given orderly was = tt
just_step P (Closed client) past may given orderly was = tt
just_step P (LeftLine client) past may given orderly was = tt
just_step P (Ticked time) past may given orderly was = tt
just_step P (Broke client) past may given orderly was = tt
just_step P (Loaded configuration generation) past may given orderly was = tt

-- so a call that is settled by an answer had that answer
right_step : (P : ℕ → Answer → Type 0) (step : Step) (steps : List Step) → MayComeNext step steps → Just P steps → IsRight P (settled_by step)
right_step P (Settled number (Answered answer)) steps may just = λ a b e p. (let then = subst (Just P) may.1.last just in then.5 a p ∙ answer_is answer b e)
right_step P (Settled number Failed) steps may just = λ a b e p. not_failed b e
right_step P (Spelled at number ask answer bytes) steps may just = tt
right_step P (Linked at greeting) steps may just = tt
right_step P (Asked at number spoken ask since) steps may just = tt
right_step P (Lost at why limit) steps may just = tt
right_step P (Greeted at spoken bytes) steps may just = tt
right_step P (Late at number limit time) steps may just = tt
right_step P (CameLate at number ask answer bytes) steps may just = tt
right_step P (Noted at obstacle) steps may just = tt
right_step P (Opened client) steps may just = tt
right_step P (NotOpened fault) steps may just = tt
right_step P (Fed client piece) steps may just = tt
right_step P (Polled client poll) steps may just = tt
right_step P (Stopped client fault) steps may just = tt
right_step P (Gave client bytes) steps may just = tt
right_step P (Closed client) steps may just = tt
right_step P (LeftLine client) steps may just = tt
right_step P (Ticked time) steps may just = tt
right_step P (Broke client) steps may just = tt
right_step P (Loaded configuration generation) steps may just = tt

-- ---- all of it, at each time

record Kept (moves : List Move) : Type 0 where
  alike : TellAlike moves
  lines : (s : ℕ) → Lined (Pending moves) (talk_in (walk_of moves) s) (unread moves s) (pipe_of only_line (as_pipes moves) 0 s)
  given : (n : ℕ) (a : Answer) → Pending moves n a → WasGiven (walk_of moves) n
  just : Just (Pending moves) (walk_of moves)

kept_step :
    (step : Step) (entries : List (Entry dialect)) (past : List Move) → MayComeNext step (walk_of past) → SpellsGiven step past → IsOrderly (walk_of past) → TellKinds (OfProxy step entries ∷ past) → HasMore (settled_by step) entries (log_of past)
    → Kept past → Kept (OfProxy step entries ∷ past)
kept_step step entries past may answer orderly kinds more was =
    let less = pending_before step entries past was.alike (settled_by step) more in
    let P = Pending (OfProxy step entries ∷ past) in
    let lines : (s : ℕ) → Lined P (talk_in (walk_of past) s) (unread past s) (pipe_of only_line (as_pipes past) 0 s) =
    λ s. lined_map (Pending past) P (talk_in (walk_of past) s) (unread past s) (pipe_of only_line (as_pipes past) 0 s) (λ n a among p. (less n a p).0) (was.lines s) in
    record {
      alike = alike_now step entries past was.alike (settled_by step) more kinds (right_step (Pending past) step (walk_of past) may was.just);
      lines = λ s.
          subst (Lined P (talk_in (step ∷ walk_of past) s) (after_read step s (unread past s))) (sym (pipe_still (run_of entries) (with_step step (log_of past) (as_pipes past)) s))
          (lined_step P step past may answer orderly (λ n a p. (was.given n a (less n a p).0).2) s (lines s));
      given = λ n a p. let l = less n a p in given_step step (walk_of past) n may l.1 (was.given n a l.0);
      just = just_step P step past may answer orderly lines;
    }

-- a call of the command ended just now: none was pending
ended_now :
    (place number server : ℕ) (ask : Ask) (origin : Origin) (end : End) (past : List Move) → TellKinds (OfServer place (at_servers.Does (Calls number server ask origin end)) ∷ past) → TellAlike past
    → (happened past number ≡ logged past number) × CallIsAwaited (log_of past) number (record { server = server; ask = ask; origin = origin; outcome = outcome_of end })
ended_now place number server ask origin end past kinds was =
    let its : Call = record { server = server; ask = ask; origin = origin; outcome = outcome_of end } in
    let now_is : happened (OfServer place (at_servers.Does (Calls number server ask origin end)) ∷ past) number ≡ happened past number ++ its ∷ [] = ap (λ b. cond b (happened past number ++ its ∷ []) (happened past number)) (eq-eqb number number refl) in
    let one = longer (happened past number) its in
    let g = ap length now_is in
    ⊎_elim
    (λ e. ⊎_elim
    (λ k. absurd (let l = same_length _ (logged past number) k in let h = ap length e in omega (arith, l, h, one, g)))
    (λ k. let is = last_same (happened past number) k.0 its k.1 (sym now_is ∙ k.2) in (e, subst (λ (c : Call). CallIsAwaited (log_of past) number c) (sym is.1) k.4))
    (kinds number))
    (λ f. absurd (let h = ap length f.1 in let two = longer (logged past number) f.0 in ⊎_elim
    (λ k. let l = same_length _ (logged past number) k in omega (arith, l, h, one, g, two))
    (λ k. let l = same_length k.0 (logged past number) k.3 in let m = ap length k.2 in let three = longer k.0 k.1 in omega (arith, l, h, one, g, two, m, three))
    (kinds number)))
    (was number)

module _ (place number server : ℕ) (ask : Ask) (origin : Origin) (end : End) (past : List Move) (ended : (happened past number ≡ logged past number) × CallIsAwaited (log_of past) number (record { server = server; ask = ask; origin = origin; outcome = outcome_of end })) where
  abbrev then_moves : List Move
  then_moves = OfServer place (at_servers.Does (Calls number server ask origin end)) ∷ past

  abbrev this_call : Call
  this_call = record { server = server; ask = ask; origin = origin; outcome = outcome_of end }

  this_is : happened then_moves number ≡ logged past number ++ this_call ∷ []
  this_is = ap (λ b. cond b (happened past number ++ this_call ∷ []) (happened past number)) (eq-eqb number number refl) ∙ ap (λ l. l ++ this_call ∷ []) ended.0

  alike_ended : TellAlike past → TellAlike then_moves
  alike_ended was n =
      (elim (nat_eq number n) as (λ b. nat_eq number n ≡ b → (cond b (happened past n ++ this_call ∷ []) (happened past n) ≡ logged past n) ⊎ ((call : Call) × (cond b (happened past n ++ this_call ∷ []) (happened past n) ≡ logged past n ++ call ∷ []) × CallIsAwaited (log_of past) n call)) [
        | true ↦ λ is. let e = eqb-true number n is in inr (this_call, ap (λ l. l ++ this_call ∷ []) (subst (λ k. happened past k ≡ logged past k) e ended.0), subst (λ k. CallIsAwaited (log_of past) k this_call) e ended.1)
        | false ↦ λ _. was n
      ]) refl

  -- of other commands the same is pending
  others_before : (n : ℕ) (a : Answer) → (n ≡ number → ⊥) → Pending then_moves n a → Pending past n a
  others_before n a other p = (p.0, sym (second (nat_eq number n) (happened past n ++ this_call ∷ []) (happened past n) (differs number n (λ e. other (sym e)))) ∙ p.1, p.2)

  -- of this one its outcome is
  this_pending : (a : Answer) → Pending then_moves number a → outcome_of end ≡ Answered a
  this_pending a p = ap (λ (c : Call). c.outcome) (last_same (logged past number) (logged past number) this_call p.0 (sym this_is ∙ p.1)).1 ∙ p.2

  -- where it failed nothing more is pending
  failed_before : outcome_of end ≡ Failed → (n : ℕ) (a : Answer) → Pending then_moves n a → Pending past n a
  failed_before failed n a p =
      (elim (nat_eq number n) as (λ b. nat_eq number n ≡ b → Pending past n a) [
        | true ↦ λ is. not_failed a (sym failed ∙ this_pending a (subst (λ k. Pending then_moves k a) (sym (eqb-true number n is)) p))
        | false ↦ λ other. others_before n a (λ e. differ number n other (sym e)) p
      ]) refl

abbrev server_in : Option (ℕ × Ask) → ℕ
server_in None = 0
server_in (Some call) = call.0

same_pair : (a b : ℕ) (x y : Ask) → ◌≡◌ {A = Option (ℕ × Ask)} (Some (a, x)) (Some (b, y)) → a ≡ b
same_pair a b x y e = ap server_in e

-- a call that stands first in its connection isn't the one whose answer was just spelled
first_unlike :
    (past : List Move) (P : ℕ → Answer → Type 0) (number server : ℕ) (ask : Ask) (origin : Origin) → call_in (walk_of past) number ≡ Some (server, ask) → IsFirstIn (pipe_of only_line (as_pipes past) 0 server) number ask origin
    → ((s : ℕ) → Lined P (talk_in (walk_of past) s) (unread past s) (pipe_of only_line (as_pipes past) 0 s)) → (said : ℕ × (ℕ × Answer)) → JustFor P (Some said) (walk_of past) → said.1.0 ≡ number → ⊥
first_unlike past P number server ask origin called first lines said just same = by (lines at)
  where
    at : ℕ
    at = said.0

    there : at ≡ server
    there = same_pair at server just.0 ask (sym just.1 ∙ ap (call_in (walk_of past)) same ∙ called)

    first_there : IsFirstIn (pipe_of only_line (as_pipes past) 0 at) number ask origin
    first_there = subst (λ k. IsFirstIn (pipe_of only_line (as_pipes past) 0 k) number ask origin) (sym there) first

    by : Lined P (talk_in (walk_of past) at) (unread past at) (pipe_of only_line (as_pipes past) 0 at) → ⊥
    by (inl h) =
        let talk = talk_in (walk_of past) at in
        let ticket : Ticket = record { number = number; ask = ask; origin = origin } in
        let out : Out P talk.out (unread past at) (ticket ∷ first_there.0) = subst (λ l. Out P talk.out (unread past at) l) first_there.1 (subst (λ l. Stand P l talk.out (unread past at) (pipe_of only_line (as_pipes past) 0 at)) just.3 h.1) in
        not_among number talk.out (out_has P talk.out (unread past at) ticket first_there.0 out) (subst (λ k. IsNotAmong k talk.out) same just.4)
    by (inr h) = h.0 just.2

-- what is out at a server has its number from the core for that server
out_number : (steps : List Step) (at n : ℕ) (said : List SaidAsk) → AreCalled steps at said → IsAmong n said → (ask : Ask) × (call_in steps n ≡ Some (at, ask))
out_number steps at n [] called is = absurd is
out_number steps at n (x ∷ xs) called (inl same) = (x.2, ap (call_in steps) (sym same) ∙ called.0)
out_number steps at n (x ∷ xs) called (inr more) = out_number steps at n xs called.3 more

kept_read :
    (place number server : ℕ) (ask : Ask) (origin : Origin) (stamp : ℕ) (answer : Answer) (spaces : ℕ) (past : List Move) → IsOrderly (walk_of past)
    → IsFirstIn (pipe_of only_line (as_pipes past) 0 server) number ask origin → (call_in (walk_of past) number ≡ Some (server, ask)) × (due_in (walk_of past) number ≡ None) → TellKinds (OfServer place (at_servers.Does (Calls number server ask origin (Read stamp answer spaces))) ∷ past)
    → Kept past → Kept (OfServer place (at_servers.Does (Calls number server ask origin (Read stamp answer spaces))) ∷ past)
kept_read place number server ask origin stamp answer spaces past orderly first asked kinds was =
    let end : End = Read stamp answer spaces in
    let ended = ended_now place number server ask origin end past kinds was.alike in
    let P = Pending past in
    let Q = Pending (OfServer place (at_servers.Does (Calls number server ask origin end)) ∷ past) in
    let others : (n : ℕ) (a : Answer) → (n ≡ number → ⊥) → Q n a → P n a = others_before place number server ask origin end past ended in
    record {
      alike = alike_ended place number server ask origin end past ended was.alike;
      lines = λ s.
          let called = out_called (walk_of past) s orderly in
          read_line P Q (nat_eq server s) (talk_in (walk_of past) s) number ask origin answer (unread past s) (pipe_of only_line (as_pipes past) 0 s)
          (λ here. subst (λ k. IsFirstIn (pipe_of only_line (as_pipes past) 0 k) number ask origin) (eqb-true server s here) first)
          (apart_out (walk_of past) s (talk_in (walk_of past) s).out called) others
          (λ a q. sym (answer_is answer a (this_pending place number server ask origin end past ended a q)))
          (λ away n a among q. others n a (λ e.
          let its = out_number (walk_of past) s n (talk_in (walk_of past) s).out called among in
          differ server s away (same_pair server s ask its.0 (sym asked.0 ∙ ap (call_in (walk_of past)) (sym e) ∙ its.1))) q)
          (was.lines s);
      given = λ n a q.
          (elim (nat_eq n number) as (λ b. nat_eq n number ≡ b → WasGiven (walk_of past) n) [
            | true ↦ λ is. let e = eqb-true n number is in ((server, ask), ap (call_in (walk_of past)) e ∙ asked.0, ap (due_in (walk_of past)) e ∙ asked.1)
            | false ↦ λ other. was.given n a (others n a (λ e. differ n number other e) q)
          ]) refl;
      just = just_map P Q (walk_of past) (λ said j a q. others said.1.0 a (λ e. first_unlike past P number server ask origin asked.0 first was.lines said j e) q) was.just;
    }

-- a call has failed, whether or not it was applied
kept_failed :
    (place number server : ℕ) (ask : Ask) (origin : Origin) (end : End) (past : List Move) → outcome_of end ≡ Failed → TellKinds (OfServer place (at_servers.Does (Calls number server ask origin end)) ∷ past)
    → ((s : ℕ) → Lined (Pending (OfServer place (at_servers.Does (Calls number server ask origin end)) ∷ past)) (talk_in (walk_of past) s) (unread past s) (pipe_of only_line (as_pipes past) 0 s)
    → Lined (Pending (OfServer place (at_servers.Does (Calls number server ask origin end)) ∷ past)) (talk_in (walk_of past) s) (unread (OfServer place (at_servers.Does (Calls number server ask origin end)) ∷ past) s) (pipe_of only_line (as_pipes (OfServer place (at_servers.Does (Calls number server ask origin end)) ∷ past)) 0 s))
    → Kept past → Kept (OfServer place (at_servers.Does (Calls number server ask origin end)) ∷ past)
kept_failed place number server ask origin end past failed kinds next was =
    let ended = ended_now place number server ask origin end past kinds was.alike in
    let P = Pending past in
    let Q = Pending (OfServer place (at_servers.Does (Calls number server ask origin end)) ∷ past) in
    let less = failed_before place number server ask origin end past ended failed in
    record {
      alike = alike_ended place number server ask origin end past ended was.alike;
      lines = λ s. next s (lined_map P Q (talk_in (walk_of past) s) (unread past s) (pipe_of only_line (as_pipes past) 0 s) (λ n a among q. less n a q) (was.lines s));
      given = λ n a q. was.given n a (less n a q);
      just = just_map P Q (walk_of past) (λ said j a q. less said.1.0 a q) was.just;
    }

either_same : {A : Type 0} (b : Bool) (x : A) → x ≡ cond b x x
either_same true x = refl
either_same false x = refl

first_at : (past : List Move) (number server s : ℕ) (ask : Ask) (origin : Origin) → IsFirstIn (pipe_of only_line (as_pipes past) 0 server) number ask origin → nat_eq server s ≡ true → IsFirstIn (pipe_of only_line (as_pipes past) 0 s) number ask origin
first_at past number server s ask origin first here = subst (λ k. IsFirstIn (pipe_of only_line (as_pipes past) 0 k) number ask origin) (eqb-true server s here) first

-- what is in order was before
order_moves : (events : List Event) (steps : List PipeStep) → PipesInOrder only_line (with_moves events steps) → PipesInOrder only_line steps
order_moves [] steps order = order
order_moves (Begins number ask ∷ events) steps order = order_moves events steps order.1
order_moves (Replies number key reply from ∷ events) steps order = order_moves events steps order.1
order_moves (Breaks number ∷ events) steps order = order_moves events steps order.1
order_moves (Calls number server ask origin end ∷ events) steps order = order_moves events steps order
order_moves (Turns server key turned ∷ events) steps order = order_moves events steps order
order_moves (Restarts server ∷ events) steps order = order_moves events steps order

order_closed : (s : Standing) (at : ℕ) (steps : List PipeStep) → PipesInOrder only_line (closed_if s at steps) → PipesInOrder only_line steps
order_closed Apart at steps order = order
order_closed InUse at steps order = order
order_closed Ending at steps order = order

order_step : (step : Step) (log : List (Entry dialect)) (steps : List PipeStep) → PipesInOrder only_line (with_step step log steps) → PipesInOrder only_line steps
order_step (Asked at number spoken ask since) log steps order = order.1
order_step (Lost at why limit) log steps order = order_closed (standing_after why) at steps order
order_step (Linked at greeting) log steps order = order
order_step (Spelled at number ask answer bytes) log steps order = order
order_step (Greeted at spoken bytes) log steps order = order
order_step (Late at number limit time) log steps order = order
order_step (CameLate at number ask answer bytes) log steps order = order
order_step (Noted at obstacle) log steps order = order
order_step (Opened client) log steps order = order
order_step (NotOpened fault) log steps order = order
order_step (Fed client piece) log steps order = order
order_step (Polled client poll) log steps order = order
order_step (Stopped client fault) log steps order = order
order_step (Settled number outcome) log steps order = order
order_step (Gave client bytes) log steps order = order
order_step (Closed client) log steps order = order
order_step (LeftLine client) log steps order = order
order_step (Ticked time) log steps order = order
order_step (Broke client) log steps order = order
order_step (Loaded configuration generation) log steps order = order

kept : (moves : List Move) → IsOrderly (walk_of moves) → AreApplied moves → PipesInOrder only_line (as_pipes moves) → AreTold moves → AnswersCome moves → Kept moves × TellAlways moves
kept [] orderly applied order told answers = (record { alike = λ n. inl refl; lines = λ s. inr ((λ e. absurd (no_use e)), refl, refl); given = λ n a p. absurd (none n p); just = tt }, tt)
  where
    no_use : Apart ≡ InUse → ⊥
    no_use e = cc

    none : (n : ℕ) → {a : Answer} → Pending [] n a → ⊥
    none n p = no_call p.0 [] (sym p.1)
kept (OfProxy step entries ∷ past) orderly applied order told answers =
    let was = kept past orderly.1 applied (order_step step (log_of past) (as_pipes past) (order_moves (run_of entries) (with_step step (log_of past) (as_pipes past)) order)) told.2 answers.1 in
    let now_kept = kept_step step entries past orderly.0 answers.0 orderly.1 told.0 told.1 was.0 in
    (now_kept, (now_kept.alike, was.1))
kept (OfServer place (at_servers.Does (Calls number server ask origin (Read stamp answer spaces))) ∷ past) orderly applied order told answers =
    let was = kept past orderly applied.1 order.1 told.2 answers in
    let now_kept = kept_read place number server ask origin stamp answer spaces past orderly order.0 told.1 told.0 was.0 in
    (now_kept, (now_kept.alike, was.1))
kept (OfServer place (at_servers.Does (Calls number server ask origin (Unread stamp answer spaces))) ∷ past) orderly applied order told answers =
    let was = kept past orderly applied.1 order.1 told.2 answers in
    let Q = Pending (OfServer place (at_servers.Does (Calls number server ask origin (Unread stamp answer spaces))) ∷ past) in
    let now_kept = kept_failed place number server ask origin (Unread stamp answer spaces) past refl told.0
    (λ s line. landed_line Q (nat_eq server s) (talk_in (walk_of past) s) number ask origin answer (unread past s) (pipe_of only_line (as_pipes past) 0 s) (first_at past number server s ask origin order.0) line) was.0 in
    (now_kept, (now_kept.alike, was.1))
kept (OfServer place (at_servers.Does (Calls number server ask origin Never)) ∷ past) orderly applied order told answers =
    let was = kept past orderly applied.1 order.1 told.2 answers in
    let Q = Pending (OfServer place (at_servers.Does (Calls number server ask origin Never)) ∷ past) in
    let now_kept = kept_failed place number server ask origin Never past refl told.0
    (λ s line. subst (Lined Q (talk_in (walk_of past) s) (unread past s)) (either_same (nat_eq server s) (pipe_of only_line (as_pipes past) 0 s)) line) was.0 in
    (now_kept, (now_kept.alike, was.1))
kept (OfServer place (Lands number server ask origin stamp answer spaces) ∷ past) orderly applied order told answers =
    let was = kept past orderly applied.1 order.1 told.2 answers in
    let P = Pending past in
    let old = was.0 in (
      record {
        alike = old.alike;
        lines = λ s. landed_line P (nat_eq server s) (talk_in (walk_of past) s) number ask origin answer (unread past s) (pipe_of only_line (as_pipes past) 0 s) (first_at past number server s ask origin order.0) (old.lines s);
        given = old.given;
        just = old.just;
      },
      (old.alike, was.1),
    )
kept (OfServer place (at_servers.Does (Turns server key turned)) ∷ past) orderly applied order told answers =
    let was = kept past orderly applied.1 order.1 told.2 answers in
    (record { alike = was.0.alike; lines = was.0.lines; given = was.0.given; just = was.0.just }, (was.0.alike, was.1))
kept (OfServer place (at_servers.Does (Restarts server)) ∷ past) orderly applied order told answers =
    let was = kept past orderly applied.1 order.1 told.2 answers in
    (record { alike = was.0.alike; lines = was.0.lines; given = was.0.given; just = was.0.just }, (was.0.alike, was.1))
kept (OfServer place (at_servers.Does (Begins number ask)) ∷ past) orderly applied order told answers = absurd applied.0
kept (OfServer place (at_servers.Does (Replies number key reply from)) ∷ past) orderly applied order told answers = absurd applied.0
kept (OfServer place (at_servers.Does (Breaks number)) ∷ past) orderly applied order told answers = absurd applied.0

pub spelled_tell_always : SpelledTellAlways
spelled_tell_always first last believes moves tells leads orderly applied told answers =
    (kept moves orderly applied (connections_are_in_order first last believes moves tells leads orderly applied).1 told answers).1

pub in_order_happens : InOrderHappensAlong
in_order_happens opening moves first last tells orderly along = record {
  believes = along.believes;
  leads = along.leads;
  alike = spelled_tell_always first last along.believes moves tells along.leads orderly along.applied along.told along.answers;
  serves = along.serves;
  applied = along.applied;
}
