-- Answers that settle calls, as steps of a walk.
use Rattle.std.proofs.Common.{◌≡◌, ℕ, ◌≤◌, if◌then◌else◌, List, [], ◌∷◌, ◌++◌, length, take, drop, Option, Some, None, refl, sym, ap, ◌∙◌, subst, append_assoc, append-nil, length-take, arith}
use Rattle.std.proofs.lemmas.List.{take-append-drop}
use Rattle.mc_types.specs.declared.ask.Ask.{Ask}
use Rattle.mc_types.specs.declared.ask.Dialect.{Dialect}
use Rattle.mc_types.specs.declared.ask.Dialect.TheVariants.{Classic, Meta}
use Rattle.mc_types.specs.declared.answer.Answer.{Answer}
use Rattle.mc_types.specs.declared.call.Outcome.TheVariants.{Answered}
use Rattle.wire_answers.proofs.ReadLemmas.{spelled_within}
use Rattle.wire_stream.specs.Form.{in_meta}
use Rattle.serve_wire.proofs.Steps.{equal}
use Rattle.core_proxy.specs.Settles as of_calls
use Rattle.core_accepted.specs.declared.served.ServedCore.{ServedCore}
use Rattle.serve_links.specs.declared.calls.calls.SentCall.{SentCall}
use Rattle.serve_links.specs.CoreSteps.{Step, Settled, Spelled, Walks, StepsAreOf, IsOfTurn}
use Rattle.serve_links.specs.Dialects.{SpellsIn}
use Rattle.serve_links.specs.Settled.{SettlesOne, SettlesEach, SettlesSome}
use Rattle.serve_links.specs.Called.{call_in, TellsCallsOut}
use Rattle.serve_links.specs.Talks.{SaidAsk, Talk, behind, with_first_answer, talk_in, IsNotAmong, AreCalled, MaySettle, IsNextAnswer, IsOrderly, IsOfServer}
use Rattle.serve_links.specs.Story.{said_asks}
use Rattle.serve_links.proofs.Called.{asks_told, walks_tell_calls}
use Rattle.serve_links.proofs.Due.{said_both, KeepsBut, keeps_settled, keeps_twice, sent_gone, own_nowhere}
use Rattle.serve_links.proofs.Walked.{walked, of_both}
use Rattle.serve_links.proofs.Showing.{IsUnlost}

-- how many connections in a row were given up since the server answered last, once these calls were answered: none, or still so many
abbrev pub failed_by : List SentCall → ℕ → ℕ
failed_by [] failed = failed
failed_by (call ∷ calls) failed = 0

failed_twice : (first later : List SentCall) (failed : ℕ) → failed_by (first ++ later) failed ≡ failed_by later (failed_by first failed)
failed_twice [] later failed = refl
failed_twice (call ∷ first) [] failed = refl
failed_twice (call ∷ first) (other ∷ later) failed = refl

-- the walk that answers to calls make, and what it tells of their server
pub record Answers (at : ℕ) (sent : List SentCall) (bytes : List ℕ) (a : ServedCore) (sent' : List SentCall) (rest : List ℕ) (b : ServedCore) : Type 0 where
  pub steps : List Step
  pub kinds : StepsAreOf IsOfTurn steps
  pub own : StepsAreOf (IsOfServer at) steps
  pub unlost : StepsAreOf IsUnlost steps
  pub gone : List SentCall
  pub parts : sent ≡ gone ++ sent'
  pub keeps : (past : List Step) → KeepsBut (said_asks gone) past (steps ++ past)
  pub walks : Walks steps a b
  pub spelled : List ℕ
  pub whole : bytes ≡ spelled ++ rest
  pub orderly :
      (past : List Step) → IsOrderly past → TellsCallsOut past a → AreCalled past at (said_asks sent) → (talk_in past at).out ≡ said_asks sent → (talk_in past at).awaits ≡ None → (talk_in past at).late ≡ []
      → IsOrderly (steps ++ past) × (talk_in (steps ++ past) at ≡ record (talk_in past at) { told = (talk_in past at).told ++ spelled; out = said_asks sent'; failed = failed_by gone (talk_in past at).failed })

spells_within : (dialect : Dialect) (ask : Ask) (bytes : List ℕ) (answer : Answer) (used : ℕ) → SpellsIn dialect ask bytes answer used → used ≤ length bytes
spells_within Classic ask bytes answer used s = spelled_within ask bytes answer used s
spells_within Meta ask bytes answer used s = spelled_within (in_meta ask) bytes s.told used s.spells

-- so many bytes spell it, whatever follows them
pub spells_front : (dialect : Dialect) (ask : Ask) (bytes : List ℕ) (answer : Answer) (used : ℕ) → SpellsIn dialect ask bytes answer used → SpellsIn dialect ask (take used bytes ++ drop used bytes) answer (length (take used bytes))
spells_front dialect ask bytes answer used s =
    let within = spells_within dialect ask bytes answer used s in
    let count : length (take used bytes) ≡ used = omega (arith, within, length-take used bytes) in
    subst (λ n. SpellsIn dialect ask (take used bytes ++ drop used bytes) answer n) (sym count) (subst (λ l. SpellsIn dialect ask l answer used) (sym (take-append-drop used bytes)) s)

none_some : {A : Type 0} {x : A} → None ≡ Some x → ⊥
none_some e = cc

same_pair : {p q : ℕ × Dialect} → ◌≡◌ {A = Option (ℕ × Dialect)} (Some p) (Some q) → p ≡ q
same_pair e = cc

-- one answer
one : (at : ℕ) (sent : List SentCall) (bytes : List ℕ) (a : ServedCore) (answer : Answer) (sent' : List SentCall) (rest : List ℕ) (b : ServedCore) → SettlesOne sent bytes a answer sent' rest b → Answers at sent bytes a sent' rest b
one at [] bytes a answer sent' rest b s = absurd (none_some s.answers.is_first)
one at (call ∷ calls) bytes a answer sent' rest b s = record {
  steps = Settled number (Answered answer) ∷ Spelled at number ask answer spelled ∷ [];
  kinds = (tt, (tt, tt));
  own = (tt, (refl, tt));
  unlost = (tt, (tt, tt));
  gone = call ∷ [];
  parts = ap (λ (l : List SentCall). call ∷ l) (sym s.settles.1);
  keeps = λ past. keeps past;
  walks = (a, (a, refl, (refl, asks)), s.settles.2);
  spelled = spelled;
  whole = s.whole ∙ ap (λ l. l ++ s.more) (sym (take-append-drop s.used s.front)) ∙ append_assoc spelled (drop s.used s.front) s.more ∙ ap (λ l. spelled ++ l) (sym s.rest);
  orderly = λ past o tells called out off alone.
      let follows : IsOrderly (Spelled at number ask answer spelled ∷ past) = (next past tells called.0 out off alone, o) in (((settles past follows called out, record { at = at; ask = ask; bytes = spelled; earlier = past; last = refl }), follows), told past out);
}
  where
    number : ℕ
    number = call.ticket.number

    ask : Ask
    ask = s.answers.ask

    spelled : List ℕ
    spelled = take s.used s.front

    first : ◌≡◌ {A = ℕ × Dialect} (number, call.dialect) (s.answers.number, s.answers.dialect)
    first = same_pair s.answers.is_first

    asks : of_calls.asked a.core number ≡ Some ask
    asks = ap (λ (p : ℕ × Dialect). of_calls.asked a.core p.0) first ∙ s.answers.asks

    next :
        (past : List Step) → TellsCallsOut past a → call_in past number ≡ Some (at, call.ticket.ask) → (talk_in past at).out ≡ said_asks (call ∷ calls) → (talk_in past at).awaits ≡ None → (talk_in past at).late ≡ []
        → IsNextAnswer number ask answer spelled (talk_in past at)
    next past tells is out off alone = record {
      dialect = call.dialect;
      since = call.since;
      others = said_asks calls;
      is_first = out ∙ ap (λ (said : Ask). let first : SaidAsk = (number, call.dialect, said, call.since) in first ∷ said_asks calls) (sym (asks_told past a number at call.ticket.ask ask tells is asks));
      none_before = off;
      none_late = alone;
      more = drop s.used s.front;
      spells = spells_front call.dialect ask s.front answer s.used (subst (λ (p : ℕ × Dialect). SpellsIn p.1 ask s.front answer s.used) (sym first) s.answers.spells);
    }

    keeps : (past : List Step) → KeepsBut (said_asks (call ∷ [])) past (Settled number (Answered answer) ∷ Spelled at number ask answer spelled ∷ past)
    keeps past = keeps_settled (Spelled at number ask answer spelled ∷ past) number (Answered answer) call.dialect call.ticket.ask call.since

    settles :
        (past : List Step) → IsOrderly (Spelled at number ask answer spelled ∷ past) → AreCalled past at (said_asks (call ∷ calls)) → (talk_in past at).out ≡ said_asks (call ∷ calls) → MaySettle number (Spelled at number ask answer spelled ∷ past)
    settles past o called out =
        let left : (talk_in (Spelled at number ask answer spelled ∷ past) at).out ≡ said_asks calls = ap (λ t. (if t then with_first_answer spelled (talk_in past at) else talk_in past at).out) (equal at) ∙ ap behind out in record {
          call = (at, call.ticket.ask);
          is_out = called.0;
          nowhere = own_nowhere (Spelled at number ask answer spelled ∷ past) at number call.ticket.ask o called.0 (subst (IsNotAmong number) (sym left) called.2);
        }

    told :
        (past : List Step) → (talk_in past at).out ≡ said_asks (call ∷ calls)
        → talk_in (Settled number (Answered answer) ∷ Spelled at number ask answer spelled ∷ past) at ≡ record (talk_in past at) { told = (talk_in past at).told ++ spelled; out = said_asks sent'; failed = 0 }
    told past out =
        ap (λ t. if t then with_first_answer spelled (talk_in past at) else talk_in past at) (equal at)
        ∙ ap (λ (l : List SaidAsk). record (talk_in past at) { told = (talk_in past at).told ++ spelled; out = l; failed = 0 }) (ap behind out ∙ ap said_asks (sym s.settles.1))

-- one and then others
both :
    (at : ℕ) (sent : List SentCall) (bytes : List ℕ) (a : ServedCore) (mid : List SentCall) (left : List ℕ) (m : ServedCore) (sent' : List SentCall) (rest : List ℕ) (b : ServedCore)
    → Answers at sent bytes a mid left m → Answers at mid left m sent' rest b → Answers at sent bytes a sent' rest b
both at sent bytes a mid left m sent' rest b f g = record {
  steps = g.steps ++ f.steps;
  kinds = of_both IsOfTurn g.steps f.steps g.kinds f.kinds;
  own = of_both (IsOfServer at) g.steps f.steps g.own f.own;
  unlost = of_both IsUnlost g.steps f.steps g.unlost f.unlost;
  gone = f.gone ++ g.gone;
  parts = f.parts ∙ ap (λ (l : List SentCall). f.gone ++ l) g.parts ∙ sym (append_assoc f.gone g.gone sent');
  keeps = λ past. subst (λ l. KeepsBut l past ((g.steps ++ f.steps) ++ past)) (sym (said_both f.gone g.gone)) (subst (KeepsBut (said_asks f.gone ++ said_asks g.gone) past) (sym (append_assoc g.steps f.steps past))
      (keeps_twice (said_asks f.gone) (said_asks g.gone) past (f.steps ++ past) (g.steps ++ (f.steps ++ past)) (f.keeps past) (g.keeps (f.steps ++ past))));
  walks = walked g.steps f.steps a m b f.walks g.walks;
  spelled = f.spelled ++ g.spelled;
  whole = f.whole ∙ ap (λ l. f.spelled ++ l) g.whole ∙ sym (append_assoc f.spelled g.spelled rest);
  orderly = orderly;
}
  where
    orderly :
        (past : List Step) → IsOrderly past → TellsCallsOut past a → AreCalled past at (said_asks sent) → (talk_in past at).out ≡ said_asks sent → (talk_in past at).awaits ≡ None → (talk_in past at).late ≡ []
        → IsOrderly ((g.steps ++ f.steps) ++ past) × (talk_in ((g.steps ++ f.steps) ++ past) at ≡ record (talk_in past at) { told = (talk_in past at).told ++ (f.spelled ++ g.spelled); out = said_asks sent'; failed = failed_by (f.gone ++ g.gone) (talk_in past at).failed })
    orderly past o tells called out off alone =
        let first = f.orderly past o tells called out off alone in
        let told = (walks_tell_calls.goes_on f.steps past a m tells f.walks).0 in
        let left = sent_gone at past (f.steps ++ past) f.gone mid [] (f.keeps past) (subst (λ (l : List SentCall). AreCalled past at (said_asks l)) f.parts called) tt in
        let later = g.orderly (f.steps ++ past) first.0 told left.called (ap (λ (t : Talk). t.out) first.1) (ap (λ (t : Talk). t.awaits) first.1 ∙ off) (ap (λ (t : Talk). t.late) first.1 ∙ alone) in
        subst (λ l. IsOrderly l × (talk_in l at ≡ record (talk_in past at) { told = (talk_in past at).told ++ (f.spelled ++ g.spelled); out = said_asks sent'; failed = failed_by (f.gone ++ g.gone) (talk_in past at).failed })) (sym (append_assoc g.steps f.steps past)) (
          later.0,
          later.1 ∙ ap (λ (t : Talk). record t { told = t.told ++ g.spelled; out = said_asks sent'; failed = failed_by g.gone t.failed }) first.1
              ∙ ap (λ (l : List ℕ). record (talk_in past at) { told = l; out = said_asks sent'; failed = failed_by g.gone (failed_by f.gone (talk_in past at).failed) }) (append_assoc (talk_in past at).told f.spelled g.spelled)
              ∙ ap (λ (n : ℕ). record (talk_in past at) { told = (talk_in past at).told ++ (f.spelled ++ g.spelled); out = said_asks sent'; failed = n }) (sym (failed_twice f.gone g.gone (talk_in past at).failed)),
        )

-- one after another
pub answers_each :
    (at : ℕ) (answers : List Answer) (sent : List SentCall) (bytes : List ℕ) (a : ServedCore) (sent' : List SentCall) (rest : List ℕ) (b : ServedCore) → SettlesEach answers sent bytes a sent' rest b
    → Answers at sent bytes a sent' rest b
answers_each at [] sent bytes a sent' rest b s = record {
  steps = [];
  kinds = tt;
  own = tt;
  unlost = tt;
  gone = [];
  parts = sym s.0;
  keeps = λ past n not. (refl, refl, refl);
  walks = s.2;
  spelled = [];
  whole = sym s.1;
  orderly = λ past o tells called out off alone. (o, none past out);
}
  where
    none : (past : List Step) → (talk_in past at).out ≡ said_asks sent → talk_in past at ≡ record (talk_in past at) { told = (talk_in past at).told ++ []; out = said_asks sent' }
    none past out =
        ap (λ (l : List SaidAsk). record (talk_in past at) { out = l }) (out ∙ ap said_asks (sym s.0))
        ∙ ap (λ (l : List ℕ). record (talk_in past at) { told = l; out = said_asks sent' }) (sym (append-nil (talk_in past at).told))
answers_each at (answer ∷ answers) sent bytes a sent' rest b s =
    both at sent bytes a s.0 s.1 s.2 sent' rest b (one at sent bytes a answer s.0 s.1 s.2 s.3) (answers_each at answers s.0 s.1 s.2 sent' rest b s.4)

pub answers_some : (at : ℕ) (sent : List SentCall) (bytes : List ℕ) (a : ServedCore) (sent' : List SentCall) (rest : List ℕ) (b : ServedCore) → SettlesSome sent bytes a sent' rest b → Answers at sent bytes a sent' rest b
answers_some at sent bytes a sent' rest b s = answers_each at s.answers sent bytes a sent' rest b s.each
