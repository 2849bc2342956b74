-- Two trees of which the second may be followed by the first, and not stand beside it.
use Rattle.std.proofs.Common.{◌≡◌, ℕ, zero, suc, ◌<◌, Bool, true, false, cond, List, [], ◌∷◌, Option, Some, None, IfSome, inl, inr, refl, sym, subst, arith, nat_eq, nat_lt, slice_get, MatchBool}
use Rattle.std.proofs.lemmas.Bool.{ltb-true, lt-ltb}
use Rattle.mc_types.specs.declared.ask.Op.{Op}
use Rattle.mc_types.specs.declared.ask.Op.TheVariants.{Get, Gat, Set, Add, Replace, Append, Prepend, Cas, Delete, Incr, Decr, Touch}
use Rattle.mc_types.specs.declared.ask.Ask.{Ask}
use Rattle.mc_types.specs.declared.answer.Answer.{Answer}
use Rattle.mc_types.specs.declared.answer.Answer.TheVariants.{NotFound, Hit}
use Rattle.mc_types.specs.declared.call.Origin.TheVariants.{Client}
use Rattle.mc_types.specs.declared.call.Outcome.TheVariants.{Answered}
use Rattle.mc_types.specs.Acknowledged.{says_gone}
use Rattle.mc_types.specs.Items.{Item}
use Rattle.fresh_runs.specs.Calls.{Call, Read}
use Rattle.fresh_runs.specs.Cover.{ClearsIn, IsCovered}
use Rattle.fresh_runs.specs.Run.{Event, Begins, Calls, Replies, Run, IsApart}
use Rattle.fresh_runs.specs.Freshness.{nobody_bars}
use Rattle.fresh_theory.specs.StaleRuns.{answered_call}
use Rattle.fresh_runs.proofs.Covered.{single_covered}
use Rattle.fresh_theory.proofs.Example.{a_delete, a_get}
use Rattle.fresh_theory.specs.FleetExamples.{first_words, second_words_of, second_words, words_from, words_beside, OneWayIsStale}
use Rattle.fresh_theory.proofs.FleetExamples.{a_delete_is, gone_fits}

abbrev AllCalls : (Call → Type 0) → List Call → Type 0
AllCalls Q [] = Unit {0}
AllCalls Q (call ∷ calls) = Q call × AllCalls Q calls

call_at : (Q : Call → Type 0) (calls : List Call) (i : ℕ) (call : Call) → AllCalls Q calls → slice_get calls i ≡ Some call → Q call
call_at Q [] i call h e = absurd (cc)
call_at Q (c ∷ calls) zero call h e = subst Q (let is : c ≡ call = cc in is) h.0
call_at Q (c ∷ calls) (suc i) call h e = call_at Q calls i call h.1 e

abbrev IsLow : Call → Type 0
IsLow call = call.server < 2

second_low : (op : Op) (ask : Ask) (calls : List Call) (reply : Answer) (from : Option ℕ) → second_words_of op ask calls reply from → AllCalls IsLow calls
second_low Get ask calls reply from w = subst (AllCalls IsLow) (sym w.0) (omega arith, tt)
second_low Delete ask calls reply from w = subst (AllCalls IsLow) (sym w.1) (omega arith, (omega arith, tt))
second_low Gat ask calls reply from w = absurd w
second_low Set ask calls reply from w = absurd w
second_low Add ask calls reply from w = absurd w
second_low Replace ask calls reply from w = absurd w
second_low Append ask calls reply from w = absurd w
second_low Prepend ask calls reply from w = absurd w
second_low Cas ask calls reply from w = absurd w
second_low Incr ask calls reply from w = absurd w
second_low Decr ask calls reply from w = absurd w
second_low Touch ask calls reply from w = absurd w

all_low : (b : Bool) (number : ℕ) (ask : Ask) (calls : List Call) (reply : Answer) (from : Option ℕ) → MatchBool b (second_words number ask calls reply from) (first_words number ask calls reply from) → AllCalls IsLow calls
all_low true number ask calls reply from w = second_low ask.op ask calls reply from w
all_low false number ask calls reply from w = subst (AllCalls IsLow) (sym w.3) (omega arith, tt)

deletes_of : (n : ℕ) (delete : Ask) (calls : List Call) (reply : Answer) (from : Option ℕ) → delete.op ≡ Delete → second_words n delete calls reply from → second_words_of Delete delete calls reply from
deletes_of n delete calls reply from op w = subst (λ o. second_words_of o delete calls reply from) op w

clears_low : (delete : Ask) (reply other : Answer) (server : ℕ) → server < 2 → says_gone reply ≡ true → says_gone other ≡ true → ClearsIn (answered_call 0 delete Client reply ∷ (answered_call 1 delete Client other ∷ [])) server
clears_low delete reply other zero lt g h = inl (refl, (reply, refl, g))
clears_low delete reply other (suc zero) lt g h = inr (inl (refl, (other, refl, h)))
clears_low delete reply other (suc (suc n)) lt g h = absurd (let l = lt in omega arith)

not_later : (n m load : ℕ) → n < m → nat_lt n load ≡ false → nat_lt m load ≡ true → ⊥
not_later n m load lt late early = (let less : m < load = ltb-true m load early in let sooner : nat_lt n load ≡ true = lt-ltb n load (omega (arith, lt, less)) in (let e = sym late in let f = sooner in cc))

loads : (load : ℕ) → IsCovered (words_from load)
loads load =
    record {
      covered = λ n m delete ask lt op at calls reply from word server takes calls' reply' from' word' ack.
          (elim (nat_lt n load) as (λ b. nat_lt n load ≡ b → MatchBool b (second_words n delete calls' reply' from') (first_words n delete calls' reply' from') → ClearsIn calls' server) [
            | true ↦ λ _ w'.
                let w = deletes_of n delete calls' reply' from' op w' in
                let low : server < 2 = subst (λ s. s < 2) takes.1.2 (call_at IsLow calls takes.0 takes.1.0 (all_low (nat_lt m load) m ask calls reply from word) takes.1.1) in
                subst (λ l. ClearsIn l server) (sym w.1) (clears_low delete reply' w.0 server low ack.1 w.2)
            | false ↦ λ late w'.
                (elim (nat_lt m load) as (λ b. nat_lt m load ≡ b → MatchBool b (second_words m ask calls reply from) (first_words m ask calls reply from) → ClearsIn calls' server) [
                  | true ↦ λ early _. absurd (not_later n m load lt late early)
                  | false ↦ λ _ w. (single_covered (λ _. 0)).covered n m delete ask lt op at calls reply from w server takes calls' reply' from' w' ack
                ]) refl word
          ]) refl word';
      deletes = λ n delete op calls reply from word i call got.
          (elim (nat_lt n load) as (λ b. MatchBool b (second_words n delete calls reply from) (first_words n delete calls reply from) → call.ask.op ≡ Delete) [
            | true ↦ λ w'.
                let w = deletes_of n delete calls reply from op w' in
                call_at (λ c. c.ask.op ≡ Delete) calls i call (subst (AllCalls (λ c. c.ask.op ≡ Delete)) (sym w.1) (op, (op, tt))) got
            | false ↦ λ w. (single_covered (λ _. 0)).deletes n delete op calls reply from w i call got
          ]) word;
    }

-- A delete by the first tree, and a get by the second.

apart_all : (past : List Event) (number : ℕ) (ask : Ask) → IsApart nobody_bars past number ask
apart_all past number ask other client e same = ((λ x. x), (λ x. x))

abbrev key : List ℕ
key = 97 ∷ []

abbrev an_old : Item
an_old = record { content = []; flags = 0; stamp = 0 }

abbrev old_hit : Answer
old_hit = Hit 0 [] None

abbrev warm : ℕ → List ℕ → Option Item
warm s k = cond (nat_eq s 1) (Some an_old) None

abbrev e1 : List Event
e1 = Begins 1 a_delete ∷ []

abbrev e2 : List Event
e2 = Calls 1 0 a_delete Client (Read 1 NotFound 0) ∷ e1

abbrev e3 : List Event
e3 = Replies 1 key NotFound None ∷ e2

abbrev e4 : List Event
e4 = Begins 2 a_get ∷ e3

abbrev e5 : List Event
e5 = Calls 2 1 a_get Client (Read 2 old_hit 0) ∷ e4

abbrev e6 : List Event
e6 = Replies 2 key old_hit (Some 0) ∷ e5

r1 : Run words_beside nobody_bars warm e1
r1 = ((omega arith, apart_all [] 1 a_delete), tt)

r2 : Run words_beside nobody_bars warm e2
r2 = ((a_delete, refl, refl, ([], NotFound, None, (a_delete_is, Answered NotFound, gone_fits, refl, refl, refl)), (refl, refl)), r1)

r3 : Run words_beside nobody_bars warm e3
r3 = ((a_delete, refl, refl, (a_delete_is, Answered NotFound, gone_fits, refl, refl, refl)), r2)

r4 : Run words_beside nobody_bars warm e4
r4 = (((omega arith, (omega arith, (omega arith, omega arith))), apart_all e3 2 a_get), r3)

r5 : Run words_beside nobody_bars warm e5
r5 = ((a_get, refl, refl, ([], old_hit, Some 0, (refl, refl)), ((an_old, refl, refl, refl), refl)), r4)

r6 : Run words_beside nobody_bars warm e6
r6 = ((a_get, refl, refl, (refl, refl)), r5)

pub one_way : OneWayIsStale
one_way =
    record {
      loads = loads;
      stale =
          record {
            opening = warm;
            events = e6;
            opens = λ s k. elim (nat_eq s 1) as (λ b. IfSome (cond b (Some an_old) None) (λ item. item.stamp ≡ 0)) [ true ↦ refl | false ↦ tt ];
            loses = tt;
            run = r6;
            stale = λ fresh. fresh 1 2 a_delete an_old (inl (refl, refl, (refl, refl))) (inl (refl, refl, 0, refl, refl)) refl;
          };
    }
