-- A gap has a script that leaks.
use Rattle.std.proofs.Common.{◌≡◌, ℕ, List, [], ◌∷◌, ◌++◌, Option, Some, inl, inr, refl, sym, subst}
use Rattle.mc_types.specs.declared.ask.Op.{Op}
use Rattle.mc_types.specs.declared.ask.Op.TheVariants.{Delete}
use Rattle.mc_types.specs.declared.ask.Ask.{Ask}
use Rattle.mc_types.specs.declared.answer.Answer.{Answer}
use Rattle.mc_types.specs.declared.call.Origin.TheVariants.{Client}
use Rattle.mc_types.specs.KeyText.{IsKey}
use Rattle.mc_types.specs.Items.{Item}
use Rattle.fresh_runs.specs.Calls.{Call}
use Rattle.fresh_runs.specs.Protocol.{Protocol, IsStuck}
use Rattle.route_tree.specs.Each.{Each}
use Rattle.route_tree.specs.Plan.{Plan, IsGoodPlan}
use Rattle.route_tree.specs.Word.{answer_of_nothing, tree_words}
use Rattle.gate_coverage.specs.declared.deleting.Deleting.{Deleting}
use Rattle.gate_coverage.specs.Cover.{IsTaking, deleting_dialect}
use Rattle.gate_gaps.specs.Turns.{acks, calls_before_found}
use Rattle.gate_gaps.specs.Beside.{IsElsewhere, answered}
use Rattle.gate_gaps.specs.Bait.{delete_of, read_of, bait_answer, IsBaited}
use Rattle.gate_gaps.specs.Scripts.{leaking_script, Leaks}
use Rattle.gate_gaps.proofs.Determining.{are_determined}
use Rattle.gate_gaps.proofs.Bait.{bait_is_taken}
use Rattle.gate_gaps.proofs.Scripts.{IsOneAsk, IsAnswered, scripts_leak}

last_answered : (s : ℕ) (ask : Ask) (last : List Call) → IsElsewhere s ask last → Each IsAnswered last
last_answered s ask last (inl e) = subst (Each IsAnswered) (sym e) tt
last_answered s ask last (inr h) = subst (Each IsAnswered) (sym h.2) ((answer_of_nothing ask.dialect ask.op, refl), tt)

-- the next call of a command can't be mistaken for its reply
none_goes_on : (at : ℕ → List ℕ → Plan) (n : ℕ) (ask : Ask) (front : List Call) (call : Call) (rest : List Call) (r1 r2 : Answer) (f1 f2 : Option ℕ) → tree_words at n ask front r1 f1 → tree_words at n ask (front ++ call ∷ rest) r2 f2 → ⊥
none_goes_on at n ask front call rest r1 r2 f1 f2 a b = are_determined.ends (at n ask.key) ask Client 0 front call rest (record { reply = r1; from = f1 }) (record { reply = r2; from = f2 }) a.1 b.1

module _ (P : Protocol) (at : ℕ → List ℕ → Plan) (Bars : ℕ → Ask → ℕ → Ask → Type 0) (opening : ℕ → List ℕ → Option Item) (version : List ℕ) (key : List ℕ) (op : Op) (kind : Deleting) (s : ℕ) (text1 text2 : List ℕ) (m1 m2 : P.Message) (p1 p2 : P.Place) (k : IsKey key) (taking : IsTaking op) (good1 : IsGoodPlan (at 1 key)) (good2 : IsGoodPlan (at 2 key)) (baited : IsBaited opening s key) (begins : IsStuck P P.start) (one1 : IsOneAsk P P.start text1 (delete_of kind key) (answer_of_nothing (deleting_dialect kind) Delete) m1 p1) (one2 : IsOneAsk P p1 text2 (read_of op key) (bait_answer op) m2 p2) where
  -- where both numbers are computed, the script leaks: this is `Some`
  pub numbers_have_script : (i j : ℕ) → acks s (at 1 key) ≡ Some i → calls_before_found op s (at 2 key) ≡ Some j → Leaks P (tree_words at) Bars opening version (leaking_script s key i text1 j text2)
  numbers_have_script i j e f =
      let h = (bait_is_taken Bars).numbers at opening key op kind s i j k taking good1 good2 baited e f in
      scripts_leak P (tree_words at) Bars opening version s key i j text1 text2 (delete_of kind key) (read_of op key) h.front h.last h.back (answered s (read_of op key) (bait_answer op) ∷ []) _ (bait_answer op) _ _ m1 m2 p1 p2 begins one1 one2 (none_goes_on at) h.first h.first_are (last_answered s (delete_of kind key) h.last h.elsewhere) h.later h.later_are ((bait_answer op, refl), tt) h.run h.leaks
