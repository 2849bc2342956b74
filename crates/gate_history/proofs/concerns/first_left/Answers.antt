use Rattle.std.proofs.Common.{◌++◌, Bool, [], ◌∷◌, refl, sym, ◌∙◌, subst, arith}
use Rattle.route_tree.specs.At.{plain_for}
use Rattle.gate_growth.specs.Marks.{IsMarkOf}
use Rattle.gate_growth.specs.Pages.{is_any}
use Rattle.gate_history.proofs.Marking.{one_more_mark, all_len, all_marked}
use Rattle.gate_history.proofs.concerns.first_left.Goals as goal

pub loop-generation-init : goal.loop-generation-init
loop-generation-init c = record {
  within = omega arith;
  number = λ few. refl;
  marks = λ few. subst (λ (b : Bool). IsMarkOf b [] c.args.server c.new_mark-mark.result) c.is_any.ensures (c.new_mark-mark.ensures c.args.server);
}

pub loop-generation-preserved : goal.loop-generation-preserved
loop-generation-preserved c =
    let gs = c.args.generations.now in
    let i = c.loop-generation.generation-index in
    let g = c.generation-item.result in
    let v = c.loop-generation.invariant in
    let at = c.args.at.now in
    record {
      within = omega arith;
      number = λ few. let n = v.number few in let lt = c.loop-generation-test.true in let sum = c.saturating_add-number.ensures in omega (arith, n, few, lt, sum);
      marks = λ few.
          one_more_mark at.hash at.text.now (is_any c.args.began) c.args.server gs i g c.loop-generation.mark c.after-mark.result c.loop-generation-test.true c.generation-item.is (v.marks few)
          (λ plans size of. subst (λ t. IsMarkOf (is_any c.args.began) (plans ++ plain_for at.hash at.text.now t ∷ []) c.args.server c.after-mark.result) c.tree.ensures.tree
          (c.after-mark.ensures (is_any c.args.began) plans (size ∙ sym (v.number few)) of));
    }

pub returns-in-Ok : goal.returns-in-Ok
returns-in-Ok c = λ few.
    let gs = c.args.generations.now in
    let i = c.loop-generation.generation-index in
    let v = c.loop-generation.invariant in
    let at = c.args.at.now in
    let done = c.loop-generation-test.false in
    (c.in-Ok.ensures (is_any c.args.began) _ (all_len at.hash at.text.now gs i done v.within ∙ sym (v.number few)) (all_marked at.hash at.text.now gs i done (is_any c.args.began) c.args.server c.loop-generation.mark (v.marks few))).0

pub returns-in-Err : goal.returns-in-Err
returns-in-Err c = λ few.
    let gs = c.args.generations.now in
    let i = c.loop-generation.generation-index in
    let v = c.loop-generation.invariant in
    let at = c.args.at.now in
    let done = c.loop-generation-test.false in
    c.in-Err.ensures (is_any c.args.began) _ (all_len at.hash at.text.now gs i done v.within ∙ sym (v.number few)) (all_marked at.hash at.text.now gs i done (is_any c.args.began) c.args.server c.loop-generation.mark (v.marks few))
