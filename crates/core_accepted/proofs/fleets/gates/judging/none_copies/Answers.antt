use Rattle.std.proofs.Common.{◌≡◌, ◌<◌, ◌∙◌, length, slice_get, Some, ap, sym, subst, arith}
use Rattle.gate_check.specs.Sound.{trees_of}
use Rattle.gate_check.proofs.Following.{length_trees, tree_of_config}
use Rattle.core_accepted.specs.Copying.{CopiesSome}
use Rattle.core_accepted.proofs.FleetGate.{first_copying, fit_all, fit_more}
use Rattle.core_accepted.proofs.fleets.gates.judging.none_copies.Goals as goal

pub returns-in-Ok-Keys : goal.returns-in-Ok-Keys
returns-in-Ok-Keys c =
    let xs = c.args.configs.now in
    let i = c.loop-index.index in
    let tree = c.tree-tree.result.now in
    let lt : i < length xs = omega arith in
    let is : slice_get (trees_of xs) i ≡ Some tree = tree_of_config xs i c.index-configs-index.result lt c.index-configs-index.is ∙ ap Some (sym c.tree-tree.ensures.tree) in
    first_copying (trees_of xs) i tree c.in-Ok-Keys.prefix is (subst (CopiesSome tree) c.in-Ok-Keys.field-0-is c.in-Ok-Keys.ensures) (λ j a l x. (c.loop-index.invariant j a l x).1)

pub loop-index-preserved : goal.loop-index-preserved
loop-index-preserved c =
    let xs = c.args.configs.now in
    let i = c.loop-index.index in
    let tree = c.tree-tree.result.now in
    let lt : i < length xs = omega arith in
    let is : slice_get (trees_of xs) i ≡ Some tree = tree_of_config xs i c.index-configs-index.result lt c.index-configs-index.is ∙ ap Some (sym c.tree-tree.ensures.tree) in
    fit_more (trees_of xs) i tree is c.form-form.ensures.tree (subst (CopiesSome tree) c.in-Ok-Nothing.field-0-is c.in-Ok-Nothing.ensures) c.loop-index.invariant

pub returns : goal.returns
returns c =
    let xs = c.args.configs.now in
    let e : c.loop-index.index ≡ length xs = omega arith in
    fit_all (trees_of xs) c.loop-index.index (length_trees xs ∙ sym e) c.loop-index.invariant
