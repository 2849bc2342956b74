use Rattle.std.proofs.Common.{◌≡◌, ◌+◌, ◌<◌, ◌∙◌, length, slice_get, Some, ap, sym, subst, refl, arith}
use Rattle.gate_check.specs.Reload.{IsFaultAmong}
use Rattle.gate_check.specs.Sound.{trees_of}
use Rattle.gate_check.proofs.Following.{covering_more, fails_at, tree_of_config}
use Rattle.gate_check.proofs.reloading.all_cover.Goals as goal

pub returns-in-Err : goal.returns-in-Err
returns-in-Err c =
    let xs = c.args.configs.now in
    let i = c.loop-index.index in
    let lt : i < length xs = omega arith in
    let is : slice_get (trees_of xs) i ≡ Some c.tree.result.now = tree_of_config xs i c.index-configs-index.result lt c.index-configs-index.is ∙ ap Some (sym c.tree.ensures.tree) in
    subst (IsFaultAmong (trees_of xs) c.args.tree.now) (sym c.numbered.ensures)
    (fails_at (trees_of xs) c.args.tree.now i (i + 1) c.tree.result.now c.in-Err.fault c.loop-index.invariant is refl c.in-Err.ensures)

pub loop-index-preserved : goal.loop-index-preserved
loop-index-preserved c =
    let xs = c.args.configs.now in
    let i = c.loop-index.index in
    let lt : i < length xs = omega arith in
    let is : slice_get (trees_of xs) i ≡ Some c.tree.result.now = tree_of_config xs i c.index-configs-index.result lt c.index-configs-index.is ∙ ap Some (sym c.tree.ensures.tree) in
    covering_more (trees_of xs) c.args.tree.now i c.tree.result.now c.loop-index.invariant is c.in-Ok.ensures
