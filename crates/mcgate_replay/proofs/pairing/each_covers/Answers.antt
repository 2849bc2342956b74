use Rattle.std.proofs.Common.{◌+◌, ◌<◌, length, refl, arith}
use Rattle.gate_check.specs.Sound.{trees_of}
use Rattle.gate_check.proofs.Following.{covering_more, tree_of_config}
use Rattle.mcgate_replay.proofs.Paired.{fails_here}
use Rattle.mcgate_replay.proofs.pairing.each_covers.Goals as goal

pub returns-in-Err : goal.returns-in-Err
returns-in-Err c =
    let xs = c.args.configs.now in
    let i = c.loop-index.index in
    let lt : i < length xs = omega arith in
    fails_here (trees_of xs) c.args.tree.now i (i + 1) c.index-configs-index.result.tree c.in-Err.fault refl c.loop-index.invariant (tree_of_config xs i c.index-configs-index.result lt c.index-configs-index.is) c.in-Err.ensures

pub loop-index-preserved : goal.loop-index-preserved
loop-index-preserved c =
    let xs = c.args.configs.now in
    let i = c.loop-index.index in
    let lt : i < length xs = omega arith in
    covering_more (trees_of xs) c.args.tree.now i c.index-configs-index.result.tree c.loop-index.invariant (tree_of_config xs i c.index-configs-index.result lt c.index-configs-index.is) c.in-Ok.ensures
