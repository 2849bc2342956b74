use Rattle.std.proofs.Common.{◌≡◌, ◌<◌, ◌∙◌, length, slice_get, Some, ap, sym, arith}
use Rattle.gate_check.specs.Sound.{trees_of}
use Rattle.gate_check.proofs.Following.{length_trees, tree_of_config}
use Rattle.core_accepted.proofs.FleetGate.{covering_all}
use Rattle.core_accepted.proofs.fleets.gates.judging.each_covers.Goals as goal

pub returns-in-Err : goal.returns-in-Err
returns-in-Err c =
    let xs = c.args.configs.now in
    let i = c.loop-reads.reads in
    let lt : i < length xs = omega arith in
    let is : slice_get (trees_of xs) i ≡ Some c.tree.result.now = tree_of_config xs i c.index-configs-reads.result lt c.index-configs-reads.is ∙ ap Some (sym c.tree.ensures.tree) in
    c.fault_of_reader.ensures (trees_of xs) c.tree.result.now is c.requires.copy_nothing c.loop-reads.invariant c.in-Err.ensures

pub loop-reads-preserved : goal.loop-reads-preserved
loop-reads-preserved c =
    let xs = c.args.configs.now in
    let i = c.loop-reads.reads in
    let lt : i < length xs = omega arith in
    let is : slice_get (trees_of xs) i ≡ Some c.tree.result.now = tree_of_config xs i c.index-configs-reads.result lt c.index-configs-reads.is ∙ ap Some (sym c.tree.ensures.tree) in
    covering_all (trees_of xs) i (length xs) c.tree.result.now (length_trees xs) is c.in-Ok.ensures c.loop-reads.invariant
