use Rattle.std.proofs.Common.{length}
use Rattle.gate_check.specs.Sound.{trees_of}
use Rattle.gate_check.proofs.Following.{length_trees}
use Rattle.core_accepted.proofs.FleetGate.{judged}
use Rattle.core_accepted.proofs.fleets.gates.judging.judge_fleet.Goals as goal

pub returns-in-Ok : goal.returns-in-Ok
returns-in-Ok c =
    let xs = c.args.configs.now in
    judged (trees_of xs) (length xs) c.each_covers.result (length_trees xs) c.in-Ok.ensures.0 c.in-Ok.ensures.1 c.each_covers.ensures
