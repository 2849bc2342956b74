use Rattle.std.proofs.Common.{take}
use Rattle.core_accepted.specs.Begun.{any_begun}
use Rattle.core_accepted.specs.Known.{first_of}
use Rattle.gate_check.specs.Sound.{trees_of}
use Rattle.mcgate_replay.specs.Growing.{JudgesAll}
use Rattle.mcgate_replay.specs.Pairing.{MayNotJoin, AreHeld, known_of_pair}
use Rattle.mcgate_replay.proofs.pairing.judge_pairs.Given as goal

abbrev pub invariant-loop-reload : goal.invariant-loop-reload
invariant-loop-reload l =
    JudgesAll (MayNotJoin l.most) (first_of l.first any_begun) (take l.reload-index l.reloads) l.loadings.items (known_of_pair l.first l.configs.items)
    × AreHeld l.most (trees_of l.configs.items)
