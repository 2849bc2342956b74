use Rattle.std.proofs.Common.{◌≡◌, length, take}
use Rattle.mcgate_replay.specs.Growing.{JudgesAll, MayNotFollowKnown, IsFew}
use Rattle.mcgate_replay.proofs.growing.judge_all.Given as goal

abbrev pub invariant-loop-reload : goal.invariant-loop-reload
invariant-loop-reload l = JudgesAll (MayNotFollowKnown l.most) l.fn.generations (take l.reload-index l.reloads) l.loadings.items l.generations × (l.held ≡ length l.generations.configs) × IsFew l.most l.held
