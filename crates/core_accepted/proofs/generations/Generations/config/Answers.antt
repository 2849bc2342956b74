use Rattle.std.proofs.Common.{subst}
use Rattle.gate_check.specs.Sound.{trees_of}
use Rattle.gate_growth.specs.Grown.{AreSoundSince}
use Rattle.core_accepted.specs.Known.{Known, is_arbitrary}
use Rattle.core_accepted.proofs.generations.Generations.config.Goals as goal

pub returns-clause-sound : goal.returns-clause-sound
returns-clause-sound c = subst (λ (k : Known). AreSoundSince (is_arbitrary k) (trees_of k.configs)) c.self.view_is c.self.invariant.sound
