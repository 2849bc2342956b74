use Rattle.std.proofs.Common.{subst}
use Rattle.route_tree.specs.Each.{Each}
use Rattle.route_tree.specs.Route.{IsTree}
use Rattle.gate_check.specs.Sound.{trees_of}
use Rattle.gate_growth.specs.Grown.{AreSoundSince}
use Rattle.core_accepted.specs.Known.{Known, is_arbitrary}
use Rattle.core_accepted.proofs.Keeping.{same_known}
use Rattle.core_accepted.proofs.laws.accepted_trees_are_sound.Goals as goal

pub returns-in-Some : goal.returns-in-Some
returns-in-Some c = λ known word.
    let it = c.in-Some.generations in
    subst (λ (k : Known). Each IsTree (trees_of k.configs) × AreSoundSince (is_arbitrary k) (trees_of k.configs)) (same_known c.args.core.now.accepted it known c.in-Some.is word)
    (c.config-config.ensures.trees, c.config-config.ensures.sound)
