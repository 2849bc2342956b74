use Rattle.std.proofs.Common.{List, ◌∙◌, subst}
use Rattle.route_json.specs.Configuration.{Configuration}
use Rattle.gate_check.specs.Sound.{trees_of}
use Rattle.core_accepted.specs.FleetGate.{AreSideBySide}
use Rattle.mcgate_ends.proofs.fleets.members.may_follow.Goals as goal

pub returns-in-Ok-clause-beside : goal.returns-in-Ok-clause-beside
returns-in-Ok-clause-beside g c = λ _. subst (λ (configs : List Configuration). AreSideBySide (trees_of configs)) (c.deref.ensures.value ∙ c.in_ok-configs.ensures) c.in-Ok.ensures
