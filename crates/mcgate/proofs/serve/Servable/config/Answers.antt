use Rattle.std.proofs.Common.{refl}
use Rattle.mcgate.specs.declared.serve.Servable.TheVariants as servables
use Rattle.mcgate.proofs.Loads.{has_tree_on}
use Rattle.mcgate.proofs.serve.Servable.config.Goals as goal

pub returns-in-Accepted : goal.returns-in-Accepted
returns-in-Accepted c = has_tree_on c.args.self.now (servables.Accepted c.in-Accepted.accepted) c.config.result.now.tree c.in-Accepted.is (c.config.result.now, c.config.ensures.config, refl)

pub returns-in-Unchecked : goal.returns-in-Unchecked
returns-in-Unchecked c = has_tree_on c.args.self.now (servables.Unchecked c.in-Unchecked.config) c.in-Unchecked.config.tree c.in-Unchecked.is refl
