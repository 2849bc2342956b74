use Rattle.std.proofs.Common.{refl}
use Rattle.core_proxy.proofs.Reloading.{reloaded}
use Rattle.core_proxy.proofs.proxy.Core.reload.Goals as goal

pub returns-clause-ok : goal.returns-clause-ok
returns-clause-ok c = (refl, reloaded c.args.self.now c.args.tree)
