use Rattle.std.proofs.Common.{refl}
use Rattle.core_proxy.proofs.Freed.{one_more}
use Rattle.core_proxy.proofs.proxy.Core.free_idle.Goals as goal

pub loop-number-preserved : goal.loop-number-preserved
loop-number-preserved c = one_more c.args.self.now c.loop-number.self _ c.args.client c.in-Some.number c.loop-number.invariant c.in-Some.ensures.some c.remove.ensures.gone (λ d. refl) refl refl refl refl
