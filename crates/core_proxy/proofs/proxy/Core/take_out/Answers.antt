use Rattle.std.proofs.Common.{refl, sym}
use Rattle.core_proxy.proofs.Freed.{taken_out}
use Rattle.core_proxy.proofs.proxy.Core.take_out.Goals as goal

pub returns-in-Some : goal.returns-in-Some
returns-in-Some c =
    taken_out c.args.self.now c.remove.new.commands c.leave.new.self c.args.number c.args.client c.in-Some.x.now _ (sym c.in-Some.ensures.value) (record { stream = refl; index = refl; waits = refl; queue = refl; output = refl; dropped = refl }) c.remove.ensures.gone c.leave.ensures
