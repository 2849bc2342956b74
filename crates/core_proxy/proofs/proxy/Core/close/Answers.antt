use Rattle.std.proofs.Common.{subst, sym, refl}
use Rattle.std.specs.Prelude.{IsSome}
use Rattle.core_proxy.proofs.Clients.{closes, others_by}
use Rattle.core_proxy.proofs.proxy.Core.close.Goals as goal

pub returns-clause-ok : goal.returns-clause-ok
returns-clause-ok c =
    let old = c.args.self.now in
    let was = c.remove.ensures.value in (
      (subst IsSome (sym was) refl, sym c.if-has_commands.ensures),
      closes old _ c.args.client _ (record {
        was = was;
        is = c.remove.ensures.updates.changed;
        others = others_by c.args.client old.clients c.remove.new.self c.remove.ensures.updates.others;
        commands = λ n. refl;
        tree = refl;
        limits = refl;
        number = refl;
      }) (sym c.if-has_commands.ensures) c.leave.ensures,
    )
