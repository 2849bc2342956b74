use Rattle.std.proofs.Common.{IfOk, subst, sym, refl, arith}
use Rattle.core_proxy.specs.declared.proxy.Core.{Core}
use Rattle.core_proxy.specs.CoreState.{Opens}
use Rattle.core_proxy.specs.Faults.{CanOpen}
use Rattle.core_proxy.proofs.Clients.{opens, others_by}
use Rattle.core_proxy.proofs.proxy.Core.open_client.Goals as goal
use Rattle.core_proxy.proofs.proxy.Core.open_client.Goals.{in-Ok, in-Err}

pub returns-clause-ok : goal.returns-clause-ok
returns-clause-ok c =
    let old = c.args.self.now in
    let new : Core = record old { clients = c.insert.new.self } in
    let room : CanOpen old = let a = c.if-self-len.false in let b = c.len.ensures in omega (arith, a, b) in
    elim c.match-insert.branch [
      | in-Ok w ↦ subst (λ r. IfOk r (λ client. CanOpen old × Opens old client new)) (sym w.result-is) (
        room,
        opens old new w.in-Ok.client c.new.result (record {
          was = w.in-Ok.ensures.was_vacant;
          is = w.in-Ok.ensures.updates.changed;
          others = others_by w.in-Ok.client old.clients c.insert.new.self w.in-Ok.ensures.updates.others;
          commands = λ n. refl;
          tree = refl;
          limits = refl;
          number = refl;
        }) c.new.ensures,
      )
      | in-Err w ↦ subst (λ r. IfOk r (λ client. CanOpen old × Opens old client new)) (sym w.result-is) tt
    ]
