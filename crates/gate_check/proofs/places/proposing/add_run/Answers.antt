use Rattle.std.proofs.Common.{inr, refl}
use Rattle.gate_check.specs.declared.places.table.Run.{Run}
use Rattle.gate_check.proofs.places.proposing.add_run.Goals as goal

pub returns : goal.returns
returns c =
    let run : Run = record { first = c.args.residue; servers = c.in_ok-servers.servers } in
    inr (run, refl, c.in_ok-servers.ensures.items, c.in_ok-push.ensures.items)
