use Rattle.std.proofs.Common.{◌↔◌, IsTrue, Bool, sym, subst}
use Rattle.gate_gaps.specs.ServerUses.{IsRead}
use Rattle.gate_gaps.proofs.server_uses.server_use_of.Goals as goal
use Rattle.gate_gaps.proofs.Naming.{read_is}

pub returns-clause-server_use : goal.returns-clause-server_use
returns-clause-server_use c = record {
  read = subst (λ (b : Bool). IsTrue b ↔ IsRead c.args.plain.now c.args.server) (sym c.is_taken_at_all.ensures) (read_is c.args.plain.now c.args.server (λ op. c.taken_is_exact.ensures c.args.plain.now op c.args.server c.form-form.ensures.plain.good));
  cleared = c.cleared.ensures;
}
