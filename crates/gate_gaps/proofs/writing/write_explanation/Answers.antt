use Rattle.std.proofs.Common.{List, ℕ, ◌++◌, ap, ap₂, subst}
use Rattle.std.specs.Io.KnownBytes.{Appends}
use Rattle.gate_gaps.specs.Lines.{way_line, server_use_lines}
use Rattle.gate_gaps.proofs.Written.{both_written}
use Rattle.gate_gaps.proofs.writing.write_explanation.Goals as goal

pub returns : goal.returns
returns g c =
    let way = ap (way_line c.args.servers.now c.args.pools.now c.args.server c.args.op) c.deref.ensures.value in
    let rest = ap (server_use_lines c.args.servers.now c.args.pools.now c.args.deleting) c.deref-2.ensures.value in
    subst (λ (t : List ℕ). Appends (g.W.Write.contents c.args.out.now) (g.W.Write.contents c.write_server_uses.new.out) t) (ap₂ (λ (a b : List ℕ). a ++ b) way rest)
    (both_written _ _ _ _ _ c.in_ok-write_way.ensures c.in_ok-write_server_uses.ensures)
