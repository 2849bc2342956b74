use Rattle.std.proofs.Common.{ℕ, List, subst}
use Rattle.std.specs.Io.KnownBytes.{Appends}
use Rattle.gate_gaps.proofs.Written.{both_written}
use Rattle.mcgate_ends.specs.FleetLines.{copying_front}
use Rattle.mcgate_ends.proofs.fleets.lines.write_copying.Goals as goal

pub returns : goal.returns
returns g c =
    let front = subst (λ (t : List ℕ). Appends (g.W.Write.contents c.args.out.now) (g.W.Write.contents c.write_copying_front.new.out) (copying_front t c.args.tree.now)) c.prefix_text.ensures c.in_ok-write_copying_front.ensures in
    both_written _ _ _ _ _ front c.in_ok-write_copying_end.ensures
