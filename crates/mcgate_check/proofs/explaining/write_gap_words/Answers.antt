use Rattle.std.proofs.Common.{List, ℕ, ◌++◌, ap, subst}
use Rattle.std.specs.Io.KnownBytes.{Appends}
use Rattle.gate_gaps.proofs.Written.{both_written}
use Rattle.gate_gaps.specs.Lines.{explanation_lines}
use Rattle.gate_gaps.specs.Sites.{change_lines}
use Rattle.mcgate_check.specs.Explaining.{script_words}
use Rattle.mcgate_check.proofs.explaining.write_gap_words.Goals as goal

pub returns : goal.returns
returns g c =
    let servers = c.args.servers.now in
    let pools = c.args.pools.now in
    let gap = c.args.gap.now in
    let front = script_words servers pools gap.server c.args.run.now ++ explanation_lines servers pools gap.op gap.server gap.deleting c.args.explanation.now in
    let lines = ap (λ (p : List ℕ). front ++ change_lines servers pools gap.server p c.args.tree.now) c.prefix_text-prefix.ensures in
    subst (λ (t : List ℕ). Appends (g.W.Write.contents c.args.out.now) (g.W.Write.contents c.write_changes.new.out) t) lines
    (both_written _ _ _ _ _ (both_written _ _ _ _ _ c.in_ok-write_script_words.ensures c.in_ok-write_explanation.ensures) c.in_ok-write_changes.ensures)
