use Rattle.std.proofs.Common.{◌≡◌, Bool, true, false, not, sym, refl, ◌∙◌}
use Rattle.core_commands.proofs.Lines.{joins_again}
use Rattle.core_commands.proofs.key_lines.KeyLines.join.Goals as goal

not_false : (b : Bool) → not b ≡ false → b ≡ true
not_false true e = refl
not_false false e = sym e

pub returns-in-Some-clause-same : goal.returns-in-Some-clause-same
returns-in-Some-clause-same c = λ e.
    joins_again c.self.inside.standing.items c.in-Some.place c.args.client c.args.key.now c.args.claim c.index.result.now (sym c.in-Some.ensures) c.index.ensures (sym c.eq-is_same.ensures ∙ not_false c.eq-is_same.result e)
    ∙ c.self.view_is
