use Rattle.std.proofs.Common.{◌∙◌, sym}
use Rattle.gate_history.specs.Spelled.{before_comma}
use Rattle.gate_history.proofs.Summed.{not_summed, other_sum, unequal}
use Rattle.gate_history.proofs.lines.body_of.Goals as goal

pub returns-in-None : goal.returns-in-None
returns-in-None c = λ body. not_summed c.args.line.now body c.in-None.ensures

pub returns : goal.returns
returns c = λ body.
    other_sum c.args.line.now c.in-Some.front.now c.in-Some.body.now body c.in-Some.ensures
    (unequal (before_comma c.in-Some.body.now) c.as_str.result.now c.in-Some.front.now (c.as_str.ensures.value ∙ c.in_ok-wanted-in-Some.ensures) (sym c.eq.ensures ∙ c.if-eq.false))
