use Rattle.std.proofs.Common.{◌∙◌}
use Rattle.wire_answers.proofs.LineLemmas.{after_found, after_nothing}
use Rattle.wire_answers.proofs.first_line.after_space.Goals as goal

pub returns-in-Some : goal.returns-in-Some
returns-in-Some c = after_found c.args.text.now c.in-Some.at c.in-Some.ensures

pub returns-in-None : goal.returns-in-None
returns-in-None c = c.as_slice.ensures ∙ after_nothing c.args.text.now c.in-None.ensures
