use Rattle.std.proofs.Common.{sym, subst}
use Rattle.std.specs.Prelude.{IfOk}
use Rattle.wire_answers.specs.declared.line_kinds.FirstLine.{FirstLine}
use Rattle.wire_answers.specs.Reading.{ReadsAfter}
use Rattle.wire_answers.proofs.reader.after_line.Goals as goal

pub returns-in-Hit : goal.returns-in-Hit
returns-in-Hit c = subst (λ (s : FirstLine). IfOk c.hit_after.result (ReadsAfter s c.args.rest.now)) (sym c.in-Hit.is) c.hit_after.ensures

pub returns-in-Value : goal.returns-in-Value
returns-in-Value c = subst (λ (s : FirstLine). IfOk c.value_after.result (ReadsAfter s c.args.rest.now)) (sym c.in-Value.is) c.value_after.ensures
