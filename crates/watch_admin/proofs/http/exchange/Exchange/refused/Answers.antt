use Rattle.std.proofs.Common.{◌∙◌}
use Rattle.watch_admin.proofs.Kept.{refusal_answers}
use Rattle.watch_admin.proofs.http.exchange.Exchange.refused.Goals as goal

pub invariant_of-result : goal.invariant_of-result
invariant_of-result c = record {
  answers = refusal_answers c.args.came.items c.new-answer.result.items c.new-sending.result.answer.items c.args.refusal c.requires c.new-answer.ensures.items (c.new-sending.ensures.answer ∙ c.in_ok-write_refusal.ensures);
}
