use Rattle.std.proofs.Common.{◌∙◌}
use Rattle.watch_admin.proofs.Kept.{page_answers}
use Rattle.watch_admin.proofs.http.exchange.Waiting.answer.Goals as goal

pub invariant_of-result : goal.invariant_of-result
invariant_of-result c = record {
  answers = page_answers c.args.self.came.items c.new-answer.result.items c.new.result.answer.items c.args.body.now c.args.self.page c.args.self.asks c.new-answer.ensures.items (c.new.ensures.answer ∙ c.in_ok-write_page.ensures);
}
