use Rattle.std.proofs.Common.{ℕ, List, sym, subst}
use Rattle.watch_admin.specs.HttpReplies.{AnswersVisitor}
use Rattle.watch_admin.proofs.http.exchange.Answering.send.Goals as goal

pub invariant_of-self : goal.invariant_of-self
invariant_of-self g c = record {
  answers = subst (λ (answer : List ℕ). ∥ AnswersVisitor c.args.self.now.came.items answer ∥₁) (sym c.send.ensures.answer) c.args.self.now.answers;
}
