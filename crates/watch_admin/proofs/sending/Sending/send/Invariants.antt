use Rattle.std.proofs.Common.{◌≡◌}
use Rattle.watch_admin.specs.Sending.{GoesUpTo}
use Rattle.watch_admin.proofs.sending.Sending.send.Given as goal

abbrev pub invariant-loop : goal.invariant-loop
invariant-loop g l = (l.self.answer.items ≡ l.fn.self.answer.items) × GoesUpTo l.fn.self.answer.items l.fn.self.sent l.self.sent (g.W.Write.contents l.initial.stream) (g.W.Write.contents l.stream)
