use Rattle.std.proofs.Common.{[], arith}
use Rattle.gate_growth.proofs.ledger.book.Ledger.first.Goals as goal

pub returns-clause-first : goal.returns-clause-first
returns-clause-first c = λ arbitrary opened. c.next.ensures.next arbitrary [] (c.in_ok-ledger.ensures.ledger arbitrary) (λ s le lt. opened s (omega arith) lt)
