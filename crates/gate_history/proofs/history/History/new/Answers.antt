use Rattle.gate_history.proofs.Judging.{known_none}
use Rattle.gate_history.proofs.history.History.new.Goals as goal

pub invariant_of-result : goal.invariant_of-result
invariant_of-result c = known_none c.new-generations.result.items c.in_ok-ledger.ledger c.new-generations.ensures.items c.in_ok-ledger.ensures.servers c.in_ok-ledger.ensures.ledger
