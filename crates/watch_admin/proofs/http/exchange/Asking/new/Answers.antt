use Rattle.watch_admin.proofs.Kept.{none_came}
use Rattle.watch_admin.proofs.http.exchange.Asking.new.Goals as goal

pub invariant_of-result : goal.invariant_of-result
invariant_of-result c = record { asks = none_came c.new.result.items c.new.ensures.items }
