use Rattle.core_proxy.specs.CoreState.{client_at, GoesByEntries}
use Rattle.core_proxy.specs.Polls.{ForClient, ClientIsServed, AreShown, queue_len, StandsStill}
use Rattle.core_proxy.proofs.proxy.Core.show_all.Given as goal

abbrev pub invariant-loop : goal.invariant-loop
invariant-loop l = record {
  goes : GoesByEntries l.fn.self (AreShown l.client) l.self;
  served : ForClient l.self l.client ClientIsServed;
  still : StandsStill l.fn.self l.self;
}

abbrev pub decreases-loop : goal.decreases-loop
decreases-loop l = queue_len (client_at l.self l.client)
