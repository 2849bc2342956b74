use Rattle.std.proofs.Common.{◌≡◌}
use Rattle.cache_server.proofs.SweepLemmas.{IsSwept}
use Rattle.cache_server.proofs.sweep.sweep.Given as goal

abbrev pub invariant-loop-turn : goal.invariant-loop-turn
invariant-loop-turn l = record {
  swept : IsSwept l.now l.initial.items.entries l.due l._turn l.items.entries;
  cap : l.items.cap ≡ l.initial.items.cap;
}
