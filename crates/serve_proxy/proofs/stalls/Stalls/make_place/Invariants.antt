use Rattle.std.proofs.Common.{◌≡◌, ℕ, length}
use Rattle.serve_proxy.specs.Stalls.{since_of}
use Rattle.serve_proxy.proofs.stalls.Stalls.make_place.Given as goal

abbrev pub invariant-loop : goal.invariant-loop
invariant-loop l = record {
  len : length l.self.since.items ≡ l.counter;
  same : (other : ℕ) → since_of l.self other ≡ since_of l.fn.self other;
}
