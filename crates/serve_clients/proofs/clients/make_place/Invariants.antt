use Rattle.std.proofs.Common.{◌≡◌, ℕ, length}
use Rattle.std.specs.Prelude.{slice_get}
use Rattle.std.specs.Option.{option_flatten}
use Rattle.serve_clients.proofs.clients.make_place.Given as goal

abbrev pub invariant-loop : goal.invariant-loop
invariant-loop l = record {
  len : length l.all.items ≡ l.counter;
  same : (other : ℕ) → option_flatten (slice_get l.all.items other) ≡ option_flatten (slice_get l.fn.all.items other);
}
