use Rattle.std.proofs.Common.{◌≡◌, ◌<◌, ℕ, true, length}
use Rattle.serve_clients.specs.Notes.{AreSummed, AreExact, flag_at}
use Rattle.serve_clients.proofs.places.note_all.Given as goal

abbrev pub invariant-loop-id : goal.invariant-loop-id
invariant-loop-id l = record {
  summed : AreSummed l.all.items l.held.items l.flags.items l.total;
  exact : AreExact l.all.items l.fn.held.items l.fn.flags.items → AreExact l.all.items l.held.items l.flags.items;
  len : length l.flags.items ≡ length l.fn.flags.items;
  noted : (id : ℕ) → id < l.id → flag_at l.flags.items id ≡ true → ⊥;
}
