use Rattle.std.proofs.Common.{◌≡◌, ℕ, true, take}
use Rattle.std.specs.Prelude.{Contains}
use Rattle.serve_clients.specs.Notes.{AreSummed, AreExact, flag_at}
use Rattle.serve_clients.proofs.places.note_listed.Given as goal

abbrev pub invariant-loop-id : goal.invariant-loop-id
invariant-loop-id l = record {
  summed : AreSummed l.all.items l.held.items l.flags.items l.total;
  exact : AreExact l.all.items l.fn.held.items l.fn.flags.items → AreExact l.all.items l.held.items l.flags.items;
  noted : (id : ℕ) → flag_at l.flags.items id ≡ true → (flag_at l.fn.flags.items id ≡ true) × (Contains (take l.id-index l.ids.items) id → ⊥);
}
