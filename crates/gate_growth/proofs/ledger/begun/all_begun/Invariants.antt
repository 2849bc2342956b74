use Rattle.std.proofs.Common.{◌≡◌, ◌≤◌, ℕ, Bool, length, max}
use Rattle.gate_growth.specs.Pages.{AreBegun, AreOpened}
use Rattle.gate_growth.proofs.ledger.begun.all_begun.Given as goal

abbrev pub invariant-loop-server : goal.invariant-loop-server
invariant-loop-server l =
    (length l.begun.items ≡ l._server) × (l._server ≤ max (length l.known) l.servers)
    × ((arbitrary : ℕ → Bool) → AreBegun arbitrary l.known → AreOpened arbitrary (length l.known) l.servers l.new → AreBegun arbitrary l.begun.items)
