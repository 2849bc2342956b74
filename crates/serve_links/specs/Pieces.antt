-- What a client's bytes are to the core. Source: mcgate's own.
use Rattle.std.specs.Prelude.{◌≡◌, ◌⊎◌, ℕ, List, []}
use Rattle.core_accepted.specs.declared.served.ServedCore.{ServedCore}
use Rattle.serve_clients.specs.declared.clients.Client.{Client}
use Rattle.serve_clients.specs.Agrees.{Breaks}
use Rattle.serve_links.specs.CoreSteps.{Fed, Does, GoesBy}

-- this piece was fed for this client, or nothing was done
abbrev pub FeedsPiece : ℕ → List ℕ → ServedCore → ServedCore → Type 0
FeedsPiece client piece old new = GoesBy (λ step. step ≡ Fed client piece) old new

-- nothing of a client's end has changed but what it holds
abbrev pub KeepsAllButHeld : Client → Client → Type 0
KeepsAllButHeld x y = y ≡ record x { conn = record x.conn { held = y.conn.held } }

-- all that the client's end holds was fed to the core, and is held no more; or nothing was fed, and it is held still, or the end is broken off
abbrev pub FeedsHeld : ℕ → Client → Client → ServedCore → ServedCore → Type 0
FeedsHeld id x y old new =
    (Does (Fed id x.conn.held.items) old new × (y.conn.held.items ≡ []) × KeepsAllButHeld x y) ⊎ ((new ≡ old) × ((y ≡ x) ⊎ Breaks x y))
