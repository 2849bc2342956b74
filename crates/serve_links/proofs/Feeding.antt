-- A piece of a client, and the core.
use Rattle.std.proofs.Common.{◌≡◌, ℕ, List, [], ◌∷◌, Result, Ok, Err, refl, ap, subst, inl}
use Rattle.std.specs.Prelude.{IfErr, OnOk}
use Rattle.core_proxy.specs.declared.fault.CoreFault.{CoreFault}
use Rattle.core_proxy.specs.Faults.{CanFeed, FeedFault}
use Rattle.core_proxy.specs.CoreState.{Feeds, client_at, dropped_by}
use Rattle.core_accepted.specs.Logs.{LogsGoBy, fed}
use Rattle.core_accepted.specs.declared.served.ServedCore.{ServedCore}
use Rattle.serve_clients.specs.declared.clients.Client.{Client}
use Rattle.serve_links.specs.CoreSteps.{Fed, Does}
use Rattle.serve_links.specs.Pieces.{FeedsPiece, KeepsAllButHeld, FeedsHeld}

pub takes :
    (client : ℕ) (piece held : List ℕ) → piece ≡ held → (r : Result (Unit {0}) CoreFault) (a b : ServedCore) → OnOk r (CanFeed a.core client piece × Feeds a.core client piece b.core)
    → IfErr r (λ fault. FeedFault a.core client piece fault × (b ≡ a)) → OnOk r (LogsGoBy a (λ entries. entries ≡ fed (dropped_by (client_at a.core client)) client piece) b)
    → FeedsPiece client held a b
takes client piece held same (Ok done) a b ok err fresh = record { steps = Fed client piece ∷ []; kinds = (ap (λ p. Fed client p) same, tt); walks = (a, refl, (ok.0, ok.1, fresh)) }
takes client piece held same (Err fault) a b ok err fresh = record { steps = []; kinds = tt; walks = err.1 }

-- what an end holds was fed, and is held no more
pub fed_all :
    (client : ℕ) (x y : Client) (piece : List ℕ) (a b : ServedCore) → piece ≡ x.conn.held.items → CanFeed a.core client piece × Feeds a.core client piece b.core
    → LogsGoBy a (λ entries. entries ≡ fed (dropped_by (client_at a.core client)) client piece) b → y.conn.held.items ≡ [] → KeepsAllButHeld x y → FeedsHeld client x y a b
fed_all client x y piece a b same ok fresh none keeps = inl (subst (λ p. Does (Fed client p) a b) same (ok.0, ok.1, fresh), none, keeps)
