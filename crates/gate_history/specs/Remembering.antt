-- What a server may hold after generations. Source: mcgate's own.
use Rattle.std.specs.Prelude.{◌≡◌, ℕ, List, [], ◌∷◌, ◌++◌, Option, Some, MatchOption, slice_get}
use Rattle.route_tree.specs.Route.{Server, Null}
use Rattle.route_json.specs.Servers.{Addresses}
use Rattle.route_json.specs.Configuration.{Configuration}
use Rattle.gate_growth.specs.declared.ledger.page.Beginning.TheVariants.{Own}
use Rattle.gate_growth.specs.declared.ledger.unsound.Unsound.TheVariants as unsounds
use Rattle.gate_history.specs.declared.generation.Generation.{Generation}
use Rattle.gate_history.specs.declared.remembered.LeftAt.{LeftAt}
use Rattle.gate_history.specs.declared.remembered.State.{State}
use Rattle.gate_history.specs.declared.remembered.State.TheVariants as states
use Rattle.gate_history.specs.Judged.{IsSoundAfter, IsUnsoundAfter}

-- all commands go to this server
abbrev pub alone : Addresses → ℕ → Configuration
alone servers server = record { tree = Server server; servers = servers }

-- no command goes anywhere
abbrev pub idle : Addresses → Generation
idle servers = record { config = record { tree = Null; servers = servers }; began = Own }

-- all commands may go to the server from now on; or something is left on it, first there
abbrev pub AreLeft : List Generation → Addresses → ℕ → Option LeftAt → Type 0
AreLeft gs servers server found =
    MatchOption found (IsSoundAfter gs (alone servers server) Own) (λ l. IsUnsoundAfter gs (alone servers server) Own (unsounds.Left l.generation l.gap))

-- what the server may hold: something that was deleted; or not, but something that is left as soon as a delete doesn't go there; or nothing
abbrev pub IsRemembered : List Generation → Addresses → ℕ → State → Type 0
IsRemembered gs servers server (states.Left l) = IsUnsoundAfter gs (alone servers server) Own (unsounds.Left l.generation l.gap)
IsRemembered gs servers server states.Held =
    IsSoundAfter gs (alone servers server) Own × (l : LeftAt) × IsUnsoundAfter (gs ++ idle servers ∷ []) (alone servers server) Own (unsounds.Left l.generation l.gap)
IsRemembered gs servers server states.Clean =
    IsSoundAfter gs (alone servers server) Own × IsSoundAfter (gs ++ idle servers ∷ []) (alone servers server) Own

-- so of each server in its place
abbrev pub AllLeft : List Generation → Addresses → List (Option LeftAt) → Type 0
AllLeft gs servers all = (server : ℕ) (found : Option LeftAt) → slice_get all server ≡ Some found → AreLeft gs servers server found

abbrev pub AreRemembered : List Generation → Addresses → List State → Type 0
AreRemembered gs servers all = (server : ℕ) (state : State) → slice_get all server ≡ Some state → IsRemembered gs servers server state
