-- What servers may do to a core that is served. Source: mcgate's own.
use Rattle.std.specs.Prelude.{◌≡◌, ℕ, List, ◌∷◌, Option}
use Rattle.mc_types.specs.Items.{Item}
use Rattle.fresh_runs.specs.Run.{Event, Begins, Calls, Replies, Breaks, Turns, Restarts, after_event}
use Rattle.fresh_runs.specs.Overlap.{Entry, Happens}
use Rattle.core_proxy.specs.CoreState.{dialect}
use Rattle.core_accepted.specs.declared.served.ServedCore.{ServedCore}
use Rattle.core_accepted.specs.Logs.{MayHaveLed}

-- a server loses what it holds of a key, or all that it holds; or somebody else writes what it holds of a key
abbrev pub IsLossEvent : Event → Type 0
IsLossEvent (Turns server key turned) = Unit {0}
IsLossEvent (Restarts server) = Unit {0}
IsLossEvent (Begins number ask) = ⊥
IsLossEvent (Calls number server ask origin end) = ⊥
IsLossEvent (Replies number key reply from) = ⊥
IsLossEvent (Breaks number) = ⊥

-- whatever servers lose and whatever others write there, at any moment: each log that may have led to a core goes on by it, and may have led to that core
abbrev pub ServersMayLose : Type 0
ServersMayLose =
    (served : ServedCore) (opening : ℕ → List ℕ → Option Item) (past : List (Entry dialect)) (led : MayHaveLed opening past served) (event : Event) → IsLossEvent event
    → (led' : MayHaveLed opening (Happens event ∷ past) served) × (led'.beside ≡ record led.beside { holds = after_event event led.beside.holds })
