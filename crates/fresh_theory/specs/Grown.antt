-- Logs of a core on generations that needn't clear what was never stored. Source: mcgate's own.
use Rattle.std.specs.Prelude.{◌≡◌, ℕ, Bool, List, Option, Some}
use Rattle.mc_types.specs.Items.{Item}
use Rattle.fresh_runs.specs.Overlap.{Entry, run_of}
use Rattle.fresh_runs.specs.Run.{LosesOnly}
use Rattle.route_tree.specs.Each.{Each}
use Rattle.route_tree.specs.Route.{IsTree}
use Rattle.gate_check.specs.Sound.{trees_of}
use Rattle.gate_growth.specs.Grown.{AreSoundSince, OpensBy}
use Rattle.core_proxy.specs.CoreState.{dialect}
use Rattle.core_accepted.specs.declared.served.ServedCore.{ServedCore}
use Rattle.core_accepted.specs.Known.{Known}
use Rattle.core_accepted.specs.Logs.{MayHaveLed, IsFreshLog}

-- each log that may have led to the core is fresh, where what was held at the beginning is what is said of the servers, and nobody else writes the servers
abbrev pub EveryGrownLogIsFresh : (ℕ → Bool) → Known → ServedCore → Type 0
EveryGrownLogIsFresh arbitrary known served =
    (opening : ℕ → List ℕ → Option Item) (past : List (Entry dialect)) → MayHaveLed opening past served → OpensBy arbitrary (trees_of known.configs) opening
    → LosesOnly (run_of past) → IsFreshLog served.core.limits.sharing opening past

-- each log that may have led to a core on sound generations is fresh, where what was held at the beginning is what is said of the servers, and nobody else writes the servers
abbrev pub GrownLogsAreFresh : Type 0
GrownLogsAreFresh =
    (arbitrary : ℕ → Bool) (known : Known) (served : ServedCore) → served.accepted ≡ Some known
    → Each IsTree (trees_of known.configs) → AreSoundSince arbitrary (trees_of known.configs) → EveryGrownLogIsFresh arbitrary known served
