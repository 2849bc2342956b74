-- One proxy's core on accepted trees, before servers that apply its calls in their order, however late. Source: mcgate's own.
use Rattle.std.specs.Prelude.{◌≡◌, ℕ, List, Option}
use Rattle.mc_types.specs.Items.{Item}
use Rattle.fresh_runs.specs.Overlap.{Entry, run_of}
use Rattle.fresh_runs.specs.Run.{IsFreshByNumber}
use Rattle.route_tree.specs.At.{tree_at}
use Rattle.route_json.specs.Configuration.{Configuration}
use Rattle.gate_check.specs.Sound.{trees_of}
use Rattle.gate_growth.specs.Grown.{OpensBy}
use Rattle.core_commands.specs.declared.sharing.Sharing.TheVariants.{Alone}
use Rattle.core_proxy.specs.Claims.{bars_by}
use Rattle.core_proxy.specs.CoreState.{dialect}
use Rattle.core_accepted.specs.declared.beginnings.Beginnings.{Beginnings}
use Rattle.core_accepted.specs.declared.served.ServedCore.{ServedCore}
use Rattle.core_accepted.specs.Known.{Known, is_arbitrary}
use Rattle.core_accepted.specs.Logs.{MayHaveLed, BeginSo}
use Rattle.core_accepted.specs.Late.{Moment, seen, told, IsFreshBy, WasOver}
use Rattle.core_accepted.specs.Pipes.{PipeStep, moments_of}
use Rattle.core_accepted.specs.Parts.{AreChanges, Own, part, NumbersRise, ServesPipes, PipesInOrder}
use Rattle.core_accepted.specs.Rollout.{words_by}

-- all commands are of one proxy, which has one connection to each server
abbrev pub only_proxy : ℕ → ℕ
only_proxy number = 0

abbrev pub only_line : ℕ → ℕ → ℕ
only_line number server = 0

-- a log that may have led to the core, and how it stands in what happened at the servers: it is the same by the order in which they applied its calls, whatever became of those that failed; and servers do as memcached does, and nobody else writes them
pub record IsCoreOf (served : ServedCore) (opening : ℕ → List ℕ → Option Item) (moments : List Moment) : Type 0 where
  -- what the log says that servers held at first
  pub believes : ℕ → List ℕ → Option Item
  pub log : List (Entry dialect)
  pub led : MayHaveLed believes log served
  pub changes : AreChanges (run_of log) (part only_proxy 0 (seen moments))
  pub rise : NumbersRise (seen moments)
  pub serves : ServesPipes opening moments

-- where servers held this at first, and what is sent over a connection is applied in order, however late: a command that begins after a delete of its key was acknowledged shows no item of a store that was over when the delete began
abbrev pub LateLogsAreFreshFrom : (ℕ → List ℕ → Option Item) → ServedCore → Type 0
LateLogsAreFreshFrom opening served = (steps : List PipeStep) → IsCoreOf served opening (moments_of steps) → PipesInOrder only_line steps → IsFreshBy opening WasOver (moments_of steps)

-- whatever they held
abbrev pub EveryLateLogIsFresh : ServedCore → Type 0
EveryLateLogIsFresh served = (opening : ℕ → List ℕ → Option Item) → LateLogsAreFreshFrom opening served

-- where they held what is said of them
abbrev pub EveryLateLogFromIsFresh : Known → ServedCore → Type 0
EveryLateLogFromIsFresh known served = (opening : ℕ → List ℕ → Option Item) → OpensBy (is_arbitrary known) (trees_of known.configs) opening → LateLogsAreFreshFrom opening served

-- where the servers of the first configuration and of others began so
abbrev pub EveryLateLogSinceIsFresh : Configuration → Beginnings → ServedCore → Type 0
EveryLateLogSinceIsFresh first begun served = (opening : ℕ → List ℕ → Option Item) → BeginSo first begun opening → LateLogsAreFreshFrom opening served

-- a log that may have led to the core, and what its commands do by what happened: as the trees by which they run allow by the log, and the rule of sharing, also with calls whose results the log doesn't have yet; and servers do as memcached does, and nobody else writes them
pub record DoesAsCore (served : ServedCore) (opening : ℕ → List ℕ → Option Item) (moments : List Moment) : Type 0 where
  -- what the log says that servers held at first
  pub believes : ℕ → List ℕ → Option Item
  pub log : List (Entry dialect)
  pub led : MayHaveLed believes log served
  pub own : Own (words_by led.tree) (bars_by served.core.limits.sharing (λ n key. tree_at (led.tree n) key)) (part only_proxy 0 (seen moments))
  pub serves : ServesPipes opening moments

-- where servers held this at first, and what is sent over a connection is applied in order, however late: of all that happened so, a command that begins after a delete of its key was acknowledged shows no item of a store that was over when the delete began
abbrev pub LateRunsAreFreshFrom : (ℕ → List ℕ → Option Item) → ServedCore → Type 0
LateRunsAreFreshFrom opening served = (steps : List PipeStep) → DoesAsCore served opening (moments_of steps) → PipesInOrder only_line steps → IsFreshBy opening WasOver (moments_of steps)

abbrev pub EveryLateRunIsFresh : ServedCore → Type 0
EveryLateRunIsFresh served = (opening : ℕ → List ℕ → Option Item) → LateRunsAreFreshFrom opening served

abbrev pub EveryLateRunFromIsFresh : Known → ServedCore → Type 0
EveryLateRunFromIsFresh known served = (opening : ℕ → List ℕ → Option Item) → OpensBy (is_arbitrary known) (trees_of known.configs) opening → LateRunsAreFreshFrom opening served

abbrev pub EveryLateRunSinceIsFresh : Configuration → Beginnings → ServedCore → Type 0
EveryLateRunSinceIsFresh first begun served = (opening : ℕ → List ℕ → Option Item) → BeginSo first begun opening → LateRunsAreFreshFrom opening served

-- where each command has its key alone, also by numbers: a command numbered after an acknowledged delete of its key shows no item whose stamp isn't greater
abbrev pub EveryLateRunFromIsFreshByNumber : Known → ServedCore → Type 0
EveryLateRunFromIsFreshByNumber known served =
    served.core.limits.sharing ≡ Alone → (opening : ℕ → List ℕ → Option Item) → OpensBy (is_arbitrary known) (trees_of known.configs) opening
    → (steps : List PipeStep) → DoesAsCore served opening (moments_of steps) → PipesInOrder only_line steps → IsFreshByNumber opening (told opening (moments_of steps))
