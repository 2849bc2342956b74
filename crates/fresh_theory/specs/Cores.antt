-- A fleet of cores on accepted trees, before the same servers. Source: mcgate's own.
use Rattle.std.specs.Prelude.{◌≡◌, ℕ, ◌<◌, List, Option, Some}
use Rattle.mc_types.specs.declared.ask.Ask.{Ask}
use Rattle.mc_types.specs.Items.{Item}
use Rattle.fresh_runs.specs.Overlap.{Entry, run_of}
use Rattle.fresh_runs.specs.Freshness.{nobody_bars}
use Rattle.route_tree.specs.Route.{Route}
use Rattle.core_proxy.specs.CoreState.{dialect}
use Rattle.core_accepted.specs.declared.served.ServedCore.{ServedCore}
use Rattle.core_accepted.specs.Logs.{MayHaveLed}
use Rattle.core_accepted.specs.Late.{Moment, told, begun_late, IsFreshBy, WasOver}
use Rattle.core_accepted.specs.Pipes.{PipeStep, moments_of, WasOverOn}
use Rattle.fresh_theory.specs.FleetLaws.{IsSticky}
use Rattle.core_accepted.specs.Parts.{AreChanges, part, NumbersRise, ServesPipes, PipesInOrder}
use Rattle.fresh_theory.specs.Parts.{renamed, NoStoreLands}
use Rattle.core_accepted.specs.Rollout.{AreOfFleet, AreLoadedWithin, words_by}

-- logs that may have led to each proxy's core, and how they stand in what a fleet does: each core's log is its part of that, by the order in which servers applied its calls; numbers are given as commands begin, at whatever proxy; and servers do as memcached does
pub record AreCoresOf (lag : ℕ) (trees : List Route) (fresh : ℕ → ServedCore) (opening : ℕ → List ℕ → Option Item) (moments : List Moment) : Type 0 where
  pub proxy : ℕ → ℕ
  -- the number in the fleet of a command of a proxy
  pub name : ℕ → ℕ → ℕ
  pub rising : (p n m : ℕ) → n < m → name p n < name p m
  -- what each core's log says that servers held at first
  pub believes : ℕ → ℕ → List ℕ → Option Item
  pub logs : ℕ → List (Entry dialect)
  pub led : (p : ℕ) → MayHaveLed (believes p) (logs p) (fresh p)
  -- the tree of a command, which is that which its proxy had loaded when it began
  pub tree : ℕ → Route
  pub runs_by : (p n : ℕ) (ask : Ask) → begun_late (run_of (logs p)) n ≡ Some ask → tree (name p n) ≡ (led p).tree n
  pub loaded : AreLoadedWithin lag trees tree
  pub parts : (p : ℕ) → AreChanges (renamed (name p) (run_of (logs p))) (part proxy p (told opening moments))
  pub rise : NumbersRise (told opening moments)
  pub serves : ServesPipes opening moments

-- where a store that failed was applied before, or never is: a command that begins at any proxy after a delete of its key was acknowledged by any proxy shows no item of a store that was over when the delete began
abbrev pub FleetOfCoresIsFresh : Type 0
FleetOfCoresIsFresh =
    (lag : ℕ) (trees : List Route) → AreOfFleet lag trees
    → (fresh : ℕ → ServedCore) (opening : ℕ → List ℕ → Option Item) (moments : List Moment) → AreCoresOf lag trees fresh opening moments
    → NoStoreLands moments → IsFreshBy opening WasOver moments

-- where what was sent over a connection is applied in order, however late: a command that begins at any proxy after a delete of its key was acknowledged by any proxy shows no item of a store that was over when the delete began, but of one that had failed over another connection than the delete's
abbrev pub LateFleetOfCoresIsFresh : Type 0
LateFleetOfCoresIsFresh =
    (lag : ℕ) (trees : List Route) → AreOfFleet lag trees
    → (fresh : ℕ → ServedCore) (line : ℕ → ℕ → ℕ) (opening : ℕ → List ℕ → Option Item) (steps : List PipeStep) → AreCoresOf lag trees fresh opening (moments_of steps)
    → PipesInOrder line steps → IsFreshBy opening (WasOverOn line) (moments_of steps)

-- where what was sent over a connection is applied in order, however late, and each key has its connections: a command that begins at any proxy after a delete of its key was acknowledged by any proxy shows no item of a store that was over when the delete began
abbrev pub StickyFleetOfCoresIsFresh : Type 0
StickyFleetOfCoresIsFresh =
    (lag : ℕ) (trees : List Route) → AreOfFleet lag trees
    → (fresh : ℕ → ServedCore) (line : ℕ → ℕ → ℕ) (at : List ℕ → ℕ → ℕ) (opening : ℕ → List ℕ → Option Item) (steps : List PipeStep) → (cores : AreCoresOf lag trees fresh opening (moments_of steps))
    → PipesInOrder line steps → IsSticky (words_by cores.tree) nobody_bars line at (told opening (moments_of steps)) → IsFreshBy opening WasOver (moments_of steps)
