-- The gate for fleets. Source: mcgate's own.
use Rattle.std.specs.Prelude.{◌≡◌, ℕ, ◌+◌, ◌<◌, List, Option, Some, length, slice_get}
use Rattle.route_tree.specs.Each.{IsIn}
use Rattle.route_tree.specs.Route.{Route}
use Rattle.gate_check.specs.declared.pairs.PairFault.{PairFault}
use Rattle.gate_check.specs.declared.pairs.PairFault.TheVariants as pairs
use Rattle.gate_check.specs.Reload.{AreCovering, FailsAt}
use Rattle.core_accepted.specs.Rollout.{AreOfFleet, TreesCopyNothing, FleetRunsAreFresh}
use Rattle.core_accepted.specs.Copying.{CopiesNothing, CopiesKeys}
use Rattle.core_accepted.specs.declared.fleets.gates.judging.FleetFault.{FleetFault}
use Rattle.core_accepted.specs.declared.fleets.gates.judging.FleetFault.TheVariants as faults

-- proxies may run by any of the trees at the same time, however far apart these were rolled out: each clears what it and each other take, and none copies
abbrev pub AreSideBySide : List Route → Type 0
AreSideBySide trees = (lag : ℕ) → AreOfFleet lag trees

-- whichever of them a command runs by, every run is fresh
abbrev pub AcceptedFleetIsFresh : Type 0
AcceptedFleetIsFresh = (trees : List Route) → AreSideBySide trees → (tree : ℕ → Route) → ((n : ℕ) → IsIn (tree n) trees) → FleetRunsAreFresh tree

-- the first of the trees that copies, and for which keys
pub record IsFirstCopying (trees : List Route) (i : ℕ) (prefix : Option (List ℕ)) : Type 0 where
  pub tree : Route
  pub is_tree : slice_get trees i ≡ Some tree
  pub copies : CopiesKeys tree prefix
  pub before : (j : ℕ) (a : Route) → j < i → slice_get trees j ≡ Some a → CopiesNothing a

-- all cover each of the trees before this number
abbrev pub AreAllCovering : List Route → ℕ → Type 0
AreAllCovering trees n = (j : ℕ) (b : Route) → j < n → slice_get trees j ≡ Some b → AreCovering trees b (length trees)

-- none copies; and `reads` is the first of the trees that not all are known to cover, and `deletes` the first that isn't known to, for this reason
pub record IsFirstPair (trees : List Route) (reads deletes : ℕ) (fault : PairFault) : Type 0 where
  pub copy_nothing : TreesCopyNothing trees
  pub tree : Route
  pub is_tree : slice_get trees reads ≡ Some tree
  pub before : AreAllCovering trees reads
  pub fails : FailsAt trees tree (deletes + 1) fault

-- why proxies may not run by the trees at the same time
abbrev pub IsFleetFault : List Route → FleetFault → Type 0
IsFleetFault trees (faults.Copies i prefix) = IsFirstCopying trees i prefix × (AreSideBySide trees → ⊥)
IsFleetFault trees (faults.TooManyPlaces reads deletes) = IsFirstPair trees reads deletes pairs.TooManyPlaces
IsFleetFault trees (faults.Uncovered reads deletes gap) = IsFirstPair trees reads deletes (pairs.Uncovered gap) × (AreSideBySide trees → ⊥)
IsFleetFault trees faults.NoMemory = Unit {0}
