-- When a tree becomes the next generation. Source: mcgate's own.
use Rattle.gate_check.specs.declared.reloading.TheConstants.{MOST_GENERATIONS}
use Rattle.std.specs.Prelude.{◌≡◌, ℕ, ◌+◌, ◌<◌, ◌≤◌, List, [], ◌∷◌, ◌++◌, Some, length, slice_get}
use Rattle.route_json.specs.Configuration.{Configuration}
use Rattle.route_json.specs.Servers.{Addresses}
use Rattle.route_tree.specs.Route.{Route}
use Rattle.gate_check.specs.Places.{CoversAt}
use Rattle.gate_check.specs.Pairs.{IsPairFault}
use Rattle.gate_check.specs.Sound.{IsLast}
use Rattle.gate_check.specs.declared.pairs.PairFault.{PairFault}
use Rattle.gate_check.specs.declared.pairs.PairFault.TheVariants as pairs
use Rattle.gate_check.specs.declared.reloading.ReloadFault.{ReloadFault}
use Rattle.gate_check.specs.declared.reloading.ReloadFault.TheVariants as faults

-- each of the trees before this number covers the tree
abbrev pub AreCovering : List Route → Route → ℕ → Type 0
AreCovering trees tree n = (j : ℕ) (b : Route) → j < n → slice_get trees j ≡ Some b → CoversAt b tree

-- the tree of this generation, counted from 1, is the first that isn't known to cover the tree, for this reason
abbrev pub FailsAt : List Route → Route → ℕ → PairFault → Type 0
FailsAt trees tree generation fault =
    (i : ℕ) × (a : Route) × (generation ≡ i + 1) × (slice_get trees i ≡ Some a) × AreCovering trees tree i × IsPairFault a tree fault

-- why no reload is made: by the generations with the tree as the last one
abbrev pub IsReloadFault : List Route → Route → ReloadFault → Type 0
IsReloadFault trees tree faults.TooManyGenerations = MOST_GENERATIONS ≤ length trees
IsReloadFault trees tree (faults.TooManyPlaces generation) = FailsAt (trees ++ tree ∷ []) tree generation pairs.TooManyPlaces
IsReloadFault trees tree (faults.Uncovered generation gap) = FailsAt (trees ++ tree ∷ []) tree generation (pairs.Uncovered gap)
IsReloadFault trees tree faults.NoMemory = Unit {0}

-- why no reload is made: by these trees, which aren't too many
abbrev pub IsFaultAmong : List Route → Route → ReloadFault → Type 0
IsFaultAmong trees tree faults.TooManyGenerations = ⊥
IsFaultAmong trees tree (faults.TooManyPlaces generation) = FailsAt trees tree generation pairs.TooManyPlaces
IsFaultAmong trees tree (faults.Uncovered generation gap) = FailsAt trees tree generation (pairs.Uncovered gap)
IsFaultAmong trees tree faults.NoMemory = Unit {0}

-- the new list of servers begins with the one in use, so that each server keeps its number
abbrev pub AreKept : Addresses → Addresses → Type 0
AreKept used new = (i : ℕ) → i < length used → slice_get new i ≡ slice_get used i

-- the servers of a new configuration begin with those of the one in use, so that each keeps its number
abbrev pub KeepsNumbers : List Configuration → Configuration → Type 0
KeepsNumbers configs config = (used : Configuration) → IsLast configs used → AreKept used.servers config.servers
