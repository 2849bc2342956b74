-- Scripts whose servers may have held anything, and what the gate answers then to what they load: it looks at pairs of trees. Source: mcgate's own.
use Rattle.std.specs.Prelude.{◌≡◌, ◌≢◌, ℕ, ◌<◌, ◌≤◌, List, length}
use Rattle.route_tree.specs.Each.{Each}
use Rattle.route_tree.specs.Route.{Route, IsTree}
use Rattle.route_json.specs.Configuration.{Configuration}
use Rattle.gate_check.specs.Pairs.{IsPairFault}
use Rattle.gate_check.specs.Reload.{IsReloadFault}
use Rattle.gate_check.specs.Sound.{AreSound, trees_of}
use Rattle.gate_check.specs.declared.pairs.PairFault.TheVariants as pairs
use Rattle.gate_check.specs.declared.reloading.ReloadFault.{ReloadFault}
use Rattle.gate_check.specs.declared.reloading.ReloadFault.TheVariants as faults
use Rattle.core_accepted.specs.Begun.{any_begun}
use Rattle.core_accepted.specs.Known.{Known, first_of}
use Rattle.script_events.specs.declared.script.Reload.{Reload}
use Rattle.script_run.specs.declared.accepted.judging.Loading.{Loading}
use Rattle.mcgate_replay.specs.Growing.{JudgesAll, IsFew}

-- ---- two trees

-- the fault, told of this generation
abbrev pub of_generation : ℕ → ReloadFault → ReloadFault
of_generation n faults.TooManyGenerations = faults.TooManyGenerations
of_generation n (faults.TooManyPlaces generation) = faults.TooManyPlaces n
of_generation n (faults.Uncovered generation gap) = faults.Uncovered n gap
of_generation n faults.NoMemory = faults.NoMemory

-- why the first tree, which is of this generation, isn't known to cover the other
abbrev pub IsFaultOf : ℕ → Route → Route → ReloadFault → Type 0
IsFaultOf n a tree faults.TooManyGenerations = ⊥
IsFaultOf n a tree (faults.TooManyPlaces generation) = (generation ≡ n) × IsPairFault a tree pairs.TooManyPlaces
IsFaultOf n a tree (faults.Uncovered generation gap) = (generation ≡ n) × IsPairFault a tree (pairs.Uncovered gap)
IsFaultOf n a tree faults.NoMemory = Unit {0}

-- ---- all trees so far

-- they are so many at most, and each covers itself and all later ones
pub record AreHeld (most : ℕ) (trees : List Route) : Type 0 where
  pub some : 0 < length trees
  pub few : IsFew most (length trees)
  pub trees_are : Each IsTree trees
  pub sound : AreSound trees

-- why the tree isn't known to be covered by these and by itself: they are as many as are held at most; or the first that doesn't, its own last
abbrev pub IsJoinFault : ℕ → List Route → Route → ReloadFault → Type 0
IsJoinFault most trees tree faults.TooManyGenerations = most ≤ length trees
IsJoinFault most trees tree (faults.TooManyPlaces generation) = IsReloadFault trees tree (faults.TooManyPlaces generation)
IsJoinFault most trees tree (faults.Uncovered generation gap) = IsReloadFault trees tree (faults.Uncovered generation gap)
IsJoinFault most trees tree faults.NoMemory = Unit {0}

-- why the gate refuses the tree, which is never running out of memory
abbrev pub MayNotJoin : ℕ → Known → Route → ReloadFault → Type 0
MayNotJoin most known tree fault = IsJoinFault most (trees_of known.configs) tree fault × (fault ≢ faults.NoMemory)

-- these configurations, the first of which is the one of that name, where servers may have held anything
abbrev pub known_of_pair : Configuration → List Configuration → Known
known_of_pair first configs = record (first_of first any_begun) { configs = configs }

-- the gate's answers to these reloads, one after another, and what is held then
abbrev pub ArePaired : ℕ → Configuration → List Reload → List Loading → Type 0
ArePaired most first rs ls = (known : Known) × JudgesAll (MayNotJoin most) (first_of first any_begun) rs ls known × AreHeld most (trees_of known.configs)
