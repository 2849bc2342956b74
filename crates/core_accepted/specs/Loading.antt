-- When a core that is served takes one more tree, and when not. Source: mcgate's own.
use Rattle.std.specs.Prelude.{◌≡◌, ℕ, ◌+◌, ◌<◌, ◌≤◌, List, [], ◌∷◌, ◌++◌, length, Option, Some, None, option_map, ◌⊎◌}
use Rattle.mc_types.specs.Items.{Item}
use Rattle.fresh_runs.specs.Overlap.{Entry}
use Rattle.route_tree.specs.Route.{Route}
use Rattle.route_json.specs.Configuration.{Configuration}
use Rattle.gate_check.specs.Sound.{trees_of}
use Rattle.gate_check.specs.Reload.{KeepsNumbers}
use Rattle.gate_check.specs.declared.reloading.ReloadFault.{ReloadFault}
use Rattle.gate_check.specs.declared.reloading.ReloadFault.TheVariants as gate
use Rattle.gate_growth.specs.declared.ledger.unsound.Unsound.{Unsound}
use Rattle.gate_growth.specs.declared.ledger.unsound.Unsound.TheVariants as reasons
use Rattle.gate_growth.specs.Grown.{AreSoundSince}
use Rattle.gate_growth.specs.PlaceRows.{AreTooManyPlaces}
use Rattle.gate_growth.specs.Ledgers.{most_generations, IsFirstLeftGap}
use Rattle.core_proxy.specs.declared.limits.TheConstants.{LAST_GENERATION}
use Rattle.core_proxy.specs.declared.proxy.Core.{Core}
use Rattle.core_proxy.specs.CoreState as core_state
use Rattle.core_proxy.specs.CoreState.{dialect}
use Rattle.core_accepted.specs.declared.loading.LoadFault.{LoadFault}
use Rattle.core_accepted.specs.declared.loading.LoadFault.TheVariants.{Refused, OtherServers}
use Rattle.core_accepted.specs.declared.served.ServedCore.{ServedCore}
use Rattle.core_accepted.specs.declared.tally.CoreTally.{CoreTally}
use Rattle.core_accepted.specs.Tallies.{MakesPlaces}
use Rattle.core_accepted.specs.Known.{Known, is_arbitrary, more}
use Rattle.core_accepted.specs.Logs.{MayHaveLed}

-- the log that led to the old core leads to the new one: commands that have begun keep their trees, those to come run by this one, and nothing else changes
pub record TakesOver (opening : ℕ → List ℕ → Option Item) (past : List (Entry dialect)) (tree : Route) (old new : ServedCore) (led : MayHaveLed opening past old) : Type 0 where
  pub after : MayHaveLed opening past new
  pub begun : (n : ℕ) → n ≤ old.core.number → after.tree n ≡ led.tree n
  pub coming : (n : ℕ) → old.core.number < n → after.tree n ≡ tree
  pub others : after.beside ≡ record led.beside { at = after.beside.at }

-- where the gate was asked, the number of configurations that it accepted; else the core's generation
abbrev pub IsGeneration : Option Known → Core → ℕ → Type 0
IsGeneration (Some known) core number = number ≡ length known.configs
IsGeneration None core number = number ≡ core.generation

-- each tree clears what it and later ones take, or nothing was put there before, if the gate was asked
abbrev pub AreSoundIfAsked : Option Known → Type 0
AreSoundIfAsked (Some known) = AreSoundSince (is_arbitrary known) (trees_of known.configs)
AreSoundIfAsked None = Unit {0}

-- the configuration is the next one that the gate accepted, if it was asked; it has this number, its tree is the core's, and so the counts go on
pub record TakesConfiguration (Counts : CoreTally → CoreTally → Type 0) (old : ServedCore) (config : Configuration) (number : ℕ) (new : ServedCore) : Type 0 where
  pub word : new.accepted ≡ option_map (more config) old.accepted
  pub tally : Counts old.tally new.tally
  pub sound : AreSoundIfAsked new.accepted
  pub number_is : IsGeneration new.accepted new.core number
  pub reloads : core_state.Reloads old.core config.tree new.core
  pub goes : (opening : ℕ → List ℕ → Option Item) (past : List (Entry dialect)) (led : MayHaveLed opening past old) → TakesOver opening past config.tree old new led

-- it has, and nothing of the counts has changed
abbrev pub IsTakenUp : ServedCore → Configuration → ℕ → ServedCore → Type 0
IsTakenUp = TakesConfiguration (λ old new. new ≡ old)

-- servers got places among the counts, and nothing else has changed
pub record TakesPlaces (old new : ServedCore) : Type 0 where
  pub places : MakesPlaces old.tally new.tally
  pub rest : new ≡ record old { tally = new.tally }

-- it has, and servers may have got places among the counts
abbrev pub IsLoaded : ServedCore → Configuration → ℕ → ServedCore → Type 0
IsLoaded = TakesConfiguration MakesPlaces

-- the fault of a configuration that would be of this generation
abbrev pub loading_fault : Unsound → ℕ → ReloadFault
loading_fault reasons.TooManyGenerations number = gate.TooManyGenerations
loading_fault reasons.TooManyPlaces number = gate.TooManyPlaces number
loading_fault (reasons.Left generation gap) number = gate.Uncovered generation gap
loading_fault reasons.NoMemory number = gate.NoMemory

-- why the gate doesn't let the tree follow: with it there would be more generations than have a number; all trees together have too many places, which is told of the new one; or its first gap, by which they aren't sound
abbrev pub IsLoadRefusal : Core → Known → Route → ReloadFault → Type 0
IsLoadRefusal core known tree gate.TooManyGenerations = most_generations ≤ length (trees_of known.configs)
IsLoadRefusal core known tree (gate.TooManyPlaces generation) = (generation ≡ core.generation + 1) × AreTooManyPlaces (trees_of known.configs ++ tree ∷ [])
IsLoadRefusal core known tree (gate.Uncovered generation gap) = IsFirstLeftGap (is_arbitrary known) (trees_of known.configs) tree generation gap
IsLoadRefusal core known tree gate.NoMemory = Unit {0}

-- why the next configuration is refused: the servers don't keep their numbers; or the gate's fault, or the core has no number for one more tree
abbrev pub RefusesNext : Core → Known → Configuration → LoadFault → Type 0
RefusesNext core known config OtherServers = KeepsNumbers known.configs config → ⊥
RefusesNext core known config (Refused fault) =
    KeepsNumbers known.configs config × (IsLoadRefusal core known config.tree fault ⊎ ((core.generation ≡ LAST_GENERATION) × (fault ≡ gate.TooManyGenerations)))

-- why a configuration is refused where no gate was asked: memory was refused, or the core has no number for one more tree
abbrev pub RefusesAny : Core → LoadFault → Type 0
RefusesAny core OtherServers = ⊥
RefusesAny core (Refused fault) = (fault ≡ gate.NoMemory) ⊎ ((core.generation ≡ LAST_GENERATION) × (fault ≡ gate.TooManyGenerations))

-- why a configuration is refused, by the gate's word
abbrev pub RefusesBy : Option Known → Core → Configuration → LoadFault → Type 0
RefusesBy (Some known) core config fault = RefusesNext core known config fault
RefusesBy None core config fault = RefusesAny core fault

abbrev pub RefusesLoad : ServedCore → Configuration → LoadFault → Type 0
RefusesLoad served config fault = RefusesBy served.accepted served.core config fault
