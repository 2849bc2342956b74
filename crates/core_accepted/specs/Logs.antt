-- What may have led to a core that is served, and what each of its calls adds to it. Source: mcgate's own.
use Rattle.std.specs.Prelude.{◌≡◌, ℕ, Bool, true, false, List, [], ◌∷◌, ◌++◌, Option, Some, None}
use Rattle.mc_types.specs.Items.{Item}
use Rattle.fresh_runs.specs.Overlap as log
use Rattle.fresh_runs.specs.Overlap.{Entry, run_of}
use Rattle.fresh_runs.specs.OverlapState.{LeadsTo}
use Rattle.fresh_runs.specs.Run.{LosesOnly, IsFresh, IsFreshByNumber, commands_in}
use Rattle.fresh_runs.specs.Stale.{stale_in}
use Rattle.route_tree.specs.At.{tree_at}
use Rattle.route_tree.specs.Each.{Each}
use Rattle.route_tree.specs.Route.{Route, IsTree}
use Rattle.route_tree.specs.Word.{tree_words}
use Rattle.route_json.specs.Configuration.{Configuration}
use Rattle.gate_check.specs.Sound.{AreLoaded, IsLast, trees_of}
use Rattle.gate_growth.specs.Grown.{AreSoundSince, OpensBy}
use Rattle.core_proxy.specs.declared.limits.CoreLimits.{CoreLimits}
use Rattle.core_commands.specs.declared.sharing.Sharing.{Sharing}
use Rattle.core_commands.specs.declared.sharing.Sharing.TheVariants.{Alone}
use Rattle.core_proxy.specs.CoreState as core_state
use Rattle.core_proxy.specs.CoreState.{dialect, bars_of, Beside, FitsBeside, IsBeside, state_of}
use Rattle.core_accepted.specs.declared.beginnings.Beginnings.{Beginnings}
use Rattle.core_accepted.specs.declared.served.ServedCore.{ServedCore}
use Rattle.core_accepted.specs.declared.tally.CoreTally.{CoreTally}
use Rattle.core_accepted.specs.Begun.{any_begun}
use Rattle.core_accepted.specs.Tallies.{nothing_done, MakesPlaces}
use Rattle.core_accepted.specs.Known.{Known, is_arbitrary, first_of}

-- the trees by which commands run, by the commands' numbers: where the gate was asked, those that it accepted, one after another; else any
abbrev pub MayBeLoaded : Option Known → (ℕ → Route) → Type 0
MayBeLoaded (Some known) tree = AreLoaded (trees_of known.configs) tree
MayBeLoaded None tree = Unit {0}

-- servers that held these opening items, and this log, may have led to the core: each command runs by the tree that was loaded when it began
pub record MayHaveLed (opening : ℕ → List ℕ → Option Item) (past : List (Entry dialect)) (served : ServedCore) : Type 0 where
  pub tree : ℕ → Route
  pub loaded : MayBeLoaded served.accepted tree
  pub beside : Beside
  pub plain : beside.at ≡ (λ n key. tree_at (tree n) key)
  pub fits : FitsBeside served.core beside
  pub leads : LeadsTo (tree_words beside.at) (bars_of served.core beside) opening past (state_of served.core beside)

-- so many commands have begun in each log that may have led to the core
abbrev pub CountsBegun : ServedCore → ℕ → Type 0
CountsBegun served n = (opening : ℕ → List ℕ → Option Item) (past : List (Entry dialect)) → MayHaveLed opening past served → commands_in (run_of past) ≡ n

-- the gate's word stays as it is, what the core counts goes on so, and each log that may have led to the core before goes on by entries of this kind, the latest first, and may have led to the core after. Servers stay
pub record LogsGoCounting (count : CoreTally → CoreTally) (old : ServedCore) (IsKind : List (Entry dialect) → Type 0) (new : ServedCore) : Type 0 where
  pub word : new.accepted ≡ old.accepted
  pub tally : new.tally ≡ count old.tally
  pub logs :
      (opening : ℕ → List ℕ → Option Item) (past : List (Entry dialect)) (led : MayHaveLed opening past old)
      → (entries : List (Entry dialect)) × IsKind entries × (led' : MayHaveLed opening (entries ++ past) new) × IsBeside led.beside led'.beside

-- the gate's word and the counts stay as they are, and each log that may have led to the core before goes on by entries of this kind, and may have led to the core after. Servers stay
abbrev pub LogsGoBy : ServedCore → (List (Entry dialect) → Type 0) → ServedCore → Type 0
LogsGoBy = LogsGoCounting (λ tally. tally)

-- the gate accepted these configurations, the core is a new one on the tree of the last of them, which is its first generation, servers began so, and the empty log led to it
pub record IsNewFrom (accepted : List Configuration) (begun : Beginnings) (limits : CoreLimits) (served : ServedCore) : Type 0 where
  pub config : Configuration
  pub last : IsLast accepted config
  pub word : served.accepted ≡ Some (first_of config begun)
  pub tally : MakesPlaces nothing_done served.tally
  pub core_is : core_state.IsNewCore config.tree limits served.core
  pub led : (opening : ℕ → List ℕ → Option Item) → MayHaveLed opening [] served

-- the gate accepted these configurations, the core is a new one on the tree of the last of them, which is its first generation, each server may have held anything, and the empty log led to it
abbrev pub IsNew : List Configuration → CoreLimits → ServedCore → Type 0
IsNew accepted limits served = IsNewFrom accepted any_begun limits served

-- no gate was asked, the core is a new one on this tree, and the empty log led to it
pub record IsUnchecked (tree : Route) (limits : CoreLimits) (served : ServedCore) : Type 0 where
  pub word : served.accepted ≡ None
  pub tally : MakesPlaces nothing_done served.tally
  pub core_is : core_state.IsNewCore tree limits served.core
  pub led : (opening : ℕ → List ℕ → Option Item) → MayHaveLed opening [] served

-- the entry of a piece; a client for whom nothing is done any more takes none
abbrev pub fed : Bool → ℕ → List ℕ → List (Entry dialect)
fed true client bytes = []
fed false client bytes = log.Feeds client bytes ∷ []

-- a command that begins after a delete of its key was acknowledged shows no item of a store that was over when the delete began; where each command has its key alone that holds by numbers too, and none is counted that does
pub record IsFreshLog (sharing : Sharing) (opening : ℕ → List ℕ → Option Item) (past : List (Entry dialect)) : Type 0 where
  pub fresh : IsFresh opening (run_of past)
  pub by_number : sharing ≡ Alone → IsFreshByNumber opening (run_of past)
  pub none_stale : sharing ≡ Alone → stale_in opening (run_of past) ≡ 0

-- where the gate accepted its trees, each clears what it and later ones take, or nothing was put there before
abbrev pub TreesAreSound : ServedCore → Type 0
TreesAreSound served = (known : Known) → served.accepted ≡ Some known → Each IsTree (trees_of known.configs) × AreSoundSince (is_arbitrary known) (trees_of known.configs)

-- the gate accepted the trees of the core, whatever servers held at first
abbrev pub IsAccepted : ServedCore → Type 0
IsAccepted served = (known : Known) × (served.accepted ≡ Some known) × (known.begun ≡ any_begun)

-- each log that may have led to the core is fresh, where nobody else writes the servers
abbrev pub EveryLogIsFresh : ServedCore → Type 0
EveryLogIsFresh served = (opening : ℕ → List ℕ → Option Item) (past : List (Entry dialect)) → MayHaveLed opening past served → LosesOnly (run_of past) → IsFreshLog served.core.limits.sharing opening past

-- each log that may have led to the core is fresh, where servers held at first what is said of them, and nobody else writes them
abbrev pub EveryLogFromIsFresh : Known → ServedCore → Type 0
EveryLogFromIsFresh known served =
    (opening : ℕ → List ℕ → Option Item) (past : List (Entry dialect)) → MayHaveLed opening past served → OpensBy (is_arbitrary known) (trees_of known.configs) opening
    → LosesOnly (run_of past) → IsFreshLog served.core.limits.sharing opening past

-- the gate accepted this configuration at first and these others after it, and servers began so
abbrev pub IsAcceptedSince : Configuration → Beginnings → ServedCore → Type 0
IsAcceptedSince first begun served = (later : List Configuration) × (served.accepted ≡ Some (record (first_of first begun) { configs = first ∷ later }))

-- servers held at first what is said of them: of those of the first configuration, by which `own` is said of a key, at most what its tree puts there; of new ones, where that is said, nothing
abbrev pub BeginSo : Configuration → Beginnings → (ℕ → List ℕ → Option Item) → Type 0
BeginSo first begun opening = OpensBy (is_arbitrary (first_of first begun)) (first.tree ∷ []) opening

-- each log that may have led to the core is fresh, where servers began so and nobody else writes them
abbrev pub EveryLogSinceIsFresh : Configuration → Beginnings → ServedCore → Type 0
EveryLogSinceIsFresh first begun served =
    (opening : ℕ → List ℕ → Option Item) (past : List (Entry dialect)) → MayHaveLed opening past served → BeginSo first begun opening → LosesOnly (run_of past)
    → IsFreshLog served.core.limits.sharing opening past
