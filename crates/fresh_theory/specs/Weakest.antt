-- That what lands has to land in time. Source: mcgate's own.
use Rattle.std.specs.Prelude.{◌≡◌, ℕ, List, ◌++◌, Option}
use Rattle.mc_types.specs.declared.ask.Op.TheVariants.{Set}
use Rattle.mc_types.specs.declared.ask.Ask.{Ask}
use Rattle.mc_types.specs.declared.call.Origin.TheVariants.{Client}
use Rattle.mc_types.specs.Items.{Item}
use Rattle.fresh_runs.specs.Single.{server_words}
use Rattle.fresh_runs.specs.Run.{before, HasEnded, IsAcknowledged}
use Rattle.fresh_runs.specs.Freshness.{nobody_bars}
use Rattle.core_accepted.specs.Late.{Moment, told, HasFailed, LateRun, IsFreshBy, WasOver, LandsEver}

-- by these moments the run of a single server goes on, and is stale
pub record GoesStale (opening : ℕ → List ℕ → Option Item) (past : List Moment) : Type 0 where
  pub moments : List Moment
  pub run : LateRun (server_words (λ _. 0)) nobody_bars opening LandsEver (moments ++ past)
  pub stale : IsFreshBy opening WasOver (moments ++ past) → ⊥

-- with a single server: in any run, once a delete was acknowledged that began when the command of a set was over, a call of that set which had failed must not land: by its landing the run may go on to be stale
abbrev pub UntimelyIsStale : Type 0
UntimelyIsStale =
    (opening : ℕ → List ℕ → Option Item) (past : List Moment) → LateRun (server_words (λ _. 0)) nobody_bars opening LandsEver past
    → (number n : ℕ) (set delete : Ask) → set.op ≡ Set → HasFailed (told opening past) number 0 set Client
    → IsAcknowledged (told opening past) n delete → delete.key ≡ set.key → HasEnded (before (told opening past) n) number → GoesStale opening past
