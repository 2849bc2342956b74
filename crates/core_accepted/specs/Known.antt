-- What is known of the configurations that the gate accepted, and of how their servers began. Source: mcgate's own.
use Rattle.std.specs.Prelude.{◌≡◌, ℕ, ◌<◌, ◌≤◌, Bool, List, [], ◌∷◌, ◌++◌, Option, Some, None, length, nat_lt, if◌then◌else◌, refl}
use Rattle.std.specs.Coded.{Coded, code_by, coded×, coded_list, coded_ℕ}
use Rattle.route_tree.specs.Each.{Each}
use Rattle.route_tree.specs.Route.{IsTree}
use Rattle.route_json.specs.Configuration.{Configuration, configuration_code}
use Rattle.gate_check.specs.Sound.{trees_of}
use Rattle.gate_growth.specs.declared.ledger.book.Ledger.{Ledger}
use Rattle.gate_growth.specs.Grown.{AreSoundSince}
use Rattle.gate_growth.specs.Pages.{is_any}
use Rattle.gate_growth.specs.Ledgers.{count_of_known, IsLedgerOf}
use Rattle.core_accepted.specs.declared.beginnings.Beginnings.{Beginnings}
use Rattle.core_accepted.specs.contracts.beginnings.Beginnings as beginnings

-- configurations that were accepted one after another, the oldest first; the first so many servers are those of the oldest one
pub record Known : Type 0 where
  pub configs : List Configuration
  pub founders : ℕ
  pub begun : Beginnings

-- it is stored as its fields
abbrev pub known_code : Coded Known
known_code =
    code_by (List Configuration × (ℕ × Beginnings)) (coded× (coded_list configuration_code) (coded× coded_ℕ beginnings.the_row.coded)) (λ k. (k.configs, (k.founders, k.begun))) (λ p. record { configs = p.0; founders = p.1.0; begun = p.1.1 }) (λ _. refl)

-- whether the server may have held anything before its first call
abbrev pub is_arbitrary : Known → ℕ → Bool
is_arbitrary known s = is_any (if nat_lt s known.founders then known.begun.opened else known.begun.added)

-- the configuration alone
abbrev pub first_of : Configuration → Beginnings → Known
first_of config begun = record { configs = config ∷ []; founders = length config.servers; begun = begun }

-- and one configuration more
abbrev pub more : Configuration → Known → Known
more config known = record known { configs = known.configs ++ config ∷ [] }

-- the ledger knows them; there is none before a second one is to follow the first
abbrev pub KnowsThem : Known → Option Ledger → Type 0
KnowsThem known (Some ledger) = IsLedgerOf (is_arbitrary known) (trees_of known.configs) ledger × (known.founders ≤ count_of_known ledger)
KnowsThem known None = (first : Configuration) × (known.configs ≡ first ∷ []) × (known.founders ≡ length first.servers)

-- they are sound, and known to the ledger
pub record IsBookOf (known : Known) (ledger : Option Ledger) : Type 0 where
  pub some : 0 < length known.configs
  pub trees_are : Each IsTree (trees_of known.configs)
  pub sound : AreSoundSince (is_arbitrary known) (trees_of known.configs)
  pub kept : KnowsThem known ledger
