-- What a configuration and a certificate come to. Source: mcgate's own.
use Rattle.std.specs.Prelude.{◌≡◌, ℕ, List, [], ◌∷◌, ◌++◌, codes, decimal, Option, Ok}
use Rattle.std.specs.Io.KnownBytes.{Appends}
use Rattle.fresh_runs.specs.Freshness.{RunsAreFresh}
use Rattle.serde_json.specs.Read.{read}
use Rattle.route_tree.specs.Direct.{words_of}
use Rattle.route_tree.specs.Route.{Route}
use Rattle.route_json.specs.Configs.{read_or}
use Rattle.route_json.specs.Configuration.{Configuration}
use Rattle.route_json.specs.Fault.{Fails, fault_of}
use Rattle.gate_check.specs.declared.places.table.PlaceTable.{PlaceTable}
use Rattle.gate_check.specs.Places.{CoversAt}
use Rattle.gate_check.specs.Tables.{IsTable, row_count}
use Rattle.gate_certificate.specs.Format.{IsNothing, rows_of_text}
use Rattle.gate_certificate.specs.Testing.{IsCertifiedByText, IsUnverified}
use Rattle.gate_certificate.specs.declared.testing.Unverified.TheVariants as ends
use Rattle.gate_certificate.specs.declared.verdict.Verdict.{Verdict}
use Rattle.gate_certificate.specs.declared.verdict.Verdict.TheVariants as verdicts

-- the tree's table of places has so many
abbrev pub HasPlaces : Route → ℕ → Type 0
HasPlaces tree n = (table : PlaceTable) × IsTable (tree ∷ []) table × (n ≡ row_count table)

-- the certificate is valid for the tree: at each of its places deletes clear what reads take, and every run is fresh
pub record IsSound (tree : Route) (certificate : List ℕ) (places : ℕ) : Type 0 where
  pub certified : IsCertifiedByText tree certificate
  pub covers : CoversAt tree tree
  pub fresh : RunsAreFresh (words_of tree)
  pub counted : HasPlaces tree places

-- what a configuration and the text of a certificate come to
abbrev pub IsVerdictOn : Configuration → List ℕ → Verdict → Type 0
IsVerdictOn config certificate (verdicts.Verified places) = IsSound config.tree certificate places
IsVerdictOn config certificate (verdicts.Refused given reason) = (given ≡ config) × IsUnverified config.tree certificate (ends.Refused reason)
IsVerdictOn config certificate (verdicts.NoCertificate fault) = IsNothing fault (rows_of_text certificate)
IsVerdictOn config certificate (verdicts.NoConfig fault) = ⊥

-- the text means this configuration
abbrev pub Means : List ℕ → Configuration → Type 0
Means text config = read_or (read text) ≡ Ok (config.tree, config.servers)

-- what the texts of a configuration and of a certificate come to
abbrev pub IsVerdict : List ℕ → List ℕ → Verdict → Type 0
IsVerdict text certificate (verdicts.Verified places) = (config : Configuration) × Means text config × IsVerdictOn config certificate (verdicts.Verified places)
IsVerdict text certificate (verdicts.Refused given reason) = (config : Configuration) × Means text config × IsVerdictOn config certificate (verdicts.Refused given reason)
IsVerdict text certificate (verdicts.NoCertificate fault) = IsNothing fault (rows_of_text certificate)
IsVerdict text certificate (verdicts.NoConfig fault) = Fails (fault_of fault) (read_or (read text))

-- the text means a configuration, and the certificate is valid for its tree
abbrev pub IsVerified : List ℕ → List ℕ → ℕ → Type 0
IsVerified text certificate places = (config : Configuration) × Means text config × IsSound config.tree certificate places

-- the exit status
abbrev pub status_of : Verdict → ℕ
status_of (verdicts.Verified places) = 0
status_of (verdicts.Refused given reason) = 1
status_of (verdicts.NoCertificate fault) = 2
status_of (verdicts.NoConfig fault) = 2

-- verified: CONFIG is fresh by CERTIFICATE, places=N
abbrev pub verified_line : (config certificate : List ℕ) → ℕ → List ℕ
verified_line config certificate places = codes "verified: " ++ config ++ codes " is fresh by " ++ certificate ++ codes ", places=" ++ decimal places ++ codes "\n"

-- where the verdict is that all is well, that and nothing else was written
abbrev pub TellsVerified : Verdict → (config certificate : List ℕ) → Option (List ℕ) → Option (List ℕ) → Type 0
TellsVerified (verdicts.Verified places) config certificate old new = Appends old new (verified_line config certificate places)
TellsVerified (verdicts.Refused given reason) config certificate old new = Unit {0}
TellsVerified (verdicts.NoCertificate fault) config certificate old new = Unit {0}
TellsVerified (verdicts.NoConfig fault) config certificate old new = Unit {0}
