-- What stands in the file of a history, and what may be the next generation. Source: mcgate's own.
use Rattle.std.specs.Prelude.{◌≡◌, ℕ, List, [], ◌∷◌, ◌++◌, Result, Ok}
use Rattle.serde_json.specs.Read.{read}
use Rattle.route_json.specs.Servers.{Addresses}
use Rattle.route_json.specs.Configs.{read_after}
use Rattle.route_json.specs.Configuration.{Configuration}
use Rattle.route_json.specs.Fault.{Fails, fault_of}
use Rattle.gate_growth.specs.declared.ledger.page.Beginning.{Beginning}
use Rattle.gate_history.specs.declared.generation.Generation.{Generation}
use Rattle.gate_history.specs.declared.fault.NextFault.{NextFault}
use Rattle.gate_history.specs.declared.fault.NextFault.TheVariants as faults
use Rattle.gate_history.specs.Spelled.{generation_line}
use Rattle.gate_history.specs.Histories.{servers_after, IsHistoryOf}
use Rattle.gate_history.specs.Judged.{AreSoundBy, IsUnsoundAfter}

-- the bytes end with the line of a generation that is said by JSON of the same value as the text's
abbrev pub EndsWith : List ℕ → List ℕ → Type 0
EndsWith bytes text =
    (front : List ℕ) × (number : ℕ) × (began : Beginning) × (said : List ℕ) × (bytes ≡ front ++ (generation_line number began said ++ 10 ∷ [])) × (read said ≡ read text)

-- the bytes are a history of generations whose trees are sound, and the text says the last one
pub record StandsInHistory (bytes text : List ℕ) : Type 0 where
  pub generations : List Generation
  pub history : IsHistoryOf generations bytes
  pub sound : AreSoundBy generations
  pub last : EndsWith bytes text

-- the text says this configuration after the generations
abbrev pub SaysNext : List Generation → List ℕ → Configuration → Type 0
SaysNext gs text config = read_after (servers_after [] gs) (read text) ≡ Ok (config.tree, config.servers)

-- why the configuration that the text says may not follow the generations
abbrev pub IsNoNext : List Generation → List ℕ → Beginning → NextFault → Type 0
IsNoNext gs text began (faults.Config fault) = Fails (fault_of fault) (read_after (servers_after [] gs) (read text))
IsNoNext gs text began (faults.Refused servers unsound) =
    (config : Configuration) × SaysNext gs text config × (servers ≡ config.servers) × IsUnsoundAfter gs config began unsound
IsNoNext gs text began faults.NoLine = Unit {0}
IsNoNext gs text began faults.NoMemory = Unit {0}
