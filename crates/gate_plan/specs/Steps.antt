-- Configurations that follow one another. Source: mcgate's own.
use Rattle.std.specs.Prelude.{◌≡◌, ◌≢◌, ℕ, List, [], ◌∷◌, ◌++◌, Some, Ok, Err}
use Rattle.serde_json.specs.Read.{read}
use Rattle.route_json.specs.Configs.{read_after}
use Rattle.route_json.specs.Configuration.{Configuration}
use Rattle.route_json.specs.Fault.{Fault, fault_of}
use Rattle.gate_growth.specs.declared.ledger.page.Beginning.{Beginning}
use Rattle.gate_growth.specs.declared.ledger.unsound.Unsound.{Unsound}
use Rattle.gate_growth.specs.declared.ledger.unsound.Unsound.TheVariants as reasons
use Rattle.gate_history.specs.declared.generation.Generation.{Generation}
use Rattle.gate_history.specs.Histories.{servers_after}
use Rattle.gate_history.specs.Judged.{IsSoundAfter, IsUnsoundAfter}
use Rattle.gate_plan.specs.declared.steps.StepFault.{StepFault}
use Rattle.gate_plan.specs.declared.steps.StepFault.TheVariants as faults

-- the text says this configuration, whose servers are numbered after those of the generations
abbrev pub SaysAfter : List Generation → List ℕ → Configuration → Type 0
SaysAfter gs text config = read_after (servers_after [] gs) (read text) ≡ Ok (config.tree, config.servers)

-- the configuration that the text says may be the next generation
abbrev pub MaySucceed : List Generation → List ℕ → Beginning → Type 0
MaySucceed gs text began = (config : Configuration) × SaysAfter gs text config × IsSoundAfter gs config began

-- the configuration that the text says is the next generation, and may be
abbrev pub FollowsText : List Generation → List ℕ → Beginning → List Generation → Type 0
FollowsText gs text began new =
    (config : Configuration) × SaysAfter gs text config × (new ≡ gs ++ record { config = config; began = began } ∷ []) × IsSoundAfter gs config began

-- the configuration may not follow the generations, for this reason
abbrev pub MayNotBe : List Generation → Configuration → Beginning → Unsound → Type 0
MayNotBe gs config began unsound = IsUnsoundAfter gs config began unsound × (unsound ≢ reasons.NoMemory)

-- the configuration that the text says may not be the next generation
abbrev pub MayNotFollow : List Generation → List ℕ → Beginning → Type 0
MayNotFollow gs text began = (config : Configuration) × (unsound : Unsound) × SaysAfter gs text config × MayNotBe gs config began unsound

-- the text says no configuration
abbrev pub SaysNone : List Generation → List ℕ → Type 0
SaysNone gs text = (fault : Fault) × (read_after (servers_after [] gs) (read text) ≡ Err fault)

-- what is said of a configuration that isn't made the next generation
abbrev pub IsRefusal : List Generation → Configuration → Beginning → StepFault → Type 0
IsRefusal gs config began (faults.Config fault) = ⊥
IsRefusal gs config began (faults.Refused refused unsound) = (refused ≡ config) × MayNotBe gs config began unsound
IsRefusal gs config began faults.NoMemory = Unit {0}

-- what is said of a text that isn't made the next generation: it says no configuration, or one that may not follow
abbrev pub IsNoStep : List Generation → List ℕ → Beginning → StepFault → Type 0
IsNoStep gs text began (faults.Config fault) = (f : Fault) × (fault_of fault ≡ Some f) × (read_after (servers_after [] gs) (read text) ≡ Err f)
IsNoStep gs text began (faults.Refused config unsound) = SaysAfter gs text config × MayNotBe gs config began unsound
IsNoStep gs text began faults.NoMemory = Unit {0}
