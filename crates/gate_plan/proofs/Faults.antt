-- Texts that are no step.
use Rattle.std.proofs.Common.{◌≡◌, ℕ, List, [], Some, Result, Ok, Err, refl, sym, subst}
use Rattle.serde_json.specs.Read.{read}
use Rattle.route_json.specs.Configs.{read_after}
use Rattle.route_json.specs.Configuration.{Configuration}
use Rattle.route_json.specs.Servers.{Addresses}
use Rattle.route_json.specs.Fault.{Fault, Fails, fault_of}
use Rattle.route_json.specs.declared.fault.ConfigFault.{ConfigFault}
use Rattle.route_json.specs.declared.fault.ConfigFault.TheVariants as faults
use Rattle.gate_growth.specs.declared.ledger.page.Beginning.{Beginning}
use Rattle.gate_history.specs.declared.generation.Generation.{Generation}
use Rattle.gate_history.specs.Histories.{servers_after}
use Rattle.gate_plan.specs.Steps.{SaysAfter, MayNotBe, IsRefusal, IsNoStep}
use Rattle.gate_plan.specs.declared.steps.StepFault.{StepFault}
use Rattle.gate_plan.specs.declared.steps.StepFault.TheVariants as steps

-- a fault is told, unless memory was refused
pub fault_told : {Y : Type 0} (fault : ConfigFault) (read : Result Y Fault) → (fault ≡ faults.NoMemory → ⊥) → Fails (fault_of fault) read → (f : Fault) × (fault_of fault ≡ Some f) × (read ≡ Err f)
fault_told faults.NotJson read other h = (_, refl, h)
fault_told (faults.BadField s) read other h = (_, refl, h)
fault_told (faults.BadAddress s) read other h = (_, refl, h)
fault_told (faults.EmptyPool s) read other h = (_, refl, h)
fault_told (faults.TooManyServers s) read other h = (_, refl, h)
fault_told (faults.TooManySlots s) read other h = (_, refl, h)
fault_told faults.TooDeep read other h = (_, refl, h)
fault_told faults.TooManyNodes read other h = (_, refl, h)
fault_told (faults.UnknownType s) read other h = (_, refl, h)
fault_told (faults.NoPool s) read other h = (_, refl, h)
fault_told faults.EmptyChildren read other h = (_, refl, h)
fault_told (faults.BadPrefix s) read other h = (_, refl, h)
fault_told faults.NoMemory read other h = absurd (other refl)

-- a text that says a configuration which isn't made the next generation is no step
pub refused_no_step : (gs : List Generation) (text : List ℕ) (config : Configuration) (began : Beginning) (fault : StepFault) → SaysAfter gs text config → IsRefusal gs config began fault → IsNoStep gs text began fault
refused_no_step gs text config began (steps.Config f) says h = absurd h
refused_no_step gs text config began (steps.Refused refused unsound) says h = subst (λ (c : Configuration). SaysAfter gs text c × MayNotBe gs c began unsound) (sym h.0) (says, h.1)
refused_no_step gs text config began steps.NoMemory says h = tt

-- the same where the servers are those of the generations
pub judged_no_step : (gs : List Generation) (text : List ℕ) (servers : Addresses) (config : Configuration) (began : Beginning) (fault : StepFault) → servers ≡ servers_after [] gs
    → read_after servers (read text) ≡ Ok (config.tree, config.servers) → IsRefusal gs config began fault → IsNoStep gs text began fault
judged_no_step gs text servers config began fault are says = refused_no_step gs text config began fault (subst (λ (s : Addresses). read_after s (read text) ≡ Ok (config.tree, config.servers)) are says)

-- that the text says none holds after the generations
pub none_after : (gs : List Generation) (text : List ℕ) (servers : Addresses) (fault : ConfigFault) → servers ≡ servers_after [] gs → Fails (fault_of fault) (read_after servers (read text)) → Fails (fault_of fault) (read_after (servers_after [] gs) (read text))
none_after gs text servers fault are = subst (λ (s : Addresses). Fails (fault_of fault) (read_after s (read text))) are
