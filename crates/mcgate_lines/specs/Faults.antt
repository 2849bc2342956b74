-- What is printed of a text that is no configuration, and what breaks off a run. Source: mcgate's own.
use Rattle.std.specs.Prelude.{◌≡◌, ℕ, List, ◌++◌, codes, Option, IsSome}
use Rattle.std.specs.Io.KnownBytes.{Appends}
use Rattle.serde_json.specs.Read.{read}
use Rattle.route_json.specs.declared.fault.ConfigFault.{ConfigFault}
use Rattle.route_json.specs.Fault.{Fails, fault_of}
use Rattle.route_json.specs.Configs.{read_or}
use Rattle.route_json.specs.Printed.{fault_line}
use Rattle.mcgate_lines.specs.declared.status.RunFault.{RunFault}
use Rattle.mcgate_lines.specs.declared.status.RunFault.TheVariants.{NoMemory, Writer, TooManyCalls}

-- the line of a configuration's fault: config: FAULT
abbrev pub config_fault_line : ConfigFault → List ℕ
config_fault_line fault = codes "config: " ++ fault_line fault ++ codes "\n"

-- the text is none: reading it fails by this fault, which isn't running out of memory, and that was written
pub record PrintsFault (text : List ℕ) (old new : Option (List ℕ)) : Type 0 where
  pub fault : ConfigFault
  pub told : IsSome (fault_of fault)
  pub said : Fails (fault_of fault) (read_or (read text))
  pub printed : Appends old new (config_fault_line fault)

-- the answer where a run was broken off
abbrev pub fault_answer : RunFault → ℕ
fault_answer NoMemory = 3
fault_answer Writer = 4
fault_answer TooManyCalls = 5

-- memory was refused, or a writer or a device failed; no script had too many calls
abbrev pub IsNoOverrun : RunFault → Type 0
IsNoOverrun NoMemory = Unit {0}
IsNoOverrun Writer = Unit {0}
IsNoOverrun TooManyCalls = ⊥

-- where memory was refused nothing was written; nothing is said of a writer that failed. No calls are made
abbrev pub StopsUnwritten : Option (List ℕ) → Option (List ℕ) → RunFault → Type 0
StopsUnwritten old new NoMemory = new ≡ old
StopsUnwritten old new Writer = Unit {0}
StopsUnwritten old new TooManyCalls = ⊥
