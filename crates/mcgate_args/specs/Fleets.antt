-- What is printed of the configurations of a fleet. Source: mcgate's own.
use Rattle.std.specs.Prelude.{◌≡◌, ℕ, ◌+◌, ◌≤◌, ◌⊎◌, List, [], ◌∷◌, ◌++◌, Option, Some, None, Ok, IsSome, length, string_bytes}
use Rattle.std.specs.Io.KnownBytes.{Appends}
use Rattle.serde_json.specs.Read.{read}
use Rattle.route_tree.specs.Each.{Each}
use Rattle.route_json.specs.declared.fault.ConfigFault.{ConfigFault}
use Rattle.route_json.specs.Fault.{fault_of}
use Rattle.route_json.specs.Configs.{read_or, read_after}
use Rattle.route_json.specs.Configuration.{Configuration}
use Rattle.route_json.specs.Servers.{Addresses}
use Rattle.gate_check.specs.declared.gap.Reason.{Reason}
use Rattle.gate_check.specs.declared.reloading.TheConstants.{MOST_GENERATIONS}
use Rattle.gate_check.specs.Gate.{IsCertified}
use Rattle.gate_check.specs.Sound.{trees_of}
use Rattle.core_accepted.specs.declared.fleets.gates.judging.FleetFault.{FleetFault}
use Rattle.core_accepted.specs.declared.fleets.gates.judging.FleetFault.TheVariants as faults
use Rattle.core_accepted.specs.FleetGate.{AreSideBySide, IsFleetFault}
use Rattle.mcgate_lines.specs.Faults.{config_fault_line}
use Rattle.mcgate_lines.specs.declared.verdict.Form.TheVariants.{Lines}
use Rattle.mcgate_check.specs.Checking.{ChecksRefused}
use Rattle.mcgate_check.specs.Reporting.{Checks}
use Rattle.mcgate_ends.specs.declared.fleets.faults.FleetFile.{FleetFile}
use Rattle.mcgate_args.specs.declared.fleets.checking.FleetEnd.{FleetEnd}
use Rattle.mcgate_ends.specs.FleetLines.{fleet_line, many_files_line}
use Rattle.mcgate_ends.specs.FleetFaults.{fleet_fault_line}

-- the gate accepts the configuration, and nothing was written; or it refuses it, and that was written
abbrev pub JudgesAlone : Configuration → Option (List ℕ) → Option (List ℕ) → Option ℕ → Type 0
JudgesAlone config old new None = IsCertified config.tree × (new ≡ old)
JudgesAlone config old new (Some status) = (status ≡ 1) × (reason : Reason) × ChecksRefused config reason old new

-- the text is a configuration that the gate accepts
abbrev pub TextIsAccepted : List ℕ → Type 0
TextIsAccepted text = (config : Configuration) × (read_or (read text) ≡ Ok (config.tree, config.servers)) × IsCertified config.tree

-- the text is a configuration that the gate accepts, and nothing was written; or what `check` prints of it was, and its status isn't 0
abbrev pub ChecksAlone : List ℕ → Option (List ℕ) → Option (List ℕ) → Option ℕ → Type 0
ChecksAlone text old new None = TextIsAccepted text × (new ≡ old)
ChecksAlone text old new (Some status) = (status ≡ 0 → ⊥) × Checks Lines text old new status

-- the first of the files that isn't accepted by itself, counted from this number on, and what `check` prints of it was written; or all are
abbrev pub FindsRefused : ℕ → List FleetFile → Option (List ℕ) → Option (List ℕ) → Option FleetEnd → Type 0
FindsRefused index files old new None = Each (λ (f : FleetFile). TextIsAccepted (string_bytes f.text)) files × (new ≡ old)
FindsRefused index [] old new (Some end) = ⊥
FindsRefused index (file ∷ files) old new (Some end) =
    ((end.alone ≡ Some index) × ChecksAlone (string_bytes file.text) old new (Some end.status))
    ⊎ (TextIsAccepted (string_bytes file.text) × FindsRefused (index + 1) files old new (Some end))

-- the configurations of the files, the servers of each numbered after those of the one before
abbrev pub AreRead : Addresses → List FleetFile → List Configuration → Type 0
AreRead servers [] configs = configs ≡ []
AreRead servers (file ∷ files) [] = ⊥
AreRead servers (file ∷ files) (config ∷ configs) = (read_after servers (read (string_bytes file.text)) ≡ Ok (config.tree, config.servers)) × AreRead config.servers files configs

-- the configurations of the files were added
abbrev pub AddsRead : Addresses → List FleetFile → List Configuration → List Configuration → Type 0
AddsRead servers files old new = (configs : List Configuration) × (new ≡ old ++ configs) × AreRead servers files configs

-- a fault that has a line
abbrev pub IsToldFault : FleetFault → Type 0
IsToldFault (faults.Copies index prefix) = Unit {0}
IsToldFault (faults.TooManyPlaces reads deletes) = Unit {0}
IsToldFault (faults.Uncovered reads deletes gap) = Unit {0}
IsToldFault faults.NoMemory = ⊥

-- proxies may run by the configurations of the files at the same time, and that was written
pub record AcceptsFleet (files : List FleetFile) (old new : Option (List ℕ)) : Type 0 where
  pub configs : List Configuration
  pub read : AreRead [] files configs
  pub side_by_side : AreSideBySide (trees_of configs)
  pub printed : Appends old new (fleet_line (length configs))

-- proxies may not run by the configurations of the files at the same time, and why was written
pub record RefusesFleet (files : List FleetFile) (old new : Option (List ℕ)) : Type 0 where
  pub configs : List Configuration
  pub read : AreRead [] files configs
  pub fault : FleetFault
  pub told : IsToldFault fault
  pub judged : IsFleetFault (trees_of configs) fault
  pub printed : Appends old new (fleet_fault_line files configs fault)

-- a fault of a configuration was written
pub record SaysFault (old new : Option (List ℕ)) : Type 0 where
  pub fault : ConfigFault
  pub told : IsSome (fault_of fault)
  pub printed : Appends old new (config_fault_line fault)

-- the verdict on all together was written; status 0: accepted; status 1: refused, or there are too many; status 2: the configurations can't be read together
abbrev pub ChecksTogether : List FleetFile → Option (List ℕ) → Option (List ℕ) → ℕ → Type 0
ChecksTogether files old new status =
    ((status ≡ 0) × AcceptsFleet files old new)
    ⊎ (((status ≡ 1) × (RefusesFleet files old new ⊎ ((MOST_GENERATIONS ≤ length files) × Appends old new many_files_line)))
    ⊎ ((status ≡ 2) × SaysFault old new))

-- what `check` prints of the first file that isn't accepted by itself was written, or each is, and the verdict on all together was
abbrev pub ChecksFleet : List FleetFile → Option (List ℕ) → Option (List ℕ) → FleetEnd → Type 0
ChecksFleet files old new end =
    FindsRefused 0 files old new (Some end)
    ⊎ ((end.alone ≡ None) × Each (λ (f : FleetFile). TextIsAccepted (string_bytes f.text)) files × ChecksTogether files old new end.status)
