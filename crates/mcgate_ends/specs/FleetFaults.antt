-- The line of why proxies of a fleet may not run by some configurations at the same time. Source: mcgate's own.
use Rattle.std.specs.Prelude.{ℕ, List, [], Option, Some, None, slice_get}
use Rattle.route_json.specs.Configuration.{Configuration}
use Rattle.gate_check.specs.declared.gap.Gap.{Gap}
use Rattle.core_accepted.specs.declared.fleets.gates.judging.FleetFault.{FleetFault}
use Rattle.core_accepted.specs.declared.fleets.gates.judging.FleetFault.TheVariants as faults
use Rattle.mcgate_ends.specs.declared.fleets.faults.FleetFile.{FleetFile}
use Rattle.mcgate_ends.specs.FleetLines.{many_places_line, pair_gap_line, copying_line}

-- how a file is called
abbrev pub name_of : Option FleetFile → List ℕ
name_of None = []
name_of (Some file) = file.name.now

abbrev pub name_at : List FleetFile → ℕ → List ℕ
name_at files index = name_of (slice_get files index)

abbrev pub copying_line_of : (file : List ℕ) → Option (List ℕ) → Option Configuration → List ℕ
copying_line_of file prefix None = []
copying_line_of file prefix (Some config) = copying_line file config.tree prefix

abbrev pub gap_line_of : (reads deletes : List ℕ) → Gap → Option Configuration → List ℕ
gap_line_of reads deletes gap None = []
gap_line_of reads deletes gap (Some config) = pair_gap_line config.servers reads deletes gap

-- the line of a fault; running out of memory has none
abbrev pub fleet_fault_line : List FleetFile → List Configuration → FleetFault → List ℕ
fleet_fault_line files configs (faults.Copies index prefix) = copying_line_of (name_at files index) prefix (slice_get configs index)
fleet_fault_line files configs (faults.TooManyPlaces reads deletes) = many_places_line (name_at files reads) (name_at files deletes)
fleet_fault_line files configs (faults.Uncovered reads deletes gap) = gap_line_of (name_at files reads) (name_at files deletes) gap (slice_get configs reads)
fleet_fault_line files configs faults.NoMemory = []
