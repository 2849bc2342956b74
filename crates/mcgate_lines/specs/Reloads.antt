-- The lines of a reload. Source: mcgate's own.
use Rattle.std.specs.Prelude.{ℕ, List, [], ◌++◌, codes, decimal}
use Rattle.route_json.specs.Servers.{Addresses}
use Rattle.gate_check.specs.declared.gap.Gap.{Gap}
use Rattle.gate_check.specs.declared.reloading.ReloadFault.{ReloadFault}
use Rattle.gate_check.specs.declared.reloading.ReloadFault.TheVariants as faults
use Rattle.mcgate_lines.specs.Verdict.{gap_fields}

-- the line of a configuration that the gate accepted as this generation
abbrev pub loaded_line : ℕ → List ℕ
loaded_line generation = codes "reload accepted generation=" ++ decimal generation ++ codes "\n"

-- the line of a configuration that was loaded as this generation where no gate was asked
abbrev pub unchecked_line : ℕ → List ℕ
unchecked_line generation = codes "reload unchecked generation=" ++ decimal generation ++ codes "\n"

-- reload refused generation=G
abbrev pub refused_head : ℕ → List ℕ
refused_head generation = codes "reload refused generation=" ++ decimal generation

-- the line of a gap under this generation's tree
abbrev pub kept_gap : Addresses → ℕ → Gap → List ℕ
kept_gap servers generation gap = refused_head generation ++ gap_fields servers gap

-- the line of a configuration that was not loaded; running out of memory has none
abbrev pub kept_line : Addresses → ReloadFault → List ℕ
kept_line servers faults.TooManyGenerations = codes "reload refused: too many generations\n"
kept_line servers (faults.TooManyPlaces generation) = codes "reload refused: too many places\n"
kept_line servers (faults.Uncovered generation gap) = kept_gap servers generation gap
kept_line servers faults.NoMemory = []
