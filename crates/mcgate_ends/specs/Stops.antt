-- Why a run of the program stops. Source: mcgate's own.
use Rattle.std.specs.Prelude.{◌≡◌, ℕ, ◌≤◌, Result, Ok, Err}
use Rattle.std.specs.declared.io.ErrorKind.{ErrorKind}
use Rattle.std.specs.declared.io.ErrorKind.TheVariants as io_kinds
use Rattle.mcgate_lines.specs.declared.status.RunFault.{RunFault}
use Rattle.mcgate_lines.specs.declared.status.RunFault.TheVariants as runs
use Rattle.mcgate_ends.specs.declared.ends.Stop.{Stop}
use Rattle.mcgate_ends.specs.declared.ends.Stop.TheVariants as stops

-- what a device's error means for the program
abbrev pub stop_at : ErrorKind → Stop
stop_at io_kinds.OutOfMemory = stops.Memory
stop_at _ = stops.Device

-- what a run that was broken off means for the program
abbrev pub stop_by : RunFault → Stop
stop_by runs.NoMemory = stops.Memory
stop_by runs.Writer = stops.Device
stop_by runs.TooManyCalls = stops.Calls

-- what the answer of a run means for the program: it is the exit status, or a stop of its own
abbrev pub EndsProgram : ℕ → Result ℕ Stop → Type 0
EndsProgram answer (Ok status) = (status ≡ answer) × (answer ≤ 2)
EndsProgram answer (Err stops.Usage) = ⊥
EndsProgram answer (Err (stops.Key fault)) = ⊥
EndsProgram answer (Err stops.Memory) = answer ≡ 3
EndsProgram answer (Err stops.Device) = answer ≡ 4
EndsProgram answer (Err stops.Calls) = answer ≡ 5
