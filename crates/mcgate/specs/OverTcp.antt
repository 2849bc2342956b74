-- What a run over TCP wrote where memory was refused. Source: mcgate's own.
use Rattle.std.specs.Prelude.{ℕ, List, Option}
use Rattle.mcgate_lines.specs.declared.status.RunFault.TheVariants.{NoMemory}
use Rattle.mcgate_loopback.specs.Running.{LoopbackBreaksOff}

-- nothing, or lines of what clients got
abbrev pub LoopMemoryRefused : List ℕ → Option (List ℕ) → Option (List ℕ) → Type 0
LoopMemoryRefused text old new = LoopbackBreaksOff old new NoMemory
