-- What became of configurations that a script loads. Source: mcgate's own.
use Rattle.std.specs.Prelude.{Bool, true, false, Option, Some, None}
use Rattle.gate_check.specs.declared.reloading.ReloadFault.{ReloadFault}
use Rattle.gate_check.specs.declared.reloading.ReloadFault.TheVariants as faults
use Rattle.script_run.specs.declared.accepted.judging.Loading.{Loading}
use Rattle.script_run.specs.declared.accepted.judging.Loading.TheVariants.{Loaded, Refused}

-- what became of a reload by its fault: nothing is told where memory was refused
abbrev pub loading_of : ReloadFault → Option Loading
loading_of faults.TooManyGenerations = Some (Refused faults.TooManyGenerations)
loading_of (faults.TooManyPlaces generation) = Some (Refused (faults.TooManyPlaces generation))
loading_of (faults.Uncovered generation gap) = Some (Refused (faults.Uncovered generation gap))
loading_of faults.NoMemory = None

abbrev pub loading_is_refused : Loading → Bool
loading_is_refused (Loaded n) = false
loading_is_refused (Refused fault) = true
