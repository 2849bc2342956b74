-- What a reader of a part of a line answers.
use Rattle.std.specs.Prelude.{◌≡◌, Option, Some, None, Result, Ok, Err}
use Rattle.script_events.specs.declared.text.fault.LineFault.{LineFault}
use Rattle.script_events.specs.declared.text.fault.LineFault.TheVariants.{Unreadable, NoMemory}

-- the value that is meant, as it is seen; where none is meant, that the part can't be read; or that memory was refused
abbrev pub ReadsPart : {T A : Type 0} → (T → A) → Option A → Result T LineFault → Type 0
ReadsPart seen meant (Ok value) = meant ≡ Some (seen value)
ReadsPart seen meant (Err Unreadable) = meant ≡ None
ReadsPart seen meant (Err NoMemory) = Unit {0}
