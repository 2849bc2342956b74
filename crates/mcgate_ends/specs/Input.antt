-- What the program takes as its input. Source: mcgate's own.
use Rattle.std.specs.Prelude.{◌≡◌, ℕ, ◌<◌, ◌≤◌, List, length, Result, Ok, Err}
use Rattle.std.specs.Str.{IsUtf8}
use Rattle.std.specs.declared.io.ErrorKind.{ErrorKind}
use Rattle.std.specs.declared.io.ErrorKind.TheVariants.{OutOfMemory}
use Rattle.mcgate_ends.specs.declared.input_text.reading.InputFault.{InputFault}
use Rattle.mcgate_ends.specs.declared.input_text.reading.InputFault.TheVariants.{TooLarge, NotUtf8, NoMemory, Device}

-- bytes as text, at most so many of them, or why they are none: their number first, then UTF-8
abbrev pub ReadsInput : {T : Type 0} → (T → List ℕ) → ℕ → List ℕ → Result T InputFault → Type 0
ReadsInput text_of limit bytes (Ok text) = (length bytes ≤ limit) × (text_of text ≡ bytes)
ReadsInput text_of limit bytes (Err TooLarge) = limit < length bytes
ReadsInput text_of limit bytes (Err NotUtf8) = (length bytes ≤ limit) × ¬ IsUtf8 bytes
ReadsInput text_of limit bytes (Err NoMemory) = Unit {0}
ReadsInput text_of limit bytes (Err Device) = Unit {0}

-- memory was refused, or a device failed
abbrev pub InputFails : InputFault → Type 0
InputFails TooLarge = ⊥
InputFails NotUtf8 = ⊥
InputFails NoMemory = Unit {0}
InputFails Device = Unit {0}

-- what a device's error means for an input
abbrev pub input_fault_at : ErrorKind → InputFault
input_fault_at OutOfMemory = NoMemory
input_fault_at _ = Device
