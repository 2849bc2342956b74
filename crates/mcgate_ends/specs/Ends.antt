-- What is printed on standard output of an input, and how that ends. Source: mcgate's own.
use Rattle.std.specs.Prelude.{◌≡◌, ℕ, ◌++◌, List, codes, Option, Result, Ok, Err, String, string_bytes}
use Rattle.std.specs.Io.KnownBytes.{Appends}
use Rattle.std.specs.declared.alloc.Global.{Global}
use Rattle.mcgate_ends.specs.declared.input_text.reading.InputFault.{InputFault}
use Rattle.mcgate_ends.specs.declared.input_text.reading.InputFault.TheVariants.{TooLarge, NotUtf8, NoMemory, Device}
use Rattle.mcgate_ends.specs.declared.ends.Stop.{Stop}
use Rattle.mcgate_ends.specs.declared.ends.Stop.TheVariants as stops

-- memory was refused, or a device failed
abbrev pub StopBreaksOff : Stop → Type 0
StopBreaksOff stops.Usage = ⊥
StopBreaksOff (stops.Key fault) = ⊥
StopBreaksOff stops.Memory = Unit {0}
StopBreaksOff stops.Device = Unit {0}
StopBreaksOff stops.Calls = ⊥

-- memory was refused, and then the first is so; or a script had too many calls, and then the other is; or a device failed
abbrev pub BreaksRunOff : Type 0 → Type 0 → Stop → Type 0
BreaksRunOff Refused Overran stops.Usage = ⊥
BreaksRunOff Refused Overran (stops.Key fault) = ⊥
BreaksRunOff Refused Overran stops.Memory = Refused
BreaksRunOff Refused Overran stops.Device = Unit {0}
BreaksRunOff Refused Overran stops.Calls = Overran

-- this line was written and the status is 2; or the line could not be written
abbrev pub TellsLine : List ℕ → Option (List ℕ) → Option (List ℕ) → Result ℕ Stop → Type 0
TellsLine line old new (Ok status) = (status ≡ 2) × Appends old new line
TellsLine line old new (Err stop) = StopBreaksOff stop

-- nothing was written
abbrev pub StopsSilently : Stop → Option (List ℕ) → Option (List ℕ) → Result ℕ Stop → Type 0
StopsSilently stop old new ended = (ended ≡ Err stop) × (new ≡ old)

-- a run over TCP, certificates and where keys live: there never are too many calls
abbrev pub NeverOverruns : List ℕ → Option (List ℕ) → Option (List ℕ) → Type 0
NeverOverruns text old new = ⊥

-- where memory was refused some lines of where keys live may have been written, and nothing is said of them
abbrev pub SaysNothing : List ℕ → Option (List ℕ) → Option (List ℕ) → Type 0
SaysNothing text old new = Unit {0}

-- a text was dealt with so, and how that ended; or memory was refused, or there were too many calls, and then this was written; or the writer failed
abbrev pub RunsText : (List ℕ → Option (List ℕ) → Option (List ℕ) → ℕ → Type 0) → (List ℕ → Option (List ℕ) → Option (List ℕ) → Type 0) → (List ℕ → Option (List ℕ) → Option (List ℕ) → Type 0) → List ℕ → Option (List ℕ) → Option (List ℕ) → Result ℕ Stop → Type 0
RunsText P M O text old new (Ok status) = P text old new status
RunsText P M O text old new (Err stop) = BreaksRunOff (M text old new) (O text old new) stop

-- what is written of an input that was not read, and how that ended
abbrev pub Declines : InputFault → Option (List ℕ) → Option (List ℕ) → Result ℕ Stop → Type 0
Declines TooLarge old new ended = TellsLine (codes "input: too large" ++ codes "\n") old new ended
Declines NotUtf8 old new ended = TellsLine (codes "input: not UTF-8" ++ codes "\n") old new ended
Declines NoMemory old new ended = StopsSilently stops.Memory old new ended
Declines Device old new ended = StopsSilently stops.Device old new ended

-- an input that was read or not, what was written of it, and how that ended
abbrev pub AnswersBy : (List ℕ → Option (List ℕ) → Option (List ℕ) → ℕ → Type 0) → (List ℕ → Option (List ℕ) → Option (List ℕ) → Type 0) → (List ℕ → Option (List ℕ) → Option (List ℕ) → Type 0) → Result (String Global) InputFault → Option (List ℕ) → Option (List ℕ) → Result ℕ Stop → Type 0
AnswersBy P M O (Ok text) old new ended = RunsText P M O (string_bytes text) old new ended
AnswersBy P M O (Err fault) old new ended = Declines fault old new ended
