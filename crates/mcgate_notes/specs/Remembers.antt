-- What stands in the file of `serve --history` when a tree is used. Source: mcgate's own.
use Rattle.std.specs.Prelude.{ℕ, List, Option, Some, None}
use Rattle.gate_history.specs.Standing.{StandsInHistory}
use Rattle.mcgate_notes.specs.declared.remembering.Kept.{Kept}
use Rattle.mcgate_notes.specs.declared.remembering.Remembering.{Remembering}
use Rattle.mcgate_notes.specs.declared.remembering.Remembering.TheVariants as outcomes

-- where a history is kept: its file, as it was written last, is one of generations whose trees are sound, and this text says the last of them
abbrev pub StandsIn : Option Kept → List ℕ → Type 0
StandsIn (Some kept) text = StandsInHistory kept.file.text text
StandsIn None text = Unit {0}

-- a text that wasn't refused stands where a history is kept
abbrev pub MayStand : Remembering → Option Kept → List ℕ → Type 0
MayStand outcomes.Refused memory text = Unit {0}
MayStand (outcomes.Stands old) memory text = StandsIn memory text
