-- What stands in the file of `serve --history` when a tree is used. Source: mcgate's own.
use Rattle.std.specs.Prelude.{◌≡◌, ℕ, ◌⊎◌, List, Option}
use Rattle.core_accepted.specs.declared.served.ServedCore.{ServedCore}
use Rattle.mcgate_notes.specs.declared.remembering.Kept.{Kept}
use Rattle.mcgate_notes.specs.Remembers.{StandsIn}

-- the core goes on as it was; or a text was loaded that stands there
abbrev pub StandsIfLoaded : ServedCore → ServedCore → Option Kept → List ℕ → Type 0
StandsIfLoaded old new memory text = (new ≡ old) ⊎ StandsIn memory text
