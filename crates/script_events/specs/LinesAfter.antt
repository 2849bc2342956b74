-- What is left of a text after its first line. Source: mcgate's own.
use Rattle.std.specs.Prelude.{ℕ, List, [], Option, Some, None}
use denote.Ref.{Bor}
use Rattle.script_events.specs.Lines.{lines_of}

-- the lines after a line end; none where there was no line end
abbrev pub lines_after : Option (Bor (List ℕ)) → List (List ℕ)
lines_after None = []
lines_after (Some text) = lines_of text.now
