-- What is seen of the program's own types.
use Rattle.std.specs.Prelude.{ℕ, List}
use denote.Ref.{Bor}
use Rattle.script_events.specs.declared.text.event.Sent.{Sent}
use Rattle.script_events.specs.declared.text.words.Parts as words
use Rattle.script_events.specs.Lines.{Parts}

-- the two parts of a text that was cut
abbrev pub parts_seen : words.Parts → Parts
parts_seen p = record { word = p.word.now; rest = p.rest.now }

-- the two parts of a string that was cut
abbrev pub texts_seen : Bor (List ℕ) × Bor (List ℕ) → Parts
texts_seen p = record { word = p.0.now; rest = p.1.now }

-- a client, and what it sends
abbrev pub sent_seen : Sent → ℕ × List ℕ
sent_seen s = (s.client, s.bytes.items)
