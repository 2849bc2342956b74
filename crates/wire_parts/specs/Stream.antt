-- The messages of a stream, one after another. Source: mcgate's own.
use Rattle.std.specs.Prelude.{◌≡◌, ℕ, ◌-◌, List, [], ◌∷◌, ◌++◌, length, drop, Option, Some, None, ◌==◌, nat_lt, if◌then◌else◌}
use Rattle.text_words.specs.Line.{LF}
use Rattle.wire_parts.specs.declared.proxy_command.ProxyCommand.{ProxyCommand}
use Rattle.wire_parts.specs.declared.proxy_command.ProxyCommand.TheVariants.{Version, Quit, Noop}
use Rattle.wire_parts.specs.declared.skip.Skip.{Skip}
use Rattle.wire_parts.specs.declared.skip.Skip.TheVariants.{Nothing, Bytes, ThroughNewline}
use Rattle.wire_parts.specs.Grammar.{Grammar}
use Rattle.wire_parts.specs.Message.{Message, Served, Refusal, BeginsMessage}

-- where a reader stands: what it has still to pass over, and the bytes that it holds; or it reads no more
pub data Place : Type 0 where
  Stands : (skip : Skip) (held : List ℕ) → Place
  Closed : Place

-- after the next line end, if there is one
abbrev pub through_newline : List ℕ → Place
through_newline [] = Stands ThroughNewline []
through_newline (b ∷ bytes) = if b == LF then Stands Nothing bytes else through_newline bytes

-- after passing over what it can
abbrev pub skipped : Skip → List ℕ → Place
skipped Nothing bytes = Stands Nothing bytes
skipped (Bytes n) bytes = if nat_lt (length bytes) n then Stands (Bytes (n - length bytes)) [] else Stands Nothing (drop n bytes)
skipped ThroughNewline bytes = through_newline bytes

-- more has come
abbrev pub extended : Place → List ℕ → Place
extended (Stands skip held) more = skipped skip (held ++ more)
extended Closed more = Closed

-- after what mcgate itself was asked: `quit` is the last message of its stream
abbrev pub after_own : Option ProxyCommand → List ℕ → Place
after_own None rest = Stands Nothing rest
after_own (Some Version) rest = Stands Nothing rest
after_own (Some Noop) rest = Stands Nothing rest
after_own (Some Quit) rest = Closed

module _ (G : Grammar) where
  -- where a reader stands after a message, with these bytes after it
  abbrev pub after_message : Message G.Order → List ℕ → Place
  after_message (Served order block) rest = after_own (G.own_by order) rest
  after_message (Refusal why skip) rest = skipped skip rest

  -- from one place these messages come, one after another, and lead to the other
  abbrev pub GoesThrough : Place → List (Message G.Order) → Place → Type 0
  GoesThrough from [] to = from ≡ to
  GoesThrough (Stands Nothing held) (message ∷ messages) to = (used : ℕ) × (BeginsMessage G held message used × GoesThrough (after_message message (drop used held)) messages to)
  GoesThrough (Stands (Bytes n) held) (message ∷ messages) to = ⊥
  GoesThrough (Stands ThroughNewline held) (message ∷ messages) to = ⊥
  GoesThrough Closed (message ∷ messages) to = ⊥

  -- no whole message is there: less than one, or a line that is too long, or bytes to pass over, or none is read any more
  abbrev pub HasNoMessage : Place → Type 0
  HasNoMessage (Stands Nothing held) = (message : Message G.Order) (used : ℕ) → ¬ BeginsMessage G held message used
  HasNoMessage (Stands (Bytes n) held) = Unit {0}
  HasNoMessage (Stands ThroughNewline held) = Unit {0}
  HasNoMessage Closed = Unit {0}

  -- the stream is these messages, and then no whole one
  abbrev pub SplitsInto : List ℕ → List (Message G.Order) → Place → Type 0
  SplitsInto stream messages rest = GoesThrough (Stands Nothing stream) messages rest × HasNoMessage rest
