-- The messages of a client's stream, one after another.
use Rattle.std.specs.Prelude.{ℕ, List}
use Rattle.wire_parts.specs.Stream as streams
use Rattle.wire_parts.specs.Stream.{Place}
use Rattle.wire_stream.specs.Both.{both_grammar}
use Rattle.wire_stream.specs.Message.{AnyMessage}

-- where a reader stands after a message, with these bytes after it
abbrev pub after_any : AnyMessage → List ℕ → Place
after_any = streams.after_message both_grammar
