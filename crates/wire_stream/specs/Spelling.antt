-- The one spelling of an ask, in its dialect, and the message that it is.
use Rattle.std.specs.Prelude.{ℕ, List}
use Rattle.mc_types.specs.declared.ask.Dialect.{Dialect}
use Rattle.mc_types.specs.declared.ask.Dialect.TheVariants as dialects
use Rattle.mc_types.specs.declared.ask.Ask.{Ask}
use Rattle.wire_classic.specs.Spelling as texts
use Rattle.wire_meta.specs.Spelling as metas
use Rattle.wire_parts.specs.Message.{lift_message}
use Rattle.wire_stream.specs.Both.{Classic, Meta}
use Rattle.wire_stream.specs.Message.{AnyMessage}

abbrev pub spelled_in : Dialect → Ask → List ℕ
spelled_in dialects.Classic ask = texts.classic_spelling ask
spelled_in dialects.Meta ask = metas.meta_ask_spelling ask

-- an ask, spelled
abbrev pub spelling_of : Ask → List ℕ
spelling_of ask = spelled_in ask.dialect ask

abbrev pub message_by : Dialect → Ask → AnyMessage
message_by dialects.Classic ask = lift_message Classic (texts.classic_message_of ask)
message_by dialects.Meta ask = lift_message Meta (metas.meta_message_of ask)

-- the message that an ask is
abbrev pub message_of : Ask → AnyMessage
message_of ask = message_by ask.dialect ask
