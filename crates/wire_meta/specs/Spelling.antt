-- The one spelling of a meta ask, and the message that it is. Source: memcached's protocol.txt, "Meta Commands"; of the spellings that it allows, the choice of one is mcgate's own.
use Rattle.std.specs.Prelude.{ℕ, ℤ, List, [], ◌∷◌, ◌++◌, Option, Some, None, length, map, codes, decimal}
use Rattle.std.specs.Fmt.{signed_decimal}
use Rattle.text_words.specs.Spelling.{words_line}
use Rattle.mc_types.specs.declared.ask.Op.{Op}
use Rattle.mc_types.specs.declared.ask.Op.TheVariants as ops
use Rattle.mc_types.specs.declared.ask.Ask.{Ask}
use Rattle.mc_types.specs.declared.token.Token.{Token}
use Rattle.mc_types.specs.declared.token.Token.TheVariants as tokens
use Rattle.wire_parts.specs.Tests.{Word, block_text}
use Rattle.wire_parts.specs.Message.{Served}
use Rattle.wire_meta.specs.declared.command.Kind.{Kind}
use Rattle.wire_meta.specs.declared.command.Kind.TheVariants.{Get, Store, Delete, Count}
use Rattle.wire_meta.specs.Order.{MetaOrder, Asking}
use Rattle.wire_meta.specs.Message.{MetaMessage}

-- the command of an operation; no meta command is a touch
abbrev pub meta_kind : Op → Kind
meta_kind ops.Get = Get
meta_kind ops.Gat = Get
meta_kind ops.Set = Store
meta_kind ops.Add = Store
meta_kind ops.Replace = Store
meta_kind ops.Append = Store
meta_kind ops.Prepend = Store
meta_kind ops.Cas = Store
meta_kind ops.Delete = Delete
meta_kind ops.Incr = Count
meta_kind ops.Decr = Count
meta_kind ops.Touch = Get

abbrev pub kind_word : Kind → Word
kind_word Get = codes "mg"
kind_word Store = codes "ms"
kind_word Delete = codes "md"
kind_word Count = codes "ma"

-- the mode of an operation, where its command has modes: a cas is a set with `C`
abbrev pub mode_letter : Op → ℕ
mode_letter ops.Set = 83
mode_letter ops.Cas = 83
mode_letter ops.Add = 69
mode_letter ops.Append = 65
mode_letter ops.Prepend = 80
mode_letter ops.Replace = 82
mode_letter ops.Incr = 73
mode_letter ops.Decr = 68
mode_letter _ = 83

-- a return flag, and `O` with its text
abbrev pub token_word : Token → Word
token_word tokens.Cas = codes "c"
token_word tokens.Flags = codes "f"
token_word tokens.Key = codes "k"
token_word tokens.Size = codes "s"
token_word tokens.Ttl = codes "t"
token_word tokens.Value = codes "v"
token_word (tokens.Opaque text) = 79 ∷ text

abbrev pub meta_token_words : List Token → List Word
meta_token_words wanted = map token_word wanted

-- `C`, where there is a cas number
abbrev pub meta_cas_words : Option ℕ → List Word
meta_cas_words None = []
meta_cas_words (Some cas) = (67 ∷ decimal cas) ∷ []

-- `T`, where there is an exptime
abbrev pub exptime_words : Option ℤ → List Word
exptime_words None = []
exptime_words (Some exptime) = (84 ∷ signed_decimal exptime) ∷ []

abbrev pub mode_word : Op → Word
mode_word op = 77 ∷ mode_letter op ∷ []

-- the flags with a value but the expiry, in the order `C D F M`: `F M` always on `ms`, `D M` always on `ma`
abbrev pub value_words : Kind → Ask → List Word
value_words Get ask = []
value_words Store ask = meta_cas_words ask.cas ++ (70 ∷ decimal ask.flags) ∷ mode_word ask.op ∷ []
value_words Delete ask = meta_cas_words ask.cas
value_words Count ask = meta_cas_words ask.cas ++ (68 ∷ decimal ask.delta) ∷ mode_word ask.op ∷ []

-- the expiry, what is wanted back, in the ask's order, and then the other flags with a value: a server that takes flags in their order sets the expiry before it tells the time to live
abbrev pub flag_words : Kind → Ask → List Word
flag_words kind ask = exptime_words ask.exptime ++ (meta_token_words ask.tokens ++ value_words kind ask)

-- the length of the data, on `ms` alone
abbrev pub length_words : Kind → Ask → List Word
length_words Get ask = []
length_words Store ask = decimal (length ask.body) ∷ []
length_words Delete ask = []
length_words Count ask = []

-- the data block after the line, on `ms` alone
abbrev pub block_by : Kind → List ℕ → List ℕ
block_by Get body = []
block_by Store body = block_text body
block_by Delete body = []
block_by Count body = []

-- words, a space before each
abbrev pub meta_led : List Word → List ℕ
meta_led [] = []
meta_led (word ∷ words) = 32 ∷ word ++ meta_led words

-- the words of an ask's line
abbrev pub line_words : Kind → Ask → List Word
line_words kind ask = kind_word kind ∷ ask.key ∷ length_words kind ask ++ flag_words kind ask

-- an ask, spelled
abbrev pub meta_ask_spelling : Ask → List ℕ
meta_ask_spelling ask = words_line (line_words (meta_kind ask.op) ask) ++ block_by (meta_kind ask.op) ask.body

abbrev pub length_for : Kind → Ask → Option ℕ
length_for Get ask = None
length_for Store ask = Some (length ask.body)
length_for Delete ask = None
length_for Count ask = None

-- what the line of an ask asks
abbrev pub meta_order_for : Kind → Ask → MetaOrder
meta_order_for kind ask = Asking kind ask.key (length_for kind ask) (flag_words kind ask)

-- the message that an ask is
abbrev pub meta_message_of : Ask → MetaMessage
meta_message_of ask = Served (meta_order_for (meta_kind ask.op) ask) ask.body
