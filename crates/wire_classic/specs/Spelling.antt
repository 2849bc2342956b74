-- The one spelling of an ask, and the message that it is. Source: memcached's protocol.txt, the lines of each command; of the spellings that it allows, the choice of one is mcgate's own.
use Rattle.std.specs.Prelude.{ℕ, ℤ, pos, Bool, true, false, List, [], ◌∷◌, ◌++◌, Some, None, length, codes, decimal, unwrap_or}
use Rattle.std.specs.Fmt.{signed_decimal}
use Rattle.text_words.specs.Spelling.{words_line}
use Rattle.mc_types.specs.declared.ask.Op.{Op}
use Rattle.mc_types.specs.declared.ask.Op.TheVariants.{Get, Gat, Set, Add, Replace, Append, Prepend, Cas, Delete, Incr, Decr, Touch}
use Rattle.mc_types.specs.declared.ask.Ask.{Ask}
use Rattle.wire_parts.specs.Tests.{Word, block_text}
use Rattle.wire_classic.specs.Order.{Order, Storing, Retrieval, Storage, Swapping, Deletion, Touching, Counting}
use Rattle.wire_classic.specs.Message.{ClassicMessage}
use Rattle.wire_parts.specs.Message.{Served}

-- one word, or the other where the cas number is wanted
abbrev pub with_s : Bool → Word → Word → Word
with_s false plain other = plain
with_s true plain other = other

-- the command word of an ask
abbrev pub command_word : Op → Bool → Word
command_word Get with_cas = with_s with_cas (codes "get") (codes "gets")
command_word Gat with_cas = with_s with_cas (codes "gat") (codes "gats")
command_word Set with_cas = codes "set"
command_word Add with_cas = codes "add"
command_word Replace with_cas = codes "replace"
command_word Append with_cas = codes "append"
command_word Prepend with_cas = codes "prepend"
command_word Cas with_cas = codes "cas"
command_word Delete with_cas = codes "delete"
command_word Incr with_cas = codes "incr"
command_word Decr with_cas = codes "decr"
command_word Touch with_cas = codes "touch"

-- the exptime of an ask that has one
abbrev pub exptime_in : Ask → ℤ
exptime_in ask = unwrap_or ask.exptime (pos 0)

-- the cas number of an ask that has one
abbrev pub cas_in : Ask → ℕ
cas_in ask = unwrap_or ask.cas 0

-- whether an operation stores data
abbrev pub stores_data : Op → Bool
stores_data Set = true
stores_data Add = true
stores_data Replace = true
stores_data Append = true
stores_data Prepend = true
stores_data Cas = true
stores_data Get = false
stores_data Gat = false
stores_data Delete = false
stores_data Incr = false
stores_data Decr = false
stores_data Touch = false

-- key, flags, exptime, length
abbrev pub store_words : Ask → List Word → List Word
store_words ask more = ask.key ∷ decimal ask.flags ∷ signed_decimal (exptime_in ask) ∷ decimal (length ask.body) ∷ more

-- the words after the command word
abbrev pub words_after : Op → Ask → List Word
words_after Get ask = ask.key ∷ []
words_after Gat ask = signed_decimal (exptime_in ask) ∷ ask.key ∷ []
words_after Set ask = store_words ask []
words_after Add ask = store_words ask []
words_after Replace ask = store_words ask []
words_after Append ask = store_words ask []
words_after Prepend ask = store_words ask []
words_after Cas ask = store_words ask (decimal (cas_in ask) ∷ [])
words_after Delete ask = ask.key ∷ []
words_after Incr ask = ask.key ∷ decimal ask.delta ∷ []
words_after Decr ask = ask.key ∷ decimal ask.delta ∷ []
words_after Touch ask = ask.key ∷ signed_decimal (exptime_in ask) ∷ []

-- the data block after the line, where one follows
abbrev pub block_after : Op → Ask → List ℕ
block_after Set ask = block_text ask.body
block_after Add ask = block_text ask.body
block_after Replace ask = block_text ask.body
block_after Append ask = block_text ask.body
block_after Prepend ask = block_text ask.body
block_after Cas ask = block_text ask.body
block_after _ ask = []

-- the line of an ask
abbrev pub ask_line : Ask → List ℕ
ask_line ask = words_line (command_word ask.op ask.with_cas ∷ words_after ask.op ask)

-- an ask, spelled
abbrev pub classic_spelling : Ask → List ℕ
classic_spelling ask = ask_line ask ++ block_after ask.op ask

-- the key and the numbers of a store
abbrev pub classic_storing : Ask → Storing
classic_storing ask = record { key = ask.key; flags = ask.flags; exptime = exptime_in ask; length = length ask.body }

-- what the line of an ask asks
abbrev pub order_for : Op → Ask → Order
order_for Get ask = Retrieval None ask.with_cas (ask.key ∷ [])
order_for Gat ask = Retrieval (Some (exptime_in ask)) ask.with_cas (ask.key ∷ [])
order_for Set ask = Storage Set (classic_storing ask) false
order_for Add ask = Storage Add (classic_storing ask) false
order_for Replace ask = Storage Replace (classic_storing ask) false
order_for Append ask = Storage Append (classic_storing ask) false
order_for Prepend ask = Storage Prepend (classic_storing ask) false
order_for Cas ask = Swapping (classic_storing ask) (cas_in ask) false
order_for Delete ask = Deletion ask.key false
order_for Incr ask = Counting Incr ask.key ask.delta false
order_for Decr ask = Counting Decr ask.key ask.delta false
order_for Touch ask = Touching ask.key (exptime_in ask) false

-- the message that an ask is
abbrev pub classic_message_of : Ask → ClassicMessage
classic_message_of ask = Served (order_for ask.op ask) ask.body
