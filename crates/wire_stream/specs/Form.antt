-- Classic gets in the meta dialect. Source: memcached's protocol.txt, "Retrieval command", "Get And Touch" and "Meta Get".
use Rattle.std.specs.Prelude.{ℕ, Bool, true, false, List, [], ◌∷◌, codes, if◌then◌else◌}
use Rattle.mc_types.specs.declared.token.Token.{Token}
use Rattle.mc_types.specs.declared.token.Token.TheVariants.{Key, Flags, Value, Cas}
use Rattle.mc_types.specs.declared.ask.Ask.{Ask}
use Rattle.wire_meta.specs.Asks.{meta_bare_ask}
use Rattle.wire_stream.specs.Replies.{shows_values}

-- `get`, `gets`, `gat` or `gats` of one key
abbrev pub is_retrieval : Ask → Bool
is_retrieval ask = shows_values ask.dialect ask.op

-- what a hit shows: its key, flags and data, and its cas number where that is wanted
abbrev pub wanted : Bool → List Token
wanted true = Key ∷ Flags ∷ Value ∷ Cas ∷ []
wanted false = Key ∷ Flags ∷ Value ∷ []

-- a classic get of one key as an `mg`, with `T` where it sets the expiry
abbrev pub meta_form : Ask → Ask
meta_form ask = record (meta_bare_ask ask.op ask.key (wanted ask.with_cas)) { exptime = ask.exptime }

-- what a server is asked that speaks the meta dialect
abbrev pub in_meta : Ask → Ask
in_meta ask = if is_retrieval ask then meta_form ask else ask

-- what the line of an `mg` has after the key, where it sets no expiry: with the cas number or without
abbrev pub get_end : Bool → List ℕ
get_end true = codes " k f v c\r\n"
get_end false = codes " k f v\r\n"
