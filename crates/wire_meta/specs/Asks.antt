-- What a meta message asks. Source: memcached's protocol.txt, "Meta Commands": the modes, and what a flag that is left out stands for.
use Rattle.std.specs.Prelude.{◌≡◌, ℕ, ℤ, pos, Bool, false, List, [], ◌∷◌, Option, Some, None, unwrap_or}
use Rattle.std.specs.List.{AllByRecursion}
use Rattle.mc_types.specs.Tokens.{TokenIsText}
use Rattle.mc_types.specs.OpaqueText.{IsOpaque}
use Rattle.mc_types.specs.Asks.{IsAsk}
use Rattle.mc_types.specs.declared.token.Token.{Token}
use Rattle.mc_types.specs.declared.token.Token.TheVariants as tokens
use Rattle.mc_types.specs.declared.ask.Op.{Op}
use Rattle.mc_types.specs.declared.ask.Op.TheVariants as ops
use Rattle.mc_types.specs.declared.ask.Dialect.TheVariants.{Meta}
use Rattle.mc_types.specs.declared.ask.Ask.{Ask}
use Rattle.wire_parts.specs.declared.proxy_command.ProxyCommand.{ProxyCommand}
use Rattle.wire_parts.specs.Message.{Served, Refusal}
use Rattle.wire_parts.specs.Tests.{Word}
use Rattle.wire_meta.specs.declared.command.Kind.{Kind}
use Rattle.wire_meta.specs.declared.command.Kind.TheVariants.{Get, Store, Delete, Count}
use Rattle.wire_meta.specs.declared.command.Values.{Values}
use Rattle.wire_meta.specs.Flags.{values_of, tokens_in}
use Rattle.wire_meta.specs.Order.{MetaOrder, Asking, OfItself}
use Rattle.wire_meta.specs.Grammar.{meta_own_by}
use Rattle.wire_meta.specs.Message.{MetaMessage}

-- an operation on a key with what is wanted back, and nothing else
abbrev pub meta_bare_ask : Op → Word → List Token → Ask
meta_bare_ask op key wanted = record { key = key; op = op; dialect = Meta; with_cas = false; flags = 0; exptime = None; body = []; cas = None; delta = 0; tokens = wanted }

-- `mg` is a get, and with an exptime a gat
abbrev pub get_op : Option ℤ → Op
get_op None = ops.Get
get_op (Some exptime) = ops.Gat

-- `ms` with a cas number is a cas; else it is the store of its mode, a set where there is none
abbrev pub store_op : Option ℕ → Option Op → Op
store_op (Some cas) mode = ops.Cas
store_op None mode = unwrap_or mode ops.Set

-- the ask of a kind, by what its flags say: flags and exptime of `ms` are 0, and `ma` counts up by 1, where nothing else is said
abbrev pub ask_by : Kind → Word → Values → List Token → List ℕ → Ask
ask_by Get key v wanted block = record (meta_bare_ask (get_op v.exptime) key wanted) { exptime = v.exptime }
ask_by Store key v wanted block = record (meta_bare_ask (store_op v.cas v.mode) key wanted) { flags = unwrap_or v.flags 0; exptime = Some (unwrap_or v.exptime (pos 0)); body = block; cas = v.cas }
ask_by Delete key v wanted block = record (meta_bare_ask ops.Delete key wanted) { cas = v.cas }
ask_by Count key v wanted block = record (meta_bare_ask (unwrap_or v.mode ops.Incr) key wanted) { exptime = v.exptime; cas = v.cas; delta = unwrap_or v.delta 1 }

-- the ask of an order with its data block, if it is one
abbrev pub meta_single_ask : MetaOrder → List ℕ → Option Ask
meta_single_ask (Asking kind key n flags) block = Some (ask_by kind key (values_of kind flags) (tokens_in flags) block)
meta_single_ask (OfItself own) block = None

abbrev pub meta_listed : Option Ask → List Ask
meta_listed None = []
meta_listed (Some ask) = ask ∷ []

-- the asks of an order: one, or none
abbrev pub meta_asks_by : MetaOrder → List ℕ → List Ask
meta_asks_by order block = meta_listed (meta_single_ask order block)

-- the asks of a message: a refused one has none
abbrev pub meta_asks_of : MetaMessage → List Ask
meta_asks_of (Served order block) = meta_asks_by order block
meta_asks_of (Refusal why skip) = []

-- whether `q` stands on the line of an order
abbrev pub meta_is_quiet : MetaOrder → Bool
meta_is_quiet (Asking kind key n flags) = (values_of kind flags).quiet
meta_is_quiet (OfItself own) = false

-- whether `q` stands on the line of a message: a refused one is always answered
abbrev pub meta_quiet_of : MetaMessage → Bool
meta_quiet_of (Served order block) = meta_is_quiet order
meta_quiet_of (Refusal why skip) = false

-- what a message asks of mcgate itself
abbrev pub meta_own_of : MetaMessage → Option ProxyCommand
meta_own_of (Served order block) = meta_own_by order
meta_own_of (Refusal why skip) = None

-- a well formed ask of the meta dialect
pub record IsMetaAsk (ask : Ask) : Type 0 where
  pub well_formed : IsAsk ask
  pub meta : ask.dialect ≡ Meta
  pub texts : AllByRecursion TokenIsText ask.tokens
