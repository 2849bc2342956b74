-- What a message asks, one ask for each key. Source: memcached's protocol.txt, the lines of each command.
use Rattle.std.specs.Prelude.{◌≡◌, ℕ, ◌+◌, ◌≤◌, ℤ, Bool, false, List, [], ◌∷◌, Option, Some, None, map, take, drop}
use Rattle.text_words.specs.Word.{words}
use Rattle.mc_types.specs.Asks.{IsAsk}
use Rattle.mc_types.specs.declared.ask.Op.{Op}
use Rattle.mc_types.specs.declared.ask.Op.TheVariants as ops
use Rattle.mc_types.specs.declared.ask.Dialect.TheVariants.{Classic}
use Rattle.mc_types.specs.declared.ask.Ask.{Ask}
use Rattle.wire_parts.specs.Tests.{Word}
use Rattle.wire_parts.specs.declared.proxy_command.ProxyCommand.{ProxyCommand}
use Rattle.wire_classic.specs.declared.command.ClassicCommand.{ClassicCommand}
use Rattle.wire_classic.specs.declared.command.ClassicCommand.TheVariants as commands
use Rattle.wire_classic.specs.declared.command.Keys.{Keys}
use Rattle.wire_classic.specs.declared.asking.Asks.{Asks}
use Rattle.wire_classic.specs.Order.{Order, Storing, Retrieval, Storage, Swapping, Deletion, Touching, Counting, OfItself}
use Rattle.wire_classic.specs.Places.{keys_in}
use Rattle.wire_classic.specs.Grammar.{classic_own_by}
use Rattle.wire_classic.specs.Message.{ClassicMessage, IsClassicReadFrom}
use Rattle.wire_parts.specs.Message.{Served, Refusal}

-- an operation on a key, and nothing else
abbrev pub bare_ask : Op → Word → Ask
bare_ask op key = record { key = key; op = op; dialect = Classic; with_cas = false; flags = 0; exptime = None; body = []; cas = None; delta = 0; tokens = [] }

-- a get, and with an exptime a gat
abbrev pub retrieval_op : Option ℤ → Op
retrieval_op None = ops.Get
retrieval_op (Some exptime) = ops.Gat

-- one key of a retrieval
abbrev pub retrieval_ask : Option ℤ → Bool → Word → Ask
retrieval_ask exptime with_cas key = record (bare_ask (retrieval_op exptime) key) { with_cas = with_cas; exptime = exptime }

-- a store of data, with a cas number or without
abbrev pub store_ask : Op → Storing → Option ℕ → List ℕ → Ask
store_ask op s cas block = record (bare_ask op s.key) { flags = s.flags; exptime = Some s.exptime; body = block; cas = cas }

-- a touch
abbrev pub touch_ask : Word → ℤ → Ask
touch_ask key exptime = record (bare_ask ops.Touch key) { exptime = Some exptime }

-- an incr or a decr
abbrev pub count_ask : Op → Word → ℕ → Ask
count_ask op key delta = record (bare_ask op key) { delta = delta }

-- the ask of a command that has one key
abbrev pub single_ask : Order → List ℕ → Option Ask
single_ask (Storage op stored quiet) block = Some (store_ask op stored None block)
single_ask (Swapping stored cas quiet) block = Some (store_ask ops.Cas stored (Some cas) block)
single_ask (Deletion key quiet) block = Some (bare_ask ops.Delete key)
single_ask (Touching key exptime quiet) block = Some (touch_ask key exptime)
single_ask (Counting op key delta quiet) block = Some (count_ask op key delta)
single_ask (Retrieval exptime with_cas keys) block = None
single_ask (OfItself own) block = None

-- none or one
abbrev pub classic_listed : Option Ask → List Ask
classic_listed None = []
classic_listed (Some ask) = ask ∷ []

-- the asks of an order with its data block
abbrev pub classic_asks_by : Order → List ℕ → List Ask
classic_asks_by (Retrieval exptime with_cas keys) block = map (retrieval_ask exptime with_cas) keys
classic_asks_by order block = classic_listed (single_ask order block)

-- the asks of a message, in order: a refused one has none
abbrev pub classic_asks_of : ClassicMessage → List Ask
classic_asks_of (Served order block) = classic_asks_by order block
classic_asks_of (Refusal why skip) = []

-- whether an order wants no answer
abbrev pub classic_is_quiet : Order → Bool
classic_is_quiet (Retrieval exptime with_cas keys) = false
classic_is_quiet (Storage op stored quiet) = quiet
classic_is_quiet (Swapping stored cas quiet) = quiet
classic_is_quiet (Deletion key quiet) = quiet
classic_is_quiet (Touching key exptime quiet) = quiet
classic_is_quiet (Counting op key delta quiet) = quiet
classic_is_quiet (OfItself own) = false

-- whether a message wants no answer: a refused one is always answered
abbrev pub classic_quiet_of : ClassicMessage → Bool
classic_quiet_of (Served order block) = classic_is_quiet order
classic_quiet_of (Refusal why skip) = false

-- what a message asks of mcgate itself
abbrev pub classic_own_of : ClassicMessage → Option ProxyCommand
classic_own_of (Served order block) = classic_own_by order
classic_own_of (Refusal why skip) = None

-- a well formed ask of the classic dialect
pub record IsClassicAsk (ask : Ask) : Type 0 where
  pub well_formed : IsAsk ask
  pub classic : ask.dialect ≡ Classic

-- from the byte at on, the keys that are left stand
pub record StandsAt (bytes : List ℕ) (keys : Keys) (at taken : ℕ) : Type 0 where
  pub within : at ≤ keys.span.end
  pub rest : words (drop at (take keys.span.end bytes)) ≡ drop taken (keys_in bytes keys)

-- from the byte at on, the keys that are left of a command of several stand; one with a single key has no place
abbrev pub IsAt : List ℕ → ClassicCommand → ℕ → ℕ → Type 0
IsAt bytes (commands.Retrieval with_cas exptime keys) at taken = StandsAt bytes keys at taken
IsAt bytes _ at taken = Unit {0}

-- where the keys begin
abbrev pub first_place : ClassicCommand → ℕ
first_place (commands.Retrieval with_cas exptime keys) = keys.span.start
first_place _ = 0

-- a walk over the asks of a request of these bytes
pub record IsClassicWalk (bytes : List ℕ) (a : Asks) : Type 0 where
  pub read : IsClassicReadFrom bytes a.request
  pub place : IsAt bytes a.request.command a.at a.taken

-- how many were taken after this answer
abbrev pub asks_taken : Option Ask → ℕ → ℕ
asks_taken None taken = taken
asks_taken (Some ask) taken = taken + 1
