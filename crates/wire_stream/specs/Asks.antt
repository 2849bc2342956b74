-- What a message of either dialect asks, one ask for each key. Source: memcached's protocol.txt, the lines of each command.
use Rattle.std.specs.Prelude.{ℕ, ◌+◌, Bool, false, List, [], Option, Some, None}
use Rattle.std.specs.List.{AllByRecursion}
use Rattle.mc_types.specs.Tokens.{TokenIsText}
use Rattle.mc_types.specs.Asks.{IsAsk}
use Rattle.mc_types.specs.declared.ask.Ask.{Ask}
use Rattle.wire_parts.specs.declared.proxy_command.ProxyCommand.{ProxyCommand}
use Rattle.wire_parts.specs.Message.{Served, Refusal}
use Rattle.wire_classic.specs.Asks as texts
use Rattle.wire_meta.specs.Asks as metas
use Rattle.wire_meta.specs.Message as meta_messages
use Rattle.wire_stream.specs.declared.requests.request.Request.{Request}
use Rattle.wire_stream.specs.declared.requests.request.Request.TheVariants as requests
use Rattle.wire_stream.specs.declared.requests.request.Asks.{Asks}
use Rattle.wire_stream.specs.declared.requests.request.Asks.TheVariants as walks
use Rattle.wire_stream.specs.Both.{AnyOrder, Classic, Meta, own_by}
use Rattle.wire_stream.specs.Message.{AnyMessage}

-- the asks of an order with its data block
abbrev pub asks_by : AnyOrder → List ℕ → List Ask
asks_by (Classic order) block = texts.classic_asks_by order block
asks_by (Meta order) block = metas.meta_asks_by order block

-- the asks of a message, in order: a refused one has none
abbrev pub asks_of : AnyMessage → List Ask
asks_of (Served order block) = asks_by order block
asks_of (Refusal why skip) = []

-- whether `noreply` stands on the line of an order, or `q`
abbrev pub is_quiet : AnyOrder → Bool
is_quiet (Classic order) = texts.classic_is_quiet order
is_quiet (Meta order) = metas.meta_is_quiet order

-- whether `noreply`, or `q`, stands on the line of a message: a refused one is always answered
abbrev pub quiet_of : AnyMessage → Bool
quiet_of (Served order block) = is_quiet order
quiet_of (Refusal why skip) = false

-- what a message asks of mcgate itself
abbrev pub own_of : AnyMessage → Option ProxyCommand
own_of (Served order block) = own_by order
own_of (Refusal why skip) = None

-- a well formed ask, of either dialect
pub record IsClientAsk (ask : Ask) : Type 0 where
  pub well_formed : IsAsk ask
  pub texts : AllByRecursion TokenIsText ask.tokens

-- the request whose asks a walk goes over
abbrev pub request_of : Asks → Request
request_of (walks.Classic a) = requests.Classic a.request
request_of (walks.Meta a) = requests.Meta a.request

-- how many asks a walk has taken
abbrev pub taken_of : Asks → ℕ
taken_of (walks.Classic a) = a.taken
taken_of (walks.Meta a) = a.taken

-- a walk over the asks of a request of these bytes
abbrev pub IsWalk : List ℕ → Asks → Type 0
IsWalk bytes (walks.Classic a) = texts.IsClassicWalk bytes a
IsWalk bytes (walks.Meta a) = meta_messages.IsMetaReadFrom bytes a.request
