-- Pools of servers. Source: mcgate's own.
use Rattle.route_json.specs.declared.addresses.server_text.TheConstants.{MAX_WEIGHT}
use Rattle.route_tree.specs.declared.limits.TheConstants.{SLOT_LIMIT, POOL_LIMIT}
use Rattle.std.specs.Prelude.{ℕ, ◌<◌, ◌≤◌, ◌==◌, ◌||◌, Bool, not, List, [], ◌∷◌, codes, length, replicate, nat_lt, slice_get, option_and_then, Option, Some, None, Result, Ok, Err, if◌then◌else◌, string_bytes}
use Rattle.std.specs.List.{flat_map, list_all}
use Rattle.std.specs.Str.{bytes_eq}
use Rattle.serde_json.specs.Data.{Data, string, array, object, Members}
use Rattle.serde_json.specs.Find.{as_number, as_u64, get}
use Rattle.route_json.specs.declared.names.holders.Holder.TheVariants as holders
use Rattle.route_json.specs.declared.pools.NamedPool.{NamedPool}
use Rattle.route_json.specs.declared.pools.Pool.{Pool}
use Rattle.route_json.specs.declared.pools.WeightedServer.{WeightedServer}
use Rattle.route_json.specs.Fault.{Fault, BadAddress, BadField, EmptyPool, TooManyServers, TooManySlots}
use Rattle.route_json.specs.Fields.{only, list_or}
use Rattle.route_json.specs.Limits.{limits_or}
use Rattle.route_json.specs.Names.{limit_fields}
use Rattle.route_json.specs.Reading.{Reading, ◌>>=◌, give, fail, pure, result_of, each, values, members, named}
use Rattle.route_json.specs.Servers.{Addresses, server_of_text}
use Rattle.route_json.specs.ServerNames.{have_epochs, epoch_is_over}

-- a pool's servers, one for each text, and the server of each of its slots
pub record Slotted : Type 0 where
  pub servers : List WeightedServer
  pub slots : List ℕ

-- names with their pools
abbrev pub Pools : Type 0
Pools = List (List ℕ × Slotted)

abbrev pub slotted : Pool → Slotted
slotted p = record { servers = p.servers.items; slots = p.slots.items }

-- the pools of a vector
abbrev pub pools_of : List NamedPool → Pools
pools_of [] = []
pools_of (p ∷ ps) = (string_bytes p.name, slotted p.pool) ∷ pools_of ps

-- the slots of a pool without a table: each server as often in a row as its weight says
abbrev pub slots_of : List WeightedServer → List ℕ
slots_of servers = flat_map (λ s. replicate s.weight s.server) servers

-- all these numbers are below the bound
abbrev pub AllBelow : ℕ → List ℕ → Type 0
AllBelow bound [] = Unit {0}
AllBelow bound (s ∷ ss) = (s < bound) × AllBelow bound ss

-- each server is one of so many, and has a weight in 1..=MAX_WEIGHT
abbrev pub AreWeighted : ℕ → List WeightedServer → Type 0
AreWeighted bound [] = Unit {0}
AreWeighted bound (s ∷ ss) = (s.server < bound) × (0 < s.weight) × (s.weight ≤ MAX_WEIGHT) × AreWeighted bound ss

-- a pool's list isn't empty, its weights don't make more than 2,048 slots, and its servers are some of so many
abbrev pub IsServerList : ℕ → List WeightedServer → Type 0
IsServerList bound servers = (0 < length servers) × (length (slots_of servers) ≤ SLOT_LIMIT) × AreWeighted bound servers

-- there is a slot, and there aren't more than 2,048, and their servers are some of so many
abbrev pub AreSlots : ℕ → List ℕ → Type 0
AreSlots bound slots = (0 < length slots) × (length slots ≤ SLOT_LIMIT) × AllBelow bound slots

-- a pool has servers and slots, which are some of so many
pub record IsPool (bound : ℕ) (pool : Slotted) : Type 0 where
  pub servers : IsServerList bound pool.servers
  pub slots : AreSlots bound pool.slots

-- each of the pools isn't empty and doesn't have more than 2,048 slots, and its servers are some of so many
abbrev pub ArePools : ℕ → Pools → Type 0
ArePools bound [] = Unit {0}
ArePools bound (p ∷ ps) = IsPool bound p.1 × ArePools bound ps

-- the pool of this name
abbrev pub pool_named : List ℕ → Pools → Option Slotted
pool_named name [] = None
pool_named name (p ∷ ps) = if bytes_eq p.0 name then Some p.1 else pool_named name ps

-- the server that a value names, in the list of this pool
abbrev pub server_named : List ℕ → Data → Reading Addresses WeightedServer
server_named pool (string text) = server_of_text pool text
server_named pool _ = fail (BadField (codes "servers"))

-- these servers, if they don't have more than 2,048 slots
abbrev pub few_slots : List ℕ → List WeightedServer → Result (List WeightedServer) Fault
few_slots pool servers = if nat_lt SLOT_LIMIT (length (slots_of servers)) then Err (TooManySlots pool) else Ok servers

-- the servers of a pool, from texts that are neither none nor too many
abbrev pub servers_in : List ℕ → List Data → Reading Addresses (List WeightedServer)
servers_in pool ds = do
  servers ← each (server_named pool) ds
  pure (few_slots pool servers)

-- the servers of a pool, from its list
abbrev pub pool_list : List ℕ → List Data → Reading Addresses (List WeightedServer)
pool_list pool ds known =
    if length ds == 0 then Err (EmptyPool pool)
    else if nat_lt POOL_LIMIT (length ds) then Err (TooManyServers pool)
    else servers_in pool ds known

-- the server at a place of the list, if there is one
abbrev pub placed_or : Option WeightedServer → Result ℕ Fault
placed_or (Some s) = Ok s.server
placed_or None = Err (BadField (codes "slots"))

-- the server that a value of a table names by its place in the list
abbrev pub slot : List WeightedServer → Data → Result ℕ Fault
slot servers d = placed_or (option_and_then (slice_get servers) (option_and_then as_u64 (as_number d)))

-- what a value of a table reads, where nothing is known
abbrev pub read_slot : List WeightedServer → Data → Reading (Unit {0}) ℕ
read_slot servers d = pure (slot servers d)

-- each server has weight 1
abbrev pub are_unweighted : List WeightedServer → Bool
are_unweighted servers = list_all (λ s. s.weight == 1) servers

-- the slots that a table says: 1 to 2,048, each of a server of a list without weights
abbrev pub table : List WeightedServer → List Data → Result (List ℕ) Fault
table servers ds =
    if (length ds == 0) || nat_lt SLOT_LIMIT (length ds) || not (are_unweighted servers) then Err (BadField (codes "slots"))
    else result_of (each (read_slot servers) ds tt)

-- the slots of a pool: those of its table, or those that weights make
abbrev pub slots_or : List WeightedServer → Option Data → Result (List ℕ) Fault
slots_or servers None = Ok (slots_of servers)
slots_or servers (Some (array ds)) = table servers (values ds)
slots_or servers _ = Err (BadField (codes "slots"))

-- a pool, from its object
abbrev pub pool_object : List ℕ → Data → Reading Addresses Slotted
pool_object name d = do
  _ ← pure (only holders.Pool d)
  ds ← pure (list_or (codes "servers") (get (codes "servers") d))
  servers ← pool_list name (values ds)
  slots ← pure (slots_or servers (get (codes "slots") d))
  _ ← pure (limits_or limit_fields d)
  give (record { servers = servers; slots = slots })

-- the pool of this name
abbrev pub pool_of : List ℕ → Data → Reading Addresses Slotted
pool_of name (object ms) = pool_object name (object ms)
pool_of name _ = fail (BadField name)

-- all pools, in byte order of their names
abbrev pub pools_in : Members → Reading Addresses Pools
pools_in ms = each (named Ok pool_of) (members ms)

-- the name of the first of these servers whose epoch is over
abbrev pub first_over : Addresses → List WeightedServer → Option (List ℕ)
first_over names [] = None
first_over names (s ∷ servers) = if epoch_is_over names s.server then slice_get names s.server else first_over names servers

-- the first, or the first of other pools
abbrev pub or_over : Option (List ℕ) → Option (List ℕ) → Option (List ℕ)
or_over (Some name) others = Some name
or_over None others = others

-- the same of all pools
abbrev pub first_over_in : Addresses → Pools → Option (List ℕ)
first_over_in names [] = None
first_over_in names (p ∷ pools) = or_over (first_over names p.1.servers) (first_over_in names pools)

-- an epoch that is over doesn't come back
abbrev pub none_over : Option (List ℕ) → Result (Unit {0}) Fault
none_over None = Ok tt
none_over (Some name) = Err (BadAddress name)

-- where servers have epochs, none of those that pools name is over
abbrev pub in_epochs : Pools → Reading Addresses (Unit {0})
in_epochs pools known = pure (if have_epochs known then none_over (first_over_in known pools) else Ok tt) known
