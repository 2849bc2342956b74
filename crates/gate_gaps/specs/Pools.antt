-- The pools that a configuration's text names. Source: mcgate's own.
use Rattle.std.specs.Prelude.{ℕ, List, [], ◌∷◌, codes, Option, Some, None, option_to_list, option_and_then, replicate, position, slice_get, map}
use Rattle.std.specs.List.{flat_map}
use Rattle.std.specs.Str.{bytes_eq}
use Rattle.route_json.specs.Reading.{members, values}
use Rattle.serde_json.specs.Data.{Data, null, boolean, number, string, array, object, Items, no_items, item, Members, no_members, member}
use Rattle.serde_json.specs.Find.{get, as_number, as_str, as_u64}
use Rattle.route_json.specs.NumberedServers.{Addresses}
use Rattle.route_json.specs.ServerTexts.{server_in}
use Rattle.gate_gaps.specs.declared.pools.Member.{Member}

-- a pool's name, the servers of its list in order, and its slots
abbrev pub NamedPool : Type 0
NamedPool = List ℕ × List ℕ × List ℕ

-- pools in byte order of their names
abbrev pub NamedPools : Type 0
NamedPools = List NamedPool

-- a server of this weight
abbrev pub member_with_weight : ℕ → Option ℕ → Option Member
member_with_weight w None = None
member_with_weight w (Some n) = Some (record { server = n; weight = w })

-- the server of an address and a weight
abbrev pub member_at : Addresses → Option (List ℕ × ℕ) → Option Member
member_at servers None = None
member_at servers (Some s) = member_with_weight s.1 (position (bytes_eq s.0) servers)

-- the server that a text names
abbrev pub member_or : Addresses → Option (List ℕ) → Option Member
member_or servers None = None
member_or servers (Some text) = member_at servers (server_in text)

-- the server that a value names
abbrev pub member_of : Addresses → Data → Option Member
member_of servers d = member_or servers (as_str d)

abbrev pub members_of : Addresses → List Data → List Member
members_of servers ds = flat_map (λ d. option_to_list (member_of servers d)) ds

-- the servers that a list names
abbrev pub members_in : Addresses → Option Data → List Member
members_in servers None = []
members_in servers (Some null) = []
members_in servers (Some (boolean b)) = []
members_in servers (Some (number n)) = []
members_in servers (Some (string s)) = []
members_in servers (Some (array ds)) = members_of servers (values ds)
members_in servers (Some (object ms)) = []

abbrev pub member_servers : List Member → List ℕ
member_servers ms = map (λ (m : Member). m.server) ms

-- each server as often in a row as its weight says
abbrev pub member_slots : List Member → List ℕ
member_slots ms = flat_map (λ (m : Member). replicate m.weight m.server) ms

-- what stands at the place of the list that a value of a table names
abbrev pub member_placed : List Member → Data → Option Member
member_placed ms d = option_and_then (slice_get ms) (option_and_then as_u64 (as_number d))

abbrev pub table_of : List Member → List Data → List ℕ
table_of ms ds = flat_map (λ d. member_servers (option_to_list (member_placed ms d))) ds

-- the slots of a table, or those that weights make
abbrev pub member_slots_or : List Member → Option Data → List ℕ
member_slots_or ms None = member_slots ms
member_slots_or ms (Some null) = member_slots ms
member_slots_or ms (Some (boolean b)) = member_slots ms
member_slots_or ms (Some (number n)) = member_slots ms
member_slots_or ms (Some (string s)) = member_slots ms
member_slots_or ms (Some (array ds)) = table_of ms (values ds)
member_slots_or ms (Some (object os)) = member_slots ms

-- the pool of a name and an object
abbrev pub pool_by_name : Addresses → List ℕ × Data → NamedPool
pool_by_name servers m =
    let ms = members_in servers (get (codes "servers") m.1) in
    (m.0, member_servers ms, member_slots_or ms (get (codes "slots") m.1))

abbrev pub named_pools_of : Addresses → List (List ℕ × Data) → NamedPools
named_pools_of servers ms = map (pool_by_name servers) ms

-- the members of a value that is an object
abbrev pub object_in : Option Data → Option Members
object_in None = None
object_in (Some null) = None
object_in (Some (boolean b)) = None
object_in (Some (number n)) = None
object_in (Some (string s)) = None
object_in (Some (array ds)) = None
object_in (Some (object ms)) = Some ms

-- the pools of an object
abbrev pub pools_at : Addresses → Option Members → NamedPools
pools_at servers None = []
pools_at servers (Some ms) = named_pools_of servers (members ms)

-- the pools of a text of a configuration with these servers; none where it is no JSON
abbrev pub named_pools_in : Addresses → Option Data → NamedPools
named_pools_in servers None = []
named_pools_in servers (Some d) = pools_at servers (object_in (get (codes "pools") d))
