-- Routes, read while they are counted. Source: mcgate's own, under mcrouter's names of routes.
use Rattle.route_tree.specs.declared.limits.TheConstants.{ROUTE_LIMIT}
use Rattle.std.specs.Prelude.{ℕ, zero, suc, ◌+◌, ◌*◌, List, codes, nat_le, Option, Some, None, Result, Ok, Err, if◌then◌else◌}
use Rattle.std.specs.Str.{bytes_eq}
use Rattle.mc_types.specs.Fault.{read_key}
use Rattle.mc_types.specs.declared.ask.Op.{Op}
use Rattle.mc_types.specs.declared.key.KeyFault.{KeyFault}
use Rattle.serde_json.specs.Data.{Data, string, array, object, no_items, item}
use Rattle.serde_json.specs.Find.{get}
use Rattle.route_tree.specs.Route as forms
use Rattle.route_tree.specs.Route.{Route, Routes, Server, Failing}
use Rattle.route_tree.specs.Form.{routes_of, policies_of, prefixes_of}
use Rattle.route_json.specs.declared.names.kinds.Lists.{Lists}
use Rattle.route_json.specs.declared.names.kinds.Lists.TheVariants as lists
use Rattle.route_json.specs.declared.names.kinds.Kind.{Kind}
use Rattle.route_json.specs.declared.names.kinds.Kind.TheVariants as kinds
use Rattle.route_json.specs.declared.names.holders.Holder.TheVariants as holders
use Rattle.route_json.specs.Names.{kind_of, op_of, rest_after}
use Rattle.route_json.specs.Fault.{Fault, BadField, TooDeep, TooManyNodes, UnknownType, NoPool, EmptyChildren, BadPrefix}
use Rattle.route_json.specs.Fields.{only, value_or, text_or, object_or, exptime_or, op_or}
use Rattle.route_json.specs.Pools.{Pools, Slotted, pool_named}
use Rattle.route_json.specs.Reading.{Reading, ◌>>=◌, give, fail, pure, each, values, members, named}

-- one route of this weight more, of at most ROUTE_LIMIT
abbrev pub counts_route : ℕ → Reading ℕ (Unit {0})
counts_route weight count = if nat_le (count + weight) ROUTE_LIMIT then Ok (tt, count + weight) else Err TooManyNodes

-- a route below this many levels that no value stands for
abbrev pub leaf : ℕ → ℕ → Route → Reading ℕ Route
leaf zero weight route = fail TooDeep
leaf (suc levels) weight route = do
  _ ← counts_route weight
  give route

-- the prefix that a policy's name is
abbrev pub prefix_or : List ℕ → Result (List ℕ) KeyFault → Result (List ℕ) Fault
prefix_or text (Ok key) = Ok key
prefix_or text (Err e) = Err (BadPrefix text)

-- the prefix of a policy
abbrev pub prefix_of : List ℕ → Result (List ℕ) Fault
prefix_of text = prefix_or text (read_key text)

-- the operation of a policy
abbrev pub policy_op : List ℕ → Result Op Fault
policy_op name = op_or name (op_of name)

-- the kind of a type
abbrev pub kind_or : List ℕ → Option Kind → Result Kind Fault
kind_or name (Some kind) = Ok kind
kind_or name None = Err (UnknownType name)

-- a route of these children
abbrev pub listed : Lists → Routes → Route
listed lists.AllSync rs = forms.AllSync rs
listed lists.Failover rs = forms.Failover rs
listed lists.MissFailover rs = forms.MissFailover rs

-- a pool that has to be there
abbrev pub known_pool : List ℕ → Option Slotted → Result Slotted Fault
known_pool name (Some pool) = Ok pool
known_pool name None = Err (NoPool name)

module _ (pools : Pools) where
  -- the route over a pool's slots
  abbrev pub pool_route : List ℕ → Reading ℕ Route
  pool_route name = do
    pool ← pure (known_pool name (pool_named name pools))
    give (forms.Pool pool.slots)

  -- one child for each server of a pool
  abbrev pub server_routes : ℕ → ℕ → List ℕ → Reading ℕ (List Route)
  server_routes levels weight name = do
    pool ← pure (known_pool name (pool_named name pools))
    each (λ s. leaf levels weight (Server s.server)) pool.servers

  -- ---- short texts

  -- a route over a pool's servers
  abbrev pub short_list : Lists → ℕ → ℕ → List ℕ → Reading ℕ Route
  short_list l levels weight name = do
    rs ← server_routes levels weight name
    give (listed l (routes_of rs))

  -- a text that is `MissFailoverRoute|Pool|` and a name, or no route
  abbrev pub short_miss : ℕ → ℕ → List ℕ → Option (List ℕ) → Reading ℕ Route
  short_miss levels weight text (Some name) = short_list lists.MissFailover levels weight name
  short_miss levels weight text None = fail (UnknownType text)

  -- a text that is `FailoverRoute|Pool|` and a name, or another
  abbrev pub short_failover : ℕ → ℕ → List ℕ → Option (List ℕ) → Reading ℕ Route
  short_failover levels weight text (Some name) = short_list lists.Failover levels weight name
  short_failover levels weight text None = short_miss levels weight text (rest_after (codes "MissFailoverRoute|Pool|") text)

  -- a text that is `AllSyncRoute|Pool|` and a name, or another
  abbrev pub short_all : ℕ → ℕ → List ℕ → Option (List ℕ) → Reading ℕ Route
  short_all levels weight text (Some name) = short_list lists.AllSync levels weight name
  short_all levels weight text None = short_failover levels weight text (rest_after (codes "FailoverRoute|Pool|") text)

  -- a text that is `PoolRoute|` and a name, or another
  abbrev pub short_pool : ℕ → ℕ → List ℕ → Option (List ℕ) → Reading ℕ Route
  short_pool levels weight text (Some name) = pool_route name
  short_pool levels weight text None = short_all levels weight text (rest_after (codes "AllSyncRoute|Pool|") text)

  -- the route of a text
  abbrev pub short : ℕ → ℕ → List ℕ → Reading ℕ Route
  short levels weight text =
      if bytes_eq text (codes "NullRoute") then give forms.Null
      else if bytes_eq text (codes "ErrorRoute") then give Failing
      else short_pool levels weight text (rest_after (codes "PoolRoute|") text)

  -- the children that a text stands for, by what stands after `Pool|`
  abbrev pub text_children : ℕ → ℕ → Option (List ℕ) → Reading ℕ (List Route)
  text_children levels weight (Some name) = server_routes levels weight name
  text_children levels weight None = fail (BadField (codes "children"))

  -- ---- objects

  -- how a child is read: by its weight, the name of the field that holds it, and its value
  module _ (levels weight : ℕ) (child : ℕ → List ℕ → Data → Reading ℕ Route) where
    -- children: a list that isn't empty, or `Pool|` and a pool's name
    abbrev pub children_of : Option Data → Reading ℕ (List Route)
    children_of (Some (array no_items)) = fail EmptyChildren
    children_of (Some (array (item d ds))) = each (child weight (codes "children")) (values (item d ds))
    children_of (Some (string text)) = text_children levels weight (rest_after (codes "Pool|") text)
    children_of _ = fail (BadField (codes "children"))

    -- the route of what stands there, or an error route of its own
    abbrev pub default_of : List ℕ → Option Data → Reading ℕ Route
    default_of name None = leaf levels weight Failing
    default_of name (Some d) = child weight name d

    -- a cold route, each of whose routes counts three times, and a warm one
    abbrev pub warm_up : Data → Reading ℕ Route
    warm_up d = do
      c ← pure (value_or (codes "cold") (get (codes "cold") d))
      cold ← child (3 * weight) (codes "cold") c
      w ← pure (value_or (codes "warm") (get (codes "warm") d))
      warm ← child weight (codes "warm") w
      exptime ← pure (exptime_or (get (codes "exptime") d))
      give (forms.WarmUp cold warm exptime)

    -- policies in byte order of their names, each name before its route, and then the default
    abbrev pub by_operation : Data → Reading ℕ Route
    by_operation d = do
      ms ← pure (object_or (codes "operation_policies") (get (codes "operation_policies") d))
      ps ← each (named policy_op (child weight)) (members ms)
      default ← default_of (codes "default_policy") (get (codes "default_policy") d)
      give (forms.ByOperation (policies_of ps default))

    -- policies in byte order of their prefixes, each prefix before its route, and then the wildcard
    abbrev pub by_prefix : Data → Reading ℕ Route
    by_prefix d = do
      ms ← pure (object_or (codes "policies") (get (codes "policies") d))
      ps ← each (named prefix_of (child weight)) (members ms)
      wildcard ← default_of (codes "wildcard") (get (codes "wildcard") d)
      give (forms.ByPrefix (prefixes_of ps wildcard))

    -- what stands in the fields of an object of this kind
    abbrev pub fields : Kind → Data → Reading ℕ Route
    fields kinds.Pool d = do
      name ← pure (text_or (codes "pool") (get (codes "pool") d))
      pool_route name
    fields (kinds.List l) d = do
      rs ← children_of (get (codes "children") d)
      give (listed l (routes_of rs))
    fields kinds.WarmUp d = warm_up d
    fields kinds.ByOperation d = by_operation d
    fields kinds.ByPrefix d = by_prefix d
    fields kinds.Null d = give forms.Null
    fields kinds.Error d = give Failing

    -- an object, by its type
    abbrev pub typed : Data → Reading ℕ Route
    typed d = do
      name ← pure (text_or (codes "type") (get (codes "type") d))
      kind ← pure (kind_or name (kind_of name))
      _ ← pure (only (holders.Route kind) d)
      fields kind d

    -- a value where a route stands
    abbrev pub node : List ℕ → Data → Reading ℕ Route
    node field (string text) = short levels weight text
    node field (object ms) = typed (object ms)
    node field _ = fail (BadField field)

  -- the route that a value means: with this many levels left, itself of this weight, in the field of this name
  unfoldable pub route : (levels weight : ℕ) (field : List ℕ) → Data → Reading ℕ Route
  route zero weight field d = fail TooDeep
  route (suc levels) weight field d = do
    _ ← counts_route weight
    node levels weight (route levels) field d
