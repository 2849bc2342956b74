-- The names of routes, of their fields and of operations. Source: mcgate's own, under mcrouter's names of routes.
use Rattle.std.specs.Prelude.{ℕ, List, [], ◌∷◌, codes, Option, Some, None, nat_eq, if◌then◌else◌}
use Rattle.std.specs.Str.{bytes_eq}
use Rattle.mc_types.specs.declared.ask.Op.{Op}
use Rattle.mc_types.specs.declared.ask.Op.TheVariants as ops
use Rattle.route_json.specs.declared.names.kinds.Lists.TheVariants as lists
use Rattle.route_json.specs.declared.names.kinds.Kind.{Kind}
use Rattle.route_json.specs.declared.names.kinds.Kind.TheVariants as kinds
use Rattle.route_json.specs.declared.names.holders.Holder.{Holder}
use Rattle.route_json.specs.declared.names.holders.Holder.TheVariants as holders

-- the fields of each kind of route, beside its type
abbrev pub own_fields : Kind → List (List ℕ)
own_fields kinds.Pool = codes "pool" ∷ []
own_fields (kinds.List l) = codes "children" ∷ []
own_fields kinds.WarmUp = codes "cold" ∷ codes "warm" ∷ codes "exptime" ∷ []
own_fields kinds.ByOperation = codes "operation_policies" ∷ codes "default_policy" ∷ []
own_fields kinds.ByPrefix = codes "policies" ∷ codes "wildcard" ∷ []
own_fields kinds.Null = []
own_fields kinds.Error = []

-- the fields of a pool's limits
abbrev pub limit_fields : List (List ℕ)
limit_fields = codes "call_ms" ∷ codes "connect_ms" ∷ codes "fail_limit" ∷ codes "retry_ms" ∷ []

-- the fields of each kind of object
abbrev pub fields_of : Holder → List (List ℕ)
fields_of holders.Config = codes "pools" ∷ codes "route" ∷ []
fields_of holders.Pool = codes "servers" ∷ codes "slots" ∷ limit_fields
fields_of (holders.Route kind) = codes "type" ∷ own_fields kind

-- the kinds of routes by the names of their types
abbrev pub kind_of : List ℕ → Option Kind
kind_of text =
    if bytes_eq text (codes "PoolRoute") then Some kinds.Pool
    else if bytes_eq text (codes "AllSyncRoute") then Some (kinds.List lists.AllSync)
    else if bytes_eq text (codes "FailoverRoute") then Some (kinds.List lists.Failover)
    else if bytes_eq text (codes "MissFailoverRoute") then Some (kinds.List lists.MissFailover)
    else if bytes_eq text (codes "WarmUpRoute") then Some kinds.WarmUp
    else if bytes_eq text (codes "OperationSelectorRoute") then Some kinds.ByOperation
    else if bytes_eq text (codes "PrefixSelectorRoute") then Some kinds.ByPrefix
    else if bytes_eq text (codes "NullRoute") then Some kinds.Null
    else if bytes_eq text (codes "ErrorRoute") then Some kinds.Error
    else None

-- the operations by their names
abbrev pub op_of : List ℕ → Option Op
op_of text =
    if bytes_eq text (codes "get") then Some ops.Get
    else if bytes_eq text (codes "gat") then Some ops.Gat
    else if bytes_eq text (codes "set") then Some ops.Set
    else if bytes_eq text (codes "add") then Some ops.Add
    else if bytes_eq text (codes "replace") then Some ops.Replace
    else if bytes_eq text (codes "append") then Some ops.Append
    else if bytes_eq text (codes "prepend") then Some ops.Prepend
    else if bytes_eq text (codes "cas") then Some ops.Cas
    else if bytes_eq text (codes "delete") then Some ops.Delete
    else if bytes_eq text (codes "incr") then Some ops.Incr
    else if bytes_eq text (codes "decr") then Some ops.Decr
    else if bytes_eq text (codes "touch") then Some ops.Touch
    else None

-- what stands after this front
abbrev pub rest_after : List ℕ → List ℕ → Option (List ℕ)
rest_after [] text = Some text
rest_after (x ∷ xs) [] = None
rest_after (x ∷ xs) (y ∷ ys) = if nat_eq x y then rest_after xs ys else None
