-- What a configuration means: the tree and the servers that a JSON value stands for, or its first fault.
-- Source: mcgate's own, under mcrouter's names of routes.
use Rattle.route_tree.specs.declared.limits.TheConstants.{DEPTH_LIMIT}
use Rattle.std.specs.Prelude.{[], codes, Option, Some, None, Result, Err}
use Rattle.serde_json.specs.Data.{Data, object}
use Rattle.serde_json.specs.Find.{get}
use Rattle.route_tree.specs.Route.{Route}
use Rattle.route_json.specs.declared.names.holders.Holder.TheVariants as holders
use Rattle.route_json.specs.Fault.{Fault, NotJson}
use Rattle.route_json.specs.Fields.{only, value_or, object_or}
use Rattle.route_json.specs.Pools.{Pools, in_epochs, pools_in}
use Rattle.route_json.specs.Reading.{Reading, ◌>>=◌, fail, pure, result_of}
use Rattle.route_json.specs.Routes.{route}
use Rattle.route_json.specs.Servers.{Addresses}

-- the route of the whole tree: its levels, counted from 0, of weight 1
abbrev pub tree_of : Pools → Data → Result Route Fault
tree_of pools d = result_of (route pools DEPTH_LIMIT 1 (codes "route") d 0)

-- the tree of an object, and the servers after these
abbrev pub object_after : Data → Reading Addresses Route
object_after d = do
  _ ← pure (only holders.Config d)
  _ ← pure (value_or (codes "pools") (get (codes "pools") d))
  root ← pure (value_or (codes "route") (get (codes "route") d))
  ms ← pure (object_or (codes "pools") (get (codes "pools") d))
  pools ← pools_in ms
  _ ← in_epochs pools
  pure (tree_of pools root)

-- the tree of a value, and the servers after these
abbrev pub config_after : Data → Reading Addresses Route
config_after (object ms) = object_after (object ms)
config_after _ = fail NotJson

-- the tree and the servers that a text means, which may be no JSON, the servers numbered after these; or its first fault
abbrev pub read_after : Addresses → Option Data → Result (Route × Addresses) Fault
read_after servers None = Err NotJson
read_after servers (Some d) = config_after d servers

-- the tree and the servers that a text means, which may be no JSON, the servers numbered from 0; or its first fault
abbrev pub read_or : Option Data → Result (Route × Addresses) Fault
read_or d = read_after [] d
