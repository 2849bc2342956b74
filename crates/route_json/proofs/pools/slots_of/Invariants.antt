use Rattle.std.proofs.Common.{◌≡◌, ◌++◌, drop}
use Rattle.route_json.specs.Pools.{slots_of}
use Rattle.route_json.proofs.pools.slots_of.Given as goal

abbrev pub invariant-loop-server : goal.invariant-loop-server
invariant-loop-server l = l.slots.items ++ slots_of (drop l.server-index l.servers) ≡ slots_of l.servers
