use Rattle.std.proofs.Common.{◌≡◌, drop}
use Rattle.route_json.specs.Pools.{first_over}
use Rattle.route_json.proofs.pools.first_over.Given as goal

abbrev pub invariant-loop-server : goal.invariant-loop-server
invariant-loop-server l = first_over l.names l.servers ≡ first_over l.names (drop l.server-index l.servers)
