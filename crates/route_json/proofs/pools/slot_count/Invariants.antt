use Rattle.std.proofs.Common.{◌≡◌, ◌+◌, length, drop}
use Rattle.route_json.specs.Pools.{slots_of}
use Rattle.route_json.proofs.pools.slot_count.Given as goal

abbrev pub invariant-loop-server : goal.invariant-loop-server
invariant-loop-server l = l.count + length (slots_of (drop l.server-index l.servers)) ≡ length (slots_of l.servers)
