use Rattle.std.proofs.Common.{◌≡◌, take, true}
use Rattle.gate_coverage.specs.Pools.{servers_at}
use Rattle.gate_check.specs.Valid.{IsRising}
use Rattle.gate_check.proofs.places.rows.put_servers.Given as goal

abbrev pub invariant-loop-pool : goal.invariant-loop-pool
invariant-loop-pool l = record {
  servers : l.row.items ≡ servers_at l.residue (take l.pool-index l.pools);
  rising : l.rises ≡ true → IsRising l.row.items;
}
