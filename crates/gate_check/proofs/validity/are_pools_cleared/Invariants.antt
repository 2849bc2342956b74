use Rattle.std.proofs.Common.{◌≡◌, drop}
use Rattle.route_tree.specs.At.{plain_for}
use Rattle.gate_coverage.specs.Pools.{servers_at}
use Rattle.gate_check.specs.Rows.{all_cleared}
use Rattle.gate_check.proofs.validity.are_pools_cleared.Given as goal

abbrev pub invariant-loop-pool : goal.invariant-loop-pool
invariant-loop-pool l = all_cleared (plain_for l.hash l.text l.tree) (servers_at l.hash l.pools) ≡ all_cleared (plain_for l.hash l.text l.tree) (servers_at l.hash (drop l.pool-index l.pools))
