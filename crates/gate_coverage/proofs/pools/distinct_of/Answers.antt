use Rattle.std.proofs.Common.{List, ℕ, ap, sym, ◌∙◌}
use Rattle.gate_coverage.specs.Pools.{with_pool}
use Rattle.gate_coverage.proofs.TakenPools.{distinct_more}
use Rattle.gate_coverage.proofs.pools.distinct_of.Goals as goal

pub loop-pool-preserved : goal.loop-pool-preserved
loop-pool-preserved c =
    c.in_ok-add_new.ensures ∙ ap (λ (l : List (List ℕ)). with_pool l c.pool-item.result) c.loop-pool.invariant
    ∙ sym (distinct_more c.args.sought.now c.loop-pool.pool-index c.pool-item.result c.loop-pool-test.true c.pool-item.is)
