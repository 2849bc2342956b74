use Rattle.std.proofs.Common.{List, ℕ, ap, sym, ◌∙◌}
use Rattle.gate_coverage.specs.Doubted.{with_doubted}
use Rattle.gate_coverage.proofs.SurePools.{doubted_more}
use Rattle.gate_coverage.proofs.doubts.doubted_pools.Goals as goal

pub loop-pool-preserved : goal.loop-pool-preserved
loop-pool-preserved c =
    let text = c.args.text.now in
    let tree = c.args.tree.now in
    c.in_ok-add_doubted.ensures ∙ ap (λ (l : List (List ℕ)). with_doubted text tree l c.pool-item.result) c.loop-pool.invariant
    ∙ sym (doubted_more text tree c.args.pools.now c.loop-pool.pool-index c.pool-item.result c.loop-pool-test.true c.pool-item.is)
