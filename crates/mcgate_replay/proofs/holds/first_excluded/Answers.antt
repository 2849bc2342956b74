use Rattle.std.proofs.Common.{refl, sym, ◌∙◌}
use Rattle.mcgate_replay.proofs.Opens.{one_more_fits}
use Rattle.mcgate_replay.proofs.holds.first_excluded.Goals as goal

pub loop-index-init : goal.loop-index-init
loop-index-init c = refl

pub loop-index-preserved : goal.loop-index-preserved
loop-index-preserved c =
    c.loop-index.invariant
    ∙ one_more_fits c.args.begun c.args.config.now c.args.events.now c.loop-index.index c.index-events-index.result c.loop-index-test.true c.index-events-index.is (sym c.is_excluded.ensures ∙ c.if-is_excluded.false)
