use Rattle.std.proofs.Common.{sym, ◌∙◌}
use Rattle.core_commands.proofs.Lines.{seen, first_is, in_way_is, not_in_way}
use Rattle.core_commands.proofs.key_lines.any_before.Goals as goal

pub returns-then-is_place : goal.returns-then-is_place
returns-then-is_place c =
    sym (c.loop-it.invariant ∙ seen c.args.client c.args.key.now c.args.claim c.args.standing.now c.loop-it.it-index c.it-item.result c.loop-it-test.true c.it-item.is ∙ first_is c.args.client c.args.key.now c.args.claim c.it-item.result _ (sym c.is_place.ensures ∙ c.if-is_place.true))

pub returns-then-is_in_way : goal.returns-then-is_in_way
returns-then-is_in_way c =
    sym (c.loop-it.invariant ∙ seen c.args.client c.args.key.now c.args.claim c.args.standing.now c.loop-it.it-index c.it-item.result c.loop-it-test.true c.it-item.is
    ∙ in_way_is c.args.client c.args.key.now c.args.claim c.it-item.result _ (sym c.is_place.ensures ∙ c.if-is_place.false) (sym c.is_in_way.ensures ∙ c.if-is_in_way.true))

pub loop-it-preserved : goal.loop-it-preserved
loop-it-preserved c =
    c.loop-it.invariant ∙ seen c.args.client c.args.key.now c.args.claim c.args.standing.now c.loop-it.it-index c.it-item.result c.loop-it-test.true c.it-item.is
    ∙ not_in_way c.args.client c.args.key.now c.args.claim c.it-item.result _ (sym c.is_place.ensures ∙ c.if-is_place.false) (sym c.is_in_way.ensures ∙ c.if-is_in_way.false)
