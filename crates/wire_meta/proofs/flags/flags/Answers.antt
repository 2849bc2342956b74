use Rattle.wire_meta.proofs.SeenLemmas.{at_first, at_next}
use Rattle.wire_meta.proofs.flags.flags.Goals as goal

pub loop-word-init : goal.loop-word-init
loop-word-init c = at_first c.args.kind c.args.line.now c.args.at c.none-values.result c.requires (c.none-values.ensures c.args.kind)

pub loop-word-preserved : goal.loop-word-preserved
loop-word-preserved c = at_next c.args.kind c.args.line.now c.args.at c.loop-word.from c.loop-word.seen c.next_flag.new.seen c.loop-word.values c.in_ok-values-in-Some.values c.in-Some.word c.loop-word.invariant c.in-Some.ensures c.in_ok-values-in-Some.ensures
