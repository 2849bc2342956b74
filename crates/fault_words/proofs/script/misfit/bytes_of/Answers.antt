use Rattle.fault_words.proofs.Bytes.{one_more, more_within}
use Rattle.std.proofs.Common.{arith}
use Rattle.fault_words.proofs.script.misfit.bytes_of.Goals as goal

pub overflow_add-bytes : goal.overflow_add-bytes
overflow_add-bytes c =
    let few = more_within c.args.events.now c.loop-event.event-index c.loop-event.bytes c.piece_len-bytes.result c.event-item.result c.loop-event-test.true c.event-item.is c.loop-event.invariant c.piece_len-bytes.ensures in
    omega (arith, few, c.requires)

pub loop-event-preserved : goal.loop-event-preserved
loop-event-preserved c =
    one_more c.args.events.now c.loop-event.event-index c.loop-event.bytes c.piece_len-bytes.result c.event-item.result c.loop-event-test.true c.event-item.is c.loop-event.invariant c.piece_len-bytes.ensures
