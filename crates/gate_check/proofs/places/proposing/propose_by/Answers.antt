use Rattle.std.proofs.Common.{◌<◌, length, arith}
use Rattle.gate_check.proofs.RunLists.{class_more}
use Rattle.gate_check.proofs.places.proposing.propose_by.Goals as goal

pub loop-index-preserved : goal.loop-index-preserved
loop-index-preserved c =
    let cs = c.args.table.now.classes.items in
    let below : c.loop-index.index < length cs = (let a = c.len-index-end.ensures in let b = c.args.table.now.classes.ok.0 in let t = c.loop-index-test.true in omega (arith, a, b, t)) in
    class_more c.args.tree.now c.args.table.now.modulus cs c.loop-index.classes.items c.push.new.self.items c.loop-index.index c.index.result.now c.in_ok-class_rows.field-0 c.loop-index.invariant below c.index.ensures c.in_ok-class_rows.ensures c.in_ok-push.ensures.items
