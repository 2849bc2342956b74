use Rattle.std.proofs.Common.{map, take, ◌+◌}
use Rattle.gate_certificate.specs.Format.{class_in, class_row}
use Rattle.gate_certificate.proofs.Lists.{mapped_taken, written_more}
use Rattle.gate_certificate.proofs.writing.classes_value.Goals as goal

pub loop-rows-preserved : goal.loop-rows-preserved
loop-rows-preserved c =
    let i = c.loop-rows.rows-index in
    let all = c.args.classes.now in
    written_more class_in 4 c.loop-rows.values.items c.push.new.self.items c.in_ok-class_value.field-0 (map class_row (take i all)) (map class_row (take (i + 1) all)) (class_row c.rows-item.result) c.loop-rows.invariant c.in_ok-class_value.ensures.reads c.in_ok-class_value.ensures.depth c.in_ok-push.ensures.items (mapped_taken class_row all i c.rows-item.result c.loop-rows-test.true c.rows-item.is)
