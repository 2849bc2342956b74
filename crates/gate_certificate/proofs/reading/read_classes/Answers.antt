use Rattle.std.proofs.Common.{map}
use Rattle.serde_json.specs.View.{view, items_view}
use Rattle.gate_certificate.specs.Format.{each_in, class_in, class_row}
use Rattle.gate_certificate.proofs.Lists.{each_none, mapped_pushed, passed, read_more}
use Rattle.gate_certificate.proofs.reading.read_classes.Goals as goal

pub returns-in_err-read_class : goal.returns-in_err-read_class
returns-in_err-read_class c =
    passed (λ v. map class_row v.items) c.from_residual.result c.in_err-read_class.field-0.0 (class_in (view c.index-items-index.result)) (each_in class_in (items_view c.args.items.now)) c.from_residual.ensures.1 c.in_err-read_class.ensures
    (each_none class_in c.args.items.now c.loop-index.index c.index-items-index.result c.loop-index-test.true c.index-items-index.is)

pub loop-index-preserved : goal.loop-index-preserved
loop-index-preserved c =
    read_more class_in c.args.items.now c.loop-index.index c.index-items-index.result (map class_row c.loop-index.classes.items) (map class_row c.push.new.self.items) (class_row c.in_ok-read_class.field-0) c.loop-index.invariant c.loop-index-test.true c.index-items-index.is c.in_ok-read_class.ensures
    (mapped_pushed class_row c.loop-index.classes.items c.push.new.self.items c.in_ok-read_class.field-0 c.in_ok-push.ensures.items)
