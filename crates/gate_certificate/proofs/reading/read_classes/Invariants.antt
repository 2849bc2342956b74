use Rattle.std.proofs.Common.{◌≡◌, Some, map, take}
use Rattle.serde_json.specs.View.{items_view}
use Rattle.gate_certificate.specs.Format.{each_in, class_in, class_row}
use Rattle.gate_certificate.proofs.reading.read_classes.Given as goal

abbrev pub invariant-loop-index : goal.invariant-loop-index
invariant-loop-index l = each_in class_in (items_view (take l.index l.items)) ≡ Some (map class_row l.classes.items)
