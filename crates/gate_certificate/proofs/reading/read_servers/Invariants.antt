use Rattle.std.proofs.Common.{◌≡◌, Some, take}
use Rattle.serde_json.specs.View.{items_view}
use Rattle.gate_certificate.specs.Format.{each_in, data_number}
use Rattle.gate_certificate.proofs.reading.read_servers.Given as goal

abbrev pub invariant-loop-item : goal.invariant-loop-item
invariant-loop-item l = each_in data_number (items_view (take l.item-index l.items)) ≡ Some (l.servers.items)
