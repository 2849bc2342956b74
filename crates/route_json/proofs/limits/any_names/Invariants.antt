use Rattle.std.proofs.Common.{◌≡◌, drop}
use Rattle.std.specs.List.{list_any}
use Rattle.serde_json.specs.View.{items_view}
use Rattle.route_json.specs.Limits.{names}
use Rattle.route_json.specs.Reading.{values}
use Rattle.route_json.proofs.limits.any_names.Given as goal

abbrev pub invariant-loop-item : goal.invariant-loop-item
invariant-loop-item l = list_any (names l.server) (values (items_view l.items)) ≡ list_any (names l.server) (values (items_view (drop l.item-index l.items)))
