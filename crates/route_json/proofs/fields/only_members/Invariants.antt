use Rattle.std.proofs.Common.{◌≡◌}
use Rattle.serde_json.specs.View.{members_view}
use Rattle.route_json.specs.Fields.{only_members}
use Rattle.route_json.specs.Reading.{members}
use Rattle.route_json.proofs.fields.only_members.Given as goal

abbrev pub invariant-loop-name : goal.invariant-loop-name
invariant-loop-name l = only_members l.holder (members (members_view l.name-iterator)) ≡ only_members l.holder (members (members_view l.map.entries))
