use Rattle.std.proofs.Common.{◌≡◌, drop}
use Rattle.route_json.specs.NumberedServers.{texts}
use Rattle.route_json.specs.ServerNames.{is_named}
use Rattle.route_json.proofs.addresses.name.is_named.Given as goal

abbrev pub invariant-loop-name : goal.invariant-loop-name
invariant-loop-name l = is_named l.address (texts l.names) ≡ is_named l.address (texts (drop l.name-index l.names))
