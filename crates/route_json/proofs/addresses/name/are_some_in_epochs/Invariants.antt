use Rattle.std.proofs.Common.{◌≡◌, drop}
use Rattle.route_json.specs.NumberedServers.{texts}
use Rattle.route_json.specs.ServerNames.{have_epochs}
use Rattle.route_json.proofs.addresses.name.are_some_in_epochs.Given as goal

abbrev pub invariant-loop-name : goal.invariant-loop-name
invariant-loop-name l = have_epochs (texts l.names) ≡ have_epochs (texts (drop l.name-index l.names))
