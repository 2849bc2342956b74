use Rattle.std.proofs.Common.{drop}
use Rattle.route_json.specs.NumberedServers.{texts}
use Rattle.route_json.proofs.Known.{Copies}
use Rattle.route_json.proofs.addresses.servers.Servers.copy.Given as goal

abbrev pub invariant-loop-text : goal.invariant-loop-text
invariant-loop-text l = Copies (texts l.text-items) (texts l.set.keys) (texts (drop l.text-index l.text-items))
