use Rattle.std.proofs.Common.{◌≡◌, drop}
use Rattle.route_json.specs.NumberedServers.{texts}
use Rattle.mcgate_serve.specs.Emptied.{is_among}
use Rattle.mcgate_serve.proofs.emptying.has.Given as goal

abbrev pub invariant-loop-known : goal.invariant-loop-known
invariant-loop-known l = is_among l.name (texts l.names) ≡ is_among l.name (texts (drop l.known-index l.names))
