use Rattle.route_json.proofs.DirectServers as lemmas
use Rattle.route_json.proofs.laws.direct_servers_are_below.Goals as goal

pub returns : goal.returns
returns c = lemmas.direct_servers_are_below
