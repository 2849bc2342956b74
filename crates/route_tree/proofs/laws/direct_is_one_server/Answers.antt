use Rattle.route_tree.proofs.OneServer as lemmas
use Rattle.route_tree.proofs.laws.direct_is_one_server.Goals as goal

pub returns : goal.returns
returns c = lemmas.direct_is_one_server
