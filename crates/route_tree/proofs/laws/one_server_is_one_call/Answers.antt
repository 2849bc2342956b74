use Rattle.route_tree.proofs.Words as lemmas
use Rattle.route_tree.proofs.laws.one_server_is_one_call.Goals as goal

pub returns : goal.returns
returns c = lemmas.one_server_is_one_call
