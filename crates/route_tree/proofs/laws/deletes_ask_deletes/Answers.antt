use Rattle.route_tree.proofs.Words as lemmas
use Rattle.route_tree.proofs.laws.deletes_ask_deletes.Goals as goal

pub returns : goal.returns
returns c = lemmas.deletes_ask_deletes
