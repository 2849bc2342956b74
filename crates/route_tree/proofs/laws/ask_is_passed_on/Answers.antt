use Rattle.route_tree.proofs.Words as lemmas
use Rattle.route_tree.proofs.laws.ask_is_passed_on.Goals as goal

pub returns : goal.returns
returns c = lemmas.ask_is_passed_on
