use Rattle.route_tree.proofs.Words as lemmas
use Rattle.route_tree.proofs.laws.calls_are_within.Goals as goal

pub returns : goal.returns
returns c = lemmas.calls_are_within
