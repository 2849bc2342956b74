use Rattle.route_tree.proofs.Going as lemmas
use Rattle.route_tree.proofs.laws.each_outcome_goes_on.Goals as goal

pub returns : goal.returns
returns c = lemmas.each_outcome_goes_on
