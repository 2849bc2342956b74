use Rattle.route_tree.proofs.Servers as lemmas
use Rattle.route_tree.proofs.laws.calls_stay.Goals as goal

pub returns : goal.returns
returns c = lemmas.calls_stay
