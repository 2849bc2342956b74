use Rattle.route_tree.proofs.Longest as longest
use Rattle.route_tree.proofs.laws.longest_is_taken.Goals as goal

pub returns : goal.returns
returns c = longest.longest_is_taken
