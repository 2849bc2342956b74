use Rattle.route_tree.proofs.Showing as lemmas
use Rattle.route_tree.proofs.laws.replies_show_what_was_found.Goals as goal

pub returns : goal.returns
returns c = lemmas.replies_show_what_was_found
