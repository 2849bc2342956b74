use Rattle.route_tree.proofs.Going as lemmas
use Rattle.route_tree.proofs.laws.each_ask_has_a_word.Goals as goal

pub returns : goal.returns
returns c = lemmas.each_ask_has_a_word
