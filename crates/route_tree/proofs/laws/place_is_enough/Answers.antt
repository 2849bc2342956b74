use Rattle.route_tree.proofs.Places as places
use Rattle.route_tree.proofs.laws.place_is_enough.Goals as goal

pub returns : goal.returns
returns c = places.place_is_enough
