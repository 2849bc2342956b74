use Rattle.route_tree.proofs.Sources.{calls_are_asked}
use Rattle.route_tree.proofs.laws.calls_are_asked.Goals as goal

pub returns : goal.returns
returns c = calls_are_asked
