use Rattle.serve_links.proofs.Counts.{steps_are_counted}
use Rattle.serve_links.proofs.laws.steps_are_counted.Goals as goal

pub returns : goal.returns
returns c = steps_are_counted
