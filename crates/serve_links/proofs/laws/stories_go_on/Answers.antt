use Rattle.serve_links.specs.CoreSteps.{IsAnyCall, IsOfTurn, IsFailure, IsSending}
use Rattle.serve_links.proofs.Story.{stories_go_on}
use Rattle.serve_links.proofs.laws.stories_go_on.Goals as goal

pub returns : goal.returns
returns c = record { calls = stories_go_on IsAnyCall; turns = stories_go_on IsOfTurn; failures = stories_go_on IsFailure; sendings = stories_go_on IsSending }
