use Rattle.serve_links.proofs.ByServer.{steps_are_counted_by_server}
use Rattle.serve_links.proofs.laws.steps_are_counted_by_server.Goals as goal

pub returns : goal.returns
returns c = steps_are_counted_by_server
