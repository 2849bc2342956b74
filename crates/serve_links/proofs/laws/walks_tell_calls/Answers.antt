use Rattle.serve_links.proofs.Called.{walks_tell_calls}
use Rattle.serve_links.proofs.laws.walks_tell_calls.Goals as goal

pub returns : goal.returns
returns c = walks_tell_calls
