use Rattle.serve_proxy.proofs.LogWalks.{walks_go_on}
use Rattle.serve_proxy.proofs.laws.walks_go_on.Goals as goal

pub returns : goal.returns
returns c = walks_go_on
