use Rattle.serve_proxy.proofs.LogWalks.{walks_are_fresh}
use Rattle.serve_proxy.proofs.laws.walks_are_fresh.Goals as goal

pub returns : goal.returns
returns c = walks_are_fresh
