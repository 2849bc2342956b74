use Rattle.serve_links.proofs.LateWalks.{walks_are_fresh_late}
use Rattle.serve_links.proofs.laws.walks_are_fresh_late.Goals as goal

pub returns : goal.returns
returns c = walks_are_fresh_late
