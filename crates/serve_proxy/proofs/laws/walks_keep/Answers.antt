use Rattle.serve_links.proofs.Walked.{walks_keep}
use Rattle.serve_proxy.proofs.laws.walks_keep.Goals as goal

pub returns : goal.returns
returns c = walks_keep
