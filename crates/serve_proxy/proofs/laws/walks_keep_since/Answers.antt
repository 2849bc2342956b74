use Rattle.serve_links.proofs.Walked.{walks_keep_since}
use Rattle.serve_proxy.proofs.laws.walks_keep_since.Goals as goal

pub returns : goal.returns
returns c = walks_keep_since
