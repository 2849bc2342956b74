use Rattle.serve_proxy.proofs.Staying.{stay_then}
use Rattle.mcgate_serve.proofs.operating.Operating.follow_emptied.Goals as goal

pub returns-clause-ends : goal.returns-clause-ends
returns-clause-ends g c = stay_then c.empty_first.ensures.ends c.move_to.ensures.ends
