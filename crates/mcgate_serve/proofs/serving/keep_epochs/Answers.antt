use Rattle.serve_proxy.proofs.Staying.{stay_then, stay_still}
use Rattle.mcgate_serve.proofs.serving.keep_epochs.Goals as goal

pub returns-then-have_begun : goal.returns-then-have_begun
returns-then-have_begun g c = stay_still _ _ _

pub returns : goal.returns
returns g c = stay_then c.mark_emptying.ensures.ends c.keep_epochs.ensures.ends
