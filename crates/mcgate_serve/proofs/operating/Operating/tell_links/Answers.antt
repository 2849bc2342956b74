use Rattle.serve_proxy.proofs.Staying.{stay_then, stay_still}
use Rattle.mcgate_serve.proofs.operating.Operating.tell_links.Goals as goal

pub loop-init : goal.loop-init
loop-init g c = stay_still _ _ _

pub loop-preserved : goal.loop-preserved
loop-preserved g c = stay_then c.loop.invariant c.next_news.ensures.ends

pub returns-in_default : goal.returns-in_default
returns-in_default g c = stay_then c.loop.invariant c.next_news.ensures.ends
