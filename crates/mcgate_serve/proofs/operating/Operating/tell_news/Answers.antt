use Rattle.serve_proxy.proofs.Staying.{stay_then}
use Rattle.mcgate_serve.proofs.operating.Operating.tell_news.Goals as goal

pub returns : goal.returns
returns g c = stay_then c.tell_links.ensures c.tell_stalled.ensures
