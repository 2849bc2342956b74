use Rattle.serve_proxy.proofs.Staying.{stay_links}
use Rattle.serve_proxy.proofs.sockets.Sockets.next_news.Goals as goal

pub returns : goal.returns
returns g c = record { ends = stay_links _ _ _ _ c.next_news.ensures.lines }
