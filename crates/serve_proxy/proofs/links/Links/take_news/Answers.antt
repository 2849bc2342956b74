use Rattle.serve_proxy.proofs.Staying.{line_lent, kept_line}
use Rattle.serve_proxy.proofs.links.Links.take_news.Goals as goal

pub returns : goal.returns
returns c = record { lines = line_lent c.args.self.now.all.items c.args.at c.in_ok-get_mut.field-0.now c.take_news.new.self c.in_ok-get_mut.ensures.value (kept_line _ _ c.take_news.ensures) }
