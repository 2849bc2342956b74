use Rattle.std.proofs.Common.{◌∙◌}
use Rattle.serve_proxy.proofs.Staying.{line_lent, stay_links}
use Rattle.serve_proxy.proofs.sockets.Sockets.note_came.Goals as goal

pub returns : goal.returns
returns g c = record { ends = stay_links _ _ _ _ (c.note_news.ensures.lines ∙ line_lent c.args.self.now.links.all.items c.args.at c.in-Some.link.now c.has_come-is_news.new.link c.in-Some.ensures.value c.has_come-is_news.ensures.line) }
