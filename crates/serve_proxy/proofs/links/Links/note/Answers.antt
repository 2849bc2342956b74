use Rattle.std.proofs.Common.{◌∙◌}
use Rattle.serve_proxy.proofs.Staying.{line_lent}
use Rattle.serve_proxy.proofs.links.Links.note.Goals as goal

pub returns-in_default-note_told : goal.returns-in_default-note_told
returns-in_default-note_told c = record { lines = line_lent c.args.self.now.all.items c.args.at c.in-Some.link.now c.note_told.new.link c.in-Some.ensures.value c.note_told.ensures.line }

pub returns : goal.returns
returns c = record { lines = c.mark_told.ensures.lines ∙ c.note_news.ensures.lines ∙ line_lent c.args.self.now.all.items c.args.at c.in-Some.link.now c.note_told.new.link c.in-Some.ensures.value c.note_told.ensures.line }
