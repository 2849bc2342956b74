use Rattle.serve_proxy.proofs.Staying.{line_lent}
use Rattle.serve_proxy.proofs.links.Links.give_back_at.Goals as goal

pub returns-in-Some : goal.returns-in-Some
returns-in-Some c = record { lines = line_lent c.args.self.now.all.items c.args.at c.in-Some.link.now c.give_back_line.new.link c.in-Some.ensures.value c.give_back_line.ensures.line }
