use Rattle.std.proofs.Common.{◌∙◌}
use Rattle.serve_proxy.proofs.Staying.{line_lent}
use Rattle.serve_proxy.proofs.links.Links.look_again.Goals as goal

pub returns-then-not-look_at : goal.returns-then-not-look_at
returns-then-not-look_at g c = record { lines = line_lent c.args.self.now.all.items c.args.at c.in-Some.link.now c.look_at.new.link c.in-Some.ensures.value c.look_at.ensures.line }

pub returns : goal.returns
returns g c = record { lines = c.mark_ready.ensures.lines ∙ c.mark_output.ensures.lines ∙ c.has_stood.ensures.lines ∙ line_lent c.args.self.now.all.items c.args.at c.in-Some.link.now c.look_at.new.link c.in-Some.ensures.value c.look_at.ensures.line }
