use Rattle.serve_proxy.proofs.GivenUp.{line_goes_unless}
use Rattle.serve_links.specs.Story.{HoldsMost}
use Rattle.serve_links.proofs.Failing.{at_set}
use Rattle.serve_proxy.proofs.sockets.Sockets.read_link_once.Goals as goal

pub returns-in-Some : goal.returns-in-Some
returns-in-Some g c = record { ends = line_goes_unless _ c.args.self.now.links.all.items c.args.at c.in-Some.link.now c.read_line-got.new.link c.in-Some.ensures.item.3.0 c.in-Some.ensures.value (c.read_line-got.ensures.stands c.args.at); full = λ is. at_set HoldsMost c.args.self.now.links.all.items c.args.at c.read_line-got.new.link (c.read_line-got.ensures.full is) }
