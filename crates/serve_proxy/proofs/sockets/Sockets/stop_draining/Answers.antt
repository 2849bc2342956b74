use Rattle.serve_proxy.proofs.Going.{still, line_goes}
use Rattle.serve_proxy.proofs.sockets.Sockets.stop_draining.Goals as goal

pub returns-in-Some : goal.returns-in-Some
returns-in-Some g c = record { ends = line_goes c.args.self.now.links.all.items c.args.at c.in-Some.link.now c.stop_line.new.link c.in-Some.ensures.item.3.0 c.in-Some.ensures.value (c.stop_line.ensures.stands c.args.at) }

pub returns-in-None : goal.returns-in-None
returns-in-None g c = record { ends = λ core. still }
