use Rattle.serve_proxy.proofs.Going.{and_then, failing}
use Rattle.serve_proxy.proofs.GivenUp.{unless_some, unless_none}
use Rattle.serve_proxy.proofs.answers.serve_used.Goals as goal

pub returns-in-Some : goal.returns-in-Some
returns-in-Some g c = record { ends = and_then (unless_some g.W.Wire.history c.args.at c.args.core.now c.args.sockets.now c.read_link.new.core c.read_link.new.sockets _ _ c.in-Some.is c.read_link.ensures.ends) (failing c.fail_link.ensures.ends) }

pub returns-in-None : goal.returns-in-None
returns-in-None g c = record { ends = and_then (unless_none g.W.Wire.history c.args.at c.args.core.now c.args.sockets.now c.read_link.new.core c.read_link.new.sockets _ c.in-None.is c.read_link.ensures.ends) (failing c.go_on_with.ensures.ends) }
