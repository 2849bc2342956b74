use Rattle.std.proofs.Common.{refl}
use Rattle.serve_wire.proofs.Steps.{untouched}
use Rattle.serve_links.proofs.LinkGoes.{line_then, line_keeps}
use Rattle.serve_proxy.proofs.Going.{still}
use Rattle.serve_proxy.proofs.GivenUp.{line_goes_to, unless_clients}
use Rattle.serve_proxy.proofs.answers.take_said_at.Goals as goal

pub returns-in_default : goal.returns-in_default
returns-in_default g c = record { ends = still }

pub returns : goal.returns
returns g c = record {
  ends = unless_clients c.take_said.result c.args.at c.args.sockets.now.clients c.take_said.new.clients
      (line_goes_to c.take_said.result c.args.sockets.now.links.all.items c.args.at c.in-Some.link.now c.take_said.new.link c.in-Some.ensures.item.3.0 c.in-Some.ensures.value (line_then (line_keeps (λ d. untouched d (g.W.Wire.history c.args.sockets.now.wire)) refl) (c.take_said.ensures.goes c.args.at (g.W.Wire.history c.args.sockets.now.wire)))) c.take_said.ensures.ends;
}
