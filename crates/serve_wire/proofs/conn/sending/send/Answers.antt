use Rattle.std.proofs.Common.{◌∙◌}
use Rattle.wire_parts.specs.Sending.{bytes_of}
use Rattle.serve_wire.proofs.Flows.{sends_then, stands_then}
use Rattle.serve_wire.proofs.conn.sending.send.Goals as goal

pub returns-in-Failed-clause-sends : goal.returns-in-Failed-clause-sends
returns-in-Failed-clause-sends g c = sends_then c.args.conn.now.number c.loop.conn.number _ _ _ _ _ _ c.send_parts.result c.loop.invariant.3 c.loop.invariant.0 c.send_parts.ensures.sent

pub loop-preserved : goal.loop-preserved
loop-preserved g c =
    let unsent' = bytes_of c.loop.conn.unsent in
    let unsent'' = bytes_of c.send_parts.new.self.unsent in
    let h = g.W.Wire.history c.args.wire.now in
    let h' = g.W.Wire.history c.loop.wire in
    let h'' = g.W.Wire.history c.send_parts.new.wire in (
      sends_then c.args.conn.now.number c.loop.conn.number (bytes_of c.args.conn.now.unsent) unsent' unsent'' h h' h'' c.send_parts.result c.loop.invariant.3 c.loop.invariant.0 c.send_parts.ensures.sent,
      stands_then c.args.conn.now.number c.loop.conn.number unsent' unsent'' h h' h'' c.send_parts.result c.loop.invariant.3 c.in-Bytes.is c.loop.invariant.1 c.send_parts.ensures.sent,
      c.send_parts.ensures.held ∙ c.loop.invariant.2,
      c.send_parts.ensures.rest.0 ∙ c.loop.invariant.3,
      c.send_parts.ensures.rest.1 ∙ c.loop.invariant.4,
      c.send_parts.ensures.flags.0 ∙ c.loop.invariant.5,
      c.send_parts.ensures.flags.1 ∙ c.loop.invariant.6,
    )
