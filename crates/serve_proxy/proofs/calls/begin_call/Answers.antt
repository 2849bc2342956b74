use Rattle.serve_proxy.proofs.Going.{and_then, stays, sent_due}
use Rattle.serve_proxy.proofs.Staying.{stay_links}
use Rattle.serve_proxy.proofs.Refusing.{refused_given}
use Rattle.serve_wire.specs.Events.{time}
use Rattle.serve_proxy.proofs.calls.begin_call.Goals as goal

pub returns-in-Ok-Sent : goal.returns-in-Ok-Sent
returns-in-Ok-Sent g c = record { ends = c.in-Ok-Sent.ensures.ok (g.W.Wire.history c.args.sockets.now.wire) c.args.sockets.now.clients c.args.core.now }

pub returns-in-Ok-Waits : goal.returns-in-Ok-Waits
returns-in-Ok-Waits g c = record { ends = and_then (and_then (c.in-Ok-Waits.ensures.ok (g.W.Wire.history c.args.sockets.now.wire) c.args.sockets.now.clients c.args.core.now) (stays c.args.core.now c.note_waits.ensures.ends)) (stays c.args.core.now (stay_links _ _ _ _ c.mark_output.ensures.lines)) }

pub returns-in-Err : goal.returns-in-Err
returns-in-Err g c = record { ends = refused_given c.args.at c.args.call c.in-Err.it c.in-Err.ensures.err.0 (sent_due c.args.at c.args.call c.args.core.now (stay_links _ _ _ _ c.in-Err.ensures.err.1)) c.refuse.ensures.ends }

pub refuse-requires : goal.refuse-requires
refuse-requires g c = c.in-Err.ensures.why c.in-Err.it.call.since (time (g.W.Wire.history c.args.sockets.now.wire))
