use Rattle.serve_proxy.proofs.Going.{and_then, stays, sent_due}
use Rattle.serve_proxy.proofs.Staying.{stay_links}
use Rattle.serve_proxy.proofs.Refusing.{refused_given}
use Rattle.serve_wire.specs.Events.{time}
use Rattle.serve_proxy.proofs.calls.let_wait.Goals as goal

pub returns-in-Ok : goal.returns-in-Ok
returns-in-Ok g c = record { ends = and_then (c.in-Ok.ensures.ok (g.W.Wire.history c.args.sockets.now.wire) c.args.sockets.now.clients c.args.core.now) (stays c.args.core.now c.note_waits.ensures.ends) }

pub returns-in-Err : goal.returns-in-Err
returns-in-Err g c = record { ends = refused_given c.args.at c.args.call c.in-Err.it c.in-Err.ensures.err.0 (sent_due c.args.at c.args.call c.args.core.now (stay_links _ _ _ _ c.in-Err.ensures.err.1)) c.refuse.ensures.ends }

pub refuse-requires : goal.refuse-requires
refuse-requires g c = c.in-Err.ensures.why c.in-Err.it.call.since (time (g.W.Wire.history c.args.sockets.now.wire))
