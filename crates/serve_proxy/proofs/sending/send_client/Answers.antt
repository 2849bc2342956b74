use Rattle.serve_proxy.proofs.Going.{and_then, breaking, stays}
use Rattle.serve_proxy.proofs.sending.send_client.Goals as goal

pub returns-then-holds_back : goal.returns-then-holds_back
returns-then-holds_back g c = record { ends = and_then ((stays c.args.core.now c.holds_back.ensures.ends)) (stays c.args.core.now c.hold_back.ensures.ends) }

pub returns-then-has_spare : goal.returns-then-has_spare
returns-then-has_spare g c = record { ends = and_then (and_then (and_then (and_then ((stays c.args.core.now c.holds_back.ensures.ends)) (breaking (c.write_client-is_more.ensures.ends c.args.core.now))) (stays c.args.core.now c.note_written.ensures.ends)) (stays c.args.core.now c.mark_ready_if.ensures.ends)) c.take_rooms.ensures.ends }

pub returns : goal.returns
returns g c = record { ends = and_then (and_then (and_then ((stays c.args.core.now c.holds_back.ensures.ends)) (breaking (c.write_client-is_more.ensures.ends c.args.core.now))) (stays c.args.core.now c.note_written.ensures.ends)) (stays c.args.core.now c.mark_ready_if.ensures.ends) }
