use Rattle.std.proofs.Common.{Ok, ap, ◌∙◌}
use Rattle.serve_links.proofs.Story.{still_called}
use Rattle.serve_proxy.proofs.Going.{and_then, failing, stays, quietly_go, by_poll, called_go}
use Rattle.serve_proxy.proofs.Linking.{polled_call}
use Rattle.serve_proxy.proofs.serving.poll_once.Goals as goal

pub returns-in-Ok-Call : goal.returns-in-Ok-Call
returns-in-Ok-Call g c = record { ends = and_then (and_then (called_go c.args.id c.in-Ok-Call.ticket c.args.core.now c.poll.new.self (polled_call c.args.id c.in-Ok-Call.ticket c.poll.result c.args.core.now c.poll.new.self (c.in-Ok-Call.is ∙ ap (λ p. Ok p) c.in-Ok-Call.field-0-is) c.poll.ensures.ok c.poll.ensures.fresh)) (failing (still_called c.in-Ok-Call.ticket.number c.in-Ok-Call.ticket.server c.in-Ok-Call.ticket.ask (stays c.poll.new.self c.note_called.ensures.ends)))) (failing c.send_call.ensures.ends) }

pub returns-in-Ok-Did : goal.returns-in-Ok-Did
returns-in-Ok-Did g c = record { ends = and_then ((quietly_go (by_poll c.args.id c.poll.result c.args.core.now c.poll.new.self c.poll.ensures.ok c.poll.ensures.err c.poll.ensures.fresh c.poll.ensures.stops))) (stays c.poll.new.self c.note_went_on.ensures.ends) }

pub returns-in-Ok-Own : goal.returns-in-Ok-Own
returns-in-Ok-Own g c = record { ends = and_then (quietly_go (by_poll c.args.id c.poll.result c.args.core.now c.poll.new.self c.poll.ensures.ok c.poll.ensures.err c.poll.ensures.fresh c.poll.ensures.stops)) (stays c.poll.new.self c.note_passed.ensures.ends) }

pub returns-in-Ok-Refused : goal.returns-in-Ok-Refused
returns-in-Ok-Refused g c = record { ends = and_then (quietly_go (by_poll c.args.id c.poll.result c.args.core.now c.poll.new.self c.poll.ensures.ok c.poll.ensures.err c.poll.ensures.fresh c.poll.ensures.stops)) (stays c.poll.new.self c.note_refused.ensures.ends) }

pub returns-in-Ok-Idle : goal.returns-in-Ok-Idle
returns-in-Ok-Idle g c = record { ends = quietly_go (by_poll c.args.id c.poll.result c.args.core.now c.poll.new.self c.poll.ensures.ok c.poll.ensures.err c.poll.ensures.fresh c.poll.ensures.stops) }

pub returns-in-Ok-Waiting : goal.returns-in-Ok-Waiting
returns-in-Ok-Waiting g c = record { ends = quietly_go (by_poll c.args.id c.poll.result c.args.core.now c.poll.new.self c.poll.ensures.ok c.poll.ensures.err c.poll.ensures.fresh c.poll.ensures.stops) }

pub returns-in-Ok-Queued : goal.returns-in-Ok-Queued
returns-in-Ok-Queued g c = record { ends = quietly_go (by_poll c.args.id c.poll.result c.args.core.now c.poll.new.self c.poll.ensures.ok c.poll.ensures.err c.poll.ensures.fresh c.poll.ensures.stops) }

pub returns-in-Ok-Busy : goal.returns-in-Ok-Busy
returns-in-Ok-Busy g c = record { ends = quietly_go (by_poll c.args.id c.poll.result c.args.core.now c.poll.new.self c.poll.ensures.ok c.poll.ensures.err c.poll.ensures.fresh c.poll.ensures.stops) }

pub returns-in-Err-NoMemory : goal.returns-in-Err-NoMemory
returns-in-Err-NoMemory g c = record { ends = and_then ((quietly_go (by_poll c.args.id c.poll.result c.args.core.now c.poll.new.self c.poll.ensures.ok c.poll.ensures.err c.poll.ensures.fresh c.poll.ensures.stops))) (failing (c.end_client.ensures.ends c.poll.new.self)) }

pub returns-in-Err : goal.returns-in-Err
returns-in-Err g c = record { ends = and_then ((quietly_go (by_poll c.args.id c.poll.result c.args.core.now c.poll.new.self c.poll.ensures.ok c.poll.ensures.err c.poll.ensures.fresh c.poll.ensures.stops))) (failing (c.end_client-in-Err.ensures.ends c.poll.new.self)) }
