use Rattle.serve_proxy.proofs.Going.{and_then, stays}
use Rattle.serve_proxy.proofs.GivenUp.{sent_all, sent_not}
use Rattle.serve_proxy.proofs.Staying.{stay_links}
use Rattle.serve_proxy.proofs.sending.send_link.Goals as goal

pub loop-init : goal.loop-init
loop-init g c = stays c.args.core.now (stay_links _ _ _ _ c.end_output.ensures.lines)

pub loop-preserved : goal.loop-preserved
loop-preserved g c = and_then (and_then c.loop.invariant (sent_all c.args.at _ c.if-not-send_unsent.false c.send_unsent.ensures.ends c.loop.core)) c.begin_waiting.ensures.ends

pub returns-then-not-send_unsent : goal.returns-then-not-send_unsent
returns-then-not-send_unsent g c = record { ends = and_then (and_then c.loop.invariant (sent_not c.args.at _ c.if-not-send_unsent.true c.send_unsent.ensures.ends c.loop.core)) c.fail_link.ensures.ends }

pub returns-then-not-begin_waiting : goal.returns-then-not-begin_waiting
returns-then-not-begin_waiting g c = record { ends = and_then (and_then c.loop.invariant (sent_all c.args.at _ c.if-not-send_unsent.false c.send_unsent.ensures.ends c.loop.core)) c.begin_waiting.ensures.ends }

pub returns : goal.returns
returns g c = record { ends = and_then c.loop.invariant (stays c.loop.core (stay_links _ _ _ _ c.mark_output.ensures.lines)) }
