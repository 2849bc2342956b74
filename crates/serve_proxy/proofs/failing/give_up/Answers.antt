use Rattle.serve_proxy.proofs.Going.{and_then}
use Rattle.serve_proxy.proofs.GivenUp.{unanswered}
use Rattle.serve_proxy.proofs.failing.give_up.Goals as goal

pub returns-then-not-is_late : goal.returns-then-not-is_late
returns-then-not-is_late g c = record { ends = c.stop_draining.ensures.ends c.args.core.now }

pub returns : goal.returns
returns g c = record { ends = and_then (c.stop_draining.ensures.ends c.args.core.now) (unanswered c.args.at (c.is_late.ensures.late c.if-not-is_late.false) c.fail_link.ensures.ends) }
