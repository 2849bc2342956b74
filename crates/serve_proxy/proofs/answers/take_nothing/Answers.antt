use Rattle.serve_proxy.proofs.Going.{failing}
use Rattle.serve_proxy.proofs.answers.take_nothing.Goals as goal

pub returns-then-not-has_unread : goal.returns-then-not-has_unread
returns-then-not-has_unread g c = record { ends = failing (c.read_in_vain.ensures.ends c.args.core.now) }

pub returns : goal.returns
returns g c = record { ends = c.take_said_at.ensures.ends }
