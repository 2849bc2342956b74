use Rattle.serve_proxy.proofs.Going.{still}
use Rattle.serve_proxy.proofs.answers.take_unread.Goals as goal

pub returns-then-not-has_unread : goal.returns-then-not-has_unread
returns-then-not-has_unread g c = record { ends = still }

pub returns : goal.returns
returns g c = record { ends = c.take_said_at.ensures.ends }
