use Rattle.serve_proxy.proofs.Going.{and_then, stays}
use Rattle.serve_proxy.proofs.Staying.{stay_links}
use Rattle.serve_proxy.proofs.failing.fail_link.Goals as goal

pub returns : goal.returns
returns g c = record { ends = and_then c.leave_link.ensures.ends (stays c.leave_link.new.core (stay_links _ _ _ _ c.note_unsent.ensures.lines)) }
