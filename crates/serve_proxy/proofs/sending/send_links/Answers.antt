use Rattle.serve_proxy.proofs.Going.{still, and_then, stays}
use Rattle.serve_proxy.proofs.Staying.{stay_links}
use Rattle.serve_proxy.proofs.sending.send_links.Goals as goal

pub returns-then-is_empty : goal.returns-then-is_empty
returns-then-is_empty g c = record { ends = still }

pub loop-at-init : goal.loop-at-init
loop-at-init g c = still

pub loop-at-preserved : goal.loop-at-preserved
loop-at-preserved g c = and_then (and_then c.loop-at.invariant c.send_link.ensures.ends) (stays c.send_link.new.core (stay_links _ _ _ _ c.note_limit.ensures.lines))

pub returns : goal.returns
returns g c = record { ends = c.loop-at.invariant }
