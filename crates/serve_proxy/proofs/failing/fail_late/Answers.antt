use Rattle.serve_proxy.proofs.Going.{and_then, stays}
use Rattle.serve_proxy.proofs.Staying.{stay_links}
use Rattle.serve_proxy.proofs.failing.fail_late.Goals as goal

pub returns-then-not-may_be_late : goal.returns-then-not-may_be_late
returns-then-not-may_be_late g c = record { ends = stays c.args.core.now (stay_links _ _ _ _ c.look.ensures.lines) }

pub loop-at-init : goal.loop-at-init
loop-at-init g c = stays c.args.core.now (stay_links _ _ _ _ c.look.ensures.lines)

pub loop-at-preserved : goal.loop-at-preserved
loop-at-preserved g c = and_then c.loop-at.invariant c.fail_if_late.ensures.ends

pub returns : goal.returns
returns g c = record { ends = and_then c.loop-at.invariant (stays c.loop-at.core (stay_links _ _ _ _ c.note_limits.ensures.lines)) }
