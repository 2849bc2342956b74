use Rattle.serve_proxy.proofs.Going.{and_then, stays}
use Rattle.serve_proxy.proofs.Staying.{stay_links}
use Rattle.serve_proxy.proofs.failing.look_again.Goals as goal

pub returns-then-look_again : goal.returns-then-look_again
returns-then-look_again g c = record { ends = stays c.args.core.now (stay_links _ _ _ _ c.look_again.ensures.lines) }

pub returns : goal.returns
returns g c = record { ends = and_then (stays c.args.core.now (stay_links _ _ _ _ c.look_again.ensures.lines)) c.serve_link.ensures.ends }
