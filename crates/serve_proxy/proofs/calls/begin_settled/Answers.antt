use Rattle.serve_proxy.proofs.Going.{still, and_then, stays}
use Rattle.serve_proxy.proofs.Staying.{stay_links}
use Rattle.serve_proxy.proofs.calls.begin_settled.Goals as goal

pub returns-then-waiting-eq0 : goal.returns-then-waiting-eq0
returns-then-waiting-eq0 g c = record { ends = still }

pub returns-then-begin_waiting : goal.returns-then-begin_waiting
returns-then-begin_waiting g c = record { ends = and_then c.begin_waiting.ensures.ends (stays c.begin_waiting.new.core (stay_links _ _ _ _ c.mark_output.ensures.lines)) }

pub returns : goal.returns
returns g c = record { ends = c.begin_waiting.ensures.ends }
