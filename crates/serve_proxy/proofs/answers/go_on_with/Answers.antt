use Rattle.serve_proxy.proofs.Going.{and_then, stays}
use Rattle.serve_proxy.proofs.Staying.{stay_links}
use Rattle.serve_proxy.proofs.answers.go_on_with.Goals as goal

pub returns : goal.returns
returns g c = record { ends = and_then c.begin_settled.ensures.ends (stays c.begin_settled.new.core (stay_links _ _ _ _ c.mark_rest.ensures.lines)) }
