use Rattle.serve_proxy.proofs.Going.{still}
use Rattle.serve_proxy.proofs.stalls.write_again_if.Goals as goal

pub returns-then-is_so : goal.returns-then-is_so
returns-then-is_so g c = record { ends = c.write_again.ensures.ends }

pub returns : goal.returns
returns g c = record { ends = still }
