use Rattle.mcgate.proofs.Loads.{no_conns}
use Rattle.mcgate_serve.proofs.LookedUp.{still_none}
use Rattle.mcgate.proofs.serve.listen.Goals as goal

pub returns-in_ok-look_up-in-Ok-clause-none : goal.returns-in_ok-look_up-in-Ok-clause-none
returns-in_ok-look_up-in-Ok-clause-none g c = still_none c.look_up.ensures.quiet (no_conns _ c.in-Ok.ensures)
