use Rattle.mcgate_serve.proofs.InHistories.{last_beside}
use Rattle.mcgate_serve.proofs.starting.last_may_follow.Goals as goal

pub returns : goal.returns
returns g c = λ may i before last len first next. last_beside c.args.generations.now i c.index-generations-count.result c.index-generations-count-2.result before last len first next (c.in_ok-may_follow.ensures.beside may)
