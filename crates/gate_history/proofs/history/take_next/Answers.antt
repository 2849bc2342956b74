use Rattle.gate_history.proofs.history.take_next.Goals as goal

pub returns-in-Ok-clause-followed : goal.returns-in-Ok-clause-followed
returns-in-Ok-clause-followed c = λ arbitrary trees is opened. (c.in-Ok.ensures.followed arbitrary trees is opened).1
