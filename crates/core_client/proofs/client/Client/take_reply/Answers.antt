use Rattle.core_client.proofs.client.Client.take_reply.Goals as goal

pub returns-in-Some-clause-answered : goal.returns-in-Some-clause-answered
returns-in-Some-clause-answered c = λ pending has. (c.in-Some.place, c.in-Some.ensures.some, c.answer.ensures c.args.number c.in-Some.ensures.some)

pub returns-in-Some-clause-dropped : goal.returns-in-Some-clause-dropped
returns-in-Some-clause-dropped c = (c.answer.ensures c.args.number c.in-Some.ensures.some).dropped

pub returns-in-None-clause-answered : goal.returns-in-None-clause-answered
returns-in-None-clause-answered c = λ pending has. absurd (c.in-None.ensures.none pending has)
