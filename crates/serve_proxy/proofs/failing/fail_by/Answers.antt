use Rattle.serve_proxy.proofs.failing.fail_by.Goals as goal

pub returns-in-Connection : goal.returns-in-Connection
returns-in-Connection g c = record { ends = c.fail_unconnected.ensures.ends }

pub returns-in-Call : goal.returns-in-Call
returns-in-Call g c = record { ends = c.fail_calls.ensures.ends }

pub returns-in-Answer : goal.returns-in-Answer
returns-in-Answer g c = record { ends = c.give_up.ensures.ends }
