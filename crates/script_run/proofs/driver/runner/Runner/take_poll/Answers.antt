use Rattle.script_run.proofs.driver.runner.Runner.take_poll.Goals as goal

pub returns-in_ok-count-in-Did-clause-counts : goal.returns-in_ok-count-in-Did-clause-counts
returns-in_ok-count-in-Did-clause-counts c = rw c.in-Did.is c.in_ok-count-in-Did.ensures.counts
