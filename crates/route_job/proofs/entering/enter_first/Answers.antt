use Rattle.route_tree.specs.At.{plain_for, plain_for_all}
use Rattle.route_job.proofs.Same.{first_begin}
use Rattle.route_job.proofs.entering.enter_first.Goals as goal

pub returns-clause-same : goal.returns-clause-same
returns-clause-same c = λ hash text ask origin b. first_begin (plain_for hash text c.args.first) (plain_for_all hash text c.args.rest) c.args.limit ask origin b
