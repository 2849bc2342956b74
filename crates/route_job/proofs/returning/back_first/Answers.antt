use Rattle.std.proofs.Common.{◌≤◌, ap, subst}
use Rattle.route_tree.specs.After.{PartsAs}
use Rattle.route_tree.specs.At.{plain_for, plain_for_all}
use Rattle.route_job.specs.Given.{given_when_done}
use Rattle.route_job.proofs.Children.{next_is}
use Rattle.route_job.proofs.returning.back_first.Goals as goal

pub returns-in-Some-clause-same : goal.returns-in-Some-clause-same
returns-in-Some-clause-same c = λ hash text ask origin b.
    next_is (plain_for_all hash text c.args.rest) (plain_for hash text c.in-Some.next) (plain_for_all hash text c.in-Some.rest) (ap (plain_for_all hash text) (subst (PartsAs c.args.rest) c.in-Some.is c.in_ok-parts.ensures)) c.args.limit ask origin (given_when_done c.args.done) (subst (λ n. c.args.limit ≤ n) c.rank.ensures c.if-rank-limit.false) b
