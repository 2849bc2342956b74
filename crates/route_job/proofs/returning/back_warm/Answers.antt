use Rattle.std.proofs.Common.{◌∙◌}
use Rattle.mc_types.specs.declared.call.Origin.TheVariants.{CopyOf}
use Rattle.route_tree.specs.At.{plain_for}
use Rattle.route_tree.specs.Word.{PlanWord, plain_get, refill, rank}
use Rattle.route_job.specs.Given.{given_when_done}
use Rattle.route_job.proofs.Children.{no_hit}
use Rattle.route_job.proofs.returning.back_warm.Goals as goal

pub returns-then-rank-ne0-clause-same : goal.returns-then-rank-ne0-clause-same
returns-then-rank-ne0-clause-same c = λ hash text origin b need.
    no_hit c.args.ask.now (PlanWord (plain_for hash text c.args.sides.cold) c.args.ask.now origin) (PlanWord (plain_for hash text c.args.sides.warm) (plain_get c.args.ask.now) origin) (λ hit w. PlanWord (plain_for hash text c.args.sides.cold) (refill c.args.ask.now hit c.args.sides.exptime) (CopyOf w)) (given_when_done c.args.first) (given_when_done c.args.from_warm) (rank (given_when_done c.args.from_warm)) (λ e. c.if-rank-ne0.true (c.rank.ensures ∙ e)) b
