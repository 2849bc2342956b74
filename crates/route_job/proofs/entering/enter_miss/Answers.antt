use Rattle.std.proofs.Common.{sym, ◌∙◌}
use Rattle.route_tree.specs.At.{plain_for, plain_for_all}
use Rattle.route_tree.specs.Plan.{More, MissFailover}
use Rattle.route_tree.specs.Word.{PlanWord, WordOfFirst, WordOfHead}
use Rattle.route_job.specs.Rest.{AdvanceOf}
use Rattle.route_job.proofs.Children.{of_get}
use Rattle.route_job.proofs.Same.{same_trans}
use Rattle.route_job.proofs.entering.enter_miss.Goals as goal

pub returns-then-is_get-clause-same : goal.returns-then-is_get-clause-same
returns-then-is_get-clause-same c = λ hash text origin b.
    let ps = More (plain_for hash text c.args.first) (plain_for_all hash text c.args.rest) in
    let a = c.args.ask.now in
    same_trans b (PlanWord (MissFailover ps) a origin) (WordOfFirst ps 1 a origin) (AdvanceOf hash text c.enter_first.result a origin)
    (of_get a.op (WordOfFirst ps 1 a origin) (WordOfHead ps a origin) b (sym c.is_get.ensures ∙ c.if-is_get.true)) (c.enter_first.ensures.same hash text a origin b)
