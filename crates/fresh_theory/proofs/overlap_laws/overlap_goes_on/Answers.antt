use Rattle.fresh_runs.proofs.OverlapSteps.{walks_more}
use Rattle.fresh_theory.proofs.overlap_laws.overlap_goes_on.Goals as goal

pub returns : goal.returns
returns g c entries log leads walks = let x = g.C.HasCourse.course in walks_more x.words x.Bars x.opening entries log x.old x.new leads walks
