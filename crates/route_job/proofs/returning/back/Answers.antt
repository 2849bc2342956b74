use Rattle.route_job.proofs.returning.back.Goals as goal

pub returns-in-Refill-clause-same : goal.returns-in-Refill-clause-same
returns-in-Refill-clause-same c = rw c.in-Refill.is (λ hash text origin b need. c.back_refill.ensures.same hash text origin b)
