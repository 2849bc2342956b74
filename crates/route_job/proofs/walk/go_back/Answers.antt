use Rattle.std.proofs.Common.{ap, ◌∙◌, arith}
use Rattle.route_job.specs.Rest.{ask_under}
use Rattle.route_job.proofs.Walking.{went_back, work_down, work_put}
use Rattle.route_job.proofs.walk.go_back.Goals as goal

pub returns-clause-leads : goal.returns-clause-leads
returns-clause-leads c = λ hash text.
    went_back hash text c.args.frames.now.items c.put_down.new.frames.items c.args.ask.now c.get.result.now c.args.frame c.args.done c.in_ok-advance.advance.frame c.in_ok-advance.advance.pending
    (c.get.ensures ∙ c.ask_under.ensures ∙ ap (λ l. ask_under l c.args.ask.now) c.as_slice.ensures.value) c.in_ok-put_down.ensures (c.in_ok-advance.ensures.same hash text) (c.in_ok-advance.ensures.sure hash text)

pub returns-clause-less : goal.returns-clause-less
returns-clause-less c = λ hash text.
    let k = work_down hash text c.args.frames.now.items c.put_down.new.frames.items c.in_ok-advance.advance.frame c.in_ok-advance.advance.pending c.in_ok-put_down.ensures in
    let l = c.in_ok-advance.ensures.less hash text in
    let m = work_put hash text c.args.frames.now.items c.args.frame in
    omega (arith, k, l, m)
