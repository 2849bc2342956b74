use Rattle.std.proofs.Common.{ℕ, ◌+◌, ◌*◌, ◌≤◌, ap, ◌∙◌, subst, arith}
use Rattle.mc_types.specs.declared.call.Origin.{Origin}
use Rattle.route_tree.specs.At.{plain_for}
use Rattle.route_tree.specs.Plan.{plan_count}
use Rattle.route_tree.specs.Word.{PlanWord}
use Rattle.route_job.specs.Parts.{SameAt}
use Rattle.route_job.specs.Rest.{AdvanceOf, ask_under}
use Rattle.route_job.specs.Settling.{IsSure, advance_work}
use Rattle.route_job.proofs.Walking.{went_in, work_down}
use Rattle.route_job.proofs.walk.go_in.Goals as goal

pub returns-clause-leads : goal.returns-clause-leads
returns-clause-leads c =
    let h = c.args.hash in
    let a = c.get.result.now in
    went_in h c.args.ask.now.key c.args.frames.now.items c.put_down.new.frames.items c.args.ask.now a c.args.tree c.in_ok-advance.advance.frame c.in_ok-advance.advance.pending
    (c.get.ensures ∙ c.ask_under.ensures ∙ ap (λ l. ask_under l c.args.ask.now) c.as_slice.ensures.value) c.in_ok-put_down.ensures
    (subst (λ t. (origin : Origin) (b : ℕ) → SameAt b (PlanWord (plain_for h t c.args.tree) a origin) (AdvanceOf h t c.in_ok-advance.advance a origin)) (c.as_bytes.ensures ∙ c.key.ensures) c.in_ok-advance.ensures.same)
    (subst (λ t. (origin : Origin) (b : ℕ) → IsSure h t c.in_ok-advance.advance a origin b) (c.as_bytes.ensures ∙ c.key.ensures) c.in_ok-advance.ensures.sure)

pub returns-clause-less : goal.returns-clause-less
returns-clause-less c =
    let h = c.args.hash in
    let k = work_down h c.args.ask.now.key c.args.frames.now.items c.put_down.new.frames.items c.in_ok-advance.advance.frame c.in_ok-advance.advance.pending c.in_ok-put_down.ensures in
    let l = subst (λ t. advance_work h t c.in_ok-advance.advance + 1 ≤ 3 * plan_count (plain_for h t c.args.tree)) (c.as_bytes.ensures ∙ c.key.ensures) c.in_ok-advance.ensures.less in
    omega (arith, k, l)
