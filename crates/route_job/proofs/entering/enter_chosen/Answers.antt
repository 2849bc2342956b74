use Rattle.std.proofs.Common.{sym, ◌∙◌, subst, arith, ap}
use Rattle.route_tree.specs.At.{plain_for, plain_for_policies}
use Rattle.route_tree.specs.Form.{policies_of}
use Rattle.route_tree.specs.Plan.{plan_count}
use Rattle.route_tree.specs.Word.{PlanWord, WordOfPolicy}
use Rattle.route_job.specs.Parts.{SameAt}
use Rattle.route_job.proofs.Children.{chosen_is, chosen_count}
use Rattle.route_job.specs.Rest.{AdvanceOf}
use Rattle.route_job.proofs.Same.{same_trans}
use Rattle.route_job.proofs.entering.enter_chosen.Goals as goal

pub returns-clause-same : goal.returns-clause-same
returns-clause-same c = λ hash text origin b.
    let ps = plain_for_policies hash text (policies_of c.args.policies.now c.args.default.now) in
    let e = sym (c.policy_of.ensures hash text) ∙ ap (plain_for hash text) (sym c.in_ok-tree.ensures) in
    let here = subst (λ p. SameAt b (WordOfPolicy ps c.args.ask.now origin) (PlanWord p c.args.ask.now origin)) e (chosen_is ps c.args.ask.now origin b) in
    same_trans b (WordOfPolicy ps c.args.ask.now origin) (PlanWord (plain_for hash text c.in_ok-tree.tree) c.args.ask.now origin) (AdvanceOf hash text c.enter_alone.result c.args.ask.now origin) here (c.enter_alone.ensures.same hash text c.args.ask.now origin b)

pub returns-clause-less : goal.returns-clause-less
returns-clause-less c = λ hash text.
    let ps = plain_for_policies hash text (policies_of c.args.policies.now c.args.default.now) in
    let e = ap plan_count (sym (c.policy_of.ensures hash text) ∙ ap (plain_for hash text) (sym c.in_ok-tree.ensures)) in
    let k = chosen_count ps c.args.ask.now in
    let l = c.enter_alone.ensures.less hash text in
    omega (arith, e, k, l)
