use Rattle.std.proofs.Common.{rules, ◌≡◌, ◌-◌, true, length, take, drop, get_or, ap, ap₂, sym, subst, ◌∙◌, arith}
use Rattle.std.proofs.lemmas.Result.{IfOk-weaker}
use Rattle.route_tree.specs.Plan.{AllSync, Failover, MissFailover, ByOperation}
use Rattle.route_tree.specs.PlanCode.{plan_size, policies_plan_size}
use Rattle.route_tree.specs.Form.{plans_of, plan_policies_of, plan_of_form}
use Rattle.gate_coverage.specs.Computed.{takes_server}
use Rattle.gate_gaps.specs.Ways.{policy_taken}
use Rattle.gate_gaps.proofs.Reaching.{by_all_sync, by_failover, by_miss_failover, by_policy, parted, taken_later, adds_here, adds_there, no_policies, parted_policies, policy_later}
use Rattle.gate_gaps.proofs.ways.+way.Goals as goal

pub add_way-add_way_among-requires : goal.add_way-add_way_among-requires
add_way-add_way_among-requires t c =
    let is = ap (λ xs. AllSync (plans_of xs)) c.deref.ensures.value ∙ ap plan_of_form (sym c.in-AllSync.is) ∙ c.form.ensures.form in
    let size = ap plan_size is in
    (omega (arith, c.decreases, size), (by_all_sync c.args.op c.args.server (plans_of c.deref.result.now) (subst (λ p. takes_server p c.args.op c.args.server ≡ true) (sym is) c.requires), search rules))

pub add_way-add_way_among-requires-in-Failover : goal.add_way-add_way_among-requires-in-Failover
add_way-add_way_among-requires-in-Failover t c =
    let is = ap (λ xs. Failover (plans_of xs)) c.deref-in-Failover.ensures.value ∙ ap plan_of_form (sym c.in-Failover.is) ∙ c.form.ensures.form in
    let size = ap plan_size is in
    (omega (arith, c.decreases, size), (by_failover c.args.op c.args.server (plans_of c.deref-in-Failover.result.now) (subst (λ p. takes_server p c.args.op c.args.server ≡ true) (sym is) c.requires), search rules))

pub add_way-add_way_among-requires-in-MissFailover : goal.add_way-add_way_among-requires-in-MissFailover
add_way-add_way_among-requires-in-MissFailover t c =
    let is = ap (λ xs. MissFailover (plans_of xs)) c.deref-in-MissFailover.ensures.value ∙ ap plan_of_form (sym c.in-MissFailover.is) ∙ c.form.ensures.form in
    let size = ap plan_size is in
    (omega (arith, c.decreases, size), (by_miss_failover c.args.op c.args.server (plans_of c.deref-in-MissFailover.result.now) (subst (λ p. takes_server p c.args.op c.args.server ≡ true) (sym is) c.requires), search rules))

pub add_way-add_way_by-requires : goal.add_way-add_way_by-requires
add_way-add_way_by-requires t c =
    let is = ap₂ (λ ps d. ByOperation (plan_policies_of ps d)) c.deref-in-ByOperation.ensures.value c.deref-in-ByOperation-2.ensures ∙ ap plan_of_form (sym c.in-ByOperation.is) ∙ c.form.ensures.form in
    let size = ap plan_size is in
    (omega (arith, c.decreases, size), by_policy c.args.op c.args.server (plan_policies_of c.deref-in-ByOperation.result.now c.deref-in-ByOperation-2.result.now) (subst (λ p. takes_server p c.args.op c.args.server ≡ true) (sym is) c.requires))

pub add_way_among-add_way_among-requires : goal.add_way_among-add_way_among-requires
add_way_among-add_way_among-requires t c =
    let is = parted c.args.children.now c.first-item.result c.in-len1-up.len_at_least c.first-item.is in
    (search rules, (taken_later c.args.op c.args.server c.args.children.now (take (length c.args.children.now - 1) (drop 1 c.args.children.now)) c.first-item.result is (sym c.is_taken.ensures ∙ c.if-is_taken.false) c.requires.some, search rules))

pub add_way_among-returns-in_ok-push-in-len1-up : goal.add_way_among-returns-in_ok-push-in-len1-up
add_way_among-returns-in_ok-push-in-len1-up t c =
    let is = parted c.args.children.now c.first-item.result c.in-len1-up.len_at_least c.first-item.is in
    IfOk-weaker c.add_way.result _ _ (λ u h. adds_here c.args.op c.args.server c.args.listed c.args.index c.args.children.now (take (length c.args.children.now - 1) (drop 1 c.args.children.now)) c.first-item.result c.args.way.now.items c.push.new.self.items c.add_way.new.way.items is (sym c.is_taken.ensures ∙ c.if-is_taken.true) (c.in_ok-push-in-len1-up.ensures.items) h) c.add_way.ensures

pub add_way_among-returns-else-is_taken : goal.add_way_among-returns-else-is_taken
add_way_among-returns-else-is_taken t c =
    let is = parted c.args.children.now c.first-item.result c.in-len1-up.len_at_least c.first-item.is in
    IfOk-weaker c.add_way_among.result _ _ (λ u h. adds_there c.args.op c.args.server c.args.listed c.args.index c.args.children.now (take (length c.args.children.now - 1) (drop 1 c.args.children.now)) c.first-item.result c.args.way.now.items c.add_way_among.new.way.items is h) c.add_way_among.ensures

pub add_way_by-add_way-requires : goal.add_way_by-add_way-requires
add_way_by-add_way-requires t c =
    let is = no_policies c.args.policies.now c.args.default.now c.in-empty.len_below in
    let size = ap policies_plan_size is in
    (omega (arith, c.decreases, size), subst (λ ps. policy_taken c.args.op c.args.server ps ≡ true) is c.requires)

pub add_way_by-add_way_by-requires : goal.add_way_by-add_way_by-requires
add_way_by-add_way_by-requires t c =
    let rest = take (length c.args.policies.now - 1) (drop 1 c.args.policies.now) in
    let is = parted_policies c.args.policies.now c.index-policies-0.result c.args.default.now c.in-len1-up.len_at_least in
    let size = ap policies_plan_size is in
    (omega (arith, c.decreases, size), policy_later c.args.op c.args.server (get_or c.args.policies.now 0 c.index-policies-0.result).0 (get_or c.args.policies.now 0 c.index-policies-0.result).1 (plan_policies_of rest c.args.default.now) (sym c.is_op.ensures ∙ c.if-is_op.false) (subst (λ ps. policy_taken c.args.op c.args.server ps ≡ true) is c.requires))
