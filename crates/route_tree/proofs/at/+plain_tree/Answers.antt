use Rattle.std.proofs.Common.{rules, ◌≡◌, ◌<◌, ℕ, List, [], ◌∷◌, length, map, sym, ap, ap₂, ◌∙◌, arith, subst, refl, take_all, get_or, ◌%◌}
use Rattle.std.specs.Prelude.{slice_index}
use Rattle.std.proofs.lemmas.List.{get_or_read_under}
use native.Mathlib.Nat.{mod-lt}
use Rattle.mc_types.specs.declared.ask.Op.{Op}
use Rattle.std.proofs.lemmas.Result.{IfOk-weaker}
use Rattle.route_tree.specs.declared.plain.PlainForm.{PlainForm}
use Rattle.route_tree.specs.Plan.{IsPlan, Server, More, Policy}
use Rattle.route_tree.specs.Route.{Route, IsTree, IsGood, Pool, ByPrefix}
use Rattle.route_tree.specs.RouteCode.{route_size}
use Rattle.route_tree.specs.Form.{route_of_form, plan_of_form, plans_of, plan_policies_of, routes_of, policies_of, prefixes_of}
use Rattle.route_tree.specs.At.{plain_for, plain_for_all, plain_for_policies}
use Rattle.route_tree.proofs.PlainTrees.{plan_plain, plain_for_chosen, chosen_falls}
use Rattle.route_tree.proofs.Sizes.{policies_fall, policies_last_falls, policies_item_falls, route_item_falls}
use Rattle.route_tree.proofs.at.+plain_tree.Goals as goal
use Rattle.route_tree.proofs.at.+plain_tree.Goals.{plain_tree-in-Pool, plain_tree-in-Server, plain_tree-in-Null, plain_tree-in-Error, plain_tree-in-AllSync+in_ok-plain_trees-in-AllSync, plain_tree-in-Failover+in_ok-plain_trees-in-Failover, plain_tree-in-MissFailover+in_ok-plain_trees-in-MissFailover, plain_tree-in-WarmUp+in_ok-plain_tree-in-WarmUp+in_ok-cold-in-WarmUp+in_ok-plain_tree-in-WarmUp-2+in_ok-warm-in-WarmUp, plain_tree-in-ByOperation+in_ok-policies-in-ByOperation+in_ok-plain_tree-in-ByOperation+in_ok-default-in-ByOperation}

pub plain_tree-plain_policies-requires : goal.plain_tree-plain_policies-requires
plain_tree-plain_policies-requires t c =
    let h = policies_fall c.args.tree.now c.deref-in-ByOperation.result.now c.in-ByOperation.policies.items c.in-ByOperation.default.value c.deref-in-ByOperation.ensures.value (ap route_of_form (sym c.in-ByOperation.is) ∙ c.form.ensures.form) in
    (omega (arith, c.decreases, h), tt)

pub plain_tree-plain_tree-requires-in-ByOperation : goal.plain_tree-plain_tree-requires-in-ByOperation
plain_tree-plain_tree-requires-in-ByOperation t c =
    let h = policies_last_falls c.args.tree.now c.in-ByOperation.policies.items c.in-ByOperation.default.value (ap route_of_form (sym c.in-ByOperation.is) ∙ c.form.ensures.form) in
    let e = ap route_size c.deref-in-ByOperation-2.ensures in
    (omega (arith, c.decreases, h, e), tt)

pub plain_tree-plain_tree-requires-in-ByPrefix : goal.plain_tree-plain_tree-requires-in-ByPrefix
plain_tree-plain_tree-requires-in-ByPrefix t c =
    let is = ap₂ (λ ps d. ByPrefix (prefixes_of ps d)) c.deref-in-ByPrefix.ensures.value c.deref-in-ByPrefix-2.ensures ∙ ap route_of_form (sym c.in-ByPrefix.is) ∙ c.form.ensures.form in
    let size = ap route_size is in
    let h = chosen_falls c.args.text.now (prefixes_of c.deref-in-ByPrefix.result.now c.deref-in-ByPrefix-2.result.now) in
    let e = ap route_size c.longest.ensures in
    (omega (arith, c.decreases, h, e, size), tt)

pub plain_tree-returns-in-ByPrefix : goal.plain_tree-returns-in-ByPrefix
plain_tree-returns-in-ByPrefix t c =
    let is = ap₂ (λ ps d. ByPrefix (prefixes_of ps d)) c.deref-in-ByPrefix.ensures.value c.deref-in-ByPrefix-2.ensures ∙ ap route_of_form (sym c.in-ByPrefix.is) ∙ c.form.ensures.form in
    let same = ap (plain_for c.args.hash c.args.text.now) c.longest.ensures ∙ sym (plain_for_chosen c.args.hash c.args.text.now (prefixes_of c.deref-in-ByPrefix.result.now c.deref-in-ByPrefix-2.result.now)) ∙ ap (plain_for c.args.hash c.args.text.now) is in
    IfOk-weaker c.plain_tree-in-ByPrefix.result _ _ (λ p h. h ∙ same) c.plain_tree-in-ByPrefix.ensures

is_plan : (hash : ℕ) (text : List ℕ) (r : Route) (form : PlainForm) → IsTree r → plan_of_form form ≡ plain_for hash text r → IsPlan (plan_of_form form)
is_plan hash text r form tree is = subst IsPlan (sym is) (plan_plain hash text r tree)

-- the server at the hash modulo the pool's size
pool_plain : (hash : ℕ) (r : Route) (servers : List ℕ) (n server : ℕ) → Pool servers ≡ r → IsGood r → n ≡ length servers → server ≡ get_or servers (hash % n) server → server ≡ slice_index servers (hash % length servers)
pool_plain hash r servers n server is good len e =
    let some : 0 < length servers = (subst IsGood (sym is) good).0 in
    let below : hash % n < n = mod-lt hash (subst (λ k. 0 < k) (sym len) some) in
    get_or_read_under servers (hash % n) n server 0 e below len ∙ ap (λ k. slice_index servers (hash % k)) len

pub plain_tree-new-requires-2 : goal.plain_tree-new-requires-2
plain_tree-new-requires-2 t c =
    is_plan c.args.hash c.args.text.now c.args.tree.now c.match-form.form c.form.ensures.tree
    (elim c.match-form.branch [
      | plain_tree-in-Pool w ↦
          let is = ap route_of_form (sym w.in-Pool.is) ∙ c.form.ensures.form in
          ap plan_of_form w.form-is ∙ ap Server (pool_plain c.args.hash c.args.tree.now w.in-Pool.servers.items w.len.result w.index.result.now is c.form.ensures.tree.good (w.len.ensures ∙ w.in-Pool.servers.ok.0) w.index.ensures) ∙ ap (plain_for c.args.hash c.args.text.now) is
      | plain_tree-in-Server w ↦ search rules
      | plain_tree-in-Null w ↦ search rules
      | plain_tree-in-Error w ↦ search rules
      | plain_tree-in-AllSync+in_ok-plain_trees-in-AllSync w ↦ search rules
      | plain_tree-in-Failover+in_ok-plain_trees-in-Failover w ↦ search rules
      | plain_tree-in-MissFailover+in_ok-plain_trees-in-MissFailover w ↦ search rules
      | plain_tree-in-WarmUp+in_ok-plain_tree-in-WarmUp+in_ok-cold-in-WarmUp+in_ok-plain_tree-in-WarmUp-2+in_ok-warm-in-WarmUp w ↦ search rules
      | plain_tree-in-ByOperation+in_ok-policies-in-ByOperation+in_ok-plain_tree-in-ByOperation+in_ok-default-in-ByOperation w ↦ search rules
    ])

pub plain_trees-plain_tree-requires : goal.plain_trees-plain_tree-requires
plain_trees-plain_tree-requires t c =
    let h = route_item_falls c.args.children.now c.loop-child.child-index c.child-item.result c.loop-child-test.true c.child-item.is in
    (omega (arith, c.decreases, h), tt)

all_left : (hash : ℕ) (text : List ℕ) (xs : List Route) → plans_of (map (plain_for hash text) xs) ≡ plain_for_all hash text (routes_of xs)
all_left hash text [] = refl
all_left hash text (x ∷ xs) = ap (More (plain_for hash text x)) (all_left hash text xs)

pub plain_trees-returns : goal.plain_trees-returns
plain_trees-returns t c =
    ap plans_of (c.loop-child.invariant ∙ ap (map (plain_for c.args.hash c.args.text.now)) (take_all c.loop-child.child-index c.args.children.now c.loop-child-test.false))
    ∙ all_left c.args.hash c.args.text.now c.args.children.now

pub plain_policies-plain_tree-requires : goal.plain_policies-plain_tree-requires
plain_policies-plain_tree-requires t c =
    let h = policies_item_falls c.args.policies.now c.loop-op.op-index c.loop-op-item.result c.loop-op-test.true c.loop-op-item.is in
    (omega (arith, c.decreases, h), tt)

policies_left : (hash : ℕ) (text : List ℕ) (d : Route) (xs : List (Op × Route)) → plan_policies_of (map (λ p. (p.0, plain_for hash text p.1)) xs) (plain_for hash text d) ≡ plain_for_policies hash text (policies_of xs d)
policies_left hash text d [] = refl
policies_left hash text d (x ∷ xs) = ap (Policy x.0 (plain_for hash text x.1)) (policies_left hash text d xs)

pub plain_policies-returns : goal.plain_policies-returns
plain_policies-returns t c = λ d.
    ap (λ l. plan_policies_of l (plain_for c.args.hash c.args.text.now d)) (c.loop-op.invariant ∙ ap (map (λ p. (p.0, plain_for c.args.hash c.args.text.now p.1))) (take_all c.loop-op.op-index c.args.policies.now c.loop-op-test.false))
    ∙ policies_left c.args.hash c.args.text.now d c.args.policies.now
