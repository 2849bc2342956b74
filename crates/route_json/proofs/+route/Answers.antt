use Rattle.std.proofs.Common.{◌≡◌, ◌∙◌, ℕ, ◌+◌, ◌-◌, suc, [], ◌∷◌, List, ap, sym, subst, length, length-append, arith, string_bytes, Ok, Result}
use Rattle.std.specs.Prelude.{codes}
use Rattle.std.proofs.lemmas.Result.{err_from_is_err_and}
use Rattle.serde_json.specs.View.{view}
use Rattle.serde_json.proofs.Views.{Entry}
use Rattle.mc_types.specs.declared.ask.Op.{Op}
use Rattle.route_tree.specs.Route.{Route, ByOperation, ByPrefix}
use Rattle.route_tree.specs.Form.{policies_of, prefixes_of}
use Rattle.route_json.specs.Fault.{Fault, fault_of}
use Rattle.route_json.specs.Fits.{NodeFits, seconds, AreKeys}
use Rattle.route_json.specs.Reading.{each, named}
use Rattle.route_json.specs.Routes.{counts_route, route, node, policy_op, prefix_of}
use Rattle.route_json.proofs.Each.{entries, named_ok, named_bad, named_stops, stops, values_step}
use Rattle.route_json.proofs.Fitting.{reads_go, listed_fits, ops_fit, prefixes_fit, seconds_push, keys_push}
use Rattle.route_json.proofs.Gives.{passed}
use Rattle.route_json.proofs.RouteSteps.{route_deep, route_counted, route_many}
use Rattle.route_json.proofs.+route.Goals as goal

-- ---- a route

pub route::route-returns-then-place-eq0-clause-gives : goal.route::route-returns-then-place-eq0-clause-gives
route::route-returns-then-place-eq0-clause-gives t c =
    route_deep c.args.pools.now.0 c.args.place.weight c.args.field.now (view c.args.value.now) c.args.count.now.routes c.args.place.levels c.if-place-eq0.true

pub route::route-returns-in_err-add-clause-gives : goal.route::route-returns-in_err-add-clause-gives
route::route-returns-in_err-add-clause-gives t c =
    let p = err_from_is_err_and c.from_residual.result c.from_residual.ensures.1 in
    let is : c.args.place.levels ≡ suc (c.args.place.levels - 1) = omega arith in
    rw (p.1, p.2) (passed (fault_of c.in_err-add.field-0.0) (counts_route c.args.place.weight c.args.count.now.routes) (route c.args.pools.now.0 c.args.place.levels c.args.place.weight c.args.field.now (view c.args.value.now) c.args.count.now.routes) c.in_err-add.ensures.gives (λ f k. route_many c.args.pools.now.0 c.args.place.weight c.args.field.now (view c.args.value.now) c.args.count.now.routes c.args.place.levels (c.args.place.levels - 1) f is k))

pub route::route-returns-in_err-form-clause-gives : goal.route::route-returns-in_err-form-clause-gives
route::route-returns-in_err-form-clause-gives t c =
    let p = err_from_is_err_and c.from_residual-in_err-form.result c.from_residual-in_err-form.ensures.1 in
    let is : c.args.place.levels ≡ suc (c.args.place.levels - 1) = omega arith in
    rw (p.1, p.2) (passed (fault_of c.in_err-form.field-0.0) (node c.args.pools.now.0 (c.args.place.levels - 1) c.args.place.weight (route c.args.pools.now.0 (c.args.place.levels - 1)) c.args.field.now (view c.args.value.now) c.add.new.self.routes) (route c.args.pools.now.0 c.args.place.levels c.args.place.weight c.args.field.now (view c.args.value.now) c.args.count.now.routes) c.in_err-form.ensures.gives (λ f k. route_counted c.args.pools.now.0 c.args.place.weight c.args.field.now (view c.args.value.now) c.args.count.now.routes c.args.place.levels (c.args.place.levels - 1) c.add.new.self.routes is c.in_ok-add.ensures.gives ∙ k))

pub route::route-returns-clause-gives : goal.route::route-returns-clause-gives
route::route-returns-clause-gives t c =
    let is : c.args.place.levels ≡ suc (c.args.place.levels - 1) = omega arith in
    route_counted c.args.pools.now.0 c.args.place.weight c.args.field.now (view c.args.value.now) c.args.count.now.routes c.args.place.levels (c.args.place.levels - 1) c.add.new.self.routes is c.in_ok-add.ensures.gives
    ∙ c.in_ok-form.ensures.gives
    ∙ ap (λ (r : Route). let y : Result (Route × ℕ) Fault = Ok (r, c.node.new.count.routes) in y) (sym c.in_ok-tree.ensures)

-- ---- children

pub route::each_child-loop-item-preserved : goal.route::each_child-loop-item-preserved
route::each_child-loop-item-preserved t c =
    let read = route c.args.pools.now.0 c.args.below.levels c.args.below.weight (codes "children") in (
      reads_go read _ (length c.args.pools.now.1) c.args.below.levels c.args.below.weight c.args.count.now.routes _ _ _ c.in_ok-tree.tree c.in_ok-tree.tree c.loop-item.trees.items c.push.new.self.items c.loop-item.trees.items c.push.new.self.items c.loop-item.count.routes c.route.new.count.routes c.loop-item.invariant.0 (values_step c.args.items.now c.loop-item.item-index c.item-item.result c.loop-item-test.true c.item-item.is) c.in_ok-tree.ensures.gives c.in_ok-push.ensures.items c.in_ok-push.ensures.items c.in_ok-tree.ensures.fits c.route.new.count.few,
      ap length c.in_ok-push.ensures.items ∙ length-append c.loop-item.trees.items (c.in_ok-tree.tree ∷ []) ∙ ap (λ n. n + 1) c.loop-item.invariant.1,
    )

pub route::fields-returns-in_ok-trees-in-List-clause-fits : goal.route::fields-returns-in_ok-trees-in-List-clause-fits
route::fields-returns-in_ok-trees-in-List-clause-fits t c =
    let trees = c.in_ok-trees-in-List in
    subst (λ (r : Route). NodeFits (length c.args.pools.now.1) c.args.below.levels c.args.below.weight c.args.count.now.routes r c.children.new.count.routes) (sym c.listed.ensures) (listed_fits c.in-List.lists (length c.args.pools.now.1) c.args.below.levels c.args.below.weight c.args.count.now.routes c.children.new.count.routes trees.trees.items trees.ensures.some trees.ensures.fits)

-- ---- policies by operation

pub selector::operations-returns-in_err-op-clause-gives : goal.selector::operations-returns-in_err-op-clause-gives
selector::operations-returns-in_err-op-clause-gives t c =
    let p = err_from_is_err_and c.from_residual.result c.from_residual.ensures.1 in
    let e : Entry = (c.in-Some.name.now, c.in-Some.child.now) in
    let child = route c.args.pools.now.0 c.args.below.levels c.args.below.weight in
    rw (p.1, p.2) (passed (fault_of c.in_err-op.field-0.0) (policy_op c.as_str-text.result.now) (each (named policy_op child) (entries c.args.map.now.entries) c.args.count.now.routes) c.in_err-op.ensures (λ f k. stops (named policy_op child) _ (entries c.loop-name.name-iterator) (entries c.next.new.self) (string_bytes e.0, view e.1) c.loop-name.policies.items c.loop-name.count.routes f c.loop-name.invariant.reads (ap entries c.in-Some.ensures.steps) (named_bad policy_op child (string_bytes e.0) c.as_str-text.result.now (view e.1) c.as_str-text.ensures.value c.loop-name.count.routes f k)))

pub selector::operations-returns-in_err-tree-clause-gives : goal.selector::operations-returns-in_err-tree-clause-gives
selector::operations-returns-in_err-tree-clause-gives t c =
    let p = err_from_is_err_and c.from_residual-in_err-tree.result c.from_residual-in_err-tree.ensures.1 in
    let e : Entry = (c.in-Some.name.now, c.in-Some.child.now) in
    let child = route c.args.pools.now.0 c.args.below.levels c.args.below.weight in
    rw (p.1, p.2) (passed (fault_of c.in_err-tree.field-0.0) (child c.as_str-text.result.now (view e.1) c.loop-name.count.routes) (each (named policy_op child) (entries c.args.map.now.entries) c.args.count.now.routes) c.in_err-tree.ensures.gives (λ f k. stops (named policy_op child) _ (entries c.loop-name.name-iterator) (entries c.next.new.self) (string_bytes e.0, view e.1) c.loop-name.policies.items c.loop-name.count.routes f c.loop-name.invariant.reads (ap entries c.in-Some.ensures.steps) (named_stops policy_op child (string_bytes e.0) c.as_str-text.result.now (view e.1) c.as_str-text.ensures.value c.loop-name.count.routes c.in_ok-op.op f c.in_ok-op.ensures k)))

pub selector::operations-loop-name-preserved : goal.selector::operations-loop-name-preserved
selector::operations-loop-name-preserved t c =
    let e : Entry = (c.in-Some.name.now, c.in-Some.child.now) in
    let child = route c.args.pools.now.0 c.args.below.levels c.args.below.weight in
    let p : Op × Route = (c.in_ok-op.op, c.in_ok-tree.tree) in
    reads_go (named policy_op child) _ (length c.args.pools.now.1) c.args.below.levels c.args.below.weight c.args.count.now.routes (entries c.loop-name.name-iterator) (entries c.next.new.self) (string_bytes e.0, view e.1) p p.1 c.loop-name.policies.items c.push.new.self.items _ _ c.loop-name.count.routes c.route.new.count.routes c.loop-name.invariant (ap entries c.in-Some.ensures.steps) (named_ok policy_op child (string_bytes e.0) c.as_str-text.result.now (view e.1) c.as_str-text.ensures.value c.loop-name.count.routes c.in_ok-op.op c.in_ok-tree.tree c.route.new.count.routes c.in_ok-op.ensures c.in_ok-tree.ensures.gives) c.in_ok-push.ensures.items (ap seconds c.in_ok-push.ensures.items ∙ seconds_push c.loop-name.policies.items p) c.in_ok-tree.ensures.fits c.route.new.count.few

pub selector::by_operation-returns-clause-fits : goal.selector::by_operation-returns-clause-fits
selector::by_operation-returns-clause-fits t c =
    let ps = c.in_ok-policies.policies.items in
    subst (λ (r : Route). NodeFits (length c.args.pools.now.1) c.args.below.levels c.args.below.weight c.args.count.now.routes (ByOperation (policies_of ps r)) c.default_route.new.count.routes) (sym c.in_ok-default-2.ensures.ok) (ops_fit c.in_ok-default.default (length c.args.pools.now.1) c.args.below.levels c.args.below.weight c.args.count.now.routes c.operations.new.count.routes c.default_route.new.count.routes c.in_ok-default.ensures.fits ps c.in_ok-policies.ensures.fits)

-- ---- policies by prefix

pub selector::prefixes-returns-in_err-prefix-clause-gives : goal.selector::prefixes-returns-in_err-prefix-clause-gives
selector::prefixes-returns-in_err-prefix-clause-gives t c =
    let p = err_from_is_err_and c.from_residual.result c.from_residual.ensures.1 in
    let e : Entry = (c.in-Some.name.now, c.in-Some.child.now) in
    let child = route c.args.pools.now.0 c.args.below.levels c.args.below.weight in
    rw (p.1, p.2) (passed (fault_of c.in_err-prefix.field-0.0) (prefix_of c.as_str-text.result.now) (each (named prefix_of child) (entries c.args.map.now.entries) c.args.count.now.routes) c.in_err-prefix.ensures.gives (λ f k. stops (named prefix_of child) _ (entries c.loop-name.name-iterator) (entries c.next.new.self) (string_bytes e.0, view e.1) c.loop-name.policies.items c.loop-name.count.routes f c.loop-name.invariant.0.reads (ap entries c.in-Some.ensures.steps) (named_bad prefix_of child (string_bytes e.0) c.as_str-text.result.now (view e.1) c.as_str-text.ensures.value c.loop-name.count.routes f k)))

pub selector::prefixes-returns-in_err-tree-clause-gives : goal.selector::prefixes-returns-in_err-tree-clause-gives
selector::prefixes-returns-in_err-tree-clause-gives t c =
    let p = err_from_is_err_and c.from_residual-in_err-tree.result c.from_residual-in_err-tree.ensures.1 in
    let e : Entry = (c.in-Some.name.now, c.in-Some.child.now) in
    let child = route c.args.pools.now.0 c.args.below.levels c.args.below.weight in
    rw (p.1, p.2) (passed (fault_of c.in_err-tree.field-0.0) (child c.as_str-text.result.now (view e.1) c.loop-name.count.routes) (each (named prefix_of child) (entries c.args.map.now.entries) c.args.count.now.routes) c.in_err-tree.ensures.gives (λ f k. stops (named prefix_of child) _ (entries c.loop-name.name-iterator) (entries c.next.new.self) (string_bytes e.0, view e.1) c.loop-name.policies.items c.loop-name.count.routes f c.loop-name.invariant.0.reads (ap entries c.in-Some.ensures.steps) (named_stops prefix_of child (string_bytes e.0) c.as_str-text.result.now (view e.1) c.as_str-text.ensures.value c.loop-name.count.routes c.in_ok-prefix.prefix f c.in_ok-prefix.ensures.gives k)))

pub selector::prefixes-loop-name-preserved : goal.selector::prefixes-loop-name-preserved
selector::prefixes-loop-name-preserved t c =
    let e : Entry = (c.in-Some.name.now, c.in-Some.child.now) in
    let child = route c.args.pools.now.0 c.args.below.levels c.args.below.weight in
    let p : List ℕ × Route = (c.in_ok-prefix.prefix, c.in_ok-tree.tree) in (
      reads_go (named prefix_of child) _ (length c.args.pools.now.1) c.args.below.levels c.args.below.weight c.args.count.now.routes (entries c.loop-name.name-iterator) (entries c.next.new.self) (string_bytes e.0, view e.1) p p.1 c.loop-name.policies.items c.push.new.self.items _ _ c.loop-name.count.routes c.route.new.count.routes c.loop-name.invariant.0 (ap entries c.in-Some.ensures.steps) (named_ok prefix_of child (string_bytes e.0) c.as_str-text.result.now (view e.1) c.as_str-text.ensures.value c.loop-name.count.routes c.in_ok-prefix.prefix c.in_ok-tree.tree c.route.new.count.routes c.in_ok-prefix.ensures.gives c.in_ok-tree.ensures.gives) c.in_ok-push.ensures.items (ap seconds c.in_ok-push.ensures.items ∙ seconds_push c.loop-name.policies.items p) c.in_ok-tree.ensures.fits c.route.new.count.few,
      subst AreKeys (sym c.in_ok-push.ensures.items) (keys_push c.loop-name.policies.items p c.loop-name.invariant.1 c.in_ok-prefix.ensures.key),
    )

pub selector::by_prefix-returns-clause-fits : goal.selector::by_prefix-returns-clause-fits
selector::by_prefix-returns-clause-fits t c =
    let ps = c.in_ok-policies.policies.items in
    subst (λ (r : Route). NodeFits (length c.args.pools.now.1) c.args.below.levels c.args.below.weight c.args.count.now.routes (ByPrefix (prefixes_of ps r)) c.default_route.new.count.routes) (sym c.in_ok-wildcard-2.ensures.ok) (prefixes_fit c.in_ok-wildcard.wildcard (length c.args.pools.now.1) c.args.below.levels c.args.below.weight c.args.count.now.routes c.prefixes.new.count.routes c.default_route.new.count.routes c.in_ok-wildcard.ensures.fits ps c.in_ok-policies.ensures.keys c.in_ok-policies.ensures.fits)
