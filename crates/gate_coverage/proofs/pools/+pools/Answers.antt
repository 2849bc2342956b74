use Rattle.std.proofs.Common.{◌++◌, sym, ap, ap₂, ◌∙◌, arith}
use Rattle.std.proofs.lemmas.Result.{IfOk-weaker}
use Rattle.route_tree.specs.Route.{ByPrefix}
use Rattle.route_tree.specs.RouteCode.{route_size}
use Rattle.route_tree.specs.Form.{route_of_form, prefixes_of}
use Rattle.route_tree.proofs.PlainTrees.{chosen_falls}
use Rattle.gate_coverage.specs.Pools.{shown_pools}
use Rattle.gate_coverage.proofs.TakenPools.{pools_of_chosen}
use Rattle.gate_coverage.proofs.pools.+pools.Goals as goal

pub add_pools-add_pools-requires-in-ByPrefix : goal.add_pools-add_pools-requires-in-ByPrefix
add_pools-add_pools-requires-in-ByPrefix t c =
    let is = ap₂ (λ ps d. ByPrefix (prefixes_of ps d)) c.deref-in-ByPrefix.ensures.value c.deref-in-ByPrefix-2.ensures ∙ ap route_of_form (sym c.in-ByPrefix.is) ∙ c.form.ensures.form in
    let size = ap route_size is in
    let h = chosen_falls c.args.text.now (prefixes_of c.deref-in-ByPrefix.result.now c.deref-in-ByPrefix-2.result.now) in
    let e = ap route_size c.longest.ensures in
    (omega (arith, c.decreases, h, e, size), tt)

pub add_pools-returns-in-ByPrefix : goal.add_pools-returns-in-ByPrefix
add_pools-returns-in-ByPrefix t c =
    let text = c.args.text.now in
    let sought = c.args.sought in
    let is = ap₂ (λ ps d. ByPrefix (prefixes_of ps d)) c.deref-in-ByPrefix.ensures.value c.deref-in-ByPrefix-2.ensures ∙ ap route_of_form (sym c.in-ByPrefix.is) ∙ c.form.ensures.form in
    let those = shown_pools text sought.op sought.shows sought.copies in
    let same = ap those c.longest.ensures ∙ sym (pools_of_chosen text sought.op sought.shows sought.copies (prefixes_of c.deref-in-ByPrefix.result.now c.deref-in-ByPrefix-2.result.now)) ∙ ap those is in
    IfOk-weaker c.add_pools-in-ByPrefix.result _ _ (λ p h. h ∙ ap (λ r. c.args.pools.now.items ++ r) same) c.add_pools-in-ByPrefix.ensures
