use Rattle.std.proofs.Common.{◌++◌, sym, ap, ap₂, ◌∙◌, arith}
use Rattle.std.proofs.lemmas.Result.{IfOk-weaker}
use Rattle.route_tree.specs.Route.{ByPrefix}
use Rattle.route_tree.specs.RouteCode.{route_size}
use Rattle.route_tree.specs.Form.{route_of_form, prefixes_of}
use Rattle.route_tree.specs.Place.{sizes}
use Rattle.route_tree.proofs.PlainTrees.{chosen_falls}
use Rattle.gate_check.specs.Resolved.{resolved}
use Rattle.gate_check.proofs.Sizing.{resolved_is_chosen}
use Rattle.gate_check.proofs.places.collecting.+resolved.Goals as goal

pub add_sizes_at-add_sizes_at-requires-in-ByPrefix : goal.add_sizes_at-add_sizes_at-requires-in-ByPrefix
add_sizes_at-add_sizes_at-requires-in-ByPrefix t c =
    let is = ap₂ (λ ps d. ByPrefix (prefixes_of ps d)) c.deref-in-ByPrefix.ensures.value c.deref-in-ByPrefix-2.ensures ∙ ap route_of_form (sym c.in-ByPrefix.is) ∙ c.form.ensures.form in
    let size = ap route_size is in
    let h = chosen_falls c.args.text.now (prefixes_of c.deref-in-ByPrefix.result.now c.deref-in-ByPrefix-2.result.now) in
    let e = ap route_size c.longest.ensures in
    (omega (arith, c.decreases, h, e, size), tt)

pub add_sizes_at-returns-in-ByPrefix : goal.add_sizes_at-returns-in-ByPrefix
add_sizes_at-returns-in-ByPrefix t c =
    let text = c.args.text.now in
    let is = ap₂ (λ ps d. ByPrefix (prefixes_of ps d)) c.deref-in-ByPrefix.ensures.value c.deref-in-ByPrefix-2.ensures ∙ ap route_of_form (sym c.in-ByPrefix.is) ∙ c.form.ensures.form in
    let same = ap (resolved text) c.longest.ensures ∙ sym (resolved_is_chosen text (prefixes_of c.deref-in-ByPrefix.result.now c.deref-in-ByPrefix-2.result.now)) ∙ ap (resolved text) is in
    IfOk-weaker c.add_sizes_at-in-ByPrefix.result _ _ (λ p h. h ∙ ap (λ r. c.args.list.now.items ++ sizes r) same) c.add_sizes_at-in-ByPrefix.ensures
