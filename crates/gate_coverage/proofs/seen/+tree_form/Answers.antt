use Rattle.std.proofs.Common.{sym, ap, ap₂, ◌∙◌, arith}
use Rattle.route_tree.specs.Route.{ByPrefix}
use Rattle.route_tree.specs.RouteCode.{route_size}
use Rattle.route_tree.specs.Form.{route_of_form, prefixes_of}
use Rattle.route_tree.specs.At.{plain_for}
use Rattle.route_tree.proofs.PlainTrees.{chosen_falls, plain_for_chosen}
use Rattle.gate_coverage.specs.Seen.{for_op}
use Rattle.gate_coverage.proofs.seen.+tree_form.Goals as goal

pub tree_form-tree_form-requires : goal.tree_form-tree_form-requires
tree_form-tree_form-requires t c =
    let is = ap₂ (λ ps d. ByPrefix (prefixes_of ps d)) c.deref-in-ByPrefix.ensures.value c.deref-in-ByPrefix-2.ensures ∙ ap route_of_form (sym c.in-ByPrefix.is) ∙ c.form.ensures.form in
    let size = ap route_size is in
    let h = chosen_falls c.args.at.now.text.now (prefixes_of c.deref-in-ByPrefix.result.now c.deref-in-ByPrefix-2.result.now) in
    let e = ap route_size c.longest.ensures in
    (omega (arith, c.decreases, h, e, size), tt)

pub tree_form-returns-in-ByPrefix : goal.tree_form-returns-in-ByPrefix
tree_form-returns-in-ByPrefix t c =
    let text = c.args.at.now.text.now in
    let hash = c.args.at.now.hash in
    let is = ap₂ (λ ps d. ByPrefix (prefixes_of ps d)) c.deref-in-ByPrefix.ensures.value c.deref-in-ByPrefix-2.ensures ∙ ap route_of_form (sym c.in-ByPrefix.is) ∙ c.form.ensures.form in
    let same = ap (plain_for hash text) c.longest.ensures ∙ sym (plain_for_chosen hash text (prefixes_of c.deref-in-ByPrefix.result.now c.deref-in-ByPrefix-2.result.now)) ∙ ap (plain_for hash text) is in
    c.tree_form.ensures ∙ ap (for_op c.args.op) same
