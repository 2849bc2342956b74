use Rattle.std.proofs.Common.{sym, ap, ap₂, ◌∙◌, arith}
use Rattle.route_tree.specs.Route.{ByPrefix}
use Rattle.route_tree.specs.RouteCode.{route_size}
use Rattle.route_tree.specs.Form.{route_of_form, prefixes_of}
use Rattle.route_tree.proofs.PlainTrees.{chosen_falls}
use Rattle.gate_coverage.specs.Doubted.{doubts}
use Rattle.gate_coverage.proofs.SurePools.{doubts_of_chosen}
use Rattle.gate_coverage.proofs.doubts.+doubts.Goals as goal

pub doubts-doubts-requires-in-ByPrefix : goal.doubts-doubts-requires-in-ByPrefix
doubts-doubts-requires-in-ByPrefix t c =
    let is = ap₂ (λ ps d. ByPrefix (prefixes_of ps d)) c.deref-in-ByPrefix.ensures.value c.deref-in-ByPrefix-2.ensures ∙ ap route_of_form (sym c.in-ByPrefix.is) ∙ c.form.ensures.form in
    let size = ap route_size is in
    let h = chosen_falls c.args.text.now (prefixes_of c.deref-in-ByPrefix.result.now c.deref-in-ByPrefix-2.result.now) in
    let e = ap route_size c.longest.ensures in
    (omega (arith, c.decreases, h, e, size), tt)

pub doubts-returns-in-ByPrefix : goal.doubts-returns-in-ByPrefix
doubts-returns-in-ByPrefix t c =
    let text = c.args.text.now in
    let pool = c.args.pool.now in
    let is = ap₂ (λ ps d. ByPrefix (prefixes_of ps d)) c.deref-in-ByPrefix.ensures.value c.deref-in-ByPrefix-2.ensures ∙ ap route_of_form (sym c.in-ByPrefix.is) ∙ c.form.ensures.form in
    let same = ap (doubts text pool) c.longest.ensures ∙ sym (doubts_of_chosen text pool (prefixes_of c.deref-in-ByPrefix.result.now c.deref-in-ByPrefix-2.result.now)) ∙ ap (doubts text pool) is in
    c.doubts-in-ByPrefix.ensures ∙ same
