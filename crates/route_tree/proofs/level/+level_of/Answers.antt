use Rattle.std.proofs.Common.{◌≡◌, sym, ap, ap₂, ◌∙◌, arith}
use Rattle.std.proofs.lemmas.Result.{IfOk-weaker}
use Rattle.route_tree.specs.Route.{ByPrefix}
use Rattle.route_tree.specs.RouteCode.{route_size}
use Rattle.route_tree.specs.Form.{route_of_form, prefixes_of}
use Rattle.route_tree.specs.At.{plain_for}
use Rattle.route_tree.specs.Levels.{plan_of_level}
use Rattle.route_tree.proofs.PlainTrees.{plain_for_chosen, chosen_falls}
use Rattle.route_tree.proofs.level.+level_of.Goals as goal

pub level_of-requires : goal.level_of-requires
level_of-requires t c =
    let is = ap₂ (λ ps d. ByPrefix (prefixes_of ps d)) c.deref-in-ByPrefix.ensures.value c.deref-in-ByPrefix-2.ensures ∙ ap route_of_form (sym c.in-ByPrefix.is) ∙ c.form.ensures.form in
    let size = ap route_size is in
    let h = chosen_falls c.args.text.now (prefixes_of c.deref-in-ByPrefix.result.now c.deref-in-ByPrefix-2.result.now) in
    let e = ap route_size c.longest.ensures in
    (omega (arith, c.decreases, h, e, size), tt)

pub returns-in-ByPrefix : goal.returns-in-ByPrefix
returns-in-ByPrefix t c =
    let is = ap₂ (λ ps d. ByPrefix (prefixes_of ps d)) c.deref-in-ByPrefix.ensures.value c.deref-in-ByPrefix-2.ensures ∙ ap route_of_form (sym c.in-ByPrefix.is) ∙ c.form.ensures.form in
    let e = ap (plain_for c.args.hash c.args.text.now) c.longest.ensures ∙ sym (plain_for_chosen c.args.hash c.args.text.now (prefixes_of c.deref-in-ByPrefix.result.now c.deref-in-ByPrefix-2.result.now)) ∙ ap (plain_for c.args.hash c.args.text.now) is in
    IfOk-weaker c.level_of.result (λ level. plan_of_level c.args.hash c.args.text.now level ≡ plain_for c.args.hash c.args.text.now c.longest.result.now) (λ level. plan_of_level c.args.hash c.args.text.now level ≡ plain_for c.args.hash c.args.text.now c.args.tree.now) (λ level h. h ∙ e) c.level_of.ensures
