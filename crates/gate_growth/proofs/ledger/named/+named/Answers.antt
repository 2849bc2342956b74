use Rattle.std.proofs.Common.{◌≡◌, ◌++◌, ℕ, List, sym, ap, ap₂, ◌∙◌, arith}
use Rattle.std.proofs.lemmas.Result.{IfOk-weaker}
use Rattle.route_tree.specs.Route.{ByPrefix}
use Rattle.route_tree.specs.RouteCode.{route_size}
use Rattle.route_tree.specs.Form.{route_of_form, prefixes_of}
use Rattle.route_tree.specs.At.{plain_for}
use Rattle.route_tree.specs.Servers.{servers}
use Rattle.route_tree.proofs.PlainTrees.{plain_for_chosen, chosen_falls}
use Rattle.gate_growth.proofs.ledger.named.+named.Goals as goal

pub add_servers-add_servers-requires-in-ByPrefix : goal.add_servers-add_servers-requires-in-ByPrefix
add_servers-add_servers-requires-in-ByPrefix t c =
    let is = ap₂ (λ ps d. ByPrefix (prefixes_of ps d)) c.deref-in-ByPrefix.ensures.value c.deref-in-ByPrefix-2.ensures ∙ ap route_of_form (sym c.in-ByPrefix.is) ∙ c.form.ensures.form in
    let size = ap route_size is in
    let h = chosen_falls c.args.text.now (prefixes_of c.deref-in-ByPrefix.result.now c.deref-in-ByPrefix-2.result.now) in
    let e = ap route_size c.longest.ensures in
    (omega (arith, c.decreases, h, e, size), tt)

pub add_servers-returns-in-ByPrefix : goal.add_servers-returns-in-ByPrefix
add_servers-returns-in-ByPrefix t c =
    let plain = plain_for c.args.hash c.args.text.now in
    let is = ap₂ (λ ps d. ByPrefix (prefixes_of ps d)) c.deref-in-ByPrefix.ensures.value c.deref-in-ByPrefix-2.ensures ∙ ap route_of_form (sym c.in-ByPrefix.is) ∙ c.form.ensures.form in
    let same = ap plain c.longest.ensures ∙ sym (plain_for_chosen c.args.hash c.args.text.now (prefixes_of c.deref-in-ByPrefix.result.now c.deref-in-ByPrefix-2.result.now)) ∙ ap plain is in
    let new : List ℕ = c.add_servers-in-ByPrefix.new.list.items in
    let old : List ℕ = c.args.list.now.items in
    IfOk-weaker c.add_servers-in-ByPrefix.result (λ p. new ≡ old ++ servers (plain c.longest.result.now)) (λ p. new ≡ old ++ servers (plain c.args.tree.now)) (λ p h. h ∙ ap (λ r. old ++ servers r) same) c.add_servers-in-ByPrefix.ensures
