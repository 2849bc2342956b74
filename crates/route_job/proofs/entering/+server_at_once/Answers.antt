use Rattle.std.proofs.Common.{sym, ap, ap₂, ◌∙◌, arith, None}
use Rattle.std.proofs.lemmas.Option.{IfSome_then}
use Rattle.route_tree.specs.Tag.{key_hash}
use Rattle.route_tree.specs.Route.{ByPrefix}
use Rattle.route_tree.specs.RouteCode.{route_size}
use Rattle.route_tree.specs.Form.{route_of_form, prefixes_of}
use Rattle.route_tree.specs.At.{plain_for}
use Rattle.route_tree.specs.Chosen.{chosen}
use Rattle.route_tree.proofs.PlainTrees.{plain_for_chosen, chosen_falls}
use Rattle.route_job.proofs.entering.+server_at_once.Goals as goal

pub server_at_once-requires : goal.server_at_once-requires
server_at_once-requires t c =
    let is = ap₂ (λ ps d. ByPrefix (prefixes_of ps d)) c.deref-in-ByPrefix.ensures.value c.deref-in-ByPrefix-2.ensures ∙ ap route_of_form (sym c.in-ByPrefix.is) ∙ c.form.ensures.form in
    let size = ap route_size is in
    let h = chosen_falls c.as_bytes.result.now (prefixes_of c.deref-in-ByPrefix.result.now c.deref-in-ByPrefix-2.result.now) in
    let e = ap route_size c.longest.ensures in
    (omega (arith, c.decreases, h, e, size), tt)

pub returns-in-ByPrefix : goal.returns-in-ByPrefix
returns-in-ByPrefix t c =
    let is = ap₂ (λ ps d. ByPrefix (prefixes_of ps d)) c.deref-in-ByPrefix.ensures.value c.deref-in-ByPrefix-2.ensures ∙ ap route_of_form (sym c.in-ByPrefix.is) ∙ c.form.ensures.form in
    let key = c.args.key.now in
    let hash = key_hash key in
    let there = c.longest.ensures ∙ ap (λ x. chosen x (prefixes_of c.deref-in-ByPrefix.result.now c.deref-in-ByPrefix-2.result.now) None) c.as_bytes.ensures in
    let e = ap (plain_for hash key) there ∙ sym (plain_for_chosen hash key (prefixes_of c.deref-in-ByPrefix.result.now c.deref-in-ByPrefix-2.result.now)) ∙ ap (plain_for hash key) is in
    IfSome_then c.server_at_once.result c.server_at_once.ensures (λ server h. sym e ∙ h)
