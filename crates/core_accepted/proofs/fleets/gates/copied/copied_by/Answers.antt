use Rattle.std.proofs.Common.{◌≡◌, ◌++◌, ◌∙◌, None, sym, ap}
use Rattle.route_tree.specs.Place.{prefixes}
use Rattle.core_accepted.proofs.Copying.{copies_keys, some_key, no_key}
use Rattle.core_accepted.proofs.fleets.gates.copied.copied_by.Goals as goal

pub returns-then-copies : goal.returns-then-copies
returns-then-copies c = copies_keys c.args.tree.now c.form-form.ensures.tree None tt (λ hash. sym (c.copies.ensures hash) ∙ c.if-copies.true)

pub returns-in-Some : goal.returns-in-Some
returns-in-Some c =
    let tree = c.args.tree.now in
    let all = c.deref.ensures.value ∙ c.in_ok-add_prefixes.ensures ∙ ap (λ l. l ++ prefixes tree) c.new-texts.ensures.items in
    some_key tree c.form-form.ensures.tree c.deref.result.now all c.in-Some.text c.in-Some.ensures

pub returns : goal.returns
returns c =
    let tree = c.args.tree.now in
    let all = c.deref.ensures.value ∙ c.in_ok-add_prefixes.ensures ∙ ap (λ l. l ++ prefixes tree) c.new-texts.ensures.items in
    no_key tree c.form-form.ensures.tree c.deref.result.now all (λ hash. sym (c.copies.ensures hash) ∙ c.if-copies.false) c.in-None.ensures
