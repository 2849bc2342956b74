use Rattle.std.proofs.Common.{◌++◌, ℕ, List, ◌∙◌, ap}
use Rattle.route_tree.specs.Place.{sizes}
use Rattle.gate_growth.proofs.Refining.{tree_sizes}
use Rattle.gate_growth.proofs.ledger.refining.finer_modulus.Goals as goal

pub multiple_with-requires-clause-sizes : goal.multiple_with-requires-clause-sizes
multiple_with-requires-clause-sizes c =
    let tree = c.args.tree.now in
    tree_sizes c.deref.result.now tree c.form-form.ensures.tree (c.deref.ensures.value ∙ c.in_ok-add_sizes.ensures ∙ ap (λ (l : List ℕ). l ++ sizes tree) c.new-list.ensures.items)
