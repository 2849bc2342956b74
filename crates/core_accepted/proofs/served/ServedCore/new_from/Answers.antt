use Rattle.std.proofs.Common.{Some, ◌∙◌, sym, ap, subst}
use Rattle.route_tree.specs.Route.{Route}
use Rattle.route_json.specs.Configuration.{Configuration}
use Rattle.core_proxy.specs.CoreState.{IsNewCore}
use Rattle.core_accepted.proofs.Growing.{same_last}
use Rattle.core_accepted.proofs.Keeping.{new_is_led}
use Rattle.core_accepted.proofs.served.ServedCore.new_from.Goals as goal

pub returns : goal.returns
returns c =
    let g = c.in_ok-generations.ensures in
    let same = same_last c.args.accepted c.config.result.now g.0 c.config.ensures.config g.1 in
    new_is_led c.args.accepted g.0 c.args.begun c.args.limits c.unchecked.result c.in_ok-generations.generations c.tally_for.result g.1 g.2
    (subst (λ (t : Route). IsNewCore t c.args.limits c.unchecked.result) (c.in_ok-tree.ensures ∙ c.tree.ensures.tree ∙ ap (λ (k : Configuration). k.tree) same) c.unchecked.ensures)
    c.tally_for.ensures
