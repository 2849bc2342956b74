use Rattle.std.proofs.Common.{length, sym, subst}
use Rattle.route_tree.specs.Route.{Route}
use Rattle.route_json.specs.Fits.{NodeFits}
use Rattle.route_json.proofs.Fitting.{listed_fits}
use Rattle.route_json.proofs.leaf.short_list.Goals as goal

pub returns-clause-fits : goal.returns-clause-fits
returns-clause-fits c =
    let trees = c.in_ok-trees in
    subst (λ (r : Route). NodeFits (length c.args.pools.now.1) c.args.below.levels c.args.below.weight c.args.count.now.routes r c.server_routes.new.count.routes) (sym c.listed.ensures) (listed_fits c.args.lists (length c.args.pools.now.1) c.args.below.levels c.args.below.weight c.args.count.now.routes c.server_routes.new.count.routes trees.trees.items trees.ensures.some trees.ensures.fits)
