use Rattle.std.proofs.Common.{◌∙◌, subst}
use Rattle.std.specs.Prelude.{IfOk}
use Rattle.route_tree.specs.Route.{Route}
use Rattle.serve_wire.specs.declared.sockets.sockets.Sockets.{Sockets}
use Rattle.serve_proxy.specs.declared.proxy.ProxyEnd.{ProxyEnd}
use Rattle.serve_proxy.specs.Beginning.{BeginsUnchecked}
use Rattle.mcgate.specs.declared.serve.Servable.TheVariants as servables
use Rattle.mcgate.proofs.Loads.{begins_on}
use Rattle.mcgate.proofs.serve.end_over.Goals as goal

pub returns-in-Accepted : goal.returns-in-Accepted
returns-in-Accepted c = record { core = begins_on (λ (end : ProxyEnd Sockets). end.core.value) c.args.servable (servables.Accepted c.in-Accepted.accepted) c.args.begun c.args.settings c.sharing_for-settings.result c.tree.result.now c.new.result c.in-Accepted.is (c.config.result.now, c.config.ensures.config, c.tree.ensures.tree) c.sharing_for-settings.ensures c.new.ensures.core; ends = c.new.ensures.ends; texts = c.new.ensures.texts; wire = c.new.ensures.wire }

pub returns-in_ok-tree-in-Unchecked : goal.returns-in_ok-tree-in-Unchecked
returns-in_ok-tree-in-Unchecked c =
    let sharing = c.sharing_for-settings-in-Unchecked.result in
    let begins = subst (λ (tree : Route). IfOk c.unchecked.result (λ end. BeginsUnchecked tree (record c.args.settings { sharing = sharing }) end.core.value)) (c.in_ok-tree-in-Unchecked.ensures ∙ c.tree-in-Unchecked.ensures.tree) c.unchecked.ensures.core in
    record { core = begins_on (λ (end : ProxyEnd Sockets). end.core.value) c.args.servable (servables.Unchecked c.in-Unchecked.config) c.args.begun c.args.settings sharing c.in_ok-tree-in-Unchecked.tree c.unchecked.result c.in-Unchecked.is (c.in_ok-tree-in-Unchecked.ensures ∙ c.tree-in-Unchecked.ensures.tree) c.sharing_for-settings-in-Unchecked.ensures begins; ends = c.unchecked.ensures.ends; texts = c.unchecked.ensures.texts; wire = c.unchecked.ensures.wire }
