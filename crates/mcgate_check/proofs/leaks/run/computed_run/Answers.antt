use Rattle.std.proofs.Common.{map, subst}
use Rattle.cache_server.proofs.CallLemmas.{if_ok}
use Rattle.route_tree.specs.Route.{IsTree}
use Rattle.script_events.specs.Scripted.{scripted_of}
use Rattle.mcgate_check.proofs.Answering.{computed_run}
use Rattle.mcgate_check.proofs.leaks.run.computed_run.Goals as goal

pub returns : goal.returns
returns c =
    let is_tree = subst IsTree c.tree-tree.ensures.tree c.form-form.ensures.tree in
    if_ok c.script_for.result _ _ (λ script e. computed_run c.args.config.now c.args.gap.now c.args.key.now c.args.failures c.requires.taking c.requires.first c.requires.computed c.requires.good is_tree c.tree-tree.ensures.below (map scripted_of script.events.items) e) c.script_for.ensures
