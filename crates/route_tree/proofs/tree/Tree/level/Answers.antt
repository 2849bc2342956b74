use Rattle.route_tree.proofs.PlainTrees.{plan_plain}
use Rattle.route_tree.proofs.tree.Tree.level.Goals as goal

pub returns-clause-plan : goal.returns-clause-plan
returns-clause-plan c = plan_plain c.args.hash c.args.text.now c.args.self.now c.form-form.ensures.tree
