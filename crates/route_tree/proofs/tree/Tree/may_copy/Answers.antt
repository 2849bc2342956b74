use Rattle.std.proofs.Common.{sym, ◌∙◌}
use Rattle.route_tree.specs.At.{tree_at}
use Rattle.route_tree.proofs.Copies.{others_copy_nothing}
use Rattle.route_tree.proofs.tree.Tree.may_copy.Goals as goal

pub returns-else-is_get : goal.returns-else-is_get
returns-else-is_get c = c.if-is_get.false ∙ sym (others_copy_nothing c.args.op (tree_at c.args.self.now c.args.key.now) (sym c.is_get.ensures ∙ c.if-is_get.false))
