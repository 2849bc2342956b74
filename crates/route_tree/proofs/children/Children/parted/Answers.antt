use Rattle.std.proofs.Common.{sym, ap, ◌∙◌}
use Rattle.route_tree.specs.After.{child_routes}
use Rattle.route_tree.proofs.ChildAt.{none_after, child_at}
use Rattle.route_tree.proofs.children.Children.parted.Goals as goal

pub returns-then-from-children : goal.returns-then-from-children
returns-then-from-children c =
    sym c.self.view_is ∙ none_after (child_routes c.self.inside.parent) c.list_of-children.result.now c.self.inside.from (c.list_of-children.ensures ∙ ap child_routes c.form.ensures.form) c.if-from-children.true

pub returns : goal.returns
returns c =
    sym c.self.view_is ∙ child_at (child_routes c.self.inside.parent) c.list_of-children.result.now c.self.inside.from c.in_ok-child.child _ (c.list_of-children.ensures ∙ ap child_routes c.form.ensures.form) c.if-from-children.false (c.in_ok-child.ensures ∙ c.index-children-from.is)
