use Rattle.std.proofs.Common.{sym, ap, subst}
use Rattle.route_tree.specs.Plan.{Plan, IsPlan}
use Rattle.route_tree.proofs.PlainTrees.{plan_plain}
use Rattle.gate_coverage.specs.Seen.{plan_of}
use Rattle.gate_coverage.proofs.seen.Seen.lawful.Goals as goal

pub returns-in-Tree : goal.returns-in-Tree
returns-in-Tree c = subst (λ (p : Plan). IsPlan p) (ap plan_of (sym c.in-Tree.is)) (plan_plain _ _ _ c.form-form-in-Tree.ensures.tree)
