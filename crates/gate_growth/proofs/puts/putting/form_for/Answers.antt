use Rattle.std.proofs.Common.{◌≤◌, ap, ◌∙◌, sym, subst}
use Rattle.route_tree.specs.Plan.{Plan}
use Rattle.route_tree.specs.PlanCode.{plan_size}
use Rattle.gate_coverage.specs.Seen.{plan_of}
use Rattle.gate_coverage.proofs.Left.{left_size}
use Rattle.gate_growth.specs.PutsComputed.{may_store}
use Rattle.gate_growth.proofs.Left.{left_stores}
use Rattle.gate_growth.proofs.puts.putting.form_for.Goals as goal

pub returns-clause-stores : goal.returns-clause-stores
returns-clause-stores c = λ s. ap (may_store c.args.op s) c.left.ensures ∙ left_stores c.args.op s (plan_of c.args.seen)

pub returns-clause-size : goal.returns-clause-size
returns-clause-size c = subst (λ (p : Plan). plan_size p ≤ plan_size (plan_of c.args.seen)) (sym c.left.ensures) (left_size c.args.op (plan_of c.args.seen))
