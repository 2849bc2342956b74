use Rattle.std.proofs.Common.{◌≡◌, ◌≤◌, ap, ◌∙◌, sym, subst}
use Rattle.route_tree.specs.Plan.{Plan}
use Rattle.route_tree.specs.PlanCode.{plan_size}
use Rattle.gate_coverage.specs.Computed.{can_fail, hits, shown, copied, kept}
use Rattle.gate_coverage.specs.Asked.{asks}
use Rattle.gate_coverage.specs.Seen.{plan_of}
use Rattle.gate_coverage.proofs.Left.{left_fails, left_hits, left_shown, left_copied, left_asks, left_kept, left_size}
use Rattle.gate_coverage.proofs.seen.Seen.form.Goals as goal

pub returns-clause-fails : goal.returns-clause-fails
returns-clause-fails c = ap (can_fail c.args.op) c.left.ensures ∙ left_fails c.args.op (plan_of c.args.self)

pub returns-clause-hits : goal.returns-clause-hits
returns-clause-hits c = ap (hits c.args.op) c.left.ensures ∙ left_hits c.args.op (plan_of c.args.self)

pub returns-clause-shows : goal.returns-clause-shows
returns-clause-shows c = λ s. ap (shown c.args.op s) c.left.ensures ∙ left_shown c.args.op s (plan_of c.args.self)

pub returns-clause-copies : goal.returns-clause-copies
returns-clause-copies c = λ s. ap (copied c.args.op s) c.left.ensures ∙ left_copied c.args.op s (plan_of c.args.self)

pub returns-clause-asks : goal.returns-clause-asks
returns-clause-asks c = ap (asks c.args.op) c.left.ensures ∙ left_asks c.args.op (plan_of c.args.self)

pub returns-clause-keeps : goal.returns-clause-keeps
returns-clause-keeps c = λ s. ap (kept c.args.op s) c.left.ensures ∙ left_kept c.args.op s (plan_of c.args.self)

pub returns-clause-size : goal.returns-clause-size
returns-clause-size c = subst (λ (p : Plan). plan_size p ≤ plan_size (plan_of c.args.self)) (sym c.left.ensures) (left_size c.args.op (plan_of c.args.self))
