use Rattle.std.proofs.Common.{◌≡◌, ℕ, List, Bool, length, take}
use Rattle.route_tree.specs.Plan.{Plan}
use Rattle.gate_coverage.specs.Seen.{plan_of}
use Rattle.gate_growth.specs.Rows.{AreCellsOf, IfRefused}
use Rattle.gate_growth.proofs.ledger.row.first_refused.Given as goal

abbrev pub invariant-loop-cell : goal.invariant-loop-cell
invariant-loop-cell l =
    (arbitrary : ℕ → Bool) (plans : List Plan) → length plans ≡ l.number → AreCellsOf arbitrary plans l.cells → IfRefused arbitrary plans (plan_of l.seen) (take l.cell-index l.cells) l.best
