use Rattle.std.proofs.Common.{◌≡◌, ◌++◌, ◌∷◌, [], ℕ, List, Bool, length, take}
use Rattle.route_tree.specs.Plan.{Plan}
use Rattle.gate_coverage.specs.Seen.{plan_of}
use Rattle.gate_growth.specs.Rows.{cell_servers, AreCellsOf}
use Rattle.gate_growth.proofs.ledger.row.cells_after.Given as goal

abbrev pub invariant-loop-cell : goal.invariant-loop-cell
invariant-loop-cell l =
    (cell_servers l.new.items ≡ cell_servers (take l.cell-index l.cells))
    × ((arbitrary : ℕ → Bool) (plans : List Plan) → length plans ≡ l.number → AreCellsOf arbitrary plans (take l.cell-index l.cells) → AreCellsOf arbitrary (plans ++ plan_of l.seen ∷ []) l.new.items)
