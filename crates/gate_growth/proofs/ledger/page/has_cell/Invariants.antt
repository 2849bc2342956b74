use Rattle.std.proofs.Common.{◌≡◌, drop}
use Rattle.gate_growth.specs.Pages.{has_cell}
use Rattle.gate_growth.proofs.ledger.page.has_cell.Given as goal

abbrev pub invariant-loop-cell : goal.invariant-loop-cell
invariant-loop-cell l = has_cell l.cells l.server ≡ has_cell (drop l.cell-index l.cells) l.server
