use Rattle.std.proofs.Common.{length}
use Rattle.gate_growth.proofs.ledger.page.+add_cells.Given as goal

abbrev pub decreases-add_cells : goal.decreases-add_cells
decreases-add_cells l = length l.named.now
