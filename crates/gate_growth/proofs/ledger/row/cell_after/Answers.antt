use Rattle.gate_growth.proofs.ledger.row.cell_after.Goals as goal

pub returns-clause-mark : goal.returns-clause-mark
returns-clause-mark c = λ arbitrary plans size of. c.after.ensures (arbitrary c.args.cell.server) plans size of
