use Rattle.gate_history.proofs.reading.generation_in.Goals as goal

pub returns-in-Err : goal.returns-in-Err
returns-in-Err c = c.line_fault.ensures c.args.history.now c.args.line.now c.in-Err.ensures
