use Rattle.gate_history.proofs.history_file.next_line.Goals as goal

pub returns-in-Err : goal.returns-in-Err
returns-in-Err c = c.line_fault.ensures c.args.history.now c.args.text.now c.args.began
