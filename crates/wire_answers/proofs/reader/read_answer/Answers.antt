use Rattle.std.proofs.Common.{IfOk, ℕ, List, subst}
use Rattle.wire_answers.specs.Reading.{ReadsAnswer}
use Rattle.wire_answers.proofs.reader.read_answer.Goals as goal

pub returns-clause-reads : goal.returns-clause-reads
returns-clause-reads c = subst (λ (t : List ℕ). IfOk c.read_received.result (ReadsAnswer c.args.ask.now t)) c.copied.ensures c.read_received.ensures.reads
