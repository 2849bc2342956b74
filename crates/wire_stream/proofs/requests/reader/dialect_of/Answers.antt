use Rattle.wire_classic.proofs.WordTable.{none_of_two}
use Rattle.wire_stream.proofs.requests.reader.dialect_of.Goals as goal

pub returns-in-2-clause-meta : goal.returns-in-2-clause-meta
returns-in-2-clause-meta c is_meta = none_of_two c.args.word.now c.in-2.is
