use Rattle.wire_classic.proofs.KeyLemmas.{spanned_alone}
use Rattle.wire_classic.proofs.retrieval.spanned.Goals as goal

pub returns-then-count-eq1 : goal.returns-then-count-eq1
returns-then-count-eq1 c = spanned_alone c.args.line.now c.args.at c.args.count c.args.last c.requires.count (c.requires.alone c.if-count-eq1.true)
