use Rattle.std.proofs.Common.{arith}
use Rattle.text_words.proofs.LineLemmas.{open_is}
use Rattle.text_words.proofs.reading.line.Goals as goal

pub returns-in-None : goal.returns-in-None
returns-in-None c = open_is c.args.bytes.now (omega arith) c.in-None.ensures
