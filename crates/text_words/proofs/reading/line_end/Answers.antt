use Rattle.text_words.proofs.LineLemmas.{line_end_is}
use Rattle.text_words.proofs.reading.line_end.Goals as goal

pub returns : goal.returns
returns c = line_end_is c.args.bytes.now c.memchr.result (rw (← c.min.ensures) c.memchr.ensures)
