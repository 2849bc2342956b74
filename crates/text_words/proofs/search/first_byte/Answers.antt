use Rattle.text_words.proofs.Firsts.{near_is}
use Rattle.text_words.proofs.search.first_byte.Goals as goal

pub returns-then-bytes-lt-SHORT : goal.returns-then-bytes-lt-SHORT
returns-then-bytes-lt-SHORT c = near_is c.args.byte c.args.bytes.now c.first_near.result c.first_near.ensures
