use Rattle.text_words.proofs.Firsts.{first_is}
use Rattle.text_words.proofs.search.first_far.Goals as goal

pub returns : goal.returns
returns c = first_is c.args.byte c.args.bytes.now c.memchr.result c.memchr.ensures
