use Rattle.std.proofs.Common.{arith}
use Rattle.text_words.proofs.WordLemmas.{none_left, next_is, rest_is}
use Rattle.text_words.proofs.word.next_word.Goals as goal

pub returns-then-start-text : goal.returns-then-start-text
returns-then-start-text c = none_left c.args.text.now c.args.at c.spaces_len.result (rw (rest_is c.args.text.now c.args.at) at c.spaces_len.ensures.value) c.if-start-text.true

pub returns : goal.returns
returns c = next_is c.args.text.now c.args.at c.spaces_len.result c.word_len.result (rw (rest_is c.args.text.now c.args.at) at c.spaces_len.ensures.value) (omega arith) c.if-start-text.false (rw (rest_is c.args.text.now _) at c.word_len.ensures.value) (omega arith)
