use Rattle.std.proofs.Common.{◌+◌, sym, ◌∙◌, arith}
use Rattle.std.proofs.lemmas.List.{drop-drop}
use Rattle.text_words.proofs.WordLemmas.{none_left, rest_is}
use Rattle.wire_classic.proofs.KeyLemmas.{key_is, other_is}
use Rattle.wire_classic.proofs.next_key.next_key.Goals as goal

pub returns-then-start-line : goal.returns-then-start-line
returns-then-start-line c = none_left c.args.line.now c.args.at c.spaces_len.result (rw (rest_is c.args.line.now c.args.at) at c.spaces_len.ensures.value) c.if-start-line.true

pub returns-then-are_key : goal.returns-then-are_key
returns-then-are_key c =
    let line = c.args.line.now in
    let at = c.args.at in
    let n = c.spaces_len.result in
    let len = c.key_len-len.result in
    key_is line at n (rw (rest_is line at) at c.spaces_len.ensures.value) (omega arith) c.if-start-line.false len (rw (rest_is line (at + n)) at c.key_len-len.ensures.value)
    (rw (drop-drop len (at + n) line) (rw (rest_is line (at + n + len)) at (sym c.are_key.ensures ∙ c.if-are_key.true)))

pub returns-else-are_key : goal.returns-else-are_key
returns-else-are_key c =
    let line = c.args.line.now in
    let at = c.args.at in
    let n = c.spaces_len.result in
    let len = c.key_len-len.result in
    other_is line at n (rw (rest_is line at) at c.spaces_len.ensures.value) (omega arith) c.if-start-line.false len (rw (rest_is line (at + n)) at c.key_len-len.ensures.value)
    (rw (drop-drop len (at + n) line) (rw (rest_is line (at + n + len)) at (sym c.are_key.ensures ∙ c.if-are_key.false)))
