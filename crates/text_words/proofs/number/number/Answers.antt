use Rattle.std.proofs.Common.{arith, ap, subst, sym, ◌∙◌}
use Rattle.std.specs.Str.Parse.{AllDigits, digits_value}
use Rattle.std.proofs.lemmas.List.{take_all}
use Rattle.text_words.proofs.NumberLemmas.{digits_go_on, no_number, is_number_read, not_empty}
use Rattle.text_words.proofs.number.number.Goals as goal

pub returns-in-None : goal.returns-in-None
returns-in-None c = no_number c.args.word.now c.loop-byte.byte-index c.loop-byte.value c.loop-byte-test.true c.loop-byte.invariant.read c.in-None.ensures

pub loop-byte-preserved : goal.loop-byte-preserved
loop-byte-preserved c =
    let more = digits_go_on c.args.word.now c.loop-byte.byte-index c.loop-byte.value c.in-Some.next c.loop-byte-test.true c.loop-byte.invariant.digits c.loop-byte.invariant.read c.in-Some.ensures.0 c.in-Some.ensures.1 in
    record { digits = more.0; read = more.1; small = rw c.in-Some.ensures.1 c.in-Some.ensures.0.1 }

pub returns : goal.returns
returns c =
    let word = c.args.word.now in
    let whole = take_all c.loop-byte.byte-index word c.loop-byte-test.false in
    is_number_read word c.loop-byte.value (not_empty word (sym c.is_empty.ensures ∙ c.if-is_empty.false)) (omega arith) (subst (AllDigits 10) whole c.loop-byte.invariant.digits) (c.loop-byte.invariant.read ∙ ap (digits_value 10) whole) c.loop-byte.invariant.small
