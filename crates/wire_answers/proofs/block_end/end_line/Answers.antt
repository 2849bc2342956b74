use Rattle.std.proofs.Common.{◌≡◌, take, [], ◌∷◌}
use Rattle.std.specs.Prelude.{codes}
use Rattle.text_words.specs.Word.{words}
use Rattle.wire_answers.proofs.EndLemmas.{too_long_not_open, line_not_open, too_long_line, other_line, is_false}
use Rattle.wire_answers.proofs.block_end.end_line.Goals as goal

pub returns-in-TooLong : goal.returns-in-TooLong
returns-in-TooLong c = (too_long_not_open c.args.bytes.now c.in-TooLong.ensures, too_long_line c.args.bytes.now c.in-TooLong.ensures)

pub returns-else-is_end : goal.returns-else-is_end
returns-else-is_end c = (
  line_not_open c.args.bytes.now c.in-At.end c.in-At.used c.in-At.ensures,
  other_line c.args.bytes.now c.in-At.end c.in-At.used c.in-At.ensures (is_false c.is_end.result (words (take c.in-At.end c.args.bytes.now) ≡ codes "END" ∷ []) c.is_end.ensures c.if-is_end.false),
)
