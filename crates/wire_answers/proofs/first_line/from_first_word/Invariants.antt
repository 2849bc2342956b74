use Rattle.std.proofs.Common.{◌≡◌, length}
use Rattle.wire_answers.specs.FirstLine.{from_first_word}
use Rattle.wire_answers.proofs.first_line.from_first_word.Given as goal

abbrev pub invariant-loop-text : goal.invariant-loop-text
invariant-loop-text l = from_first_word l.text ≡ from_first_word l.line

abbrev pub decreases-loop-text : goal.decreases-loop-text
decreases-loop-text l = length l.text
