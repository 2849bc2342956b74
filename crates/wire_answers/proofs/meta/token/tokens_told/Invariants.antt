use Rattle.std.proofs.Common.{◌≡◌, ◌≤◌, ◌-◌, length, drop}
use Rattle.text_words.specs.Word.{words}
use Rattle.wire_answers.specs.Told.{none_told}
use Rattle.wire_answers.specs.Tokens.{with_words}
use Rattle.wire_answers.proofs.meta.token.tokens_told.Given as goal

abbrev pub invariant-loop-word : goal.invariant-loop-word
invariant-loop-word l = record {
  inside : l.from ≤ length l.line;
  told : with_words l.ask (words (drop l.from l.line)) l.told ≡ with_words l.ask (words (drop l.at l.line)) none_told;
}

abbrev pub decreases-loop-word : goal.decreases-loop-word
decreases-loop-word l = length l.line - l.from
