use Rattle.std.proofs.Common.{◌≡◌, ◌≤◌, ◌-◌, ◌++◌, length, drop}
use Rattle.text_words.specs.Word.{words}
use Rattle.wire_meta.specs.Flags.{tokens_in}
use Rattle.wire_meta.proofs.asking.tokens.Given as goal

abbrev pub invariant-loop-word : goal.invariant-loop-word
invariant-loop-word l = record {
  inside : l.from ≤ length l.text;
  rest : l.tokens ++ tokens_in (words (drop l.from l.text)) ≡ tokens_in (words l.text);
}

abbrev pub decreases-loop-word : goal.decreases-loop-word
decreases-loop-word l = length l.text - l.from
