use Rattle.std.proofs.Common.{◌≡◌, ◌≤◌, ◌-◌, length, drop, slice_get}
use Rattle.text_words.specs.Word.{words}
use Rattle.wire_parts.proofs.parts.nth_word.Given as goal

abbrev pub invariant-loop : goal.invariant-loop
invariant-loop l = record {
  inside : l.at ≤ length l.line;
  rest : slice_get (words (drop l.at l.line)) (l.place - l.counter) ≡ slice_get (words (drop l.from l.line)) l.place;
}
