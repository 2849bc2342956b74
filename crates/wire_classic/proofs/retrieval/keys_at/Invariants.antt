use Rattle.std.proofs.Common.{◌≡◌, ◌≤◌, ◌+◌, ◌-◌, length, drop}
use Rattle.std.specs.List.{list_all}
use Rattle.text_words.specs.Word.{words}
use Rattle.wire_parts.specs.Tests.{is_key}
use Rattle.wire_classic.specs.KeysOfLine.{IsFirstKey}
use Rattle.wire_classic.proofs.retrieval.keys_at.Given as goal

abbrev pub invariant-loop-key : goal.invariant-loop-key
invariant-loop-key l = record {
  inside : l.from ≤ length l.line;
  few : l.count ≤ l.from;
  keys : list_all is_key (words (drop l.from l.line)) ≡ list_all is_key (words (drop l.at l.line));
  first : l.count ≡ 0 → l.from ≡ l.at;
  alone : l.count ≡ 1 → IsFirstKey l.line l.last (words (drop l.from l.line)) (words (drop l.at l.line));
  counted : l.count + length (words (drop l.from l.line)) ≡ length (words (drop l.at l.line));
}

abbrev pub decreases-loop-key : goal.decreases-loop-key
decreases-loop-key l = length l.line - l.from
