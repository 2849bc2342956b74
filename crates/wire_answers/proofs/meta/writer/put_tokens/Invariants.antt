use Rattle.std.proofs.Common.{◌≡◌, ◌++◌, length, take}
use Rattle.wire_answers.specs.MetaSpelling.{tokens_words, led}
use Rattle.wire_answers.proofs.meta.writer.put_tokens.Given as goal

abbrev pub invariant-loop-rest : goal.invariant-loop-rest
invariant-loop-rest l = record {
  written : l.out.items ++ led (tokens_words l.key l.fields l.rest) ≡ l.initial.out.items ++ led (tokens_words l.key l.fields l.tokens);
  old : take (length l.initial.out.items) l.out.items ≡ l.initial.out.items;
}

abbrev pub decreases-loop-rest : goal.decreases-loop-rest
decreases-loop-rest l = length l.rest
