use Rattle.std.proofs.Common.{◌≡◌, ◌++◌, take}
use Rattle.wire_meta.specs.Spelling.{meta_led, meta_token_words}
use Rattle.wire_meta.proofs.writer.put_tokens.Given as goal

abbrev pub invariant-loop-token : goal.invariant-loop-token
invariant-loop-token l = l.out.items ≡ l.initial.out.items ++ meta_led (meta_token_words (take l.token-index l.tokens))
