use Rattle.std.proofs.Common.{◌∙◌, ap, length}
use Rattle.std.specs.Prelude.{unwrap_or}
use Rattle.text_words.specs.Word.{is_no_space}
use Rattle.text_words.proofs.WordLemmas.{position-or}
use Rattle.wire_classic.proofs.next_key.spaces_len.Goals as goal

pub returns-clause-value : goal.returns-clause-value
returns-clause-value c = c.unwrap_or.ensures ∙ ap (λ o. unwrap_or o (length c.args.text.now)) c.first_other.ensures ∙ position-or is_no_space c.args.text.now
