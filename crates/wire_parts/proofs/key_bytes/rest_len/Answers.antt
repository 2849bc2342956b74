use Rattle.std.proofs.Common.{◌∙◌, ap, length}
use Rattle.std.specs.Prelude.{unwrap_or}
use Rattle.mc_types.specs.KeyText.{is_bad_byte}
use Rattle.text_words.proofs.WordLemmas.{position-or}
use Rattle.wire_parts.proofs.key_bytes.rest_len.Goals as goal

pub returns-clause-value : goal.returns-clause-value
returns-clause-value c = c.unwrap_or.ensures ∙ ap (λ o. unwrap_or o (length c.args.text.now)) c.first_bad_byte.ensures ∙ position-or is_bad_byte c.args.text.now
