use Rattle.std.proofs.Common.{◌+◌, ap, ◌∙◌}
use Rattle.text_words.proofs.WordLemmas.{rest_is}
use Rattle.wire_parts.proofs.GroupLemmas.{after_good}
use Rattle.wire_parts.proofs.key_bytes.key_len.Goals as goal

pub returns-clause-value : goal.returns-clause-value
returns-clause-value c =
    let len = c.groups_end-len.result in
    ap (λ n. len + n) (rw (rest_is c.args.text.now len) at c.rest_len.ensures.value) ∙ after_good len c.args.text.now c.groups_end-len.ensures.within c.groups_end-len.ensures.good
