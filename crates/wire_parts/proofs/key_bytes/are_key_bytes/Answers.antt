use Rattle.std.proofs.Common.{nat_eq, length, ap, ◌∙◌}
use Rattle.wire_parts.proofs.GroupLemmas.{all_is}
use Rattle.wire_parts.proofs.key_bytes.are_key_bytes.Goals as goal

pub returns : goal.returns
returns c = ap (λ n. nat_eq n (length c.args.text.now)) c.key_len.ensures.value ∙ all_is c.args.text.now
