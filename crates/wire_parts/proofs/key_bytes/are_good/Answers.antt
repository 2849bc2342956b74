use Rattle.std.proofs.Common.{◌∙◌, true}
use Rattle.wire_parts.proofs.GroupLemmas.{all_by_fold}
use Rattle.wire_parts.proofs.key_bytes.are_good.Goals as goal

pub returns : goal.returns
returns c = c.tested.ensures ∙ all_by_fold true c.args.group.now
