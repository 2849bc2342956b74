use Rattle.std.proofs.Common.{sym, ◌∙◌}
use Rattle.mc_types.proofs.KeyLemmas.{all_good, not_empty}
use Rattle.mc_types.proofs.key.Key.read.Goals as goal

pub of_text-requires : goal.of_text-requires
of_text-requires c = record {
  some = not_empty c.args.text.now (sym c.is_empty.ensures ∙ c.if-is_empty.false);
  short = c.if-text-gt-KEY_LIMIT.false;
  bytes = all_good c.args.text.now (c.in-None.ensures);
}
