use Rattle.std.proofs.Common.{◌∙◌, ap, rules, not, nat_eq}
use Rattle.std.proofs.lemmas.Fn.{filter_same}
use Rattle.core_commands.specs.declared.key_lines.Standing.{Standing}
use Rattle.core_commands.specs.Lines.{others}
use Rattle.core_commands.proofs.key_lines.KeyLines.leave.Goals as goal

pub returns : goal.returns
returns c = filter_same _ (λ (it : Standing). not (nat_eq it.client c.args.client)) _ (λ x b f' k. search rules) _ _ c.retain.ensures.filtered ∙ ap (others c.args.client) c.self.view_is
