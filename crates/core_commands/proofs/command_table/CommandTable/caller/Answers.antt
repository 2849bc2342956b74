use Rattle.std.proofs.Common.{nat_eq, sym, refl, ap, ◌∙◌}
use Rattle.indexmap.specs.IndexMap.{get}
use Rattle.core_commands.proofs.command_table.CommandTable.caller.Goals as goal

pub returns-then-has_call_out : goal.returns-then-has_call_out
returns-then-has_call_out c = (c.in_ok-command.command.now, sym (c.in_ok-command.ensures.value ∙ ap (λ m. get nat_eq m c.args.number) c.self.view_is), sym c.if-has_call_out.ensures, refl)
