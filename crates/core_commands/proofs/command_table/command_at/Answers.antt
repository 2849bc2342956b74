use Rattle.std.proofs.Common.{sym}
use Rattle.core_commands.proofs.ByPlace.{none_here, value_here}
use Rattle.core_commands.proofs.command_table.command_at.Goals as goal

pub returns-in-None : goal.returns-in-None
returns-in-None c = record { value = sym (none_here c.args.number c.args.commands.now (sym c.in-None.ensures.index)) }

pub returns-in-Some-get_index : goal.returns-in-Some-get_index
returns-in-Some-get_index c = record { value = sym (value_here c.args.number c.args.commands.now c.in-Some.place c.in-Some-get_index.field-0-0.now c.in-Some-get_index.command.now (sym c.in-Some.ensures.index) (sym c.in-Some-get_index.ensures.entry)) }
