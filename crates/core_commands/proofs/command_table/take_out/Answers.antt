use Rattle.std.proofs.Common.{nat_eq, sym, ◌∙◌}
use Rattle.indexmap.proofs.MapLemmas.{swap_remove_entry-found, swap_remove_entry-missing}
use Rattle.core_commands.proofs.ByPlace.{none_here, none_gone, value_here, gone_here}
use Rattle.core_commands.proofs.command_table.take_out.Goals as goal

pub returns-in-None-clause-value : goal.returns-in-None-clause-value
returns-in-None-clause-value c = sym (none_here c.args.number c.args.commands.now (sym c.in-None.ensures.index))

pub returns-in-None-clause-gone : goal.returns-in-None-clause-gone
returns-in-None-clause-gone c = none_gone c.args.number c.args.commands.now (sym c.in-None.ensures.index)

pub returns-in-None-clause-entries : goal.returns-in-None-clause-entries
returns-in-None-clause-entries c = sym (swap_remove_entry-missing (nat_eq c.args.number) c.args.commands.now.entries (sym c.in-None.ensures.index))

pub returns-in-Some-swap_remove_index-clause-value : goal.returns-in-Some-swap_remove_index-clause-value
returns-in-Some-swap_remove_index-clause-value c =
    sym (value_here c.args.number c.args.commands.now c.in-Some.place c.in-Some-swap_remove_index.field-0-0 c.in-Some-swap_remove_index.command (sym c.in-Some.ensures.index) (sym c.in-Some-swap_remove_index.ensures.entry))

pub returns-in-Some-swap_remove_index-clause-gone : goal.returns-in-Some-swap_remove_index-clause-gone
returns-in-Some-swap_remove_index-clause-gone c =
    gone_here c.args.number c.args.commands.now c.in-Some.place c.swap_remove_index.new.self c.in-Some-swap_remove_index.field-0-0 c.in-Some-swap_remove_index.command (sym c.in-Some.ensures.index) (sym c.in-Some-swap_remove_index.ensures.entry) c.in-Some-swap_remove_index.ensures.updates

pub returns-in-Some-swap_remove_index-clause-entries : goal.returns-in-Some-swap_remove_index-clause-entries
returns-in-Some-swap_remove_index-clause-entries c =
    c.in-Some-swap_remove_index.ensures.entries ∙ sym (swap_remove_entry-found (nat_eq c.args.number) c.args.commands.now.entries c.in-Some.place (c.in-Some-swap_remove_index.field-0-0, c.in-Some-swap_remove_index.command) (sym c.in-Some.ensures.index))
