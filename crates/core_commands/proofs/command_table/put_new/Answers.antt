use Rattle.std.proofs.Common.{sym, ◌∙◌, nat_eq}
use Rattle.indexmap.proofs.CallerLemmas.{insert_entry-new}
use Rattle.core_commands.proofs.command_table.put_new.Goals as goal

pub returns-clause-last : goal.returns-clause-last
returns-clause-last c = λ e. c.in-Ok.ensures.entries ∙ insert_entry-new nat_eq c.args.commands.now c.args.number c.args.command (sym c.in-Ok.ensures.old ∙ c.is_none.ensures e)
