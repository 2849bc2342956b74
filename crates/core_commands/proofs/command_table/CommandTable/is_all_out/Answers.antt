use Rattle.std.proofs.Common.{sym, ◌∙◌}
use Rattle.std.proofs.lemmas.Bool.{not-true}
use Rattle.core_commands.proofs.Counting.{all_out}
use Rattle.core_commands.proofs.command_table.CommandTable.is_all_out.Goals as goal

pub returns-clause-out : goal.returns-clause-out
returns-clause-out c = λ e. all_out c.args.client c.args.self.now (sym c.has_without_call.ensures ∙ not-true c.has_without_call.result e)
