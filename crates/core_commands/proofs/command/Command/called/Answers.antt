use Rattle.core_commands.proofs.Formed.{shown_is_ask}
use Rattle.core_commands.proofs.command.Command.called.Goals as goal

pub invariant_of-result : goal.invariant_of-result
invariant_of-result c =
    let command = c.args.self.now in
    record { formed = shown_is_ask command.job c.get.result.now c.in-Call.ask.now c.get.ensures c.in-Call.ensures.2 command.formed }
