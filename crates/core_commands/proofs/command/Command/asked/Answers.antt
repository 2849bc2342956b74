use Rattle.core_commands.proofs.Formed.{shown_is_ask}
use Rattle.core_commands.proofs.command.Command.asked.Goals as goal

pub returns-in-Call-clause-formed : goal.returns-in-Call-clause-formed
returns-in-Call-clause-formed c =
    let command = c.args.self.now in
    shown_is_ask command.job c.get.result.now c.in-Call.ask.now c.get.ensures c.in-Call.ensures.2 command.formed
