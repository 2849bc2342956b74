use Rattle.core_commands.proofs.Formed.{shown_is_ask}
use Rattle.core_commands.proofs.begun.ticket_of.Goals as goal

pub invariant_of-result : goal.invariant_of-result
invariant_of-result c =
    let command = c.args.command.now in
    record { formed = shown_is_ask command.job c.in_ok-copy-in-Call.field-0 c.in-Call.ask.now c.in_ok-copy-in-Call.ensures c.in-Call.ensures.2 command.formed }
