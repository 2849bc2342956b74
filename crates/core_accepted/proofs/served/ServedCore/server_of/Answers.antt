use Rattle.std.proofs.Common.{◌∙◌}
use Rattle.core_accepted.proofs.served.ServedCore.server_of.Goals as goal

pub returns-in-Some : goal.returns-in-Some
returns-in-Some c = let called = c.in-Some.ensures in (called.command, called.was, c.number.ensures ∙ called.is.server_is)
