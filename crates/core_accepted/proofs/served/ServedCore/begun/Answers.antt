use Rattle.std.proofs.Common.{sym, ◌∙◌}
use Rattle.core_accepted.proofs.served.ServedCore.begun.Goals as goal

pub returns-clause-counted : goal.returns-clause-counted
returns-clause-counted c = λ opening past led. sym led.leads.count ∙ sym c.begun.ensures
