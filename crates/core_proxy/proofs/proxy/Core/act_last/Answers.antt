use Rattle.std.proofs.Common.{refl, sym, ◌∙◌}
use Rattle.core_proxy.proofs.Chains.{goes_nowhere}
use Rattle.core_proxy.proofs.Resting.{is_full}
use Rattle.core_proxy.proofs.proxy.Core.act_last.Goals as goal

pub returns-in-None-clause-ok : goal.returns-in-None-clause-ok
returns-in-None-clause-ok c =
    let core = c.args.self.now in
    let last = c.requires in
    let full = is_full c.args.client core.limits.window core.commands core.number last.command c.turn_of-turn.result last.idle c.turn_of-turn.ensures (sym c.goes_on.ensures ∙ c.if-goes_on.false) in
    record { goes = goes_nowhere core; why = (c.in-None.ensures.none, (core.number, full), last.some); still = (refl, refl) }
