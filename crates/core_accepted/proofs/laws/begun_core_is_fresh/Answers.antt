use Rattle.std.proofs.Common.{subst}
use Rattle.core_accepted.specs.Known.{Known, is_arbitrary}
use Rattle.core_accepted.specs.Logs.{EveryLogFromIsFresh}
use Rattle.core_accepted.proofs.Keeping.{grown_logs_are_fresh, same_known}
use Rattle.core_accepted.proofs.laws.begun_core_is_fresh.Goals as goal

pub returns-in-Some : goal.returns-in-Some
returns-in-Some c = λ known word.
    let it = c.in-Some.generations in
    subst (λ (k : Known). EveryLogFromIsFresh k c.args.core.now) (same_known c.args.core.now.accepted it known c.in-Some.is word)
    (grown_logs_are_fresh (is_arbitrary it) it c.args.core.now c.in-Some.is c.config-config.ensures.trees c.config-config.ensures.sound)
