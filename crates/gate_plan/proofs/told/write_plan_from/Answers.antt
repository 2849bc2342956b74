use Rattle.std.proofs.Common.{List, inr, subst}
use Rattle.std.proofs.lemmas.Result.{IfOk-weaker}
use Rattle.gate_history.specs.declared.generation.Generation.{Generation}
use Rattle.gate_plan.specs.Steps.{FollowsText}
use Rattle.gate_plan.proofs.told.write_plan_from.Goals as goal

pub returns-in_ok-writeln-in-Ok : goal.returns-in_ok-writeln-in-Ok
returns-in_ok-writeln-in-Ok g c =
    let follows = subst (λ (gs : List Generation). FollowsText gs c.args.old.now c.args.opened c.in-Ok.history) c.in_ok-new.ensures c.in-Ok.ensures in
    IfOk-weaker c.write_plan.result _ _ (λ planned plan. inr (c.in-Ok.history, follows, plan)) c.write_plan.ensures
