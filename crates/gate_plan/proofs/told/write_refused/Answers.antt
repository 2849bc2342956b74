use Rattle.std.proofs.Common.{string_bytes}
use Rattle.std.proofs.lemmas.Result.{IfOk-weaker}
use Rattle.gate_plan.proofs.Verdicts.{planned_anew}
use Rattle.gate_plan.proofs.told.write_refused.Goals as goal

pub returns-in-Some : goal.returns-in-Some
returns-in-Some g c =
    let same = rw c.in-Some.is at c.in_ok-way_of.ensures in
    IfOk-weaker c.write_anew.result _ _ (λ planned anew gs refused. planned_anew gs c.args.new.now (string_bytes c.in-Some.way.new) c.args.added planned refused same anew) c.write_anew.ensures
