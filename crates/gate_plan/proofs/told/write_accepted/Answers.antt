use Rattle.std.proofs.Common.{string_bytes}
use Rattle.std.proofs.lemmas.Result.{IfOk-weaker}
use Rattle.gate_plan.proofs.Verdicts.{planned_undoable}
use Rattle.gate_plan.proofs.told.write_accepted.Goals as goal

pub returns-in-Some : goal.returns-in-Some
returns-in-Some g c =
    let same = rw c.in-Some.is at c.in_ok-way_of.ensures in
    IfOk-weaker c.write_undoable.result _ _ (λ planned way. planned_undoable c.args.history c.args.new.now (string_bytes c.in-Some.way.new) c.args.added planned c.requires same way) c.write_undoable.ensures
