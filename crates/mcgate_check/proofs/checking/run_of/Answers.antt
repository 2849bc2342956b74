use Rattle.std.specs.Prelude.{IfOk}
use Rattle.std.proofs.Common.{subst, sym}
use Rattle.gate_check.specs.declared.gap.Reason.{Reason}
use Rattle.gate_check.specs.Gate.{IsJudged}
use Rattle.mcgate_check.specs.Checking.{IsFoundFor}
use Rattle.mcgate_check.proofs.Runs.{found_shows}
use Rattle.mcgate_check.proofs.checking.run_of.Goals as goal

pub returns-in-Uncovered : goal.returns-in-Uncovered
returns-in-Uncovered c =
    let config = c.args.config.now in
    let judged = subst (IsJudged config.tree) c.in-Uncovered.is c.requires.judged in
    subst (λ (r : Reason). IfOk c.run_with.result (IsFoundFor config r)) (sym c.in-Uncovered.is)
    (found_shows config c.in-Uncovered.gap c.run_with.result judged c.run_with.ensures)
