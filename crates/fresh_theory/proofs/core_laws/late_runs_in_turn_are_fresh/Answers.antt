use Rattle.fresh_theory.proofs.LateInTurn as lemmas
use Rattle.fresh_theory.proofs.core_laws.late_runs_in_turn_are_fresh.Goals as goal

pub returns : goal.returns
returns c = lemmas.late_runs_in_turn
