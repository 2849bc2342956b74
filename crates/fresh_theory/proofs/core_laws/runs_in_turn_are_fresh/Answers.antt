use Rattle.fresh_theory.proofs.InTurn as lemmas
use Rattle.fresh_theory.proofs.core_laws.runs_in_turn_are_fresh.Goals as goal

pub returns : goal.returns
returns c = lemmas.runs_in_turn
