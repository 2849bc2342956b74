use Rattle.fresh_theory.proofs.GrownLogs as lemmas
use Rattle.fresh_theory.proofs.core_laws.grown_logs_are_fresh.Goals as goal

pub returns : goal.returns
returns c = lemmas.grown_logs_are_fresh
