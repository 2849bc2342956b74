use Rattle.fresh_theory.proofs.OwedExamples.{owed_race}
use Rattle.fresh_theory.proofs.stale_laws.owed_races.Goals as goal

pub returns : goal.returns
returns c = owed_race
