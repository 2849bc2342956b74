use Rattle.fresh_theory.proofs.Example as example
use Rattle.fresh_theory.proofs.stale_laws.copies_race.Goals as goal

pub returns : goal.returns
returns c = example.copies_race
