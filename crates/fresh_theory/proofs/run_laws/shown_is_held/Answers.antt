use Rattle.fresh_theory.proofs.Held.{shown_is_held}
use Rattle.fresh_theory.proofs.run_laws.shown_is_held.Goals as goal

pub returns : goal.returns
returns g c = shown_is_held g.W.HasWords.words g.W.HasWords.bars
