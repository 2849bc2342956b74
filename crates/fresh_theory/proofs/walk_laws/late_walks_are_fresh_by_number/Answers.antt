use Rattle.fresh_theory.proofs.NumberWalks.{walks_by_number}
use Rattle.fresh_theory.proofs.walk_laws.late_walks_are_fresh_by_number.Goals as goal

pub returns : goal.returns
returns c = walks_by_number c.args.core.now c.accepted_trees_are_sound.ensures
