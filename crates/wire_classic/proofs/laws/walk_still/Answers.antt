use Rattle.wire_classic.proofs.WalkLemmas.{walk_still}
use Rattle.wire_classic.proofs.laws.walk_still.Goals as goal

pub returns : goal.returns
returns c = walk_still
