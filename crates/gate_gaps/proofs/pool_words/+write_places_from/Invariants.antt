use Rattle.std.proofs.Common.{length}
use Rattle.gate_gaps.proofs.pool_words.+write_places_from.Given as goal

abbrev pub decreases-write_places_from : goal.decreases-write_places_from
decreases-write_places_from g l = length l.rest.now
