use Rattle.std.proofs.Common.{length}
use Rattle.gate_picture.proofs.alike.+more_prefixes_alike.Given as goal

abbrev pub decreases-more_prefixes_alike : goal.decreases-more_prefixes_alike
decreases-more_prefixes_alike l = length l.rest.now
