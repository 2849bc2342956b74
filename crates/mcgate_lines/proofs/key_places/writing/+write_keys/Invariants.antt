use Rattle.std.proofs.Common.{length}
use Rattle.mcgate_lines.proofs.key_places.writing.+write_keys.Given as goal

abbrev pub decreases-write_keys : goal.decreases-write_keys
decreases-write_keys g l = length l.keys.now
