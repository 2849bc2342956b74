use Rattle.std.proofs.Common.{◌≡◌, take, map, flat_map}
use Rattle.watch_admin.specs.Told.{sample_read, outcome_counts}
use Rattle.watch_admin.proofs.numbers.outcomes_of.Given as goal

abbrev pub invariant-loop-server : goal.invariant-loop-server
invariant-loop-server l = map sample_read l.samples.items ≡ flat_map outcome_counts (take l.server-index l.servers)
