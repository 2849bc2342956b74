use Rattle.std.proofs.Common.{◌≡◌, take, map}
use Rattle.watch_admin.specs.Told.{sample_read, made_count}
use Rattle.watch_admin.proofs.numbers.made_of.Given as goal

abbrev pub invariant-loop-server : goal.invariant-loop-server
invariant-loop-server l = map sample_read l.samples.items ≡ map made_count (take l.server-index l.servers)
