use Rattle.std.proofs.Common.{take, flat_map}
use Rattle.std.specs.Io.KnownBytes.{Appends}
use Rattle.watch_admin.specs.Json.{next_sample_json}
use Rattle.watch_admin.proofs.json.write_each.Given as goal

abbrev pub invariant-loop-sample : goal.invariant-loop-sample
invariant-loop-sample g l = Appends (g.W.Write.contents l.initial.out) (g.W.Write.contents l.out) (flat_map next_sample_json (take l.sample-index l.rest))
