use Rattle.std.proofs.Common.{take, flat_map}
use Rattle.std.specs.Io.KnownBytes.{Appends}
use Rattle.watch_admin.specs.Json.{next_family_json}
use Rattle.watch_admin.proofs.json.write_families.Given as goal

abbrev pub invariant-loop-family : goal.invariant-loop-family
invariant-loop-family g l = Appends (g.W.Write.contents l.initial.out) (g.W.Write.contents l.out) (flat_map next_family_json (take l.family-index l.rest))
