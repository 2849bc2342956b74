use Rattle.std.proofs.Common.{take}
use Rattle.std.specs.Io.KnownBytes.{Appends}
use Rattle.watch_admin.specs.Json.{labels_json}
use Rattle.watch_admin.proofs.json.write_labels.Given as goal

abbrev pub invariant-loop-label : goal.invariant-loop-label
invariant-loop-label g l = Appends (g.W.Write.contents l.initial.out) (g.W.Write.contents l.out) (labels_json (take l.label-index l.labels))
