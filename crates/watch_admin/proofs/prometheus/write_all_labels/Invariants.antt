use Rattle.std.proofs.Common.{take, flat_map}
use Rattle.std.specs.Io.KnownBytes.{Appends}
use Rattle.watch_admin.specs.Prometheus.{next_label_text}
use Rattle.watch_admin.proofs.prometheus.write_all_labels.Given as goal

abbrev pub invariant-loop-label : goal.invariant-loop-label
invariant-loop-label g l = Appends (g.W.Write.contents l.initial.out) (g.W.Write.contents l.out) (flat_map next_label_text (take l.label-index l.rest))
