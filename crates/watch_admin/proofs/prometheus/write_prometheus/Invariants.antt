use Rattle.std.proofs.Common.{take}
use Rattle.std.specs.Io.KnownBytes.{Appends}
use Rattle.watch_admin.specs.Prometheus.{families_text}
use Rattle.watch_admin.proofs.prometheus.write_prometheus.Given as goal

abbrev pub invariant-loop-family : goal.invariant-loop-family
invariant-loop-family g l = Appends (g.W.Write.contents l.initial.out) (g.W.Write.contents l.out) (families_text (take l.family-index l.families))
