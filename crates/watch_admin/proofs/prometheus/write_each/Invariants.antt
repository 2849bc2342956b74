use Rattle.std.proofs.Common.{take}
use Rattle.std.specs.Io.KnownBytes.{Appends}
use Rattle.watch_admin.specs.Prometheus.{each_text}
use Rattle.watch_admin.proofs.prometheus.write_each.Given as goal

abbrev pub invariant-loop-sample : goal.invariant-loop-sample
invariant-loop-sample g l = Appends (g.W.Write.contents l.initial.out) (g.W.Write.contents l.out) (each_text l.name l.part (take l.sample-index l.samples))
