use Rattle.std.proofs.Common.{take}
use Rattle.std.specs.Io.KnownBytes.{Appends}
use Rattle.gate_gaps.specs.Lines.{steps_text}
use Rattle.gate_gaps.proofs.writing.write_steps.Given as goal

abbrev pub invariant-loop-step : goal.invariant-loop-step
invariant-loop-step g l = Appends (g.W.Write.contents l.initial.out) (g.W.Write.contents l.out) (steps_text (take l.step-index l.steps))
