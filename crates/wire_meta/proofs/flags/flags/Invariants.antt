use Rattle.std.proofs.Common.{◌-◌, length}
use Rattle.wire_meta.proofs.SeenLemmas.{IsAt}
use Rattle.wire_meta.proofs.flags.flags.Given as goal

abbrev pub invariant-loop-word : goal.invariant-loop-word
invariant-loop-word l = IsAt l.kind l.line l.at l.from l.seen l.values

abbrev pub decreases-loop-word : goal.decreases-loop-word
decreases-loop-word l = length l.line - l.from
