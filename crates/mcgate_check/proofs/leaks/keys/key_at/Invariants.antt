use Rattle.mcgate_check.specs.Tried.{NoneBefore}
use Rattle.mcgate_check.proofs.leaks.keys.key_at.Given as goal

abbrev pub invariant-loop-number : goal.invariant-loop-number
invariant-loop-number l = NoneBefore l.tree l.place l.number
