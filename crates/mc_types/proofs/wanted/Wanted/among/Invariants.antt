use Rattle.std.proofs.Common.{◌≡◌, length}
use Rattle.mc_types.specs.Wanted.{wanted_of}
use Rattle.mc_types.proofs.Joined.{joined}
use Rattle.mc_types.proofs.wanted.Wanted.among.Given as goal

abbrev pub invariant-loop-rest : goal.invariant-loop-rest
invariant-loop-rest l = joined l.wanted (wanted_of l.rest) ≡ wanted_of l.tokens

abbrev pub decreases-loop-rest : goal.decreases-loop-rest
decreases-loop-rest l = length l.rest
