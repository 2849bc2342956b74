use Rattle.wire_stream.specs.Asks.{IsWalk}
use Rattle.examples_wire.proofs.reads.walked.Given as goal

abbrev pub invariant-loop : goal.invariant-loop
invariant-loop l = IsWalk l.bytes l.walk
