use Rattle.std.specs.Prelude.{◌≡◌, ◌≤◌, ◌-◌}
use Rattle.wire_stream.specs.ClientStreams.{IsWalkAt}
use Rattle.wire_stream.proofs.connection.client_stream.Walk.go_to.Given as goal

abbrev pub invariant-loop-self : goal.invariant-loop-self
invariant-loop-self l = record {
  at : IsWalkAt l.stream l.self;
  request : l.self.request ≡ l.fn.self.request;
  before : l.self.taken ≤ l.i;
}

abbrev pub decreases-loop-self : goal.decreases-loop-self
decreases-loop-self l = l.i - l.self.taken
