use Rattle.std.proofs.Common.{length}
use Rattle.wire_parts.specs.Sending.{bytes_of}
use Rattle.wire_stream.specs.Held.{bytes_at}
use Rattle.cache_tcp.specs.Steps.{spot_at, IsOnWay, RunsOn, IsWithin}
use Rattle.cache_tcp.proofs.connection.serve.serve.Given as goal

abbrev pub invariant-loop-alloc : goal.invariant-loop-alloc
invariant-loop-alloc l = record {
  way : IsOnWay (spot_at l.stream l.next);
  runs : RunsOn l.moment.seconds (spot_at l.fn.stream l.first) l.fn.cache (bytes_of l.fn.out) (spot_at l.stream l.next) l.cache (bytes_of l.out);
  within : IsWithin l.most (bytes_of l.fn.out) → IsWithin l.most (bytes_of l.out);
}

abbrev pub decreases-loop-alloc : goal.decreases-loop-alloc
decreases-loop-alloc l = length (bytes_at l.stream)
