use Rattle.std.proofs.Common.{◌≡◌}
use Rattle.wire_parts.specs.Sending.{bytes_of}
use Rattle.cache_tcp.specs.Steps.{spot_at, IsKeyOf, RunsOn, IsWithin}
use Rattle.cache_tcp.proofs.connection.serve.serve_request.Given as goal

abbrev pub invariant-loop-index : goal.invariant-loop-index
invariant-loop-index l = record {
  way : IsKeyOf l.stream l.request l.index;
  stays : l.stream ≡ l.fn.stream;
  runs : RunsOn l.moment.seconds (spot_at l.fn.stream l.first) l.fn.cache (bytes_of l.fn.out) (spot_at l.stream l.index) l.cache (bytes_of l.out);
  within : IsWithin l.most (bytes_of l.fn.out) → IsWithin l.most (bytes_of l.out);
}
