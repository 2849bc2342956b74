use Rattle.std.proofs.Common.{◌≡◌, drop}
use Rattle.std.specs.List.{flat_map}
use Rattle.wire_parts.specs.Sending.{sending_bytes}
use Rattle.wire_parts.proofs.to_send.buffer.SendBuffer.front.Given as goal

abbrev pub invariant-loop-i : goal.invariant-loop-i
invariant-loop-i l = flat_map sending_bytes (drop l.i l.self.pieces.items) ≡ flat_map sending_bytes l.self.pieces.items
