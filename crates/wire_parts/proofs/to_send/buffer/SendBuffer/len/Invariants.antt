use Rattle.std.proofs.Common.{◌≡◌, ◌+◌, ◌-◌, ◌^◌, ◌<◌, min, length, drop}
use Rattle.std.specs.List.{flat_map}
use Rattle.wire_parts.specs.Sending.{sending_bytes, bytes_of}
use Rattle.wire_parts.proofs.to_send.buffer.SendBuffer.len.Given as goal

abbrev pub invariant-loop-i : goal.invariant-loop-i
invariant-loop-i l =
    (l.len < 2 ^ 64)
    × (min (l.len + length (flat_map sending_bytes (drop l.i l.self.pieces.items))) (2 ^ 64 - 1) ≡ min (length (bytes_of l.self)) (2 ^ 64 - 1))
