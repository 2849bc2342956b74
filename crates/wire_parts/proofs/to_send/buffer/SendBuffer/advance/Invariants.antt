use Rattle.std.proofs.Common.{◌≡◌, ◌≤◌, length, drop}
use Rattle.std.specs.VecDeque.{deque_len}
use Rattle.wire_parts.specs.Sending.{bytes_of}
use Rattle.wire_parts.proofs.to_send.buffer.SendBuffer.advance.Given as goal

abbrev pub invariant-loop-piece : goal.invariant-loop-piece
invariant-loop-piece l =
    (l.left ≤ length (bytes_of l.self)) × (drop l.left (bytes_of l.self) ≡ drop l.fn.count (bytes_of l.fn.self))

abbrev pub decreases-loop-piece : goal.decreases-loop-piece
decreases-loop-piece l = deque_len l.self.pieces
