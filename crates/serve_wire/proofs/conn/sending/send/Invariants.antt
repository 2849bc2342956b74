use Rattle.std.proofs.Common.{◌≡◌}
use Rattle.wire_parts.specs.Sending.{bytes_of}
use Rattle.serve_wire.specs.Flow.{SendsOn, Stands}
use Rattle.serve_wire.proofs.conn.sending.send.Given as goal

-- what went so far, over a connection that stands
abbrev pub invariant-loop : goal.invariant-loop
invariant-loop g l =
    SendsOn l.fn.conn.number (bytes_of l.fn.conn.unsent) (bytes_of l.conn.unsent) (g.W.Wire.history l.fn.wire) (g.W.Wire.history l.wire)
    × Stands l.fn.conn.number (g.W.Wire.history l.fn.wire) (g.W.Wire.history l.wire)
    × (l.conn.held ≡ l.fn.conn.held) × (l.conn.number ≡ l.fn.conn.number) × (l.conn.limits ≡ l.fn.conn.limits)
    × (l.conn.readable ≡ l.fn.conn.readable) × (l.conn.closing ≡ l.fn.conn.closing)
