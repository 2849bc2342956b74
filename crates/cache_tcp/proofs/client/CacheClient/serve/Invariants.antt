use Rattle.std.proofs.Common.{◌≡◌, length}
use Rattle.wire_parts.specs.Sending.{bytes_of}
use Rattle.cache_tcp.specs.Steps.{IsWithin}
use Rattle.cache_tcp.specs.Serving.{ServesHeld}
use Rattle.cache_tcp.proofs.client.CacheClient.serve.Given as goal

abbrev pub invariant-loop-self : goal.invariant-loop-self
invariant-loop-self l = record {
  serves : ServesHeld l.moment.seconds l.fn.self.conn.held.items (bytes_of l.fn.self.conn.unsent) l.fn.self.served l.fn.cache l.self.conn.held.items (bytes_of l.self.conn.unsent) l.self.served l.cache;
  within : IsWithin l.fn.self.conn.limits.unsent (bytes_of l.fn.self.conn.unsent) → IsWithin l.fn.self.conn.limits.unsent (bytes_of l.self.conn.unsent);
  limits : l.self.conn.limits ≡ l.fn.self.conn.limits;
  number : l.self.conn.number ≡ l.fn.self.conn.number;
}

abbrev pub decreases-loop-self : goal.decreases-loop-self
decreases-loop-self l = length l.self.conn.held.items
