use Rattle.std.proofs.Common.{ap, ◌∙◌}
use Rattle.serve_wire.specs.Events.{role}
use Rattle.cache_tcp.proofs.end.CacheEnd.accept_some.Goals as goal

pub admit-requires : goal.admit-requires
admit-requires g c = ap (role c.in-Peer.conn) c.in-Peer.ensures.1 ∙ c.in-Peer.ensures.0.no_role
