use Rattle.serve_proxy.proofs.Going.{stays}
use Rattle.serve_proxy.proofs.Told.{stay_same, accepted_role}
use Rattle.serve_proxy.proofs.accepting.accept_one.Goals as goal

pub take_client-requires : goal.take_client-requires
take_client-requires g c = accepted_role c.in-Peer.conn _ _ c.in-Peer.ensures

pub returns-in-Peer : goal.returns-in-Peer
returns-in-Peer g c = record { ends = c.take_client.ensures.ends (g.W.Wire.history c.args.sockets.now.wire) c.in-Peer.ensures.0 c.in-Peer.ensures.1 }

pub returns-in-Gone : goal.returns-in-Gone
returns-in-Gone g c = record { ends = stays c.args.core.now (stay_same _ _ _ _ c.in-Gone.ensures) }

pub returns-in-Nobody : goal.returns-in-Nobody
returns-in-Nobody g c = record { ends = stays c.args.core.now (stay_same _ _ _ _ c.in-Nobody.ensures) }

pub returns-in-Refused : goal.returns-in-Refused
returns-in-Refused g c = record { ends = stays c.args.core.now (stay_same _ _ _ _ c.in-Refused.ensures) }
