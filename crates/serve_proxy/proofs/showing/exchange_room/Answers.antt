use Rattle.serve_proxy.proofs.showing.exchange_room.Goals as goal

pub returns : goal.returns
returns g c = record { ends = c.exchange_at.ensures.ends }
