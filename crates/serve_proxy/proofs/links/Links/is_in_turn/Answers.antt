use Rattle.serve_proxy.proofs.links.Links.is_in_turn.Goals as goal

pub returns-then-not-is_done : goal.returns-then-not-is_done
returns-then-not-is_done c = λ is. (c.is_done.ensures c.if-not-is_done.true, c.have_ended.ensures is)
