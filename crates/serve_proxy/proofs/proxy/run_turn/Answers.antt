use Rattle.serve_proxy.proofs.Going.{and_then, failing, stays}
use Rattle.serve_proxy.proofs.proxy.run_turn.Goals as goal

pub returns-in_err-wait-clause-ends : goal.returns-in_err-wait-clause-ends
returns-in_err-wait-clause-ends g c = c.wait.ensures.ends c.args.core.now

pub returns-clause-ends : goal.returns-clause-ends
returns-clause-ends g c =
    and_then (and_then (and_then (and_then (and_then (and_then (and_then (and_then (and_then (and_then (c.wait.ensures.ends c.args.core.now) (stays c.args.core.now c.list_again.ensures.ends))
    c.give_back_room.ensures.ends) c.accept_ready.ensures.ends) c.serve_asks.ensures.ends) c.read_links.ensures.ends) c.fail_late.ensures.ends) c.serve_all.ensures.ends) (failing c.send_links.ensures.ends)) c.send_clients.ensures.ends)
    c.close_slow.ensures.ends

pub returns-clause-bounded : goal.returns-clause-bounded
returns-clause-bounded g c = c.close_slow.ensures.bounded

pub returns-clause-share : goal.returns-clause-share
returns-clause-share g c = c.close_slow.ensures.share
