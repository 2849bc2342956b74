use Rattle.serve_proxy.proofs.Going.{and_then, failing, stays}
use Rattle.serve_proxy.proofs.draining.end_if_quiet.Goals as goal

pub returns-then-not-is_done : goal.returns-then-not-is_done
returns-then-not-is_done g c = record { ends = c.give_back_client-is_done.ensures.ends }

pub returns-then-not-is_quiet : goal.returns-then-not-is_quiet
returns-then-not-is_quiet g c = record { ends = and_then c.give_back_client-is_done.ensures.ends (stays c.give_back_client-is_done.new.core c.is_quiet.ensures.ends) }

pub returns : goal.returns
returns g c =
    let core = c.give_back_client-is_done.new.core in
    record { ends = and_then (and_then (and_then c.give_back_client-is_done.ensures.ends (stays core c.is_quiet.ensures.ends)) (failing (c.end_client.ensures.ends core))) (stays core c.mark_ready_if.ensures.ends) }
