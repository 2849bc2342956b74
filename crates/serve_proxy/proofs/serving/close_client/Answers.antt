use Rattle.serve_proxy.proofs.Going.{and_then, stays, same_core}
use Rattle.serve_proxy.proofs.serving.close_client.Goals as goal

pub returns-then-not-is_over : goal.returns-then-not-is_over
returns-then-not-is_over g c = record { ends = stays c.args.core.now c.is_over.ensures.ends }

pub returns-then-not-has_all : goal.returns-then-not-has_all
returns-then-not-has_all g c = record { ends = and_then (stays c.args.core.now c.is_over.ensures.ends) c.has_all.ensures.ends }

pub returns-in-Ok : goal.returns-in-Ok
returns-in-Ok g c = record {
  ends = and_then (and_then (stays c.args.core.now c.is_over.ensures.ends) (c.has_all.ensures.given c.if-not-has_all.false)) (c.remove_client.ensures.ends c.has_all.new.core c.close.new.self (c.in-Ok.ensures.ok.0, c.in-Ok.ensures.ok.1, c.in-Ok.ensures.fresh) (c.has_all.ensures.sent c.if-not-has_all.false));
}

pub returns-in-Err : goal.returns-in-Err
returns-in-Err g c = record { ends = and_then (and_then (stays c.args.core.now c.is_over.ensures.ends) c.has_all.ensures.ends) (same_core c.in-Err.ensures.err.1) }
