use Rattle.serve_proxy.proofs.Drained.{drains_so, ends_so}
use Rattle.serve_proxy.proofs.failing.drain_line.Goals as goal

pub returns-in-Some : goal.returns-in-Some
returns-in-Some g c = record {
  stands = λ at. ends_so at _ _ _ c.args.link.now c.read_draining.new.self c.end_draining-ended.new.self c.read_draining.result c.in-Some._cause c.end_draining-ended.result c.in-Some.is c.read_draining.ensures.reads c.end_draining-ended.ensures.number c.end_draining-ended.ensures.rest c.close_if_any.ensures.some;
}

pub returns-in-None : goal.returns-in-None
returns-in-None g c = record { stands = λ at. drains_so at _ _ c.args.link.now c.read_draining.new.self c.read_draining.result c.in-None.is c.read_draining.ensures.reads }
