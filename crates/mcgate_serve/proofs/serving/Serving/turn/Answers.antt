use Rattle.serve_proxy.proofs.Going.{and_then}
use Rattle.mcgate_serve.proofs.Loads.{same_box, stays_on}
use Rattle.mcgate_serve.proofs.serving.Serving.turn.Goals as goal

pub returns-in_err-most-clause-ends : goal.returns-in_err-most-clause-ends
returns-in_err-most-clause-ends g c = stays_on g.W.Wire.history c.args.self.now.end c.bound_clients.new.self (same_box _ c.bound_clients.new.self c.bound_clients.ensures.rest) c.bound_clients.ensures.ends

pub returns-in-Some-clause-ends : goal.returns-in-Some-clause-ends
returns-in-Some-clause-ends g c = and_then (stays_on g.W.Wire.history c.args.self.now.end c.bound_clients.new.self (same_box _ c.bound_clients.new.self c.bound_clients.ensures.rest) c.bound_clients.ensures.ends) c.turn_within.ensures.ends

pub returns-in-None-clause-ends : goal.returns-in-None-clause-ends
returns-in-None-clause-ends g c = and_then (stays_on g.W.Wire.history c.args.self.now.end c.bound_clients.new.self (same_box _ c.bound_clients.new.self c.bound_clients.ensures.rest) c.bound_clients.ensures.ends) c.turn.ensures.ends
