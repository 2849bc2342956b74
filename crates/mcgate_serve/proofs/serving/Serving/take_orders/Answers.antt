use Rattle.mcgate_serve.proofs.Loads.{stood, then_by}
use Rattle.mcgate_serve.proofs.serving.Serving.take_orders.Goals as goal

pub returns-in_err-drain_at_end : goal.returns-in_err-drain_at_end
returns-in_err-drain_at_end g c = record { ends = stood g.W.Wire.history c.args.self.now.end c.drain_at_end.new.sockets c.drain_at_end.ensures }

pub returns : goal.returns
returns g c = record { ends = then_by (stood g.W.Wire.history c.args.self.now.end c.drain_at_end.new.sockets c.drain_at_end.ensures) c.take_words.ensures.ends }
