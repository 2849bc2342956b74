use Rattle.serve_proxy.proofs.Staying.{stay_then}
use Rattle.mcgate_serve.proofs.Loads.{stood, turned, then_by}
use Rattle.mcgate_serve.proofs.serving.Serving.end_turn.Goals as goal

pub returns-in_err-look_if_due : goal.returns-in_err-look_if_due
returns-in_err-look_if_due g c = record { ends = then_by (stood g.W.Wire.history c.args.self.now.end c.look_names.new.sockets (stay_then c.tell_news.ensures c.look_names.ensures)) c.look_if_due.ensures.ends }

pub returns-in_err-take_orders : goal.returns-in_err-take_orders
returns-in_err-take_orders g c = record { ends = then_by (then_by (stood g.W.Wire.history c.args.self.now.end c.look_names.new.sockets (stay_then c.tell_news.ensures c.look_names.ensures)) c.look_if_due.ensures.ends) c.take_orders.ensures.ends }

pub returns-in_err-has_drained : goal.returns-in_err-has_drained
returns-in_err-has_drained g c = record { ends = then_by (then_by (then_by (then_by (stood g.W.Wire.history c.args.self.now.end c.look_names.new.sockets (stay_then c.tell_news.ensures c.look_names.ensures)) c.look_if_due.ensures.ends) c.take_orders.ensures.ends) (stood g.W.Wire.history c.take_orders.new.self.end c.keep_epochs.new.sockets c.keep_epochs.ensures)) (turned c.has_drained.ensures.ends) }

pub returns : goal.returns
returns g c = record { ends = then_by (then_by (then_by (then_by (stood g.W.Wire.history c.args.self.now.end c.look_names.new.sockets (stay_then c.tell_news.ensures c.look_names.ensures)) c.look_if_due.ensures.ends) c.take_orders.ensures.ends) (stood g.W.Wire.history c.take_orders.new.self.end c.keep_epochs.new.sockets c.keep_epochs.ensures)) (turned c.has_drained.ensures.ends) }
