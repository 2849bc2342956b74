use Rattle.mcgate_serve.proofs.Loads.{stood}
use Rattle.mcgate_serve.proofs.serving.Serving.take_word.Goals as goal

pub returns-in-Drain : goal.returns-in-Drain
returns-in-Drain g c = record { ends = stood g.W.Wire.history c.args.self.now.end c.drain.new.sockets c.drain.ensures }
