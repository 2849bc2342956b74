use Rattle.mcgate_serve.proofs.Loads.{serves_still, stood, turned, then_by}
use Rattle.mcgate_serve.proofs.serving.Serving.run.Goals as goal

pub returns-in_err-emptying : goal.returns-in_err-emptying
returns-in_err-emptying g c = record { ends = serves_still g.W.Wire.history c.args.self.now.end }

pub returns-in_err-run_turns : goal.returns-in_err-run_turns
returns-in_err-run_turns g c = record { ends = then_by (stood g.W.Wire.history c.args.self.now.end c.keep_epochs.new.sockets c.keep_epochs.ensures) c.run_turns.ensures.ends }

pub returns : goal.returns
returns g c = record { ends = then_by (then_by (stood g.W.Wire.history c.args.self.now.end c.keep_epochs.new.sockets c.keep_epochs.ensures) c.run_turns.ensures.ends) (turned c.end_all.ensures.ends) }
