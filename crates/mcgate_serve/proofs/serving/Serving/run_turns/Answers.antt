use Rattle.mcgate_serve.proofs.Loads.{serves_still, turned, then_by}
use Rattle.mcgate_serve.proofs.serving.Serving.run_turns.Goals as goal

pub loop-init : goal.loop-init
loop-init g c = serves_still g.W.Wire.history c.args.self.now.end

pub returns-in_err-turn : goal.returns-in_err-turn
returns-in_err-turn g c = record { ends = then_by c.loop.invariant (turned c.turn.ensures.ends) }

pub returns-in_err-is_last : goal.returns-in_err-is_last
returns-in_err-is_last g c = record { ends = then_by (then_by c.loop.invariant (turned c.turn.ensures.ends)) c.end_turn.ensures.ends }

pub loop-preserved : goal.loop-preserved
loop-preserved g c = then_by (then_by c.loop.invariant (turned c.turn.ensures.ends)) c.end_turn.ensures.ends

pub returns-then-is_last : goal.returns-then-is_last
returns-then-is_last g c = record { ends = then_by (then_by c.loop.invariant (turned c.turn.ensures.ends)) c.end_turn.ensures.ends }

pub returns : goal.returns
returns g c = record { ends = c.loop.invariant }
