use Rattle.mcgate_serve.proofs.Loads.{serves_still, then_by}
use Rattle.mcgate_serve.proofs.serving.Serving.take_words.Goals as goal

pub loop-init : goal.loop-init
loop-init g c = serves_still g.W.Wire.history c.args.self.now.end

pub loop-preserved : goal.loop-preserved
loop-preserved g c = then_by c.loop.invariant c.take_word.ensures.ends

pub returns-in_err-take_word : goal.returns-in_err-take_word
returns-in_err-take_word g c = record { ends = then_by c.loop.invariant c.take_word.ensures.ends }

pub returns-in_default : goal.returns-in_default
returns-in_default g c = record { ends = c.loop.invariant }

pub returns : goal.returns
returns g c = record { ends = c.loop.invariant }
