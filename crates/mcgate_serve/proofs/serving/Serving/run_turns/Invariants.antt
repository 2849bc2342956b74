use Rattle.mcgate_serve.specs.Limits.{ServesByTexts}
use Rattle.mcgate_serve.proofs.serving.Serving.run_turns.Given as goal

abbrev pub invariant-loop : goal.invariant-loop
invariant-loop g l = ServesByTexts g.W.Wire.history l.job.settings l.fn.self.end l.self.end
