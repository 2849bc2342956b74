use Rattle.std.proofs.Common.{List, subst}
use Rattle.gate_history.specs.declared.generation.Generation.{Generation}
use Rattle.gate_history.specs.Judged.{Judges}
use Rattle.gate_history.proofs.Judging.{judged}
use Rattle.gate_history.proofs.history.History.judge.Goals as goal

pub returns : goal.returns
returns c =
    subst (λ (gs : List Generation). Judges gs c.args.config.now c.args.new c.judge.result) c.self.view_is
    (judged c.self.inside.generations.items c.self.inside.ledger c.args.config.now c.args.new c.judge.result c.self.invariant c.judge.ensures)
