use Rattle.std.proofs.Common.{subst}
use Rattle.gate_history.specs.Judged.{AreSoundBy}
use Rattle.gate_history.proofs.history.History.generations.Goals as goal

pub returns-clause-sound : goal.returns-clause-sound
returns-clause-sound c = subst AreSoundBy c.self.view_is (λ arbitrary opened. (c.self.invariant.ledger_is arbitrary opened).sound)
