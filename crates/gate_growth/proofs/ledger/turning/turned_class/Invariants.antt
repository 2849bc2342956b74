use Rattle.std.proofs.Common.{◌≡◌, length}
use Rattle.gate_growth.proofs.Turnings.{TurnsBelow}
use Rattle.gate_growth.proofs.ledger.turning.turned_class.Given as goal

abbrev pub invariant-loop-residue : goal.invariant-loop-residue
invariant-loop-residue l = (length l.pages.items ≡ l.residue) × TurnsBelow l.known l.step l.prefix l.pages.items l.residue l.gap
