use Rattle.std.proofs.Common.{◌≡◌, length}
use Rattle.gate_history.specs.Remembering.{AllLeft}
use Rattle.gate_history.proofs.remembered.all_left.Given as goal

abbrev pub invariant-loop-number : goal.invariant-loop-number
invariant-loop-number l = (length l.all.items ≡ l.number) × AllLeft l.history l.servers l.all.items
