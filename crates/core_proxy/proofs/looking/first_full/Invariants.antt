use Rattle.std.specs.VecDeque.Iter.{deque_iter_rest}
use Rattle.core_proxy.specs.Resting.{AreNotFull}
use Rattle.core_proxy.proofs.looking.first_full.Given as goal

-- where none of those that are left waits for its server, none does
abbrev pub invariant-loop-pending : goal.invariant-loop-pending
invariant-loop-pending l = AreNotFull l.client l.window l.commands (deque_iter_rest l.pending-iterator) → AreNotFull l.client l.window l.commands l.queue.items
