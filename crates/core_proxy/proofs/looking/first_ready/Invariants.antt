use Rattle.std.specs.VecDeque.Iter.{deque_iter_rest}
use Rattle.core_proxy.specs.Resting.{AreHeldUp}
use Rattle.core_proxy.proofs.looking.first_ready.Given as goal

-- where those that are left are held up, all are
abbrev pub invariant-loop-pending : goal.invariant-loop-pending
invariant-loop-pending l = AreHeldUp l.client l.window l.commands (deque_iter_rest l.pending-iterator) → AreHeldUp l.client l.window l.commands l.queue.items
