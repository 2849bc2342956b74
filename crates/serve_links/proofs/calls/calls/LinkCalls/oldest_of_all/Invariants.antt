use Rattle.std.proofs.Common.{◌≡◌, ◌⊎◌}
use Rattle.std.specs.VecDeque.Iter.{deque_iter_rest}
use Rattle.serve_links.specs.Unsent.{HasSince}
use Rattle.serve_links.proofs.Stalled.{AreOf}
use Rattle.serve_links.proofs.calls.calls.LinkCalls.oldest_of_all.Given as goal

abbrev pub invariant-loop-call : goal.invariant-loop-call
invariant-loop-call l = record {
  rest : AreOf (deque_iter_rest l.call-iterator) l.self.sent.items;
  one : (l.oldest ≡ l.since) ⊎ HasSince l.oldest l.self.sent.items;
}
