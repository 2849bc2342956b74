use Rattle.std.proofs.Common.{◌≡◌, inl, refl, rules}
use Rattle.std.specs.VecDeque.Iter.{deque_iter_rest}
use Rattle.serve_links.proofs.Stalled.{all_are, less_are, earlier_since}
use Rattle.serve_links.proofs.calls.calls.LinkCalls.oldest_of_all.Goals as goal

pub loop-call-init : goal.loop-call-init
loop-call-init c =
    let whole : deque_iter_rest c.into_iter-call-iterator.result ≡ c.args.self.now.sent.items = search rules in
    record { rest = all_are _ _ whole; one = inl refl }

pub loop-call-preserved : goal.loop-call-preserved
loop-call-preserved c = record {
  rest = less_are c.in-Some.call.now _ _ _ c.in-Some.ensures.steps c.loop-call.invariant.rest;
  one = earlier_since c.args.since c.loop-call.oldest c.min-oldest.result c.in-Some.call.now _ _ _ c.in-Some.ensures.steps c.loop-call.invariant.rest c.loop-call.invariant.one c.min-oldest.ensures;
}

pub returns : goal.returns
returns c = c.loop-call.invariant.one
