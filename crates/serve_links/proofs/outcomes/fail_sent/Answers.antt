use Rattle.serve_clients.proofs.Agreeing.{keeps_none, keeps_twice}
use Rattle.serve_links.proofs.Walked.{by_fail_next, still, then}
use Rattle.std.proofs.Common.{◌≡◌, ◌+◌, [], length, refl, arith}
use Rattle.serve_links.proofs.Failing.{one_less, first_then, is_none, all_by_none, one_failed, none_failed}
use Rattle.serve_links.proofs.outcomes.fail_sent.Goals as goal

pub loop-init : goal.loop-init
loop-init c = record { core = still refl; few = omega arith; all = λ new g. g; first = none_failed c.args.calls.now.sent.items c.args.core.now; ends = keeps_none c.args.clients.now }

pub loop-preserved : goal.loop-preserved
loop-preserved c = let less : length c.loop.calls.sent.items ≡ length c.fail_next.new.self.sent.items + 1 = one_less c.loop.calls.sent.items c.in-Some.client c.fail_next.new.self.sent.items c.loop.core c.fail_next.new.core c.in-Some.ensures in record { core = then c.loop.invariant.core (by_fail_next c.loop.calls.sent.items c.fail_next.result c.fail_next.new.self.sent.items c.loop.core c.fail_next.new.core c.fail_next.ensures); few = omega (arith, c.loop.invariant.few); all = λ new g. c.loop.invariant.all new (first_then c.loop.calls.sent.items c.in-Some.client c.fail_next.new.self.sent.items c.loop.core c.fail_next.new.core new c.in-Some.ensures g); first = one_failed c.args.calls.now.sent.items c.loop.calls.sent.items c.in-Some.client c.fail_next.new.self.sent.items c.args.core.now c.loop.core c.fail_next.new.core c.loop.invariant.first c.in-Some.ensures; ends = keeps_twice c.args.clients.now c.loop.clients c.mark_settled.new.self c.loop.invariant.ends c.mark_settled.ensures.ends }

pub returns : goal.returns
returns c = let none : c.loop.calls.sent.items ≡ [] = is_none c.loop.calls.sent.items (omega (arith, c.loop.invariant.few)) in record { core = c.loop.invariant.core; none = none; all = c.loop.invariant.all c.loop.core (all_by_none c.loop.calls.sent.items c.loop.core none); first = c.loop.invariant.first; ends = c.loop.invariant.ends }
