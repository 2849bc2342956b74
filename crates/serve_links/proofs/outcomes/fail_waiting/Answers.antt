use Rattle.serve_clients.proofs.Agreeing.{keeps_none, keeps_twice}
use Rattle.serve_links.proofs.Walked.{by_failure, still, then}
use Rattle.std.proofs.Common.{◌≡◌, [], length, refl, ap, ◌∙◌, arith}
use Rattle.serve_links.specs.declared.link.Link.{Link}
use Rattle.serve_links.proofs.Failing.{waiting_then, is_none, all_by_none, one_waiting_failed, none_failed}
use Rattle.serve_links.proofs.outcomes.fail_waiting.Goals as goal

pub loop-init : goal.loop-init
loop-init c = record { core = still refl; few = omega arith; all = λ new g. g; rest = refl; first = none_failed c.args.link.now.waiting c.args.core.now; ends = keeps_none c.args.clients.now }

pub loop-preserved : goal.loop-preserved
loop-preserved c = let less = ap length c.in-Some.ensures.waiting in record { core = then c.loop.invariant.core (by_failure c.in-Some.call.ticket.number c.loop.core c.fail_call.new.core c.fail_call.ensures); few = omega (arith, c.loop.invariant.few); all = λ new g. c.loop.invariant.all new (waiting_then c.loop.link.waiting c.in-Some.call c.next_waiting.new.self.waiting c.loop.core c.fail_call.new.core new c.in-Some.ensures.waiting c.fail_call.ensures g); rest = c.next_waiting.ensures.rest ∙ ap (λ (x : Link). record x { waiting = c.next_waiting.new.self.waiting }) c.loop.invariant.rest; first = one_waiting_failed c.args.link.now.waiting c.loop.link.waiting c.next_waiting.new.self.waiting c.in-Some.call c.args.core.now c.loop.core c.fail_call.new.core c.loop.invariant.first c.in-Some.ensures.waiting c.fail_call.ensures; ends = keeps_twice c.args.clients.now c.end_waiting.new.self c.mark_settled.new.self (keeps_twice c.args.clients.now c.loop.clients c.end_waiting.new.self c.loop.invariant.ends c.end_waiting.ensures.ends) c.mark_settled.ensures.ends }

pub returns : goal.returns
returns c = let none : c.loop.link.waiting ≡ [] = is_none c.loop.link.waiting (omega (arith, c.loop.invariant.few)) in record { core = c.loop.invariant.core; none = none; all = c.loop.invariant.all c.loop.core (all_by_none c.loop.link.waiting c.loop.core none); rest = c.loop.invariant.rest; first = c.loop.invariant.first; ends = c.loop.invariant.ends }
