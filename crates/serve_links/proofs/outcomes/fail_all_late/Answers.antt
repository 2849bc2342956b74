use Rattle.std.proofs.Common.{ap}
use Rattle.serve_wire.specs.Events.{time}
use Rattle.serve_clients.proofs.Agreeing.{keeps_none, keeps_twice}
use Rattle.serve_links.specs.declared.link.Link.{Link}
use Rattle.serve_links.specs.Story.{line_of}
use Rattle.serve_links.proofs.LinkGoes.{quiet, line_keeps, line_then}
use Rattle.serve_links.proofs.LateGoes.{late_turned, waits_still, waits_twice}
use Rattle.serve_links.proofs.outcomes.fail_all_late.Goals as goal

pub loop-init : goal.loop-init
loop-init c = record {
  goes = λ at h has. line_keeps (quiet h) (ap line_of c.turn_late.ensures);
  late = λ now has. late_turned now c.args.link.now c.turn_late.new.self c.turn_late.ensures has;
  stores = waits_still c.args.link.now c.turn_late.new.self (ap (λ (z : Link). z.limits) c.turn_late.ensures) (ap (λ (z : Link). z.calls.sent.items) c.turn_late.ensures);
  ends = keeps_none c.args.clients.now;
}

pub loop-preserved : goal.loop-preserved
loop-preserved c = record {
  goes = λ at h has. line_then (c.loop.invariant.goes at h has) (c.fail_late.ensures.goes at h (c.loop.invariant.late (time h) has));
  late = λ now has. c.fail_late.ensures.late now (c.loop.invariant.late now has);
  stores = waits_twice c.args.link.now c.loop.link c.fail_late.new.self c.loop.invariant.stores c.fail_late.ensures.stores;
  ends = keeps_twice c.args.clients.now c.loop.clients c.mark_settled.new.self c.loop.invariant.ends c.mark_settled.ensures.ends;
}

pub returns-in_default-clause-goes : goal.returns-in_default-clause-goes
returns-in_default-clause-goes c = λ at h has. line_then (c.loop.invariant.goes at h has) (c.fail_late.ensures.goes at h (c.loop.invariant.late (time h) has))

pub returns-in_default-2-clause-goes : goal.returns-in_default-2-clause-goes
returns-in_default-2-clause-goes c = λ at h has. line_then (c.loop.invariant.goes at h has) (c.fail_late.ensures.goes at h (c.loop.invariant.late (time h) has))

pub returns-in_default-clause-stores : goal.returns-in_default-clause-stores
returns-in_default-clause-stores c = waits_twice c.args.link.now c.loop.link c.fail_late.new.self c.loop.invariant.stores c.fail_late.ensures.stores

pub returns-in_default-2-clause-stores : goal.returns-in_default-2-clause-stores
returns-in_default-2-clause-stores c = waits_twice c.args.link.now c.loop.link c.fail_late.new.self c.loop.invariant.stores c.fail_late.ensures.stores

pub returns-in_default-clause-ends : goal.returns-in_default-clause-ends
returns-in_default-clause-ends c = c.loop.invariant.ends

pub returns : goal.returns
returns c = record { goes = c.loop.invariant.goes; stores = c.loop.invariant.stores; ends = c.loop.invariant.ends }
