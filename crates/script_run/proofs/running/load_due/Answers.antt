use Rattle.std.proofs.Common.{◌≡◌, ℕ, ◌+◌, drop, refl, ◌∙◌, subst, arith}
use Rattle.script_events.specs.Reloads.{ReloadsInOrder}
use Rattle.route_job.proofs.Executing.{on_err}
use Rattle.script_events.proofs.Due.{due_at, order_at, order_on}
use Rattle.script_run.proofs.Come.{at_place, mark_more, mark_count}
use Rattle.script_run.proofs.Stood.{loads_stay, loads_then, loads_one}
use Rattle.script_run.proofs.Broken.{loads_some, loads_marked}
use Rattle.script_run.proofs.running.load_due.Goals as goal

pub loop-marks-init : goal.loop-marks-init
loop-marks-init c = record { loads = loads_stay c.args.refused.now c.args.reloads.now c.args.next c.args.shown c.args.before c.args.marks.now.items c.args.runner.now; clients = refl; order = λ end servers h. h; within = c.requires.within; marked = λ e. e; marks = λ h. h }

pub loop-marks-preserved : goal.loop-marks-preserved
loop-marks-preserved c =
    let v = c.loop-marks.invariant in
    let refused = c.args.refused.now in
    let reloads = c.args.reloads.now in
    let next = c.args.next in
    let n = c.loop-marks.loaded in
    let r = c.index-reloads-loaded.result in
    let due = c.is_due.ensures.0 c.loop-marks-test.true in
    let lt = due.0 in
    let place : r.at ≡ next = due_at c.requires.order.0 c.requires.order.1 n next reloads r due c.index-reloads-loaded.is (v.order c.requires.order.0 c.requires.order.1 c.requires.order.2) in
    record {
      loads = loads_then refused reloads next c.args.shown c.args.before n (n + 1) c.args.marks.now.items c.loop-marks.marks.items c.mark.new.marks.items c.args.runner.now c.loop-marks.runner c.take_over.new.runner v.loads
          (loads_one c.standing_says.ensures refused reloads next c.args.shown n c.loop-marks.marks.items c.mark.new.marks.items r c.is_refused.result c.loop-marks.runner c.take_over.new.runner place (at_place reloads n r lt c.index-reloads-loaded.is) c.is_refused.ensures c.in_ok-mark.ensures.ok c.in_ok-take_over.ensures.takes);
      clients = c.in_ok-take_over.ensures.clients ∙ v.clients;
      order = λ end servers h. subst (λ (p : ℕ). ReloadsInOrder end servers p (drop (n + 1) reloads)) place (order_at end servers n next reloads r lt c.index-reloads-loaded.is (v.order end servers h)).3;
      within = omega (arith, lt);
      marked = λ e. mark_count n c.args.shown c.loop-marks.marks.items c.mark.new.marks.items c.in_ok-mark.ensures.ok (v.marked e);
      marks = λ h. mark_more c.args.shown c.loop-marks.marks.items c.mark.new.marks.items c.in_ok-mark.ensures.ok (v.marks h);
    }

pub returns-clause-order : goal.returns-clause-order
returns-clause-order c end servers h =
    order_on end servers c.loop-marks.loaded c.args.next c.args.reloads.now c.is_due.result c.is_due.ensures.1 c.loop-marks-test.false (c.loop-marks.invariant.order end servers h)

pub returns-clause-clients : goal.returns-clause-clients
returns-clause-clients c = c.loop-marks.invariant.clients

pub returns-in_err-mark-clause-err : goal.returns-in_err-mark-clause-err
returns-in_err-mark-clause-err c =
    on_err c.from_residual.result
    (loads_some c.args.refused.now c.args.reloads.now c.args.next c.args.shown c.args.before c.loop-marks.loaded c.args.marks.now.items c.loop-marks.marks.items c.mark.new.marks.items c.args.runner.now c.loop-marks.runner c.loop-marks.invariant.within c.in_err-mark.ensures.err c.loop-marks.invariant.loads)

pub returns-in_err-take_over-clause-err : goal.returns-in_err-take_over-clause-err
returns-in_err-take_over-clause-err c =
    let v = c.loop-marks.invariant in
    let n = c.loop-marks.loaded in
    let r = c.index-reloads-loaded.result in
    let due = c.is_due.ensures.0 c.loop-marks-test.true in
    let place : r.at ≡ c.args.next = due_at c.requires.order.0 c.requires.order.1 n c.args.next c.args.reloads.now r due c.index-reloads-loaded.is (v.order c.requires.order.0 c.requires.order.1 c.requires.order.2) in
    on_err c.from_residual-in_err-take_over.result
    (loads_marked c.args.refused.now c.args.reloads.now c.args.next c.args.shown c.args.before n c.args.marks.now.items c.loop-marks.marks.items c.mark.new.marks.items c.args.runner.now c.loop-marks.runner r place (at_place c.args.reloads.now n r due.0 c.index-reloads-loaded.is) c.in_ok-mark.ensures.ok v.within v.loads)
