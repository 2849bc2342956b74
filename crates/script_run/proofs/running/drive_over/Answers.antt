use Rattle.std.proofs.Common.{◌≡◌, ℕ, ◌+◌, List, length, map, take, drop, false, refl, sym, ap, ◌∙◌, subst, arith}
use Rattle.std.proofs.lemmas.Result.{IfOk-weaker}
use Rattle.script_events.specs.declared.script.Output.{Output}
use Rattle.script_events.specs.Bad.{bad_in}
use Rattle.script_events.specs.Reloads.{ReloadsInOrder}
use Rattle.script_events.specs.Scripted.{scripted_of, output_shown, transcript_of}
use Rattle.script_events.proofs.BadEvents.{good_here, not_here}
use Rattle.script_events.specs.Servers.{count_of_servers}
use Rattle.script_events.specs.declared.script.Transcript.{Transcript}
use Rattle.std.proofs.lemmas.List.{length-map, drop-map}
use Rattle.script_run.proofs.Come.{all_came, marks_on, marks_none, on_ok_so}
use Rattle.script_run.proofs.Breaking.{passed, err_weaker}
use Rattle.script_run.proofs.Broken.{stops_between, stops_within, stops_handing}
use Rattle.script_run.proofs.Stood.{due, event_next, stood_last}
use Rattle.script_run.proofs.running.drive_over.Goals as goal

-- so many outputs are in the transcript
shown_all : (t : Transcript) (items : List Output) → items ≡ t.shown.items → length items ≡ length (transcript_of t)
shown_all t items is = ap (λ (l : List Output). length l) is ∙ sym (length-map t.shown.items output_shown)

pub loop-next-init : goal.loop-next-init
loop-next-init c = record {
  count = refl;
  within = omega arith;
  order = c.requires.order;
  ahead = c.requires.good;
  stood = λ first h. h;
  marked = ap length c.requires.marks;
  marks = marks_none (length c.args.transcript.now.shown.items) c.args.marks.now.items c.requires.marks;
}

pub load_due-requires : goal.load_due-requires
load_due-requires c = record { within = c.loop-next.invariant.within; order = (length c.args.events.now, count_of_servers c.args.servers.now, c.loop-next.invariant.order) }

pub returns-in_err-loaded-clause-err : goal.returns-in_err-loaded-clause-err
returns-in_err-loaded-clause-err c =
    let v = c.loop-next.invariant in
    let xs = c.args.events.now in
    let i = c.loop-next.next in
    let given = transcript_of c.loop-next.transcript in
    let e = c.in_err-loaded.ensures in
    passed c.from_residual.result _ _ c.from_residual.ensures.1
    (λ first h. stops_between first c.args.refused.now c.args.reloads.now (map scripted_of xs) c.standing_says.ensures (map scripted_of (drop i xs)) given c.load_due.new.marks.items c.loop-next.runner.clients c.loop-next.servers _
    (e.err first (map scripted_of xs) (map scripted_of (drop i xs)) given c.loop-next.runner.clients c.loop-next.servers (sym (drop-map scripted_of i xs)) (shown_all c.loop-next.transcript c.as_slice-shown.result.now c.as_slice-shown.ensures.value) (v.stood first h))
    e.fault)

pub befall-requires : goal.befall-requires
befall-requires c =
    let v = c.loop-next.invariant in
    let xs = c.args.events.now in
    let i = c.loop-next.next in
    let x = c.index-events-next.result in
    record {
      good = (map scripted_of (take i xs), subst (λ (n : ℕ). bad_in n (map scripted_of (take i xs)) (scripted_of x) ≡ false) (sym v.count) (good_here (count_of_servers c.args.servers.now) xs i x c.loop-next-test.true c.index-events-next.is v.ahead));
    }

pub returns-in_err-befall-clause-err : goal.returns-in_err-befall-clause-err
returns-in_err-befall-clause-err c =
    let v = c.loop-next.invariant in
    let xs = c.args.events.now in
    let i = c.loop-next.next in
    let x = c.index-events-next.result in
    let given = transcript_of c.loop-next.transcript in
    passed c.from_residual-in_err-befall.result _ _ c.from_residual-in_err-befall.ensures.1
    (λ first h. stops_within first c.args.refused.now c.args.reloads.now (map scripted_of xs) c.standing_says.ensures c.in_ok-loaded.loaded (scripted_of x) (map scripted_of (drop (i + 1) xs)) given c.load_due.new.marks.items c.load_due.new.runner c.loop-next.servers c.befall.new.servers _
    c.in_ok-loaded.ensures.within c.in_err-befall.ensures.err
    (due first c.args.refused.now c.args.reloads.now xs i (length c.as_slice-shown.result.now) c.loop-next.loaded c.in_ok-loaded.loaded x given c.loop-next.marks.items c.load_due.new.marks.items c.loop-next.runner c.load_due.new.runner c.loop-next.servers
    c.loop-next-test.true c.index-events-next.is (shown_all c.loop-next.transcript c.as_slice-shown.result.now c.as_slice-shown.ensures.value) c.in_ok-loaded.ensures.clients c.in_ok-loaded.ensures.ok (v.stood first h)))

pub returns-in_err-give_all-clause-err : goal.returns-in_err-give_all-clause-err
returns-in_err-give_all-clause-err c =
    let v = c.loop-next.invariant in
    let xs = c.args.events.now in
    let i = c.loop-next.next in
    let x = c.index-events-next.result in
    let given = transcript_of c.loop-next.transcript in
    passed c.from_residual-in_err-give_all.result _ _ c.from_residual-in_err-give_all.ensures.1
    (λ first h. stops_handing first c.args.refused.now c.args.reloads.now (map scripted_of xs) c.standing_says.ensures c.in_ok-loaded.loaded (scripted_of x) (map scripted_of (drop (i + 1) xs)) given (transcript_of c.give_all.new.transcript) c.load_due.new.marks.items
    c.load_due.new.runner c.befall.new.runner c.loop-next.servers c.befall.new.servers _ c.in_ok-loaded.ensures.within c.in_ok-befall.ensures.ok c.in_err-give_all.ensures.err c.in_err-give_all.ensures.rising c.in_err-give_all.ensures.fault
    (due first c.args.refused.now c.args.reloads.now xs i (length c.as_slice-shown.result.now) c.loop-next.loaded c.in_ok-loaded.loaded x given c.loop-next.marks.items c.load_due.new.marks.items c.loop-next.runner c.load_due.new.runner c.loop-next.servers
    c.loop-next-test.true c.index-events-next.is (shown_all c.loop-next.transcript c.as_slice-shown.result.now c.as_slice-shown.ensures.value) c.in_ok-loaded.ensures.clients c.in_ok-loaded.ensures.ok (v.stood first h)))

pub loop-next-preserved : goal.loop-next-preserved
loop-next-preserved c =
    let v = c.loop-next.invariant in
    let xs = c.args.events.now in
    let i = c.loop-next.next in
    let x = c.index-events-next.result in
    let lt = c.loop-next-test.true in
    let count = count_of_servers c.args.servers.now in
    let good : bad_in count (map scripted_of (take i xs)) (scripted_of x) ≡ false = good_here count xs i x lt c.index-events-next.is v.ahead in
    record {
      count = c.in_ok-befall.ensures.count ∙ v.count;
      within = c.in_ok-loaded.ensures.within;
      order = c.in_ok-loaded.ensures.order (length xs) count v.order;
      ahead = sym (not_here count xs i x lt c.index-events-next.is good) ∙ v.ahead;
      stood = λ first h. event_next first c.args.refused.now c.args.reloads.now xs i (length c.as_slice-shown.result.now) c.loop-next.loaded c.in_ok-loaded.loaded x (transcript_of c.loop-next.transcript) (transcript_of c.give_all.new.transcript)
          c.loop-next.marks.items c.load_due.new.marks.items c.loop-next.runner c.load_due.new.runner c.befall.new.runner c.give_all.new.runner c.loop-next.servers c.befall.new.servers lt c.index-events-next.is
          (shown_all c.loop-next.transcript c.as_slice-shown.result.now c.as_slice-shown.ensures.value) c.in_ok-loaded.ensures.clients c.in_ok-loaded.ensures.ok c.in_ok-befall.ensures.ok c.in_ok-befall.ensures.heard c.in_ok-befall.ensures.rest
          c.in_ok-give_all.ensures.ok c.in_ok-give_all.ensures.rising c.in_ok-give_all.ensures.stalled c.in_ok-give_all.ensures.clients (v.stood first h);
      marked = c.in_ok-loaded.ensures.marked v.marked;
      marks = marks_on (length c.as_slice-shown.result.now) (length c.loop-next.transcript.shown.items) (length c.give_all.new.transcript.shown.items) c.loop-next.marks.items c.load_due.new.marks.items
          (ap (λ (l : List Output). length l) c.as_slice-shown.ensures.value) c.in_ok-give_all.ensures.longer v.marks c.in_ok-loaded.ensures.marks;
    }

pub load_due-requires-2 : goal.load_due-requires-2
load_due-requires-2 c =
    let v = c.loop-next.invariant in
    let xs = c.args.events.now in
    let end : c.loop-next.next ≡ length xs = omega arith in
    record { within = v.within; order = (length xs, count_of_servers c.args.servers.now, subst (λ (n : ℕ). ReloadsInOrder (length xs) (count_of_servers c.args.servers.now) n (drop c.loop-next.loaded c.args.reloads.now)) end v.order) }

pub returns-in_err-_all-clause-err : goal.returns-in_err-_all-clause-err
returns-in_err-_all-clause-err c =
    let v = c.loop-next.invariant in
    let xs = c.args.events.now in
    let i = c.loop-next.next in
    let given = transcript_of c.loop-next.transcript in
    let e = c.in_err-_all.ensures in
    let end : i ≡ length xs = omega arith in
    passed c.from_residual-in_err-_all.result _ _ c.from_residual-in_err-_all.ensures.1
    (λ first h. stops_between first c.args.refused.now c.args.reloads.now (map scripted_of xs) c.standing_says.ensures (map scripted_of (drop i xs)) given c.load_due-2.new.marks.items c.loop-next.runner.clients c.loop-next.servers _
    (e.err first (map scripted_of xs) (map scripted_of (drop i xs)) given c.loop-next.runner.clients c.loop-next.servers (sym (drop-map scripted_of i xs) ∙ ap (λ (n : ℕ). drop n (map scripted_of xs)) end)
    (shown_all c.loop-next.transcript c.as_slice-shown-2.result.now c.as_slice-shown-2.ensures.value) (v.stood first h))
    e.fault)

pub returns-clause-ok : goal.returns-clause-ok
returns-clause-ok c =
    let v = c.loop-next.invariant in
    let xs = c.args.events.now in
    let reloads = c.args.reloads.now in
    let e = c.in_ok-_all.ensures in
    let end : c.loop-next.next ≡ length xs = omega arith in
    let all = all_came (length xs) (count_of_servers c.args.servers.now) 0 reloads c.in_ok-_all._all c.requires.order e.within e.due in
    IfOk-weaker c.finish.result _ _
    (λ report d first h. d first c.args.refused.now reloads (map scripted_of xs) c.load_due-2.new.marks.items
    (stood_last first c.args.refused.now reloads xs c.loop-next.next (length c.as_slice-shown-2.result.now) c.loop-next.loaded c.in_ok-_all._all (transcript_of c.loop-next.transcript) c.loop-next.marks.items c.load_due-2.new.marks.items c.loop-next.runner c.load_due-2.new.runner c.loop-next.servers end all
    (shown_all c.loop-next.transcript c.as_slice-shown-2.result.now c.as_slice-shown-2.ensures.value) e.clients e.ok (v.stood first h)))
    c.finish.ensures.ok

pub returns-clause-err : goal.returns-clause-err
returns-clause-err c =
    let v = c.loop-next.invariant in
    let xs = c.args.events.now in
    let reloads = c.args.reloads.now in
    let e = c.in_ok-_all.ensures in
    let end : c.loop-next.next ≡ length xs = omega arith in
    let all = all_came (length xs) (count_of_servers c.args.servers.now) 0 reloads c.in_ok-_all._all c.requires.order e.within e.due in
    err_weaker c.finish.result _ _
    (λ fault d first h. d first c.args.refused.now reloads (map scripted_of xs) c.load_due-2.new.marks.items
    (stood_last first c.args.refused.now reloads xs c.loop-next.next (length c.as_slice-shown-2.result.now) c.loop-next.loaded c.in_ok-_all._all (transcript_of c.loop-next.transcript) c.loop-next.marks.items c.load_due-2.new.marks.items c.loop-next.runner c.load_due-2.new.runner c.loop-next.servers end all
    (shown_all c.loop-next.transcript c.as_slice-shown-2.result.now c.as_slice-shown-2.ensures.value) e.clients e.ok (v.stood first h)))
    c.finish.ensures.err

pub returns-clause-marked : goal.returns-clause-marked
returns-clause-marked c =
    let e = c.in_ok-_all.ensures in
    on_ok_so c.finish.result _ (e.marked c.loop-next.invariant.marked ∙ all_came (length c.args.events.now) (count_of_servers c.args.servers.now) 0 c.args.reloads.now c.in_ok-_all._all c.requires.order e.within e.due)
