use Rattle.std.proofs.Common.{◌≡◌, ◌<◌, List, length, take, get_or, map, refl, sym, ◌∙◌, subst}
use Rattle.script_events.specs.declared.script.Event.{Event}
use Rattle.script_events.specs.Scripted.{scripted_of}
use Rattle.script_events.proofs.BadEvents.{nothing_counted, before_more, not_here}
use Rattle.script_events.proofs.bad.first_bad_event.Goals as goal

pub loop-index-init : goal.loop-index-init
loop-index-init c = record { before = nothing_counted _ refl c.none_added.ensures refl; ahead = refl }

pub loop-index-preserved : goal.loop-index-preserved
loop-index-preserved c =
    let xs = c.args.script.now.events.items in
    let i = c.loop-index.index in
    let v = c.loop-index.invariant in
    let same = c.deref-event-items.ensures.value in
    let lt : i < length xs = subst (λ (l : List Event). i < length l) same c.loop-index-test.true in
    let is : c.event-item.result ≡ get_or xs i c.event-item.result = subst (λ (l : List Event). c.event-item.result ≡ get_or l i c.event-item.result) same c.event-item.is in
    let good = sym (c.is_bad.ensures (map scripted_of (take i xs)) v.before) ∙ c.if-is_bad.false in
    record {
      before = before_more c.args.servers xs i c.event-item.result c.loop-index.before c.take.new.self lt is v.before good c.take.ensures;
      ahead = sym (not_here c.args.servers xs i c.event-item.result lt is good) ∙ v.ahead;
    }
