use Rattle.std.proofs.Common.{◌≡◌, ◌<◌, length, take, refl, sym, ap, ◌∙◌, subst, arith}
use Rattle.std.proofs.Math.Seq.{take-length}
use Rattle.script_events.specs.Losing.{AreLost}
use Rattle.script_events.proofs.Losses.{none_lost, one_more, take_more}
use Rattle.script_events.proofs.servers.losing.lose_all.Goals as goal

pub loop-loss-init : goal.loop-loss-init
loop-loss-init c = record { lost = none_lost c.args.caches.now.items; count = refl }

pub loop-loss-preserved : goal.loop-loss-preserved
loop-loss-preserved c =
    let xs = c.args.losses.now in
    let i = c.loop-loss.loss-index in
    let x = c.loss-item.result in
    let lt : i < length xs = omega (arith, c.loop-loss-test.true) in
    record {
      lost =
          subst (λ l. AreLost l c.args.caches.now.items c.lose_one.new.caches.items) (sym (take_more xs i x lt c.loss-item.is))
          (one_more (take i xs) x c.args.caches.now.items c.loop-loss.caches.items c.lose_one.new.caches.items c.loop-loss.invariant.lost c.lose_one.ensures.contents c.lose_one.ensures.held);
      count = c.lose_one.ensures.count ∙ c.loop-loss.invariant.count;
    }

pub returns-clause-lost : goal.returns-clause-lost
returns-clause-lost c =
    let end : c.loop-loss.loss-index ≡ length c.args.losses.now = omega (arith, c.loop-loss-test.false, c.loop-loss.auto.loss-index-end) in
    subst (λ l. AreLost l c.args.caches.now.items c.loop-loss.caches.items) (ap (λ n. take n c.args.losses.now) end ∙ take-length c.args.losses.now) c.loop-loss.invariant.lost
