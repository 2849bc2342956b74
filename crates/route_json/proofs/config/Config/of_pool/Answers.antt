use Rattle.std.proofs.Common.{◌≡◌, ◌∙◌, sym, arith, subst}
use Rattle.route_json.specs.Fits.{IsBelow}
use Rattle.route_json.proofs.OnePool.{is_new, has_room, pool_grows, pool_is_tree, pool_is_below}
use Rattle.route_json.proofs.config.Config.of_pool.Goals as goal

pub push-requires-clause-new : goal.push-requires-clause-new
push-requires-clause-new c =
    is_new c.loop-number.number-counter _ c.loop-number.addresses c.deref.result.now c.loop-number.invariant (omega (arith, c.loop-number-test.true, c.requires.few)) (c.deref.ensures ∙ c.in_ok-address.ensures.ok)

pub push-requires-clause-room : goal.push-requires-clause-room
push-requires-clause-room c =
    omega (arith, has_room c.loop-number.number-counter _ c.loop-number.addresses c.loop-number.invariant, c.loop-number-test.true, c.requires.few)

pub loop-number-preserved : goal.loop-number-preserved
loop-number-preserved c =
    pool_grows c.loop-number.number-counter c.loop-number.pool.items _ c.loop-number.addresses c.push.new.self c.in_ok-push.field-0 c.deref.result.now c.loop-number.invariant c.in_ok-push.ensures.number (c.deref.ensures ∙ c.in_ok-address.ensures.ok) c.in_ok-push-2.ensures.items c.in_ok-push.ensures.last

pub new-requires : goal.new-requires
new-requires c =
    let all : c.loop-number.number-counter ≡ c.args.servers = omega (arith, c.loop-number-test.false, c.loop-number.auto.number-counter-end) in
    pool_is_tree c.loop-number.number-counter c.loop-number.pool.items c.loop-number.addresses c.loop-number.invariant (omega (arith, all, c.requires.some)) (omega (arith, all, c.requires.few))

pub new-requires-2 : goal.new-requires-2
new-requires-2 c =
    let h = pool_is_below c.loop-number.number-counter c.loop-number.pool.items c.loop-number.addresses c.loop-number.invariant in
    subst (IsBelow _) (sym c.in_ok-tree.ensures) h
