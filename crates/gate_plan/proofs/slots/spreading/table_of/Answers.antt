use Rattle.std.proofs.Common.{◌<◌, ◌++◌, ◌∙◌, ℕ, List, add-one, ap, sym, arith}
use Rattle.gate_plan.proofs.Repeated.{repeated, same_servers}
use Rattle.gate_plan.proofs.slots.spreading.table_of.Goals as goal

pub loop-time-init : goal.loop-time-init
loop-time-init c = c.new-table.ensures.items

pub loop-time-preserved : goal.loop-time-preserved
loop-time-preserved c =
    c.in_ok-extend_from_slice.ensures.items
    ∙ ap (λ (xs : List ℕ). xs ++ c.args.slots.now) c.loop-time.invariant
    ∙ ap (λ (k : ℕ). repeated k c.args.slots.now) (sym (add-one c.loop-time._time))

pub returns : goal.returns
returns c =
    let some : 0 < c.loop-time._time = omega (arith, c.loop-time-test.false, c.loop-time.auto._time-end, c.times-time-end.ensures) in
    same_servers c.loop-time._time c.args.slots.now c.loop-time.table.items some c.requires c.loop-time.invariant
