use Rattle.std.proofs.Common.{◌∙◌, ◌++◌, Option, ap, option_to_list}
use Rattle.gate_gaps.specs.declared.pools.Member.{Member}
use Rattle.gate_gaps.specs.Pools.{member_servers, member_placed}
use Rattle.gate_gaps.proofs.Pooling.{items_go}
use Rattle.gate_gaps.proofs.pools.table_of.Goals as goal

pub loop-item-preserved : goal.loop-item-preserved
loop-item-preserved c =
    items_go (λ d. member_servers (option_to_list (member_placed c.args.members.now d))) c.args.items.now c.loop-item.item-index c.item-item.result c.loop-item.slots.items c.add_slot.new.slots.items c.loop-item-test.true c.item-item.is c.loop-item.invariant
    (c.in_ok-add_slot.ensures ∙ ap (λ (m : Option Member). c.loop-item.slots.items ++ member_servers (option_to_list m)) c.placed.ensures)
