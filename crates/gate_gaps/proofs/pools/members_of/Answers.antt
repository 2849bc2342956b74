use Rattle.std.proofs.Common.{◌∙◌, ◌++◌, Option, ap, option_to_list}
use Rattle.gate_gaps.specs.declared.pools.Member.{Member}
use Rattle.gate_gaps.specs.Pools.{member_of}
use Rattle.gate_gaps.proofs.Pooling.{items_go}
use Rattle.gate_gaps.proofs.pools.members_of.Goals as goal

pub loop-item-preserved : goal.loop-item-preserved
loop-item-preserved c =
    items_go (λ d. option_to_list (member_of c.args.servers.now d)) c.args.items.now c.loop-item.item-index c.item-item.result c.loop-item.members.items c.add_member.new.members.items c.loop-item-test.true c.item-item.is c.loop-item.invariant
    (c.in_ok-add_member.ensures ∙ ap (λ (m : Option Member). c.loop-item.members.items ++ option_to_list m) c.member_of.ensures)
