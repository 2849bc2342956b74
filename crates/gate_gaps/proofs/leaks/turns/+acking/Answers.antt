use Rattle.std.proofs.Common.{◌-◌, length, take, drop, arith}
use Rattle.route_tree.specs.Plan.{plan_count_of_all}
use Rattle.route_tree.specs.Form.{plans_of}
use Rattle.gate_gaps.proofs.Few.{small, acks_first_few}
use Rattle.gate_gaps.proofs.leaks.turns.+acking.Goals as goal

pub acking_first-counted_after-later-requires : goal.acking_first-counted_after-later-requires
acking_first-counted_after-later-requires t c =
    small c.trying-tried.result.calls c.acking_first-there.result _ (plan_count_of_all (plans_of (take (length c.args.children.now - 1) (drop 1 c.args.children.now)))) (let few = c.trying-tried.ensures.few in let bound = c.trying-tried.ensures.bound in omega arith) c.acking_first-there.ensures.number (acks_first_few c.args.server (plans_of (take (length c.args.children.now - 1) (drop 1 c.args.children.now)))) c.acking_first-there.ensures.bound
