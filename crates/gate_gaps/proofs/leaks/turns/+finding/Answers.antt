use Rattle.std.proofs.Common.{◌-◌, length, take, drop, arith}
use Rattle.route_tree.specs.Plan.{plan_count_of_all}
use Rattle.route_tree.specs.Form.{plans_of}
use Rattle.gate_gaps.proofs.Few.{small, finds_first_few, finds_some_few}
use Rattle.gate_gaps.proofs.leaks.turns.+finding.Goals as goal

pub finding_first-counted_after-later-requires : goal.finding_first-counted_after-later-requires
finding_first-counted_after-later-requires t c =
    small c.trying-tried.result.calls c.finding_first-there.result _ (plan_count_of_all (plans_of (take (length c.args.children.now - 1) (drop 1 c.args.children.now)))) (let few = c.trying-tried.ensures.few in let bound = c.trying-tried.ensures.bound in omega arith) c.finding_first-there.ensures.number (finds_first_few c.args.op c.args.server (plans_of (take (length c.args.children.now - 1) (drop 1 c.args.children.now)))) c.finding_first-there.ensures.bound

pub finding_some-counted_after-later-requires : goal.finding_some-counted_after-later-requires
finding_some-counted_after-later-requires t c =
    small c.trying-tried.result.calls c.finding_some-there.result _ (plan_count_of_all (plans_of (take (length c.args.children.now - 1) (drop 1 c.args.children.now)))) (let few = c.trying-tried.ensures.few in let bound = c.trying-tried.ensures.bound in omega arith) c.finding_some-there.ensures.number (finds_some_few c.args.op c.args.server (plans_of (take (length c.args.children.now - 1) (drop 1 c.args.children.now)))) c.finding_some-there.ensures.bound
