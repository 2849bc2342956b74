use Rattle.std.proofs.Common.{sym, subst}
use Rattle.route_tree.specs.Plan.{Plan}
use Rattle.gate_coverage.specs.Cover.{Takes}
use Rattle.mcgate_check.proofs.explaining.gap_explained.Goals as goal

pub explain-requires : goal.explain-requires
explain-requires c = subst (λ (p : Plan). Takes p c.args.gap.now.op c.args.gap.now.server) (sym c.in_ok-plain.ensures) c.requires.0.2.first.gap.taken
