use Rattle.std.proofs.Common.{◌∙◌}
use Rattle.route_tree.specs.At.{plain_for}
use Rattle.gate_coverage.proofs.Left.{asks_add}
use Rattle.gate_coverage.proofs.possible.adds_at.Goals as goal

pub returns : goal.returns
returns c = c.possible_at.ensures.asks ∙ asks_add (plain_for 0 c.args.text.now c.args.tree.now)
