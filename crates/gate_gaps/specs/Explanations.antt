-- Why a server is a gap of a plain tree. Source: mcgate's own.
use Rattle.std.specs.Prelude.{ℕ}
use Rattle.mc_types.specs.declared.ask.Op.{Op}
use Rattle.route_tree.specs.Plan.{Plan}
use Rattle.gate_coverage.specs.declared.deleting.Deleting.{Deleting}
use Rattle.gate_gaps.specs.Ways.{WayLeadsTo}
use Rattle.gate_gaps.specs.ServerUses.{AreServerUses}
use Rattle.gate_gaps.specs.declared.explanation.Explanation.{Explanation}

-- the way leads the operation to the server, and what is said of each server is so
pub record Explains (plain : Plan) (op : Op) (server : ℕ) (kind : Deleting) (explanation : Explanation) : Type 0 where
  pub way : WayLeadsTo op server explanation.way.items plain
  pub server_uses : AreServerUses plain kind explanation.server_uses.items
