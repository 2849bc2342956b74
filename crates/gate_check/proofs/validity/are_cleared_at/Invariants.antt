use Rattle.std.proofs.Common.{◌≡◌, drop}
use Rattle.route_tree.specs.At.{plain_for}
use Rattle.gate_check.specs.Rows.{all_cleared}
use Rattle.gate_check.proofs.validity.are_cleared_at.Given as goal

abbrev pub invariant-loop-server : goal.invariant-loop-server
invariant-loop-server l = all_cleared (plain_for l.hash l.text l.tree) l.row ≡ all_cleared (plain_for l.hash l.text l.tree) (drop l.server-index l.row)
