use Rattle.std.proofs.Common.{List, ℕ, ◌++◌, ap₂, subst}
use Rattle.std.specs.Io.KnownBytes.{Appends}
use Rattle.route_tree.specs.Route.{Route}
use Rattle.gate_gaps.proofs.Written.{both_written}
use Rattle.gate_picture.specs.Lines.{tree_lines}
use Rattle.gate_picture.specs.Statements.{graph_lines}
use Rattle.gate_picture.proofs.picture.write_config.Goals as goal

pub returns : goal.returns
unfolding Rattle.gate_picture.specs.Picture.config_lines
returns g c =
    let tree = ap₂ (λ (s : List (List ℕ)) (r : Route). graph_lines ++ tree_lines s c.args.pools.now r) c.servers.ensures.servers c.tree.ensures.tree in
    subst (λ (t : List ℕ). Appends (g.W.Write.contents c.args.out.now) (g.W.Write.contents c.write_tree.new.out) t) tree
    (both_written _ _ _ _ _ c.in_ok-write_graph.ensures c.in_ok-write_tree.ensures)
