use Rattle.std.proofs.Common.{List, ℕ, ◌++◌, ap, ap₂, subst}
use Rattle.std.specs.Io.KnownBytes.{Appends}
use Rattle.route_tree.specs.Route.{Route}
use Rattle.gate_gaps.proofs.Written.{both_written}
use Rattle.gate_picture.specs.Marks.{way_lines}
use Rattle.gate_picture.specs.Statements.{left_server_line}
use Rattle.gate_picture.proofs.picture.write_gap.Goals as goal

pub returns : goal.returns
unfolding Rattle.gate_picture.specs.Picture.gap_lines
returns g c =
    let gap = c.args.gap.now in
    let way = ap (λ (r : Route). way_lines gap r c.args.way.now) c.tree.ensures.tree in
    let left = ap (λ (s : List (List ℕ)). left_server_line s c.args.pools.now gap.server gap.deleting) c.servers.ensures.servers in
    subst (λ (t : List ℕ). Appends (g.W.Write.contents c.args.out.now) (g.W.Write.contents c.write_left.new.out) t) (ap₂ (λ (a b : List ℕ). a ++ b) way left)
    (both_written _ _ _ _ _ c.in_ok-write_way.ensures c.in_ok-write_left.ensures)
