use Rattle.std.proofs.Common.{◌+◌, ◌<◌, length, sym, ap, subst, arith}
use Rattle.route_tree.specs.Route.{Route, IsTree}
use Rattle.gate_check.specs.Places.{CoversAt}
use Rattle.gate_check.specs.Reload.{AreCovering, IsFaultAmong}
use Rattle.gate_check.specs.Sound.{trees_of}
use Rattle.gate_check.proofs.Following.{length_trees}
use Rattle.mcgate_replay.specs.Pairing.{IsFaultOf}
use Rattle.mcgate_replay.proofs.Paired.{among_joins, last_joins, held_more}
use Rattle.mcgate_replay.proofs.pairing.next_number.Goals as goal

pub returns-then-held-most : goal.returns-then-held-most
returns-then-held-most c = let len = length_trees c.args.configs.now in omega (arith, len)

pub returns-in-Err : goal.returns-in-Err
returns-in-Err c =
    let xs = c.args.configs.now in
    among_joins c.args.most (trees_of xs) c.args.config.now.tree c.in-Err.fault
    (subst (λ (t : Route). IsFaultAmong (trees_of xs) t c.in-Err.fault) c.tree-tree.ensures.tree c.in-Err.ensures)

pub returns-in-Err-covers : goal.returns-in-Err-covers
returns-in-Err-covers c =
    let xs = c.args.configs.now in
    let tree = c.args.config.now.tree in
    let n = length xs + 1 in
    let all : AreCovering (trees_of xs) tree (length xs) = subst (λ (t : Route). AreCovering (trees_of xs) t (length xs)) c.tree-tree.ensures.tree c.in-Ok.ensures in
    let covering : AreCovering (trees_of xs) tree (length (trees_of xs)) = subst (AreCovering (trees_of xs) tree) (sym (length_trees xs)) all in
    last_joins c.args.most (trees_of xs) tree n c.in-Err-covers.fault (ap (λ n. n + 1) (sym (length_trees xs))) covering
    (subst (λ (t : Route). IsFaultOf n tree t c.in-Err-covers.fault) c.tree-tree.ensures.tree c.in-Err-covers.ensures)

pub returns-in-Ok-covers : goal.returns-in-Ok-covers
returns-in-Ok-covers c =
    let xs = c.args.configs.now in
    let tree = c.args.config.now.tree in
    let same = c.tree-tree.ensures.tree in
    let len = length_trees xs in
    let all : AreCovering (trees_of xs) tree (length xs) = subst (λ (t : Route). AreCovering (trees_of xs) t (length xs)) same c.in-Ok.ensures in
    let covering : AreCovering (trees_of xs) tree (length (trees_of xs)) = subst (AreCovering (trees_of xs) tree) (sym len) all in
    let few : length (trees_of xs) < c.args.most = omega (arith, len) in (
      omega arith,
      held_more c.args.most (trees_of xs) tree c.requires few (subst IsTree same c.form-form.ensures.tree) covering (subst (CoversAt tree) same c.in-Ok-covers.ensures),
    )
