-- Every run over sound generations is fresh.
use Rattle.std.proofs.Common.{ℕ, List}
use Rattle.fresh_runs.specs.Cover.{IsCovered}
use Rattle.fresh_runs.proofs.Fresh.{runs_are_fresh}
use Rattle.route_tree.specs.Route.{Route, IsTree}
use Rattle.route_tree.specs.At.{tree_at}
use Rattle.route_tree.specs.Word.{tree_words}
use Rattle.route_tree.proofs.Parts.{each_at}
use Rattle.gate_check.proofs.Placing.{sound_is_covered}
use Rattle.gate_check.specs.Sound.{AreGenerations, AreLoaded, GenerationsAreFresh}

covered : (trees : List Route) → AreGenerations trees → (tree : ℕ → Route) → AreLoaded trees tree → IsCovered (tree_words (λ n key. tree_at (tree n) key))
covered trees are tree loaded =
    sound_is_covered tree
    (λ n. each_at IsTree trees (loaded.generation n) (tree n) are.trees_are (loaded.loaded n))
    (λ n m lt. are.sound (loaded.generation n) (loaded.generation m) (tree n) (tree m) (loaded.rising n m lt) (loaded.loaded n) (loaded.loaded m))

pub generations_are_fresh : GenerationsAreFresh
generations_are_fresh trees are = (
  (λ tree loaded. runs_are_fresh (tree_words (λ n key. tree_at (tree n) key)) (covered trees are tree loaded)),
  covered trees are,
)
