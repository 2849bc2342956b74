-- Generations of trees. Source: mcgate's own.
use Rattle.gate_check.specs.declared.reloading.TheConstants.{MOST_GENERATIONS}
use Rattle.std.specs.Prelude.{◌≡◌, ℕ, ◌-◌, ◌<◌, ◌≤◌, List, [], ◌∷◌, Some, length, slice_get}
use Rattle.fresh_runs.specs.Cover.{IsCovered}
use Rattle.fresh_runs.specs.Freshness.{RunsAreFresh}
use Rattle.route_json.specs.Configuration.{Configuration}
use Rattle.route_tree.specs.Route.{Route, IsTree}
use Rattle.route_tree.specs.Each.{Each}
use Rattle.route_tree.specs.At.{tree_at}
use Rattle.route_tree.specs.Word.{tree_words}
use Rattle.gate_check.specs.Places.{CoversAt}

-- each tree covers itself and the later ones, at all places of the two together
abbrev pub AreSound : List Route → Type 0
AreSound trees = (i j : ℕ) (a b : Route) → i ≤ j → slice_get trees i ≡ Some a → slice_get trees j ≡ Some b → CoversAt a b

-- the trees of an accepted configuration, the oldest first, and at most sixteen
pub record AreGenerations (trees : List Route) : Type 0 where
  pub some : 0 < length trees
  pub few : length trees ≤ MOST_GENERATIONS
  pub trees_are : Each IsTree trees
  pub sound : AreSound trees

-- each command has a tree of the list, and later commands no earlier one
pub record AreLoaded (trees : List Route) (tree : ℕ → Route) : Type 0 where
  pub generation : ℕ → ℕ
  pub loaded : (n : ℕ) → slice_get trees (generation n) ≡ Some (tree n)
  pub rising : (n m : ℕ) → n < m → generation n ≤ generation m

-- every run in which each command runs by the tree that is loaded when it begins is fresh
abbrev pub EveryRunIsFresh : List Route → Type 0
EveryRunIsFresh trees = (tree : ℕ → Route) → AreLoaded trees tree → RunsAreFresh (tree_words (λ n key. tree_at (tree n) key))

-- every run is fresh in which each command runs by the generation that is loaded when it begins
abbrev pub GenerationsAreFresh : Type 0
GenerationsAreFresh =
    (trees : List Route) → AreGenerations trees
    → EveryRunIsFresh trees × ((tree : ℕ → Route) → AreLoaded trees tree → IsCovered (tree_words (λ n key. tree_at (tree n) key)))

-- the trees of configurations
abbrev pub trees_of : List Configuration → List Route
trees_of [] = []
trees_of (c ∷ cs) = c.tree ∷ trees_of cs

-- the configuration in use
abbrev pub IsLast : List Configuration → Configuration → Type 0
IsLast configs config = slice_get configs (length configs - 1) ≡ Some config
