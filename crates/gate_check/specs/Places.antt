-- The places of two trees together, and when the one clears there what the other takes. Source: mcgate's own.
use Rattle.std.specs.Prelude.{ℕ, ◌<◌, List, ◌++◌, Option, Some, None}
use Rattle.fresh_runs.specs.Cover.{IsCovered}
use Rattle.route_tree.specs.declared.place.Place.{Place}
use Rattle.route_tree.specs.Each.{IsIn}
use Rattle.route_tree.specs.Route.{Route, IsTree}
use Rattle.route_tree.specs.At.{tree_at}
use Rattle.route_tree.specs.Place.{sizes, prefixes, IsLeastCommonMultiple, tree_at_place}
use Rattle.route_tree.specs.Word.{tree_words}
use Rattle.gate_coverage.specs.Cover.{Covers}

-- no prefix, or one of these
abbrev pub IsClassOf : List (List ℕ) → Option (List ℕ) → Type 0
IsClassOf ps None = Unit {0}
IsClassOf ps (Some p) = IsIn p ps

abbrev pub place_at : Option (List ℕ) → ℕ → ℕ → Place
place_at prefix residue modulus = record { prefix = prefix; residue = residue; modulus = modulus }

-- at each place of the two trees together, the earlier one clears each server that the later one takes. A place that no key reaches counts too
pub record CoversAt (earlier later : Route) : Type 0 where
  pub modulus : ℕ
  pub least : IsLeastCommonMultiple (sizes earlier ++ sizes later) modulus
  pub covers : (prefix : Option (List ℕ)) (residue : ℕ) → IsClassOf (prefixes earlier ++ prefixes later) prefix → residue < modulus → Covers (tree_at_place earlier (place_at prefix residue modulus)) (tree_at_place later (place_at prefix residue modulus))

-- where each tree covers itself and the later ones at all their places, deletes clear what later commands take; each number has the tree that was loaded when its command began
abbrev pub SoundIsCovered : Type 0
SoundIsCovered =
    (tree : ℕ → Route) → ((n : ℕ) → IsTree (tree n)) → ((n m : ℕ) → n < m → CoversAt (tree n) (tree m)) → IsCovered (tree_words (λ n key. tree_at (tree n) key))
