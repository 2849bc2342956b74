-- From generations of trees to one run of the tree in use.
use Rattle.std.proofs.Common.{◌≡◌, ℕ, zero, suc, List, [], ◌∷◌, slice_get, Some}
use Rattle.route_json.specs.Configuration.{Configuration}
use Rattle.gate_check.specs.Sound.{trees_of}

-- the tree of a configuration at its place
pub tree_at_number : (xs : List Configuration) (i : ℕ) (c : Configuration) → slice_get xs i ≡ Some c → slice_get (trees_of xs) i ≡ Some c.tree
tree_at_number [] i c e = absurd (cc)
tree_at_number (x ∷ xs) zero c e = cc
tree_at_number (x ∷ xs) (suc i) c e = tree_at_number xs i c e
