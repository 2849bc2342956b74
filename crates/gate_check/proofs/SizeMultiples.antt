-- The least common multiple, one size after another, unless it is too large.
use Rattle.std.proofs.Common.{◌≡◌, ℕ, ◌<◌, ◌≤◌, List, [], ◌∷◌, ◌++◌, Some, sym, subst, arith}
use Rattle.std.specs.Int.{◌∣◌}
use Rattle.route_tree.specs.Each.{Each}
use Rattle.route_tree.specs.Route.{Route, IsTree}
use Rattle.route_tree.specs.Place.{sizes, IsLeastCommonMultiple}
use Rattle.gate_check.specs.Resolved.{resolved}
use Rattle.gate_check.specs.Tables.{most_rows, AreSizes, AreTooMany, IsMultiple}
use Rattle.gate_check.proofs.LeastMultiples.{one_is_least, least_more}
use Rattle.gate_check.proofs.Sizing.{both_left, both_sizes}

pub none_is : IsMultiple [] (Some 1)
none_is = (one_is_least, omega arith)

pub still_large : (n : ℕ) (ns : List ℕ) → AreTooMany ns → AreTooMany (n ∷ ns)
still_large n ns h k some c = h k some c.1

pub now_large : (n : ℕ) (ns : List ℕ) (l m : ℕ) → IsLeastCommonMultiple ns l → IsLeastCommonMultiple (l ∷ n ∷ []) m → most_rows < m → AreTooMany (n ∷ ns)
now_large n ns l m h g lt k some c = let le = (least_more ns l n m h g).least k some c in omega (arith, lt, le)

pub still_small : (n : ℕ) (ns : List ℕ) (l m : ℕ) → IsLeastCommonMultiple ns l → IsLeastCommonMultiple (l ∷ n ∷ []) m → m ≤ most_rows → IsMultiple (n ∷ ns) (Some m)
still_small n ns l m h g le = (least_more ns l n m h g, le)

-- what is left has a multiple that isn't too large, as the whole is one
pub left_small : (text : List ℕ) (a b : Route) (whole : ℕ) → 0 < whole → whole ≤ most_rows → Each (λ n. n ∣ whole) (sizes a ++ sizes b) → AreTooMany (sizes (resolved text a) ++ sizes (resolved text b)) → ⊥
left_small text a b whole some le common h = let lt = h whole some (both_left (λ n. n ∣ whole) text a b common) in omega (arith, lt, le)

pub sizes_two : (xs : List ℕ) (a b : Route) → IsTree a → IsTree b → xs ≡ sizes a ++ sizes b → AreSizes xs
sizes_two xs a b h g e = subst AreSizes (sym e) (both_sizes a b h.good g.good)

pub sizes_two_left : (xs text : List ℕ) (a b : Route) → IsTree a → IsTree b → xs ≡ sizes (resolved text a) ++ sizes (resolved text b) → AreSizes xs
sizes_two_left xs text a b h g e = subst AreSizes (sym e) (both_left (λ n. (0 < n) × (n ≤ 2048)) text a b (both_sizes a b h.good g.good))
