-- The child at a place, and the children after it.
use Rattle.std.proofs.Common.{◌≡◌, ℕ, zero, suc, ◌+◌, ◌<◌, ◌≤◌, List, [], ◌∷◌, length, get_or, refl, sym, ap, ◌∙◌, arith}
use Rattle.route_tree.specs.After.{routes_after}
use Rattle.route_tree.specs.Form.{routes_of}
use Rattle.route_tree.specs.Route.{Route, Routes, End, More}

pub none_after : (rs : Routes) (xs : List Route) (i : ℕ) → routes_of xs ≡ rs → length xs ≤ i → routes_after i rs ≡ End
none_after rs xs i e h = ap (routes_after i) (sym e) ∙ none xs i h
  where
    none : (xs : List Route) (i : ℕ) → length xs ≤ i → routes_after i (routes_of xs) ≡ End
    none [] zero h = refl
    none [] (suc i) h = refl
    none (x ∷ xs) zero h = absurd (omega (arith, h))
    none (x ∷ xs) (suc i) h = none xs i (omega (arith, h))

pub child_at : (rs : Routes) (xs : List Route) (i : ℕ) (x d : Route) → routes_of xs ≡ rs → i < length xs → x ≡ get_or xs i d → routes_after i rs ≡ More x (routes_after (i + 1) rs)
child_at rs xs i x d e h is =
    let k : suc i ≡ i + 1 = omega arith in
    ap (routes_after i) (sym e) ∙ at xs i h is ∙ ap (λ r. More x (routes_after (suc i) r)) e ∙ ap (λ n. More x (routes_after n rs)) k
  where
    at : (xs : List Route) (i : ℕ) → i < length xs → x ≡ get_or xs i d → routes_after i (routes_of xs) ≡ More x (routes_after (suc i) (routes_of xs))
    at [] i h is = absurd (omega (arith, h))
    at (y ∷ ys) zero h is = ap (λ z. More z (routes_of ys)) (sym is)
    at (y ∷ ys) (suc i) h is = at ys i (omega (arith, h)) is
