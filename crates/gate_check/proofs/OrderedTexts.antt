-- What is kept once and in byte order has the same texts.
use Rattle.std.proofs.Common.{◌≡◌, ℕ, ◌<◌, ◌≤◌, List, [], ◌∷◌, length, Option, Some, None, inl, inr, ⊎_elim, refl, sym, ap, ap₂, ◌∙◌, subst, arith}
use Rattle.std.specs.Ordering.{nat_cmp, ordering_then, ordering_reverse}
use Rattle.std.specs.declared.cmp.Ordering.{Ordering}
use Rattle.std.specs.declared.cmp.Ordering.TheVariants.{Less, Equal, Greater}
use Rattle.std.specs.Cmp.Lexicographic.{slice_cmp}
use Rattle.std.proofs.lemmas.Cmp.{nat_list_cmp_total, tied_itself, ranked, by_ranked}
use Rattle.route_tree.specs.Each.{Each, IsIn}
use Rattle.route_tree.proofs.Parts.{each_weaker}
use Rattle.gate_check.specs.Valid.{AreInOrder}
use Rattle.gate_check.specs.Texts.{place_after_it, placed, place_in, put_at, with_text, ordered}
use Rattle.gate_check.proofs.PlacesValidity.{each_in}

abbrev text_cmp : List ℕ → List ℕ → Ordering
text_cmp = slice_cmp nat_cmp

both_equal : (a b : Ordering) → ordering_then a b ≡ Equal → (a ≡ Equal) × (b ≡ Equal)
both_equal Less b e = absurd (cc)
both_equal Equal b e = (refl, e)
both_equal Greater b e = absurd (cc)

same_number : (x y : ℕ) → nat_cmp x y ≡ Equal → x ≡ y
same_number x y e = by_ranked (x < y) (x ≡ y) (y < x) (nat_cmp x y) (ranked x y (nat_cmp x y) refl) (λ k _. absurd (cc)) (λ k h. h) (λ k _. absurd (cc))

same_text : (xs ys : List ℕ) → text_cmp xs ys ≡ Equal → xs ≡ ys
same_text [] [] e = refl
same_text [] (y ∷ ys) e = absurd (cc)
same_text (x ∷ xs) [] e = absurd (cc)
same_text (x ∷ xs) (y ∷ ys) e = let b = both_equal (nat_cmp x y) (text_cmp xs ys) e in ap₂ (λ (a : ℕ) (l : List ℕ). a ∷ l) (same_number x y b.0) (same_text xs ys b.1)

not_itself : (x : List ℕ) → text_cmp x x ≡ Less → ⊥
not_itself x e = let t = tied_itself nat_list_cmp_total x in cc

not_both : (x y : List ℕ) → text_cmp x y ≡ Less → text_cmp y x ≡ Less → ⊥
not_both x y e f = not_itself x (nat_list_cmp_total.trans x y x e f)

comes_after : (x y : List ℕ) → text_cmp y x ≡ Greater → text_cmp x y ≡ Less
comes_after x y e = nat_list_cmp_total.antisymm x y ∙ ap ordering_reverse e

put_after : (x : List ℕ) (xs : List (List ℕ)) (k : List ℕ) (o : Option ℕ) → put_at (x ∷ xs) k (place_after_it o) ≡ x ∷ put_at xs k o
put_after x xs k None = refl
put_after x xs k (Some i) = refl

-- what all texts and the new one keep, all keep together
pub kept_all : (P : List ℕ → Type 0) (xs : List (List ℕ)) (k : List ℕ) → Each P xs → P k → Each P (with_text xs k)
kept_all P [] k h p = (p, tt)
kept_all P (x ∷ xs) k h p = step (kept_all P xs k h.1 p) (text_cmp k x)
  where
    step : Each P (with_text xs k) → (o : Ordering) → Each P (put_at (x ∷ xs) k (placed o (place_in xs k)))
    step rest Less = (p, h)
    step rest Equal = h
    step rest Greater = subst (Each P) (sym (put_after x xs k (place_in xs k))) (h.0, rest)

pub stay_in_order : (xs : List (List ℕ)) (k : List ℕ) → AreInOrder xs → AreInOrder (with_text xs k)
stay_in_order [] k h = (tt, tt)
stay_in_order (x ∷ xs) k h = step (stay_in_order xs k h.1) (text_cmp k x) refl
  where
    step : AreInOrder (with_text xs k) → (o : Ordering) → text_cmp k x ≡ o → AreInOrder (put_at (x ∷ xs) k (placed o (place_in xs k)))
    step rest Less e = ((e, each_weaker (λ q. text_cmp x q ≡ Less) (λ q. text_cmp k q ≡ Less) xs (λ q f. nat_list_cmp_total.trans k x q e f) h.0), h)
    step rest Equal e = h
    step rest Greater e = subst AreInOrder (sym (put_after x xs k (place_in xs k))) (kept_all (λ q. text_cmp x q ≡ Less) xs k h.0 (comes_after x k e), rest)

pub still_in : (xs : List (List ℕ)) (k y : List ℕ) → IsIn y xs → IsIn y (with_text xs k)
still_in [] k y h = absurd h
still_in (x ∷ xs) k y h = step (λ i. still_in xs k y i) (text_cmp k x)
  where
    step : (IsIn y xs → IsIn y (with_text xs k)) → (o : Ordering) → IsIn y (put_at (x ∷ xs) k (placed o (place_in xs k)))
    step rest Less = inr h
    step rest Equal = h
    step rest Greater = subst (IsIn y) (sym (put_after x xs k (place_in xs k))) (⊎_elim (λ (e : y ≡ x). inl e) (λ (i : IsIn y xs). inr (rest i)) h)

pub now_in : (xs : List (List ℕ)) (k : List ℕ) → IsIn k (with_text xs k)
now_in [] k = inl refl
now_in (x ∷ xs) k = step (now_in xs k) (text_cmp k x) refl
  where
    step : IsIn k (with_text xs k) → (o : Ordering) → text_cmp k x ≡ o → IsIn k (put_at (x ∷ xs) k (placed o (place_in xs k)))
    step rest Less e = inl refl
    step rest Equal e = inl (same_text k x e)
    step rest Greater e = subst (IsIn k) (sym (put_after x xs k (place_in xs k))) (inr rest)

-- ---- all texts

pub are_in_order : (xs : List (List ℕ)) → AreInOrder (ordered xs)
are_in_order [] = tt
are_in_order (x ∷ xs) = stay_in_order (ordered xs) x (are_in_order xs)

each_self : (xs : List (List ℕ)) → Each (λ p. IsIn p xs) xs
each_self [] = tt
each_self (x ∷ xs) = (inl refl, each_weaker (λ p. IsIn p xs) (λ p. IsIn p (x ∷ xs)) xs (λ p i. inr i) (each_self xs))

-- each of the texts in order is one of the given texts
pub known : (xs : List (List ℕ)) → Each (λ p. IsIn p xs) (ordered xs)
known xs = all xs (λ p. IsIn p xs) (each_self xs)
  where
    all : (ys : List (List ℕ)) (P : List ℕ → Type 0) → Each P ys → Each P (ordered ys)
    all [] P h = tt
    all (y ∷ ys) P h = kept_all P (ordered ys) y (all ys P h.1) h.0

-- each of those is one of them
pub whole : (xs : List (List ℕ)) → Each (λ p. IsIn p (ordered xs)) xs
whole [] = tt
whole (x ∷ xs) = (now_in (ordered xs) x, each_weaker (λ p. IsIn p (ordered xs)) (λ p. IsIn p (ordered (x ∷ xs))) xs (λ p i. still_in (ordered xs) x p i) (whole xs))

-- texts in order, each of them one of others in order, are no more than those
pub no_more : (ps qs : List (List ℕ)) → AreInOrder ps → AreInOrder qs → Each (λ p. IsIn p qs) ps → length ps ≤ length qs
no_more [] qs h g is = omega arith
no_more (p ∷ ps) [] h g is = absurd is.0
no_more (p ∷ ps) (q ∷ qs) h g is =
    let rest = no_more ps qs h.1 g.1 (later ps h.0 is.1) in
    omega (arith, rest)
  where
    first : (r : List ℕ) → text_cmp p r ≡ Less → IsIn r (q ∷ qs) → IsIn r qs
    first r lt (inr i) = i
    first r lt (inl e) =
        ⊎_elim
        (λ (f : p ≡ q). absurd (not_itself p (subst (λ x. text_cmp p x ≡ Less) (e ∙ sym f) lt)))
        (λ (i : IsIn p qs). absurd (not_both p q (subst (λ x. text_cmp p x ≡ Less) e lt) (each_in (λ x. text_cmp q x ≡ Less) qs p g.0 i)))
        is.0

    later : (rs : List (List ℕ)) → Each (λ r. text_cmp p r ≡ Less) rs → Each (λ r. IsIn r (q ∷ qs)) rs → Each (λ r. IsIn r qs) rs
    later [] a b = tt
    later (r ∷ rs) a b = (first r a.0 b.0, later rs a.1 b.1)
