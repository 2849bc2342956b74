-- Texts that are cut at the first of a byte.
use Rattle.std.proofs.Common.{◌≡◌, ◌≢◌, ℕ, suc, ◌+◌, ◌<◌, ◌≤◌, ◌^◌, true, false, eqb, leb, List, [], ◌∷◌, ◌++◌, length, take, drop, Option, Some, None, Bor, refl, sym, ap, ap₂, subst, arith, inl, inr}
use Rattle.std.specs.Prelude.{MatchOption}
use Rattle.std.specs.List.{position_or_len, before_first, after_first}
use Rattle.std.specs.Fmt.{decimal}
use Rattle.std.specs.Str.{all_ascii_digits}
use Rattle.std.specs.Char.{is_ascii_digit}
use Rattle.std.proofs.lemmas.Bool.{cases_Bool, eqb-true, eq-eqb, leb-true, and_parts}
use Rattle.std.proofs.lemmas.Fmt.{digits_decimal}
use Rattle.std.proofs.lemmas.Str.Parse.{numerals_by_value, tells_all_ascii_digits}
use Rattle.std.proofs.lemmas.Str.Pattern.{IsSplitOnceResult, split_once_first}
use Rattle.gate_history.specs.Lines.{Lacks, IsCutAt}

differs : (x c : ℕ) → eqb x c ≡ false → x ≢ c
differs x c e is = let t : eqb x c ≡ true = eq-eqb x c is in absurd cc

none_is : (c : ℕ) (bs : List ℕ) → position_or_len (λ b. eqb b c) bs ≡ length bs → Lacks c bs
none_is c [] h = tt
none_is c (x ∷ xs) h = elim (cases_Bool (eqb x c)) [
  | inl same ↦ absurd (let z : position_or_len (λ b. eqb b c) (x ∷ xs) ≡ 0 = rw same refl in omega (arith, z, h))
  | inr other ↦ let s : position_or_len (λ b. eqb b c) (x ∷ xs) ≡ 1 + position_or_len (λ b. eqb b c) xs = rw other refl in (differs x c other, none_is c xs (omega (arith, s, h)))
]

-- the parts before and after a place
cut_here : (c x : ℕ) (xs : List ℕ) (at : ℕ) → at ≡ 0 → x ≡ c → IsCutAt c (x ∷ xs) (take at (x ∷ xs)) (drop (at + 1) (x ∷ xs))
cut_here c x xs at z is =
    let u : at + 1 ≡ 1 = omega (arith, z) in
    subst (λ (l : List ℕ). IsCutAt c (x ∷ xs) l (drop (at + 1) (x ∷ xs))) (sym (ap (λ n. take n (x ∷ xs)) z))
    (subst (λ (l : List ℕ). IsCutAt c (x ∷ xs) [] l) (sym (ap (λ n. drop n (x ∷ xs)) u)) (ap (λ (y : ℕ). y ∷ xs) is, tt))

cut_later : (c x : ℕ) (xs : List ℕ) (at n : ℕ) → at ≡ 1 + n → x ≢ c → IsCutAt c xs (take n xs) (drop (n + 1) xs) → IsCutAt c (x ∷ xs) (take at (x ∷ xs)) (drop (at + 1) (x ∷ xs))
cut_later c x xs at n is ne h =
    let t : at ≡ suc n = omega (arith, is) in
    let u : at + 1 ≡ suc (n + 1) = omega (arith, is) in
    subst (λ (l : List ℕ). IsCutAt c (x ∷ xs) l (drop (at + 1) (x ∷ xs))) (sym (ap (λ k. take k (x ∷ xs)) t))
    (subst (λ (l : List ℕ). IsCutAt c (x ∷ xs) (x ∷ take n xs) l) (sym (ap (λ k. drop k (x ∷ xs)) u)) (ap (λ (l : List ℕ). x ∷ l) h.0, (ne, h.1)))

some_is : (c : ℕ) (bs : List ℕ) → position_or_len (λ b. eqb b c) bs < length bs → IsCutAt c bs (before_first (λ b. eqb b c) bs) (after_first (λ b. eqb b c) bs)
some_is c [] h = absurd (omega (arith, h))
some_is c (x ∷ xs) h = elim (cases_Bool (eqb x c)) [
  | inl same ↦ let z : position_or_len (λ b. eqb b c) (x ∷ xs) ≡ 0 = rw same refl in cut_here c x xs (position_or_len (λ b. eqb b c) (x ∷ xs)) z (eqb-true x c same)
  | inr other ↦
      let s : position_or_len (λ b. eqb b c) (x ∷ xs) ≡ 1 + position_or_len (λ b. eqb b c) xs = rw other refl in
      cut_later c x xs (position_or_len (λ b. eqb b c) (x ∷ xs)) (position_or_len (λ b. eqb b c) xs) s (differs x c other) (some_is c xs (omega (arith, s, h)))
]

-- a text's two parts around its first byte of this kind
pub cut_is : (c : ℕ) (bs : List ℕ) (r : Option (Bor (List ℕ) × Bor (List ℕ))) → IsSplitOnceResult c bs r → c < 128 → MatchOption r (Lacks c bs) (λ x. IsCutAt c bs x.0.now x.1.now)
cut_is c bs None h lt = none_is c bs (split_once_first c bs None h lt)
cut_is c bs (Some x) h lt =
    let (inside, front-is, rest-is) = split_once_first c bs (Some x) h lt in
    rw (front-is, rest-is) (some_is c bs inside)

-- there is one way to cut a text
pub cut_once : (c : ℕ) (f g r s : List ℕ) → Lacks c f → Lacks c g → f ++ c ∷ r ≡ g ++ c ∷ s → (f ≡ g) × (r ≡ s)
cut_once c [] [] r s h k e = (refl, ap (λ (l : List ℕ). drop 1 l) e)
cut_once c [] (y ∷ g) r s h k e = absurd (k.0 (sym (head_is c y r (g ++ c ∷ s) e)))
  where
    head_is : (a b : ℕ) (xs ys : List ℕ) → a ∷ xs ≡ b ∷ ys → a ≡ b
    head_is a b xs ys e = cc
cut_once c (x ∷ f) [] r s h k e = absurd (h.0 (head_is x c (f ++ c ∷ r) s e))
  where
    head_is : (a b : ℕ) (xs ys : List ℕ) → a ∷ xs ≡ b ∷ ys → a ≡ b
    head_is a b xs ys e = cc
cut_once c (x ∷ f) (y ∷ g) r s h k e =
    let tail : f ++ c ∷ r ≡ g ++ c ∷ s = ap (λ (l : List ℕ). drop 1 l) e in
    let head : x ≡ y = cc in
    let rest = cut_once c f g r s h.1 k.1 tail in
    (ap₂ (λ (a : ℕ) (l : List ℕ). a ∷ l) head rest.0, rest.1)

pub lacks_both : (c : ℕ) (xs ys : List ℕ) → Lacks c xs → Lacks c ys → Lacks c (xs ++ ys)
lacks_both c [] ys h k = k
lacks_both c (x ∷ xs) ys h k = (h.0, lacks_both c xs ys h.1 k)

digits_lack : (c : ℕ) (ds : List ℕ) → c < 48 → all_ascii_digits ds ≡ true → Lacks c ds
digits_lack c [] lt h = tt
digits_lack c (d ∷ ds) lt h =
    let parts = and_parts (is_ascii_digit d) (all_ascii_digits ds) h in
    let low : 48 ≤ d = leb-true 48 d (and_parts (leb 48 d) (leb d 57) parts.0).0 in
    ((λ e. omega (arith, low, lt, e)), digits_lack c ds lt parts.1)

pub decimal_lacks : (c n : ℕ) → c < 48 → n < 2 ^ 64 → Lacks c (decimal n)
decimal_lacks c n lt small =
    digits_lack c (decimal n) lt (digits_decimal (numerals_by_value (λ ds. all_ascii_digits ds ≡ true) tells_all_ascii_digits) n small)
