-- The last sign of its kind in a text, as `rsplit_once` finds it.
use Rattle.std.proofs.Common.{◌≡◌, ◌≢◌, ◌<◌, ◌≤◌, ◌+◌, ℕ, suc, Bor, List, [], ◌∷◌, ◌++◌, length, take, drop, get_or, cond, Option, Some, None, MatchOption, option_map, refl, sym, ap, ap₂, ◌∙◌, arith}
use Rattle.std.proofs.lemmas.Bool.{ne_eqb, eq-eqb}
use Rattle.std.proofs.lemmas.List.{take-append-drop}
use Rattle.std.proofs.lemmas.Str.Pattern.{NoCharPasses-char, drop_at_char}
use Rattle.std.specs.Str.Pattern.{RFindsChar}
use Rattle.route_json.specs.Addresses.{sign_or, around}

-- none of these bytes is the sign
abbrev HasNone : ℕ → List ℕ → Type 0
HasNone sign xs = (i : ℕ) → i < length xs → get_or xs i 0 ≢ sign

none_there : (sign : ℕ) (xs : List ℕ) → HasNone sign xs → around sign xs ≡ None
none_there sign [] none = refl
none_there sign (x ∷ xs) none =
    ap (λ o. sign_or sign o x xs) (none_there sign xs (λ i lt. none (suc i) (omega (arith, lt))))
    ∙ ap (λ b. let o : Option (List ℕ × List ℕ) = cond b (Some ([], xs)) None in o) (ne_eqb x sign (none 0 (omega arith)))

last_sign : (sign : ℕ) (front back : List ℕ) → HasNone sign back → around sign (front ++ sign ∷ back) ≡ Some (front, back)
last_sign sign [] back none =
    ap (λ o. sign_or sign o sign back) (none_there sign back none)
    ∙ ap (λ b. let o : Option (List ℕ × List ℕ) = cond b (Some ([], back)) None in o) (eq-eqb sign sign refl)
last_sign sign (x ∷ xs) back none = ap (λ o. sign_or sign o x (xs ++ sign ∷ back)) (last_sign sign xs back none)

-- what `rsplit_once` says of a result
abbrev IsSplitAtLast : ℕ → List ℕ → Option (Bor (List ℕ) × Bor (List ℕ)) → Type 0
IsSplitAtLast sign bs r = MatchOption r (RFindsChar sign bs None) (λ x. (i : ℕ) × (j : ℕ) × RFindsChar sign bs (Some (i, j)) × (x.0.now ≡ take i bs) × (x.1.now ≡ drop j bs) × (i ≤ j) × (length x.0.now ≡ i) × (length x.1.now + j ≡ length bs))

pub split_at_last : (sign : ℕ) (bs : List ℕ) (r : Option (Bor (List ℕ) × Bor (List ℕ))) → sign < 128 → IsSplitAtLast sign bs r → option_map (λ p. (p.0.now, p.1.now)) r ≡ around sign bs
split_at_last sign bs None low h = sym (none_there sign bs (λ i lt. NoCharPasses-char sign bs i h low lt))
split_at_last sign bs (Some x) low h =
    let i : ℕ = h.0 in
    let j : ℕ = h.1 in
    let whole : bs ≡ take i bs ++ sign ∷ drop j bs = sym (take-append-drop i bs) ∙ ap (λ l. take i bs ++ l) (drop_at_char sign bs i j h.2.1 low) in
    let o : Option (List ℕ × List ℕ) = Some (x.0.now, x.1.now) in
    let parts : o ≡ Some (take i bs, drop j bs) = ap₂ (λ (a b : List ℕ). let q : Option (List ℕ × List ℕ) = Some (a, b) in q) h.3 h.4 in
    parts ∙ sym (ap (around sign) whole ∙ last_sign sign (take i bs) (drop j bs) (λ k lt. NoCharPasses-char sign (drop j bs) k h.2.0 low lt))
