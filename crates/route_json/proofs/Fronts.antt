-- What `strip_prefix` gives is what stands after the front.
use Rattle.std.proofs.Common.{◌≡◌, ◌≢◌, ℕ, List, [], ◌∷◌, ◌++◌, drop, Option, Some, None, refl, sym, ap, ap₂, ◌∙◌, Bool, true, false, cond, nat_eq, MatchOption, option_map}
use Rattle.std.proofs.lemmas.Bool.{eq-eqb, eqb-true}
use Rattle.std.specs.Borrow.{Bor}
use Rattle.std.specs.Str.Pattern.{FindsTextPrefix, StripsPrefix}
use Rattle.route_json.specs.Names.{rest_after}

after_front : (front y : List ℕ) → rest_after front (front ++ y) ≡ Some y
after_front [] y = refl
after_front (x ∷ xs) y = ap (λ b. cond b (rest_after xs (xs ++ y)) None) (eq-eqb x x refl) ∙ after_front xs y

after_none : (front text : List ℕ) → ((rest : List ℕ) → text ≢ front ++ rest) → rest_after front text ≡ None
after_none [] text h = absurd (h text refl)
after_none (x ∷ xs) [] h = refl
after_none (x ∷ xs) (y ∷ ys) h = by (nat_eq x y) refl (λ e. after_none xs ys (λ rest k. h rest (ap₂ (λ (z : ℕ) (zs : List ℕ). z ∷ zs) (sym (eqb-true x y e)) k)))
  where
    by : (b : Bool) → nat_eq x y ≡ b → (nat_eq x y ≡ true → rest_after xs ys ≡ None) → cond b (rest_after xs ys) None ≡ None
    by true e go = go e
    by false e go = refl

pub after_is : (front text : List ℕ) (r : Option (Bor (List ℕ))) → MatchOption r (FindsTextPrefix front text None) (λ x. StripsPrefix (FindsTextPrefix front) text x.now) → option_map (λ s. s.now) r ≡ rest_after front text
after_is front text None h = sym (after_none front text h)
after_is front text (Some x) h =
    ap (λ (t : List ℕ). let o : Option (List ℕ) = Some t in o) h.2 ∙ sym (after_front front (drop h.0 text)) ∙ sym (ap (rest_after front) h.1.1)
