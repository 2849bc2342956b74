-- What stands after a front, and before an end.
use Rattle.std.proofs.Common.{◌≡◌, ◌≢◌, ℕ, List, [], ◌∷◌, ◌++◌, Option, Some, None, Bor, refl, sym, ap, ap₂, ◌∙◌, Bool, true, false, cond, nat_eq, MatchOption}
use Rattle.std.proofs.lemmas.Bool.{eq-eqb, eqb-true}
use Rattle.std.proofs.lemmas.List.{append_cancel_left}
use Rattle.route_json.specs.Names.{rest_after}

after_front : (front y : List ℕ) → rest_after front (front ++ y) ≡ Some y
after_front [] y = refl
after_front (x ∷ xs) y = ap (λ b. cond b (rest_after xs (xs ++ y)) None) (eq-eqb x x refl) ∙ after_front xs y

pub after_some : (front text rest : List ℕ) → Some rest ≡ rest_after front text → text ≡ front ++ rest
after_some [] text rest e = sym cc
after_some (x ∷ xs) [] rest e = absurd cc
after_some (x ∷ xs) (y ∷ ys) rest e = by (nat_eq x y) refl e (λ h. after_some xs ys rest h)
  where
    by : (b : Bool) → nat_eq x y ≡ b → Some rest ≡ cond b (rest_after xs ys) None → (Some rest ≡ rest_after xs ys → ys ≡ xs ++ rest) → y ∷ ys ≡ x ∷ (xs ++ rest)
    by true same h go = ap₂ (λ (z : ℕ) (zs : List ℕ). z ∷ zs) (sym (eqb-true x y same)) (go h)
    by false other h go = absurd cc

pub after_none : (front text rest : List ℕ) → None ≡ rest_after front text → text ≢ front ++ rest
after_none front text rest e is =
    let some : rest_after front text ≡ Some rest = ap (rest_after front) is ∙ after_front front rest in
    absurd cc

-- what stands between a front and an end
pub between : (front text rest : List ℕ) (end : ℕ) (r : Option (Bor (List ℕ))) → text ≡ front ++ rest → MatchOption r ((x : List ℕ) → rest ≢ x ++ (end ∷ [])) (λ x. rest ≡ x.now ++ (end ∷ []))
    → MatchOption r ((x : List ℕ) → text ≢ front ++ (x ++ (end ∷ []))) (λ x. text ≡ front ++ (x.now ++ (end ∷ [])))
between front text rest end None is h = λ x e. h x (append_cancel_left front rest (x ++ (end ∷ [])) (sym is ∙ e))
between front text rest end (Some x) is h = is ∙ ap (λ (t : List ℕ). front ++ t) h

-- what is so where there is nothing
pub if_none : {X : Type 0} (o : Option X) (P : Type 0) (Q : X → Type 0) → ((x : X) → o ≢ Some x) → MatchOption o P Q → P
if_none None P Q none h = h
if_none (Some x) P Q none h = absurd (none x refl)
