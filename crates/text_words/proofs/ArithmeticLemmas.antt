-- Spaces at the end, one by one.
use Rattle.std.proofs.Common.{◌≡◌, ◌≢◌, ℕ, ◌+◌, ◌-◌, ◌<◌, ◌≤◌, Bool, true, false, ◌&&◌, List, [], ◌∷◌, ◌++◌, length, take, get_or, refl, sym, ap, ◌∙◌, arith, inl, inr}
use Rattle.std.proofs.lemmas.Bool.{eq-eqb}
use Rattle.std.proofs.lemmas.Bool.Decides.{eqb_tells}
use Rattle.std.proofs.lemmas.List.{take_more}
use Rattle.text_words.specs.Word.{is_space}
use Rattle.text_words.specs.Arithmetic.{without_spaces, is_empty}

push_space : (bs : List ℕ) (b : ℕ) → is_space b ≡ true → without_spaces (bs ++ b ∷ []) ≡ without_spaces bs
push_space [] b e = rw e refl
push_space (c ∷ bs) b e = rw (push_space bs b e) refl

filled : (bs : List ℕ) (b : ℕ) → is_empty (bs ++ b ∷ []) ≡ false
filled [] b = refl
filled (c ∷ bs) b = refl

no_and : (a b : Bool) → b ≡ false → (a && b) ≡ false
no_and true b e = e
no_and false b e = refl

push_other : (bs : List ℕ) (b : ℕ) → is_space b ≡ false → without_spaces (bs ++ b ∷ []) ≡ bs ++ b ∷ []
push_other [] b e = rw e refl
push_other (c ∷ bs) b e =
    let later = push_other bs b e in
    let none : (is_space c && is_empty (without_spaces (bs ++ b ∷ []))) ≡ false = no_and (is_space c) _ (ap is_empty later ∙ filled bs b) in
    rw none (ap (λ (l : List ℕ). c ∷ l) later)

not_space : (b : ℕ) → b ≢ 32 → is_space b ≡ false
not_space b ne = elim (eqb_tells b 32) [ inl same ↦ absurd (ne same.1) | inr other ↦ other.0 ]

pub one_less : (bytes : List ℕ) (k : ℕ) → 0 < k → k ≤ length bytes → get_or bytes (k - 1) 0 ≡ 32 → without_spaces (take (k - 1) bytes) ≡ without_spaces (take k bytes)
one_less bytes k pos le e =
    let k-is : k ≡ k - 1 + 1 = omega arith in
    let cut : take k bytes ≡ take (k - 1) bytes ++ get_or bytes (k - 1) 0 ∷ [] = ap (λ (n : ℕ). take n bytes) k-is ∙ take_more bytes (k - 1) 0 (omega arith) in
    sym (ap without_spaces cut ∙ push_space (take (k - 1) bytes) (get_or bytes (k - 1) 0) (eq-eqb (get_or bytes (k - 1) 0) 32 e))

pub at_end : (bytes : List ℕ) (k : ℕ) → 0 < k → k ≤ length bytes → get_or bytes (k - 1) 0 ≢ 32 → without_spaces (take k bytes) ≡ take k bytes
at_end bytes k pos le ne =
    let k-is : k ≡ k - 1 + 1 = omega arith in
    let cut : take k bytes ≡ take (k - 1) bytes ++ get_or bytes (k - 1) 0 ∷ [] = ap (λ (n : ℕ). take n bytes) k-is ∙ take_more bytes (k - 1) 0 (omega arith) in
    rw cut (push_other (take (k - 1) bytes) (get_or bytes (k - 1) 0) (not_space (get_or bytes (k - 1) 0) ne))

pub all_spaces : (bytes : List ℕ) (k : ℕ) → k ≡ 0 → without_spaces (take k bytes) ≡ without_spaces bytes → take k bytes ≡ without_spaces bytes
all_spaces bytes k z h = ap (λ (n : ℕ). take n bytes) z ∙ (sym (ap (λ (n : ℕ). without_spaces (take n bytes)) z) ∙ h)
