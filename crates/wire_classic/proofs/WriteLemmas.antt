-- Texts that were appended one after another.
use Rattle.std.proofs.Common.{◌≡◌, ℕ, List, [], ◌∷◌, ◌++◌, ap, ◌∙◌, append_assoc}

pub joined : (o x y a b : List ℕ) → a ≡ o ++ x → b ≡ a ++ y → b ≡ o ++ (x ++ y)
joined o x y a b e f = f ∙ ap (λ (t : List ℕ). t ++ y) e ∙ append_assoc o x y

abbrev pub space : List ℕ
space = 32 ∷ []

regroup : (w k f x n : List ℕ) → (((((((w ++ space) ++ k) ++ space) ++ f) ++ space) ++ x) ++ space) ++ n ≡ w ++ 32 ∷ (k ++ 32 ∷ (f ++ 32 ∷ (x ++ 32 ∷ n)))
regroup w k f x n = simp append_assoc

pub eight : (o w k f x n a2 a3 a4 a5 a6 a7 a8 a9 : List ℕ) → a2 ≡ o ++ (w ++ space) → a3 ≡ a2 ++ k → a4 ≡ a3 ++ space → a5 ≡ a4 ++ f → a6 ≡ a5 ++ space → a7 ≡ a6 ++ x → a8 ≡ a7 ++ space → a9 ≡ a8 ++ n
    → a9 ≡ o ++ (w ++ 32 ∷ (k ++ 32 ∷ (f ++ 32 ∷ (x ++ 32 ∷ n))))
eight o w k f x n a2 a3 a4 a5 a6 a7 a8 a9 f2 e3 e4 e5 e6 e7 e8 e9 =
    let f3 = joined o (w ++ space) k a2 a3 f2 e3 in
    let f4 = joined o ((w ++ space) ++ k) space a3 a4 f3 e4 in
    let f5 = joined o (((w ++ space) ++ k) ++ space) f a4 a5 f4 e5 in
    let f6 = joined o ((((w ++ space) ++ k) ++ space) ++ f) space a5 a6 f5 e6 in
    let f7 = joined o (((((w ++ space) ++ k) ++ space) ++ f) ++ space) x a6 a7 f6 e7 in
    let f8 = joined o ((((((w ++ space) ++ k) ++ space) ++ f) ++ space) ++ x) space a7 a8 f7 e8 in
    let f9 = joined o (((((((w ++ space) ++ k) ++ space) ++ f) ++ space) ++ x) ++ space) n a8 a9 f8 e9 in
    f9 ∙ ap (λ (t : List ℕ). o ++ t) (regroup w k f x n)
