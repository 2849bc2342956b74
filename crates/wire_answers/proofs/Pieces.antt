-- The pieces that a line is written in.
use Rattle.std.proofs.Common.{◌≡◌, ℕ, List, [], ◌∷◌, ◌++◌, Option, Some, None, subst, append_assoc}
use Rattle.std.specs.Prelude.{codes, decimal}
use Rattle.std.proofs.lemmas.List.{append-nil}
use Rattle.text_words.specs.Spelling.{spaced, words_line}
use Rattle.wire_answers.specs.Spelling.{cas_words, cas_text}

regroup : (old v s k f n c e : List ℕ) → ((old ++ (v ++ (s ++ (k ++ (s ++ (f ++ (s ++ n))))))) ++ c) ++ e ≡ old ++ ((v ++ (s ++ (k ++ (s ++ (f ++ (s ++ (n ++ c))))))) ++ e)
regroup old v s k f n c e = simp append_assoc

-- the first line of a hit as it is written, piece by piece
pub hit_pieces : (k f n old : List ℕ) (cas : Option ℕ)
    → ((old ++ spaced (codes "VALUE" ∷ k ∷ f ∷ n ∷ [])) ++ cas_text cas) ++ codes "\r\n" ≡ old ++ words_line (codes "VALUE" ∷ k ∷ f ∷ n ∷ cas_words cas)
hit_pieces k f n old None =
    subst (λ (t : List ℕ). ((old ++ spaced (codes "VALUE" ∷ k ∷ f ∷ n ∷ [])) ++ []) ++ codes "\r\n" ≡ old ++ ((codes "VALUE" ++ 32 ∷ (k ++ 32 ∷ (f ++ 32 ∷ t))) ++ codes "\r\n")) (append-nil n) (regroup old (codes "VALUE") (32 ∷ []) k f n [] (codes "\r\n"))
hit_pieces k f n old (Some m) = regroup old (codes "VALUE") (32 ∷ []) k f n (32 ∷ decimal m) (codes "\r\n")

together : (old v s k f n c b : List ℕ) → ((((((((old ++ (v ++ s)) ++ k) ++ s) ++ f) ++ s) ++ n) ++ c) ++ b) ++ c ≡ old ++ (((v ++ (s ++ (k ++ (s ++ (f ++ (s ++ n)))))) ++ c) ++ (b ++ c))
together old v s k f n c b = simp append_assoc

-- a hit's block as it is written, piece by piece
pub block_pieces : (k f n b old : List ℕ)
    → ((((((((old ++ codes "VALUE ") ++ k) ++ codes " ") ++ f) ++ codes " ") ++ n) ++ codes "\r\n") ++ b) ++ codes "\r\n" ≡ old ++ (words_line (codes "VALUE" ∷ k ∷ f ∷ n ∷ []) ++ (b ++ codes "\r\n"))
block_pieces k f n b old = together old (codes "VALUE") (codes " ") k f n (codes "\r\n") b
