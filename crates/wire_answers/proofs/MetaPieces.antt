-- The pieces that a line is written in.
use Rattle.std.proofs.Common.{◌≡◌, ℕ, List, [], ◌∷◌, ◌++◌, refl, sym, ap, ◌∙◌, append_assoc, append-nil}
use Rattle.std.specs.Prelude.{codes}
use Rattle.text_words.specs.Spelling.{spaced, words_line}
use Rattle.mc_types.specs.declared.ask.Ask.{Ask}
use Rattle.mc_types.specs.declared.answer.Code.{Code}
use Rattle.mc_types.specs.declared.answer.Fields.{Fields}
use Rattle.wire_answers.specs.Line.{code_word}
use Rattle.wire_answers.specs.MetaSpelling.{tokens_words, len_words, meta_line_words, led}

pub led-append : (a b : List (List ℕ)) → led (a ++ b) ≡ led a ++ led b
led-append [] b = refl
led-append (w ∷ a) b = ap (λ (t : List ℕ). 32 ∷ (w ++ t)) (led-append a b) ∙ ap (λ (t : List ℕ). 32 ∷ t) (sym (append_assoc w (led a) (led b)))

pub spaced-led : (w : List ℕ) (ws : List (List ℕ)) → spaced (w ∷ ws) ≡ w ++ led ws
spaced-led w [] = sym (append-nil w)
spaced-led w (o ∷ ws) = ap (λ (t : List ℕ). w ++ 32 ∷ t) (spaced-led o ws)

-- one token more
pub one_more : (out old all : List ℕ) (x y : List (List ℕ)) → out ++ led (x ++ y) ≡ old ++ all → (out ++ led x) ++ led y ≡ old ++ all
one_more out old all x y e = append_assoc out (led x) (led y) ∙ ap (λ (t : List ℕ). out ++ t) (sym (led-append x y)) ∙ e

regroup : (old w x y e : List ℕ) → (((old ++ w) ++ x) ++ y) ++ e ≡ old ++ ((w ++ (x ++ y)) ++ e)
regroup old w x y e = simp append_assoc

pieces : (old w e : List ℕ) (x y : List (List ℕ)) → (((old ++ w) ++ led x) ++ led y) ++ e ≡ old ++ (spaced (w ∷ (x ++ y)) ++ e)
pieces old w e x y = regroup old w (led x) (led y) e ∙ ap (λ (t : List ℕ). old ++ (t ++ e)) (ap (λ (t : List ℕ). w ++ t) (sym (led-append x y)) ∙ sym (spaced-led w (x ++ y)))

-- the line of a meta answer as it is written, piece by piece
pub line_pieces : (old : List ℕ) (ask : Ask) (code : Code) (fields : Fields)
    → (((old ++ code_word code) ++ led (len_words fields.body)) ++ led (tokens_words ask.key fields ask.tokens)) ++ codes "\r\n" ≡ old ++ words_line (meta_line_words ask code fields)
line_pieces old ask code fields = pieces old (code_word code) (codes "\r\n") (len_words fields.body) (tokens_words ask.key fields ask.tokens)
