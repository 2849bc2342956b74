-- Texts kept in byte order, each once.
use Rattle.std.specs.Prelude.{ℕ, suc, List, [], ◌∷◌, Option, Some, None, insert}
use Rattle.std.specs.Ordering.{nat_cmp}
use Rattle.std.specs.declared.cmp.Ordering.{Ordering}
use Rattle.std.specs.declared.cmp.Ordering.TheVariants.{Less, Equal, Greater}
use Rattle.std.specs.Cmp.Lexicographic.{slice_cmp}

abbrev pub place_after_it : Option ℕ → Option ℕ
place_after_it None = None
place_after_it (Some i) = Some (suc i)

abbrev pub placed : Ordering → Option ℕ → Option ℕ
placed Less after = Some 0
placed Equal after = None
placed Greater after = place_after_it after

-- where the text goes in, unless it is there
abbrev pub place_in : List (List ℕ) → List ℕ → Option ℕ
place_in [] text = Some 0
place_in (x ∷ xs) text = placed (slice_cmp nat_cmp text x) (place_in xs text)

abbrev pub put_at : List (List ℕ) → List ℕ → Option ℕ → List (List ℕ)
put_at xs text None = xs
put_at xs text (Some i) = insert xs i text

abbrev pub with_text : List (List ℕ) → List ℕ → List (List ℕ)
with_text xs text = put_at xs text (place_in xs text)

-- each of the texts once, in byte order
abbrev pub ordered : List (List ℕ) → List (List ℕ)
ordered [] = []
ordered (x ∷ xs) = with_text (ordered xs) x
