-- The words of a line (memcached's protocol.txt, "Commands": parameters delimited by whitespace; that only the space parts
-- them, and that more than one may stand between, before and after, is mcgate's own).
use Rattle.std.specs.Prelude.{◌≡◌, ℕ, ◌<◌, ◌≤◌, Bool, true, false, not, List, [], ◌∷◌, length, filter, slice_range, drop, ◌==◌}
use Rattle.std.specs.List.{slice_split}
use Rattle.text_words.specs.declared.word.Span.{Span}

-- the byte that parts words
abbrev pub is_space : ℕ → Bool
is_space b = b == 32

-- any other byte
abbrev pub is_no_space : ℕ → Bool
is_no_space b = not (b == 32)

-- a part that has a byte
abbrev pub is_filled : List ℕ → Bool
is_filled [] = false
is_filled (b ∷ bs) = true

-- the words of a text: what stands between its spaces and isn't empty
abbrev pub words : List ℕ → List (List ℕ)
words text = filter is_filled (slice_split is_space text)

-- the part of the text that a span names
abbrev pub text_at : List ℕ → Span → List ℕ
text_at text s = slice_range text s.start s.end

-- the span is the first word of the text from a place on
pub record IsNextWord (text : List ℕ) (at : ℕ) (s : Span) : Type 0 where
  pub after : at ≤ s.start
  pub filled : s.start < s.end
  pub within : s.end ≤ length text
  pub first : words (drop at text) ≡ text_at text s ∷ words (drop s.end text)
