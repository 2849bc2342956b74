-- The lines of a text, and the words at their front. Source: mcgate's own.
use Rattle.std.specs.Prelude.{ℕ, ◌+◌, ◌==◌, Bool, List, take, drop, position, Option}
use Rattle.std.specs.List.{slice_split}
use Rattle.std.specs.Option.{option_map}
use Rattle.text_words.specs.Word.{is_space}

-- the byte that ends a line
abbrev pub is_line_end : ℕ → Bool
is_line_end b = b == 10

-- the lines of a text: what stands between its line ends, before the first and after the last
abbrev pub lines_of : List ℕ → List (List ℕ)
lines_of text = slice_split is_line_end text

-- a word, and what stands after the one space that ends it
pub record Parts : Type 0 where
  pub word : List ℕ
  pub rest : List ℕ

-- a text, cut at its first space
abbrev pub cut : List ℕ → Option Parts
cut text = option_map (λ at. record { word = take at text; rest = drop (at + 1) text }) (position is_space text)
