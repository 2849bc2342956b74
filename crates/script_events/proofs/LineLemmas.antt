-- The first line of a text.
use Rattle.std.proofs.Common.{◌≡◌, ℕ, ◌+◌, ◌<◌, ◌≤◌, Bool, true, false, not, List, [], ◌∷◌, length, drop, take, All, Option, Some, None, Bor, refl, sym, arith}
use Rattle.std.specs.Option.{option_map}
use Rattle.std.proofs.lemmas.Bool.{lt-ltb, le-ltb}
use Rattle.std.proofs.lemmas.Str.Pattern.{IsSplitOnceResult, split_once_first}
use Rattle.text_words.specs.Word.{is_space}
use Rattle.std.specs.List.{position_or_len, before_first, after_first}
use Rattle.std.proofs.lemmas.List.Splits.{slice_split_none, slice_split_first, length-slice_split}
use Rattle.std.proofs.lemmas.List.Sums.{prefix_len_passes, count_by-le-length}
use Rattle.std.proofs.lemmas.List.{length-drop, length-take}
use Rattle.script_events.specs.Lines.{is_line_end, lines_of, cut}
use Rattle.script_events.specs.Seen.{texts_seen}

not_false : (b : Bool) → not b ≡ true → b ≡ false
not_false true e = absurd cc
not_false false e = refl

-- what stands before the first line end is the first line, and what stands after it has the others
pub lines_found : (text line rest : List ℕ) → position_or_len is_line_end text < length text → line ≡ before_first is_line_end text → rest ≡ after_first is_line_end text
    → lines_of text ≡ line ∷ lines_of rest
lines_found text line rest lt line-is rest-is = rw (line-is, rest-is) (slice_split_first is_line_end text 0 lt)

pub no_line_found : (text : List ℕ) → position_or_len is_line_end text ≡ length text → lines_of text ≡ text ∷ []
no_line_found text none =
    let each : All (λ b. is_line_end b ≡ false) text = λ k d lt. not_false _ (prefix_len_passes (λ b. not (is_line_end b)) text k d (omega arith)) in
    slice_split_none is_line_end text each

pub few_lines : (text : List ℕ) → length (lines_of text) ≤ length text + 1
few_lines text = omega (arith, length-slice_split is_line_end text, count_by-le-length is_line_end text)

few_cut : (text : List ℕ) (at : ℕ) → at < length text → length (lines_of (drop (at + 1) text)) + length (take at text) ≤ length text
few_cut text at lt = omega (arith, few_lines (drop (at + 1) text), length-drop (at + 1) text, length-take at text)

pub few_found : (text line rest : List ℕ) → position_or_len is_line_end text < length text → line ≡ before_first is_line_end text → rest ≡ after_first is_line_end text
    → length (lines_of rest) + length line ≤ length text
few_found text line rest lt line-is rest-is = rw (line-is, rest-is) (few_cut text (position_or_len is_line_end text) lt)

cut_found : (text word rest : List ℕ) → position_or_len is_space text < length text → word ≡ before_first is_space text → rest ≡ after_first is_space text
    → cut text ≡ Some (record { word = word; rest = rest })
cut_found text word rest lt word-is rest-is = rw (word-is, rest-is, lt-ltb _ _ lt) refl

no_cut_found : (text : List ℕ) → position_or_len is_space text ≡ length text → cut text ≡ None
no_cut_found text none = rw (le-ltb (position_or_len is_space text) (length text) (omega (arith, none))) refl

-- a string's two parts around its first space
pub cut_is : (text : List ℕ) (r : Option (Bor (List ℕ) × Bor (List ℕ))) → IsSplitOnceResult 32 text r → option_map texts_seen r ≡ cut text
cut_is text None h = sym (no_cut_found text (split_once_first 32 text None h (omega arith)))
cut_is text (Some x) h =
    let (lt, word-is, rest-is) = split_once_first 32 text (Some x) h (omega arith) in
    sym (cut_found text x.0.now x.1.now lt word-is rest-is)
