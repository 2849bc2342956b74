-- Where the end of a block is not, and never will be.
use Rattle.std.proofs.Common.{◌≡◌, ℕ, ◌-◌, ◌≤◌, Bool, true, false, List, [], ◌∷◌, ◌++◌, length, take, drop, sym, ap, subst, ◌∙◌, arith, inl, inr}
use Rattle.std.specs.Prelude.{codes, ◌↔◌, IsTrue}
use Rattle.std.proofs.lemmas.List.{length-drop, drop-append-le, take_all}
use Rattle.text_words.specs.Line.{IsLine, IsOpen, IsTooLong, TakesLine, LF, CR}
use Rattle.text_words.specs.Word.{words}
use Rattle.text_words.proofs.Stays.{open_no_line, open_not_too_long, taken_line, too_long_no_line, taken_only, lines_are_determined}
use Rattle.wire_answers.specs.Reading.{IsEndLine, IsBlockEnd, IsCutEnd, IsDataEnd, IsCutDataEnd}

pub too_long_line : (bytes : List ℕ) → IsTooLong bytes → (more : List ℕ) (used : ℕ) → ¬ IsEndLine (bytes ++ more) used
too_long_line bytes h more used e = too_long_no_line bytes more e.text e.rest h e.line

pub other_line : (bytes : List ℕ) (end used : ℕ) → TakesLine bytes end used → (words (take end bytes) ≡ codes "END" ∷ [] → ⊥) → (more : List ℕ) (u : ℕ) → ¬ IsEndLine (bytes ++ more) u
other_line bytes end used t ne more u e = ne (sym (ap words (taken_only bytes more e.text e.rest end used t e.line).0) ∙ e.word)

pub too_long_not_open : (bytes : List ℕ) → IsTooLong bytes → ¬ IsOpen bytes
too_long_not_open bytes long partial = open_not_too_long bytes partial long

pub line_not_open : (bytes : List ℕ) (end used : ℕ) → TakesLine bytes end used → ¬ IsOpen bytes
line_not_open bytes end used t partial = open_no_line bytes (take (used - 1) bytes) (drop used bytes) partial (taken_line bytes end used t)

pub is_false : (b : Bool) (P : Type 0) → IsTrue b ↔ P → b ≡ false → P → ⊥
is_false true P h e p = cc
is_false false P h e p = let f : false ≡ true = h.1 p in absurd (cc)

front : (bytes more b : List ℕ) → 2 ≤ length bytes → bytes ++ more ≡ CR ∷ LF ∷ b → drop 2 bytes ++ more ≡ b
front bytes more b le e = sym (drop-append-le 2 bytes more le) ∙ ap (drop 2) e

all_after : (bytes : List ℕ) → take (length bytes - 2) (drop 2 bytes) ≡ drop 2 bytes
all_after bytes = take_all _ _ (omega (arith, length-drop 2 bytes))

pub bad_end : (bytes : List ℕ) → 2 ≤ length bytes → ((more : List ℕ) (used : ℕ) → ¬ IsEndLine (take (length bytes - 2) (drop 2 bytes) ++ more) used) → (more : List ℕ) (used : ℕ) → ¬ IsBlockEnd (bytes ++ more) used
bad_end bytes le h more used e = h more e.len (subst (λ (b : List ℕ). IsEndLine b e.len) (sym (ap (λ (b : List ℕ). b ++ more) (all_after bytes) ∙ front bytes more e.after le e.whole)) e.line)

pub not_cut_end : (bytes : List ℕ) → 2 ≤ length bytes → (¬ IsOpen (take (length bytes - 2) (drop 2 bytes))) → ¬ IsCutEnd bytes
not_cut_end bytes le not_open (inl none) = absurd (omega (arith, ap length none))
not_cut_end bytes le not_open (inr (inl one)) = absurd (omega (arith, ap length one))
not_cut_end bytes le not_open (inr (inr h)) = not_open (subst IsOpen (sym (all_after bytes ∙ ap (drop 2) h.1)) h.2)

-- bytes begin with one end of a block at most
pub one_end : (bytes : List ℕ) (n m : ℕ) → IsBlockEnd bytes n → IsBlockEnd bytes m → n ≡ m
one_end bytes n m a b =
    let same : a.after ≡ b.after = ap (drop 2) (sym a.whole ∙ b.whole) in
    let line : IsLine a.after b.line.text b.line.rest = subst (λ (t : List ℕ). IsLine t b.line.text b.line.rest) (sym same) b.line.line in
    let text = lines_are_determined a.after a.line.text b.line.text a.line.rest b.line.rest a.line.line line in
    let long : length a.line.text ≡ length b.line.text = ap length text.0 in
    omega (arith, a.used_is, b.used_is, a.line.used_is, b.line.used_is)

-- the data of a meta answer
pub cut_no_data_end : (bytes : List ℕ) → IsCutDataEnd bytes → ¬ IsDataEnd bytes
cut_no_data_end bytes (inl none) e = let f : [] ≡ CR ∷ LF ∷ e.0 = sym none ∙ e.1 in cc
cut_no_data_end bytes (inr one) e = let f : CR ∷ [] ≡ CR ∷ LF ∷ e.0 = sym one ∙ e.1 in cc

-- what is cut isn't there
pub cut_no_end : (bytes : List ℕ) → IsCutEnd bytes → (used : ℕ) → ¬ IsBlockEnd bytes used
cut_no_end bytes (inl none) used e = let f : [] ≡ CR ∷ LF ∷ e.after = sym none ∙ e.whole in cc
cut_no_end bytes (inr (inl one)) used e = let f : CR ∷ [] ≡ CR ∷ LF ∷ e.after = sym one ∙ e.whole in cc
cut_no_end bytes (inr (inr h)) used e =
    let same : h.0 ≡ e.after = ap (drop 2) (sym h.1 ∙ e.whole) in
    let line : IsLine h.0 e.line.text e.line.rest = subst (λ (t : List ℕ). IsLine t e.line.text e.line.rest) (sym same) e.line.line in
    open_no_line h.0 e.line.text e.line.rest h.2 line
