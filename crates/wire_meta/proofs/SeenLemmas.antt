-- One flag more.
use Rattle.std.proofs.Common.{◌≡◌, ℕ, ◌+◌, ◌<◌, ◌≤◌, Bool, true, false, eqb, ◌||◌, List, [], ◌∷◌, ◌++◌, length, drop, get_or, set, replicate, Option, Some, None, refl, sym, ap, ◌∙◌, append_assoc, arith, inl, inr}
use Rattle.std.specs.List.{list_any}
use Rattle.std.proofs.lemmas.Bool.{cases_eq, ne_eqb, eq-eqb}
use Rattle.std.proofs.lemmas.List.{length-set, get_or-set_same, get_or-set_other, get_or-replicate, length-replicate}
use Rattle.std.proofs.lemmas.List.Folds.{list_any-append}
use Rattle.text_words.specs.Word.{words, text_at, IsNextWord}
use Rattle.text_words.specs.declared.word.Span.{Span}
use Rattle.wire_parts.specs.Tests.{Word, ◌>>=◌}
use Rattle.wire_meta.specs.declared.command.Kind.{Kind}
use Rattle.wire_meta.specs.declared.command.Values.{Values}
use Rattle.wire_meta.specs.Flags.{flag_letter, stands_in, flags_of, or_else, says, read_in, values_of, value_more}
use Rattle.wire_meta.specs.Places.{HasSeen, Passes}

-- no letter was seen
pub none_seen : HasSeen [] (replicate 256 false)
none_seen = record { long = length-replicate 256 false; each = λ letter lt. get_or-replicate 256 letter false false lt }

or_false : (b : Bool) → (b || false) ≡ b
or_false true = refl
or_false false = refl

or_true : (b : Bool) → (b || true) ≡ true
or_true true = refl
or_true false = refl

-- a flag more stands there
pub stands-more : (letter : ℕ) (before : List Word) (word : Word) → stands_in letter (before ++ word ∷ []) ≡ (stands_in letter before || eqb (flag_letter word) letter)
stands-more letter before word = list_any-append (λ w. eqb (flag_letter w) letter) before (word ∷ []) ∙ ap (λ b. stands_in letter before || b) (or_false (eqb (flag_letter word) letter))

pub seen_more : (before : List Word) (word : Word) (seen : List Bool) → flag_letter word < 256 → HasSeen before seen → HasSeen (before ++ word ∷ []) (set seen (flag_letter word) true)
seen_more before word seen lt h = record {
  long = length-set seen (flag_letter word) true ∙ h.long;
  each = λ letter lt'. stands-at letter lt';
}
  where
    stands-at : (letter : ℕ) → letter < 256 → get_or (set seen (flag_letter word) true) letter false ≡ stands_in letter (before ++ word ∷ [])
    stands-at letter lt' = elim (cases_eq letter (flag_letter word)) [
      | inl same ↦
          let one : eqb (flag_letter word) letter ≡ true = eq-eqb (flag_letter word) letter (sym same) in
          let here : get_or (set seen (flag_letter word) true) letter false ≡ true = ap (λ k. get_or (set seen (flag_letter word) true) k false) same ∙ get_or-set_same seen (flag_letter word) true false (omega (arith, h.long)) in
          here ∙ sym (stands-more letter before word ∙ ap (λ b. stands_in letter before || b) one ∙ or_true (stands_in letter before))
      | inr other ↦
          let two : eqb (flag_letter word) letter ≡ false = ne_eqb (flag_letter word) letter (λ e. other (sym e)) in
          get_or-set_other seen (flag_letter word) letter true false other ∙ h.each letter lt' ∙ sym (stands-more letter before word ∙ ap (λ b. stands_in letter before || b) two ∙ or_false (stands_in letter before))
    ]

else_else : {A : Type 0} (a b c : Option A) → or_else (or_else a b) c ≡ or_else a (or_else b c)
else_else (Some x) b c = refl
else_else None b c = refl

pub else_none : {A : Type 0} (a : Option A) → or_else a None ≡ a
else_none (Some x) = refl
else_none None = refl

-- what is said with a flag more
pub read-more : {A : Type 0} (letter : ℕ) (read : Word → Option A) (before : List Word) (word : Word) → read_in letter read (before ++ word ∷ []) ≡ or_else (says letter read word) (read_in letter read before)
read-more letter read [] word = sym (else_none (says letter read word))
read-more letter read (first ∷ before) word =
    ap (λ r. or_else r (says letter read first)) (read-more letter read before word) ∙ else_else (says letter read word) (read_in letter read before) (says letter read first)

pub values-more : (kind : Kind) (before : List Word) (word : Word) → values_of kind (before ++ word ∷ []) ≡ value_more kind word (values_of kind before)
values-more kind before word = rw (stands-more 113 before word, read-more 77 _ before word, read-more 70 _ before word, read-more 67 _ before word, read-more 68 _ before word, read-more 84 _ before word) refl

-- the flags before a place of a line were tested, and those from there on are next
pub record IsAt (kind : Kind) (line : List ℕ) (at from : ℕ) (seen : List Bool) (values : Values) : Type 0 where
  pub inside : from ≤ length line
  pub before : List Word
  pub has : HasSeen before seen
  pub values_are : values ≡ values_of kind before
  pub whole : before ++ words (drop from line) ≡ words (drop at line)
  pub tests : flags_of kind before (words (drop from line)) ≡ flags_of kind [] (words (drop at line))

pub at_first : (kind : Kind) (line : List ℕ) (at : ℕ) (values : Values) → at ≤ length line → values ≡ values_of kind [] → IsAt kind line at at (replicate 256 false) values
at_first kind line at values le e = record { inside = le; before = []; has = none_seen; values_are = e; whole = refl; tests = refl }

pub at_next : (kind : Kind) (line : List ℕ) (at from : ℕ) (seen seen' : List Bool) (values values' : Values) (word : Span) → IsAt kind line at from seen values → IsNextWord line from word → Passes kind (text_at line word) seen values seen' values' → IsAt kind line at word.end seen' values'
at_next kind line at from seen seen' values values' word h next passes =
    let w = text_at line word in
    let p = passes h.before h.has in
    let tests : flags_of kind h.before (w ∷ words (drop word.end line)) ≡ flags_of kind [] (words (drop at line)) = ap (flags_of kind h.before) (sym next.first) ∙ h.tests in
    let goes : flags_of kind h.before (w ∷ words (drop word.end line)) ≡ flags_of kind (h.before ++ w ∷ []) (words (drop word.end line)) = rw p.0 refl in
    record {
      inside = next.within;
      before = h.before ++ w ∷ [];
      has = p.1;
      values_are = p.2 ∙ ap (value_more kind w) h.values_are ∙ sym (values-more kind h.before w);
      whole = append_assoc h.before (w ∷ []) (words (drop word.end line)) ∙ ap (λ ws. h.before ++ ws) (sym next.first) ∙ h.whole;
      tests = sym goes ∙ tests;
    }
