-- What was read up to a limit, as far as the limit.
use Rattle.std.proofs.Common.{◌≡◌, ℕ, ◌+◌, ◌≤◌, ◌++◌, List, [], length, take, Option, Some, None, Result, Ok, Err, ap, subst, ◌∙◌, arith, inl, inr}
use Rattle.std.specs.Prelude.{IfSome, option_map}
use Rattle.std.specs.Str.{IsUtf8}
use Rattle.std.proofs.lemmas.Bool.{cases_lt}
use Rattle.std.proofs.lemmas.List.{take_all, length-take-le, length-take}
use Rattle.mcgate_ends.specs.Input.{ReadsInput, InputFails}
use Rattle.mcgate_ends.specs.declared.input_text.reading.InputFault.{InputFault}
use Rattle.mcgate_ends.specs.declared.input_text.reading.InputFault.TheVariants.{TooLarge, NotUtf8, NoMemory, Device}

-- fewer than were asked for: that is all
all_of : (n : ℕ) (xs : List ℕ) → length (take (n + 1) xs) ≤ n → take (n + 1) xs ≡ xs
all_of n xs short = elim (cases_lt (n + 1) (length xs)) [
  | inl lt ↦ let count : length (take (n + 1) xs) ≡ n + 1 = length-take-le (n + 1) xs (omega arith) in absurd (omega arith)
  | inr ge ↦ take_all (n + 1) xs ge
]

pub reads_all : {T : Type 0} (text_of : T → List ℕ) (n : ℕ) (xs : List ℕ) (r : Result T InputFault) → ReadsInput text_of n (take (n + 1) xs) r → ReadsInput text_of n xs r
reads_all text_of n xs (Ok text) h = subst (λ (ys : List ℕ). (length ys ≤ n) × (text_of text ≡ ys)) (all_of n xs h.0) h
reads_all text_of n xs (Err TooLarge) h = omega (arith, length-take (n + 1) xs)
reads_all text_of n xs (Err NotUtf8) h = subst (λ (ys : List ℕ). (length ys ≤ n) × ¬ IsUtf8 ys) (all_of n xs h.0) h
reads_all text_of n xs (Err NoMemory) h = tt
reads_all text_of n xs (Err Device) h = tt

-- a failure says nothing of the bytes
pub fails : {T : Type 0} (text_of : T → List ℕ) (n : ℕ) (o : Option (List ℕ)) (r : Result T InputFault) (e : InputFault) → r ≡ Err e → InputFails e → IfSome o (λ xs. ReadsInput text_of n xs r)
fails text_of n None r e is h = tt
fails text_of n (Some xs) r TooLarge is h = absurd h
fails text_of n (Some xs) r NotUtf8 is h = absurd h
fails text_of n (Some xs) r NoMemory is h = rw is tt
fails text_of n (Some xs) r Device is h = rw is tt

-- what was read of a reader with a limit one above the greatest size
pub reads_limited : {T : Type 0} (text_of : T → List ℕ) (n : ℕ) (o : Option (List ℕ)) (items : List ℕ) (r : Result T InputFault) → IfSome o (λ xs. items ≡ take (n + 1) xs) → ReadsInput text_of n items r → IfSome o (λ xs. ReadsInput text_of n xs r)
reads_limited text_of n None items r is h = tt
reads_limited text_of n (Some xs) items r is h = reads_all text_of n xs r (subst (λ (ys : List ℕ). ReadsInput text_of n ys r) is h)

-- what a reader with a limit gives is the front of what it has
pub limited : (n limit : ℕ) (o : Option (List ℕ)) (before items : List ℕ) → limit ≡ n + 1 → before ≡ [] → IfSome (option_map (take limit) o) (λ xs. items ≡ before ++ xs) → IfSome o (λ xs. items ≡ take (n + 1) xs)
limited n limit None before items e none h = tt
limited n limit (Some xs) before items e none h = h ∙ ap (λ (bs : List ℕ). bs ++ take limit xs) none ∙ ap (λ (k : ℕ). take k xs) e
