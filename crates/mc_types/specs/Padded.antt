-- How a short text lies in an array of a fixed size: from the front, with zeros after it.
use Rattle.std.specs.Prelude.{◌≡◌, ℕ, ◌-◌, ◌≤◌, ◌++◌, List, length, take, drop, replicate}
use Rattle.std.proofs.Common.{sym, ap, ◌∙◌, arith}
use Rattle.std.proofs.lemmas.List.{length-take-le, take-append-drop}

abbrev pub zeros_of : ℕ → List ℕ
zeros_of n = replicate n 0

-- the bytes from the front, and zeros up to the array's size
abbrev pub padded : ℕ → List ℕ → List ℕ
padded room text = text ++ zeros_of (room - length text)

-- the first len bytes are the text, and zeros fill the rest
pub record IsPadded (room len : ℕ) (bytes : List ℕ) : Type 0 where
  pub zeros : drop len bytes ≡ zeros_of (room - len)
  pub whole : length bytes ≡ room
  pub within : len ≤ room

-- length and array are determined by the text
pub padded_is : (room len : ℕ) (bytes : List ℕ) → IsPadded room len bytes → ◌≡◌ {A = ℕ × List ℕ} (length (take len bytes), padded room (take len bytes)) (len, bytes)
padded_is room len bytes h =
    let count : length (take len bytes) ≡ len = length-take-le len bytes (omega (arith, h.whole, h.within)) in
    let zeros : zeros_of (room - length (take len bytes)) ≡ drop len bytes = ap (λ (n : ℕ). zeros_of (room - n)) count ∙ sym h.zeros in
    let all : padded room (take len bytes) ≡ bytes = ap (λ (t : List ℕ). take len bytes ++ t) zeros ∙ take-append-drop len bytes in
    cc
