-- A word is told by its length and its bytes.
use Rattle.std.proofs.Common.{◌≡◌, ℕ, suc, Bool, true, eqb, ◌&&◌, List, [], ◌∷◌, length, get_or, refl, arith}
use Rattle.std.specs.Str.{bytes_eq}

-- whether the bytes stand in a text, from i on
abbrev pub stand_at : List ℕ → ℕ → List ℕ → Bool
stand_at text i [] = true
stand_at text i (byte ∷ bytes) = eqb (get_or text i 0) byte && stand_at text (suc i) bytes

later : (first : ℕ) (text : List ℕ) (i : ℕ) (bytes : List ℕ) → stand_at (first ∷ text) (suc i) bytes ≡ stand_at text i bytes
later first text i [] = refl
later first text i (byte ∷ bytes) = rw (later first text (suc i) bytes) refl

-- two texts are equal as code tests it that looks at the length and then at each byte
pub by_reads : (text bytes : List ℕ) → bytes_eq text bytes ≡ (eqb (length text) (length bytes) && stand_at text 0 bytes)
by_reads [] [] = refl
by_reads [] (byte ∷ bytes) = grind arith
by_reads (first ∷ text) [] = grind arith
by_reads (first ∷ text) (byte ∷ bytes) = rw (by_reads text bytes, later first text 0 bytes) (grind arith)
