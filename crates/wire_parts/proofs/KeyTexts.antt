-- Texts that are keys.
use Rattle.std.proofs.Common.{◌≡◌, ℕ, Bool, true, false, not, eqb, leb, ltb, ◌&&◌, List, [], ◌∷◌, length, None, Ok, refl, arith}
use Rattle.std.specs.Prelude.{position}
use Rattle.std.specs.List.{list_all, position_or_len}
use Rattle.std.proofs.lemmas.Bool.{le-ltb, ne_eqb, leb-true, and_parts}
use Rattle.mc_types.specs.KeyText.{IsKey, is_bad_byte, is_key_byte}
use Rattle.mc_types.specs.Fault.{read_key}
use Rattle.wire_parts.specs.Tests.{Word, is_key}

not_true : (b : Bool) → not b ≡ true → b ≡ false
not_true true e = absurd cc
not_true false e = refl

-- what the test lets through is a key
pub key_is : (w : Word) → is_key w ≡ true → IsKey w
key_is w e =
    let a = and_parts (leb 1 (length w) && leb (length w) 250) (list_all is_key_byte w) e in
    let b = and_parts (leb 1 (length w)) (leb (length w) 250) a.0 in
    record { some = leb-true 1 (length w) b.0; short = leb-true (length w) 250 b.1; bytes = a.1 }

-- a text that is a key is read as one
no_bad : (text : List ℕ) → list_all is_key_byte text ≡ true → position_or_len is_bad_byte text ≡ length text
no_bad [] e = refl
no_bad (b ∷ text) e =
    let parts = and_parts (is_key_byte b) (list_all is_key_byte text) e in
    let good : is_bad_byte b ≡ false = not_true (is_bad_byte b) parts.0 in
    let rest = no_bad text parts.1 in
    rw (good, rest) (omega arith)

pub is_read : (text : List ℕ) → IsKey text → read_key text ≡ Ok text
is_read text k =
    let some : eqb (length text) 0 ≡ false = ne_eqb (length text) 0 (λ e. let s = k.some in omega arith) in
    let short : ltb 250 (length text) ≡ false = le-ltb 250 (length text) k.short in
    let none : position is_bad_byte text ≡ None = rw (no_bad text k.bytes, le-ltb (length text) (length text) (omega arith)) refl in
    rw (some, short, none) refl
