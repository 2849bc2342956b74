use Rattle.std.proofs.Common.{◌≡◌, ℕ, zero, suc, ◌+◌, ◌-◌, ◌<◌, ◌≤◌, true, false, eqb, List, [], ◌∷◌, ◌++◌, length, take, drop, Some, None, refl, sym, ap, subst, ◌∙◌, arith, inl, inr}
use Rattle.std.specs.Prelude.{position}
use Rattle.std.specs.List.{position_or_len, list_all}
use Rattle.std.proofs.lemmas.Bool.{cases_lt, lt-ltb}
use Rattle.std.proofs.lemmas.List.{length-append, length-take-le, take_at, drop_at, drop-drop}
use Rattle.mc_types.specs.KeyText.{IsKey, HoldsKey, is_bad_byte, is_key_byte}
use Rattle.mc_types.specs.OpaqueText.{IsOpaque, HoldsOpaque}
use Rattle.mc_types.specs.Padded.{IsPadded, zeros_of}

length-replicated : (n : ℕ) → length (zeros_of n) ≡ n
length-replicated zero = refl
length-replicated (suc n) = ap suc (length-replicated n)

drop-replicate : (n m : ℕ) → drop n (zeros_of m) ≡ zeros_of (m - n)
drop-replicate zero m = let e : m ≡ m - 0 = omega arith in ap zeros_of e
drop-replicate (suc n) zero = let e : 0 ≡ 0 - suc n = omega arith in ap zeros_of e
drop-replicate (suc n) (suc m) = let e : m - n ≡ suc m - suc n = omega arith in drop-replicate n m ∙ ap zeros_of e

-- a text in front of an array of zeros
pub lies_in : (room : ℕ) (text : List ℕ) → length text ≤ room → IsPadded room (length text) (text ++ drop (length text) (zeros_of room))
lies_in room text short =
    let zeros = drop-replicate (length text) room in
    record {
      zeros = drop_at text (drop (length text) (zeros_of room)) (length text) refl ∙ zeros;
      whole = rw zeros (length-append text (zeros_of (room - length text)) ∙ omega (arith, short, length-replicated (room - length text)));
      within = short;
    }

-- the text is what stands in front
pub front_is : (room : ℕ) (text : List ℕ) → take (length text) (text ++ drop (length text) (zeros_of room)) ≡ text
front_is room text = take_at text (drop (length text) (zeros_of room)) (length text) refl

pub holds : (text : List ℕ) → IsKey text → HoldsKey (length text) (text ++ drop (length text) (zeros_of 250))
holds text key = record { lies = lies_in 250 text key.short; text = subst IsKey (sym (front_is 250 text)) key }

pub holds_opaque : (text : List ℕ) → IsOpaque text → HoldsOpaque (length text) (text ++ drop (length text) (zeros_of 32))
holds_opaque text opaque = record { lies = lies_in 32 text opaque.short; text = subst IsOpaque (sym (front_is 32 text)) opaque }

none_bad : (text : List ℕ) → length text ≤ position_or_len is_bad_byte text → list_all is_key_byte text ≡ true
none_bad [] h = refl
none_bad (b ∷ text) h = (elim (is_bad_byte b) as (λ t. is_bad_byte b ≡ t → list_all is_key_byte (b ∷ text) ≡ true) [
  | true ↦ λ e. let h' : suc (length text) ≤ 0 = simp e at h in absurd (omega arith)
  | false ↦ λ e. let h' : suc (length text) ≤ 1 + position_or_len is_bad_byte text = simp e at h in simp e (none_bad text (omega arith))
]) refl

pub all_good : (text : List ℕ) → None ≡ position is_bad_byte text → list_all is_key_byte text ≡ true
all_good text e =
    elim (cases_lt (position_or_len is_bad_byte text) (length text)) [
      | inl lt ↦ let f : None ≡ Some (position_or_len is_bad_byte text) = rw (lt-ltb _ _ lt) at e in absurd (cc)
      | inr ge ↦ none_bad text ge
    ]

pub not_empty : (text : List ℕ) → eqb (length text) 0 ≡ false → 0 < length text
not_empty [] e = absurd cc
not_empty (b ∷ text) e = omega arith

-- after a text of at least this length there were zeros already
pub zeros_after : (len before : ℕ) (bytes : List ℕ) → IsPadded 250 before bytes → before ≤ len → drop len bytes ≡ zeros_of (250 - len)
zeros_after len before bytes h le =
    let n : len ≡ before + (len - before) = omega (arith, le) in
    let m : (250 - before) - (len - before) ≡ 250 - len = omega (arith, le, h.within) in
    ap (λ (k : ℕ). drop k bytes) n ∙ sym (drop-drop (len - before) before bytes) ∙ ap (drop (len - before)) h.zeros ∙ drop-replicate (len - before) (250 - before) ∙ ap zeros_of m

zeros-join : (n m : ℕ) → zeros_of n ++ zeros_of m ≡ zeros_of (n + m)
zeros-join zero m = let e : m ≡ 0 + m = omega arith in ap zeros_of e
zeros-join (suc n) m = let e : suc (n + m) ≡ suc n + m = omega arith in ap (λ (l : List ℕ). 0 ∷ l) (zeros-join n m) ∙ ap zeros_of e

-- what stood there of a longer text is set to 0
pub cleared : (len before : ℕ) (bytes filled : List ℕ) → IsPadded 250 before bytes → len < before → filled ≡ zeros_of (before - len) → drop len (take len bytes ++ (filled ++ drop (before - len) (drop len bytes))) ≡ zeros_of (250 - len)
cleared len before bytes filled h lt is =
    let n : before ≡ len + (before - len) = omega (arith, lt) in
    let front : length (take len bytes) ≡ len = length-take-le len bytes (omega (arith, lt, h.within, h.whole)) in
    let rest : drop (before - len) (drop len bytes) ≡ zeros_of (250 - before) = drop-drop (before - len) len bytes ∙ ap (λ (k : ℕ). drop k bytes) (sym n) ∙ h.zeros in
    let m : (before - len) + (250 - before) ≡ 250 - len = omega (arith, lt, h.within) in
    drop_at (take len bytes) _ len front ∙ ap (λ (l : List ℕ). l ++ drop (before - len) (drop len bytes)) is ∙ ap (λ (l : List ℕ). zeros_of (before - len) ++ l) rest ∙ zeros-join (before - len) (250 - before) ∙ ap zeros_of m

-- a text in front of zeros
pub holds_before : (text bytes : List ℕ) → IsKey text → drop (length text) bytes ≡ zeros_of (250 - length text) → HoldsKey (length text) (text ++ drop (length text) bytes)
holds_before text bytes key e =
    let same : drop (length text) bytes ≡ drop (length text) (zeros_of 250) = e ∙ sym (drop-replicate (length text) 250) in
    subst (λ (l : List ℕ). HoldsKey (length text) (text ++ l)) (sym same) (holds text key)
