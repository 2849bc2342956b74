-- The return tokens that were written are read as what they say.
use Rattle.std.proofs.lemmas.Int.{ints}
use Rattle.std.proofs.Common.{◌≡◌, ℕ, zero, suc, ◌+◌, ◌^◌, ◌<◌, ◌≤◌, ℤ, pos, negsuc, Bool, true, false, cond, not, ◌&&◌, ◌||◌, List, [], ◌∷◌, ◌++◌, Option, Some, None, is_some, IfSome, refl, sym, ap, ◌∙◌, arith, inl, inr}
use Rattle.std.specs.Prelude.{codes, decimal}
use Rattle.std.specs.Fmt.{signed_decimal}
use Rattle.std.specs.Str.{bytes_eq}
use Rattle.std.proofs.lemmas.Bool.{cases_Bool}
use Rattle.std.proofs.lemmas.Fmt.{decimal_digit}
use Rattle.std.proofs.lemmas.Slice.Eq.{bytes_eq-Decides}
use Rattle.text_words.specs.Number.{number_below}
use Rattle.text_words.proofs.NumberLemmas.{number_below-decimal}
use Rattle.mc_types.specs.Asks.{data_limit}
use Rattle.mc_types.specs.Tokens.{Letter, LetterC, LetterF, LetterK, LetterS, LetterT, LetterO, wants, are_served, has_letter, letter_of}
use Rattle.mc_types.specs.Fits.{AreFieldsInRange, IsTtl}
use Rattle.mc_types.specs.declared.token.Token.{Token}
use Rattle.mc_types.specs.declared.token.Token.TheVariants.{Cas, Flags, Key, Size, Ttl, Value, Opaque}
use Rattle.mc_types.specs.declared.ask.Ask.{Ask}
use Rattle.mc_types.specs.declared.answer.Fields.{Fields}
use Rattle.wire_answers.specs.declared.meta.told.Told.{Told}
use Rattle.wire_answers.specs.Told.{none_told}
use Rattle.wire_answers.specs.Tokens.{letter_c, letter_f, letter_s, ttl_in, asks_opaque, with_words}
use Rattle.wire_answers.specs.MetaSpelling.{number_token, ttl_token, token_words, tokens_words}
use Rattle.wire_answers.proofs.MetaFitLemmas.{both}

-- what is told after a token of this flag, too
abbrev pub telling : Fields → Told → Token → Told
telling fields told Cas = record told { cas = fields.cas }
telling fields told Flags = record told { flags = fields.flags }
telling fields told Size = record told { size = fields.size }
telling fields told Ttl = record told { ttl = fields.ttl }
telling fields told Key = record told { key = true }
telling fields told (Opaque text) = record told { opaque = true }
telling fields told Value = told

abbrev pub telling_all : Fields → Told → List Token → Told
telling_all fields told [] = told
telling_all fields told (t ∷ ts) = telling_all fields (telling fields told t) ts

-- nothing of these flags was told before
pub record IsFresh (told : Told) (ts : List Token) : Type 0 where
  pub cas : wants ts LetterC ≡ true → told.cas ≡ None
  pub flags : wants ts LetterF ≡ true → told.flags ≡ None
  pub size : wants ts LetterS ≡ true → told.size ≡ None
  pub ttl : wants ts LetterT ≡ true → told.ttl ≡ None
  pub key : wants ts LetterK ≡ true → told.key ≡ false
  pub opaque : wants ts LetterO ≡ true → told.opaque ≡ false

-- these flags are among those of the ask
pub record AreAmong (all ts : List Token) : Type 0 where
  pub letters : (x : Letter) → wants ts x ≡ true → wants all x ≡ true
  pub texts : (text : List ℕ) → asks_opaque ts text ≡ true → asks_opaque all text ≡ true

or_true : (b : Bool) → (b || true) ≡ true
or_true true = refl
or_true false = refl

or_right : (a b : Bool) → b ≡ true → (a || b) ≡ true
or_right true b e = refl
or_right false b e = e

pub among_rest : (all : List Token) (t : Token) (ts : List Token) → AreAmong all (t ∷ ts) → AreAmong all ts
among_rest all t ts h = record {
  letters = λ x e. h.letters x (or_right _ (wants ts x) e);
  texts = λ text e. h.texts text (or_right _ (asks_opaque ts text) e);
}

clash : (b : Bool) {A : Type 0} → not b ≡ true → b ≡ true → A
clash true n e = absurd cc
clash false n e = absurd cc

-- a letter that was served doesn't come again
pub once_only : (served : List Letter) (t : Token) (ts : List Token) → are_served served (t ∷ ts) ≡ true → (not (wants ts (letter_of t)) ≡ true) × (are_served served ts ≡ true)
once_only served t ts e =
    let parts = both (has_letter served (letter_of t) && not (wants ts (letter_of t))) (are_served served ts) e in
    ((both (has_letter served (letter_of t)) (not (wants ts (letter_of t))) parts.0).1, parts.1)

pub fresh_rest : (fields : Fields) (told : Told) (t : Token) (ts : List Token) → not (wants ts (letter_of t)) ≡ true → IsFresh told (t ∷ ts) → IsFresh (telling fields told t) ts
fresh_rest fields told Cas ts n h = record { cas = λ e. clash (wants ts LetterC) n e; flags = h.flags; size = h.size; ttl = h.ttl; key = h.key; opaque = h.opaque }
fresh_rest fields told Flags ts n h = record { cas = h.cas; flags = λ e. clash (wants ts LetterF) n e; size = h.size; ttl = h.ttl; key = h.key; opaque = h.opaque }
fresh_rest fields told Size ts n h = record { cas = h.cas; flags = h.flags; size = λ e. clash (wants ts LetterS) n e; ttl = h.ttl; key = h.key; opaque = h.opaque }
fresh_rest fields told Ttl ts n h = record { cas = h.cas; flags = h.flags; size = h.size; ttl = λ e. clash (wants ts LetterT) n e; key = h.key; opaque = h.opaque }
fresh_rest fields told Key ts n h = record { cas = h.cas; flags = h.flags; size = h.size; ttl = h.ttl; key = λ e. clash (wants ts LetterK) n e; opaque = h.opaque }
fresh_rest fields told (Opaque text) ts n h = record { cas = h.cas; flags = h.flags; size = h.size; ttl = h.ttl; key = h.key; opaque = λ e. clash (wants ts LetterO) n e }
fresh_rest fields told Value ts n h = record { cas = h.cas; flags = h.flags; size = h.size; ttl = h.ttl; key = h.key; opaque = h.opaque }

-- the seconds left are read back
no_minus : (n : ℕ) → n < 2 ^ 63 → bytes_eq (decimal n) (codes "-1") ≡ false
no_minus n lt = elim (cases_Bool (bytes_eq (decimal n) (codes "-1"))) [
  | inl same ↦
      let is : decimal n ≡ codes "-1" = (bytes_eq-Decides (decimal n) (codes "-1")).0 same in
      let f : Some n ≡ None = sym (number_below-decimal (2 ^ 63) n lt (omega arith)) ∙ ap (number_below (2 ^ 63)) is in
      absurd cc
  | inr other ↦ other
]

pub ttl_back : (ttl : ℤ) → IsTtl ttl → ttl_in (signed_decimal ttl) ≡ Some ttl
ttl_back (pos n) h = let lt : n < 2 ^ 63 = omega (arith, ints, h.1) in rw (no_minus n lt, number_below-decimal (2 ^ 63) n lt (omega arith)) refl
ttl_back (negsuc zero) h = ap (λ (t : List ℕ). ttl_in (45 ∷ t)) (decimal_digit 1 (omega arith))
ttl_back (negsuc (suc n)) h = absurd (omega (arith, ints, h.0))

same_text : (text : List ℕ) → bytes_eq text text ≡ true
same_text text = (bytes_eq-Decides text text).1 refl

module _ (ask : Ask) (fields : Fields) (range : AreFieldsInRange fields) where
  -- one token's words
  step : (t : Token) (ts : List Token) (told : Told) (words : List (List ℕ)) → IsFresh told (t ∷ ts) → AreAmong ask.tokens (t ∷ ts)
      → with_words ask (token_words ask.key fields t ++ words) told ≡ with_words ask words (telling fields told t)
  step Cas ts told words h a = go fields.cas range.cas
    where
      go : (o : Option ℕ) → IfSome o (λ n. n < 2 ^ 64) → with_words ask (number_token letter_c o ++ words) told ≡ with_words ask words (record told { cas = o })
      go None lt = ap (λ (o : Option ℕ). with_words ask words (record told { cas = o })) (h.cas refl)
      go (Some n) lt = rw (a.letters LetterC refl, h.cas refl, number_below-decimal (2 ^ 64) n lt (omega arith)) refl
  step Flags ts told words h a = go fields.flags range.flags
    where
      go : (o : Option ℕ) → IfSome o (λ n. n < 2 ^ 32) → with_words ask (number_token letter_f o ++ words) told ≡ with_words ask words (record told { flags = o })
      go None lt = ap (λ (o : Option ℕ). with_words ask words (record told { flags = o })) (h.flags refl)
      go (Some n) lt = rw (a.letters LetterF refl, h.flags refl, number_below-decimal (2 ^ 32) n lt (omega arith)) refl
  step Size ts told words h a = go fields.size range.size
    where
      go : (o : Option ℕ) → IfSome o (λ n. n ≤ data_limit) → with_words ask (number_token letter_s o ++ words) told ≡ with_words ask words (record told { size = o })
      go None lt = ap (λ (o : Option ℕ). with_words ask words (record told { size = o })) (h.size refl)
      go (Some n) lt = rw (a.letters LetterS refl, h.size refl, number_below-decimal (data_limit + 1) n (omega arith) (omega arith)) refl
  step Ttl ts told words h a = go fields.ttl range.ttl
    where
      go : (o : Option ℤ) → IfSome o IsTtl → with_words ask (ttl_token o ++ words) told ≡ with_words ask words (record told { ttl = o })
      go None lt = ap (λ (o : Option ℤ). with_words ask words (record told { ttl = o })) (h.ttl refl)
      go (Some z) lt = rw (a.letters LetterT refl, h.ttl refl, ttl_back z lt) refl
  step Key ts told words h a = rw (a.letters LetterK refl, h.key refl, same_text ask.key) refl
  step (Opaque text) ts told words h a = rw (h.opaque refl, a.texts text (ap (λ (b : Bool). b || asks_opaque ts text) (same_text text))) refl
  step Value ts told words h a = refl

  pub tokens_back : (served : List Letter) (ts : List Token) (told : Told) → are_served served ts ≡ true → IsFresh told ts → AreAmong ask.tokens ts
      → with_words ask (tokens_words ask.key fields ts) told ≡ Some (telling_all fields told ts)
  tokens_back served [] told e h a = refl
  tokens_back served (t ∷ ts) told e h a =
      let parts = once_only served t ts e in
      step t ts told (tokens_words ask.key fields ts) h a
      ∙ tokens_back served ts (telling fields told t) parts.1 (fresh_rest fields told t ts parts.0 h) (among_rest ask.tokens t ts a)

pub all_fresh : (ts : List Token) → IsFresh none_told ts
all_fresh ts = record { cas = λ e. refl; flags = λ e. refl; size = λ e. refl; ttl = λ e. refl; key = λ e. refl; opaque = λ e. refl }

pub all_among : (ts : List Token) → AreAmong ts ts
all_among ts = record { letters = λ x e. e; texts = λ text e. e }

-- what was told of each field in the end
cond_same : {A : Type 0} (b : Bool) (x : A) → cond b x x ≡ x
cond_same true x = refl
cond_same false x = refl

pub cas_told : (fields : Fields) (told : Told) (ts : List Token) → (telling_all fields told ts).cas ≡ cond (wants ts LetterC) fields.cas told.cas
cas_told fields told [] = refl
cas_told fields told (Cas ∷ ts) = cas_told fields (telling fields told Cas) ts ∙ cond_same (wants ts LetterC) fields.cas
cas_told fields told (Flags ∷ ts) = cas_told fields (telling fields told Flags) ts
cas_told fields told (Key ∷ ts) = cas_told fields (telling fields told Key) ts
cas_told fields told (Size ∷ ts) = cas_told fields (telling fields told Size) ts
cas_told fields told (Ttl ∷ ts) = cas_told fields (telling fields told Ttl) ts
cas_told fields told (Value ∷ ts) = cas_told fields told ts
cas_told fields told (Opaque text ∷ ts) = cas_told fields (telling fields told (Opaque text)) ts

pub flags_told : (fields : Fields) (told : Told) (ts : List Token) → (telling_all fields told ts).flags ≡ cond (wants ts LetterF) fields.flags told.flags
flags_told fields told [] = refl
flags_told fields told (Cas ∷ ts) = flags_told fields (telling fields told Cas) ts
flags_told fields told (Flags ∷ ts) = flags_told fields (telling fields told Flags) ts ∙ cond_same (wants ts LetterF) fields.flags
flags_told fields told (Key ∷ ts) = flags_told fields (telling fields told Key) ts
flags_told fields told (Size ∷ ts) = flags_told fields (telling fields told Size) ts
flags_told fields told (Ttl ∷ ts) = flags_told fields (telling fields told Ttl) ts
flags_told fields told (Value ∷ ts) = flags_told fields told ts
flags_told fields told (Opaque text ∷ ts) = flags_told fields (telling fields told (Opaque text)) ts

pub size_told : (fields : Fields) (told : Told) (ts : List Token) → (telling_all fields told ts).size ≡ cond (wants ts LetterS) fields.size told.size
size_told fields told [] = refl
size_told fields told (Cas ∷ ts) = size_told fields (telling fields told Cas) ts
size_told fields told (Flags ∷ ts) = size_told fields (telling fields told Flags) ts
size_told fields told (Key ∷ ts) = size_told fields (telling fields told Key) ts
size_told fields told (Size ∷ ts) = size_told fields (telling fields told Size) ts ∙ cond_same (wants ts LetterS) fields.size
size_told fields told (Ttl ∷ ts) = size_told fields (telling fields told Ttl) ts
size_told fields told (Value ∷ ts) = size_told fields told ts
size_told fields told (Opaque text ∷ ts) = size_told fields (telling fields told (Opaque text)) ts

pub ttl_told : (fields : Fields) (told : Told) (ts : List Token) → (telling_all fields told ts).ttl ≡ cond (wants ts LetterT) fields.ttl told.ttl
ttl_told fields told [] = refl
ttl_told fields told (Cas ∷ ts) = ttl_told fields (telling fields told Cas) ts
ttl_told fields told (Flags ∷ ts) = ttl_told fields (telling fields told Flags) ts
ttl_told fields told (Key ∷ ts) = ttl_told fields (telling fields told Key) ts
ttl_told fields told (Size ∷ ts) = ttl_told fields (telling fields told Size) ts
ttl_told fields told (Ttl ∷ ts) = ttl_told fields (telling fields told Ttl) ts ∙ cond_same (wants ts LetterT) fields.ttl
ttl_told fields told (Value ∷ ts) = ttl_told fields told ts
ttl_told fields told (Opaque text ∷ ts) = ttl_told fields (telling fields told (Opaque text)) ts

-- a field that stands exactly where it was asked for is told
pub told_as_asked : {A : Type 0} (asked : Bool) (o : Option A) → is_some o ≡ asked → cond asked o None ≡ o
told_as_asked true o e = refl
told_as_asked false None e = refl
told_as_asked false (Some x) e = absurd cc

-- a field that doesn't stand is told by nothing, whether it was asked for or not
pub told_nothing : {A : Type 0} (asked : Bool) (o : Option A) → is_some o ≡ false → cond asked o None ≡ None
told_nothing false o e = refl
told_nothing true None e = refl
told_nothing true (Some x) e = absurd cc
