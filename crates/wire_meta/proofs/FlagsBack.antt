-- The flags of a spelled ask are let through, and say what the ask says.
use Rattle.std.proofs.Common.{◌≡◌, ℕ, ◌+◌, ◌^◌, Bool, true, false, not, eqb, ◌||◌, ◌&&◌, List, [], ◌∷◌, ◌++◌, length, Option, Some, None, Ok, refl, sym, ap, ◌∙◌, append_assoc}
use Rattle.std.specs.Prelude.{ℤ}
use Rattle.std.specs.Fmt.{signed_decimal}
use Rattle.std.specs.List.{AllByRecursion, list_all}
use Rattle.std.proofs.lemmas.Bool.{and_parts, le-leb, ne_eqb, eq-eqb}
use Rattle.std.proofs.lemmas.List.{append-nil}
use Rattle.std.proofs.lemmas.List.Folds.{list_any-append}
use Rattle.text_words.specs.Number.{number_below, signed_number}
use Rattle.mc_types.specs.OpaqueText.{IsOpaque}
use Rattle.mc_types.specs.Tokens.{Letter, same_letter, has_letter, wants, are_served, TokenIsText}
use Rattle.mc_types.specs.Tokens as served
use Rattle.mc_types.specs.declared.token.Token.{Token}
use Rattle.mc_types.specs.declared.token.Token.TheVariants as tokens
use Rattle.wire_parts.specs.Tests.{Word, ◌>>=◌}
use Rattle.wire_meta.specs.declared.command.Kind.{Kind}
use Rattle.wire_meta.specs.declared.command.Values.{Values}
use Rattle.wire_meta.specs.Flags.{flag_letter, flag_text, is_served, stands_in, has_value, is_opaque, flag_of, flags_of, or_else, read_in, values_of, tokens_in, flag_wants, mode_of}
use Rattle.wire_meta.specs.Spelling.{token_word, meta_token_words, exptime_words}
use Rattle.wire_meta.proofs.SeenLemmas.{stands-more, else_none}
use Rattle.wire_meta.proofs.ServedLemmas.{byte_of, apart, served_by, same_served}

-- two flags are never twice the same letter
abbrev pub distinct : List Word → Bool
distinct [] = true
distinct (w ∷ ws) = not (stands_in (flag_letter w) ws) && distinct ws

-- each of these is a flag of the command with a value
abbrev pub Fits : Kind → List Word → Type 0
Fits kind [] = Unit {0}
Fits kind (w ∷ ws) = (is_served kind (flag_letter w) ≡ true) × (has_value kind (flag_letter w) (flag_text w) ≡ true) × Fits kind ws

-- none of these stands among those before
abbrev AreNew : List Word → List Word → Type 0
AreNew before [] = Unit {0}
AreNew before (w ∷ ws) = (stands_in (flag_letter w) before ≡ false) × AreNew before ws

are_new : (ws : List Word) → AreNew [] ws
are_new [] = tt
are_new (w ∷ ws) = (refl, are_new ws)

neither : (a b : Bool) → (a || b) ≡ false → (a ≡ false) × (b ≡ false)
neither true b e = absurd cc
neither false b e = (refl, e)

not_true : (b : Bool) → not b ≡ true → b ≡ false
not_true true e = absurd cc
not_true false e = refl

eqb_back : (a b : ℕ) → eqb a b ≡ false → eqb b a ≡ false
eqb_back a b e = ne_eqb b a (λ s. let f : true ≡ false = sym (eq-eqb a b (sym s)) ∙ e in cc)

new_more : (before : List Word) (w : Word) (ws : List Word) → AreNew before ws → stands_in (flag_letter w) ws ≡ false → AreNew (before ++ w ∷ []) ws
new_more before w [] h e = tt
new_more before w (v ∷ ws) h e =
    let parts = neither (eqb (flag_letter v) (flag_letter w)) (stands_in (flag_letter w) ws) e in
    let one : stands_in (flag_letter v) (before ++ w ∷ []) ≡ false = stands-more (flag_letter v) before w ∙ rw (h.0, eqb_back (flag_letter v) (flag_letter w) parts.0) refl in
    (one, new_more before w ws h.1 parts.1)

passes : (kind : Kind) (before : List Word) (w : Word) → is_served kind (flag_letter w) ≡ true → stands_in (flag_letter w) before ≡ false → has_value kind (flag_letter w) (flag_text w) ≡ true → flag_of kind before w ≡ Ok w
passes kind before w a b c = rw (a, b, c) refl

pass_after : (kind : Kind) (before ws : List Word) → AreNew before ws → Fits kind ws → distinct ws ≡ true → flags_of kind before ws ≡ Ok (before ++ ws)
pass_after kind before [] n f d = ap (λ (t : List Word). Ok t) (sym (append-nil before))
pass_after kind before (w ∷ ws) n f d =
    let parts = and_parts (not (stands_in (flag_letter w) ws)) (distinct ws) d in
    let once : stands_in (flag_letter w) ws ≡ false = not_true (stands_in (flag_letter w) ws) parts.0 in
    let first = passes kind before w f.0 n.0 f.1 in
    let goes : flags_of kind before (w ∷ ws) ≡ flags_of kind (before ++ w ∷ []) ws = rw first refl in
    goes ∙ pass_after kind (before ++ w ∷ []) ws (new_more before w ws n.1 once) f.2 parts.1 ∙ ap (λ (t : List Word). Ok t) (append_assoc before (w ∷ []) ws)

-- flags that stand once each, with a value, are let through
pub pass : (kind : Kind) (ws : List Word) → Fits kind ws → distinct ws ≡ true → flags_of kind [] ws ≡ Ok ws
pass kind ws f d = pass_after kind [] ws (are_new ws) f d

-- the letters of flags with a value
abbrev pub is_valued : ℕ → Bool
is_valued b = eqb b 67 || eqb b 68 || eqb b 70 || eqb b 77 || eqb b 84

token_letter : (t : Token) → flag_letter (token_word t) ≡ byte_of (served.letter_of t)
token_letter tokens.Cas = refl
token_letter tokens.Flags = refl
token_letter tokens.Key = refl
token_letter tokens.Size = refl
token_letter tokens.Ttl = refl
token_letter tokens.Value = refl
token_letter (tokens.Opaque text) = refl

token_valued : (t : Token) → is_valued (flag_letter (token_word t)) ≡ false
token_valued tokens.Cas = refl
token_valued tokens.Flags = refl
token_valued tokens.Key = refl
token_valued tokens.Size = refl
token_valued tokens.Ttl = refl
token_valued tokens.Value = refl
token_valued (tokens.Opaque text) = refl

token_loud : (t : Token) → eqb (flag_letter (token_word t)) 113 ≡ false
token_loud tokens.Cas = refl
token_loud tokens.Flags = refl
token_loud tokens.Key = refl
token_loud tokens.Size = refl
token_loud tokens.Ttl = refl
token_loud tokens.Value = refl
token_loud (tokens.Opaque text) = refl

opaque_passes : (text : Word) → IsOpaque text → is_opaque text ≡ true
opaque_passes text h = rw (le-leb 1 (length text) h.some, le-leb (length text) 32 h.short, h.bytes) refl

token_value : (kind : Kind) (t : Token) → TokenIsText t → has_value kind (flag_letter (token_word t)) (flag_text (token_word t)) ≡ true
token_value kind tokens.Cas h = refl
token_value kind tokens.Flags h = refl
token_value kind tokens.Key h = refl
token_value kind tokens.Size h = refl
token_value kind tokens.Ttl h = refl
token_value kind tokens.Value h = refl
token_value kind (tokens.Opaque text) h = opaque_passes text h

token_wanted : (t : Token) → TokenIsText t → flag_wants (token_word t) ≡ Some t
token_wanted tokens.Cas h = refl
token_wanted tokens.Flags h = refl
token_wanted tokens.Key h = refl
token_wanted tokens.Size h = refl
token_wanted tokens.Ttl h = refl
token_wanted tokens.Value h = refl
token_wanted (tokens.Opaque text) h = rw (opaque_passes text h) refl

-- the flags with a value, as they are spelled
pub record AreValued (kind : Kind) (vs : List Word) (v : Values) : Type 0 where
  pub fit : Fits kind vs
  pub once : distinct vs ≡ true
  pub valued : list_all (λ w. is_valued (flag_letter w)) vs ≡ true
  pub none : tokens_in vs ≡ []
  pub values : values_of kind vs ≡ v
  pub undated : stands_in 84 vs ≡ false

-- the expiry, where there is one, is a flag of the command, and is read back
abbrev pub IsDate : Kind → Option ℤ → Type 0
IsDate kind None = Unit {0}
IsDate kind (Some z) = (is_served kind 84 ≡ true) × (signed_number (signed_decimal z) ≡ Some z)

-- what is said where the expiry stands before the others
dated : (u : Values) (z : ℤ) (read : Option ℤ) → u.exptime ≡ None → read ≡ Some z
    → (let r : Values = record { cas = or_else u.cas None; delta = or_else u.delta None; exptime = or_else u.exptime read; flags = or_else u.flags None; mode = or_else u.mode None; quiet = u.quiet } in r) ≡ (record u { exptime = Some z })
dated u z read none is = rw (none, is, else_none u.cas, else_none u.delta, else_none u.flags, else_none u.mode) refl

-- a token's letter isn't one of theirs
apart_from : (l : ℕ) (vs : List Word) → is_valued l ≡ false → list_all (λ w. is_valued (flag_letter w)) vs ≡ true → stands_in l vs ≡ false
apart_from l [] n h = refl
apart_from l (w ∷ vs) n h =
    let parts = and_parts (is_valued (flag_letter w)) (list_all (λ w. is_valued (flag_letter w)) vs) h in
    let differ : eqb (flag_letter w) l ≡ false = ne_eqb (flag_letter w) l (λ e. let f : true ≡ false = sym parts.0 ∙ ap is_valued e ∙ n in cc) in
    rw (differ, apart_from l vs n parts.1) refl

stands-append : (l : ℕ) (a b : List Word) → stands_in l (a ++ b) ≡ (stands_in l a || stands_in l b)
stands-append l a b = list_any-append (λ w. eqb (flag_letter w) l) a b

-- a token's letter among the others'
stands_wants : (x : Letter) (ts : List Token) → stands_in (byte_of x) (meta_token_words ts) ≡ wants ts x
stands_wants x [] = refl
stands_wants x (t ∷ ts) =
    let one : eqb (flag_letter (token_word t)) (byte_of x) ≡ same_letter (served.letter_of t) x = ap (λ (b : ℕ). eqb b (byte_of x)) (token_letter t) ∙ sym (apart (served.letter_of t) x) in
    rw (one, stands_wants x ts) refl

module _ (kind : Kind) (vs : List Word) (v : Values) (h : AreValued kind vs v) where
  fit_all : (ts : List Token) → are_served (served_by kind) ts ≡ true → AllByRecursion TokenIsText ts → Fits kind (meta_token_words ts ++ vs)
  fit_all [] e x = h.fit
  fit_all (t ∷ ts) e x =
      let a = and_parts (has_letter (served_by kind) (served.letter_of t) && not (wants ts (served.letter_of t))) (are_served (served_by kind) ts) e in
      let b = and_parts (has_letter (served_by kind) (served.letter_of t)) (not (wants ts (served.letter_of t))) a.0 in
      (ap (is_served kind) (token_letter t) ∙ sym (same_served kind (served.letter_of t)) ∙ b.0, token_value kind t x.0, fit_all ts a.1 x.1)

  once_all : (ts : List Token) → are_served (served_by kind) ts ≡ true → distinct (meta_token_words ts ++ vs) ≡ true
  once_all [] e = h.once
  once_all (t ∷ ts) e =
      let a = and_parts (has_letter (served_by kind) (served.letter_of t) && not (wants ts (served.letter_of t))) (are_served (served_by kind) ts) e in
      let b = and_parts (has_letter (served_by kind) (served.letter_of t)) (not (wants ts (served.letter_of t))) a.0 in
      let alone : stands_in (flag_letter (token_word t)) (meta_token_words ts) ≡ false = ap (λ (l : ℕ). stands_in l (meta_token_words ts)) (token_letter t) ∙ stands_wants (served.letter_of t) ts ∙ not_true (wants ts (served.letter_of t)) b.1 in
      let far : stands_in (flag_letter (token_word t)) vs ≡ false = apart_from (flag_letter (token_word t)) vs (token_valued t) h.valued in
      let no : stands_in (flag_letter (token_word t)) (meta_token_words ts ++ vs) ≡ false = stands-append (flag_letter (token_word t)) (meta_token_words ts) vs ∙ rw (alone, far) refl in
      rw (no, once_all ts a.1) refl

  undated_all : (ts : List Token) → stands_in 84 (meta_token_words ts ++ vs) ≡ false
  undated_all [] = h.undated
  undated_all (t ∷ ts) =
      let differ : eqb (flag_letter (token_word t)) 84 ≡ false = ne_eqb (flag_letter (token_word t)) 84 (λ s. let f : true ≡ false = sym (ap is_valued s) ∙ token_valued t in cc) in
      rw differ (undated_all ts)

  pub flags_back : (date : Option ℤ) (ts : List Token) → IsDate kind date → are_served (served_by kind) ts ≡ true → AllByRecursion TokenIsText ts → flags_of kind [] (exptime_words date ++ (meta_token_words ts ++ vs)) ≡ Ok (exptime_words date ++ (meta_token_words ts ++ vs))
  flags_back None ts d e x = pass kind (meta_token_words ts ++ vs) (fit_all ts e x) (once_all ts e)
  flags_back (Some z) ts d e x = pass kind ((84 ∷ signed_decimal z) ∷ (meta_token_words ts ++ vs)) (d.0, rw d.1 refl, fit_all ts e x) (rw (undated_all ts, once_all ts e) refl)

  others_back : (ts : List Token) → AllByRecursion TokenIsText ts → tokens_in (meta_token_words ts ++ vs) ≡ ts
  others_back [] x = h.none
  others_back (t ∷ ts) x = rw (token_wanted t x.0, others_back ts x.1) refl

  pub tokens_back : (date : Option ℤ) (ts : List Token) → AllByRecursion TokenIsText ts → tokens_in (exptime_words date ++ (meta_token_words ts ++ vs)) ≡ ts
  tokens_back None ts x = others_back ts x
  tokens_back (Some z) ts x = others_back ts x

  read_back : {A : Type 0} (l : ℕ) (read : Word → Option A) (ts : List Token) → is_valued l ≡ true → read_in l read (meta_token_words ts ++ vs) ≡ read_in l read vs
  read_back l read [] e = refl
  read_back l read (t ∷ ts) e =
      let differ : eqb (flag_letter (token_word t)) l ≡ false = ne_eqb (flag_letter (token_word t)) l (λ s. let f : true ≡ false = sym e ∙ sym (ap is_valued s) ∙ token_valued t in cc) in
      rw differ (else_none (read_in l read (meta_token_words ts ++ vs)) ∙ read_back l read ts e)

  loud : (ts : List Token) → stands_in 113 (meta_token_words ts ++ vs) ≡ stands_in 113 vs
  loud [] = refl
  loud (t ∷ ts) = rw (token_loud t) (loud ts)

  same_values : (ts : List Token) → values_of kind (meta_token_words ts ++ vs) ≡ v
  same_values ts = rw (read_back 67 (number_below (2 ^ 64)) ts refl, read_back 68 (number_below (2 ^ 64)) ts refl, read_back 84 signed_number ts refl, read_back 70 (number_below (2 ^ 32)) ts refl, read_back 77 (mode_of kind) ts refl, loud ts) h.values

  pub values_back : (date : Option ℤ) (ts : List Token) → IsDate kind date → v.exptime ≡ None → values_of kind (exptime_words date ++ (meta_token_words ts ++ vs)) ≡ (record v { exptime = date })
  values_back None ts d none = same_values ts ∙ sym (ap (λ (x : Option ℤ). let r : Values = record v { exptime = x } in r) (sym none))
  values_back (Some z) ts d none =
      let same = same_values ts in
      let before : (values_of kind (meta_token_words ts ++ vs)).exptime ≡ None = ap (λ (u : Values). u.exptime) same ∙ none in
      dated (values_of kind (meta_token_words ts ++ vs)) z (signed_number (signed_decimal z)) before d.1 ∙ ap (λ (u : Values). let r : Values = record u { exptime = Some z } in r) same
