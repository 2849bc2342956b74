-- What a line says fits its ask.
use Rattle.std.proofs.lemmas.Int.{ints}
use Rattle.std.proofs.Common.{◌≡◌, ℕ, ◌+◌, ◌^◌, ◌<◌, ◌≤◌, pos, negsuc, Bool, true, false, not, ltb, eqb, ◌&&◌, List, [], ◌∷◌, length, Option, Some, None, is_some, IfSome, refl, arith}
use Rattle.std.specs.Prelude.{codes, option_map, if◌then◌else◌}
use Rattle.std.specs.Option.{option_and_then}
use Rattle.std.specs.Str.{bytes_eq}
use Rattle.std.specs.Str.Parse.{digits_value}
use Rattle.std.proofs.lemmas.Bool.{cond_both, ltb-true}
use Rattle.text_words.specs.Number.{number_below, is_number}
use Rattle.mc_types.specs.Asks.{data_limit}
use Rattle.mc_types.specs.Tokens.{wants, LetterC, LetterF, LetterK, LetterS, LetterT, LetterV}
use Rattle.mc_types.specs.Fits.{AreFieldsInRange, IsTtl, StandAs}
use Rattle.mc_types.specs.declared.token.Token.TheVariants as tokens
use Rattle.mc_types.specs.declared.ask.Ask.{Ask}
use Rattle.mc_types.specs.declared.answer.Code.{Code}
use Rattle.mc_types.specs.declared.answer.Code.TheVariants.{Hd, Va, En, Ns, Ex, Nf}
use Rattle.wire_answers.specs.declared.meta.told.Told.{Told}
use Rattle.wire_answers.specs.declared.meta.line.MetaLine.{MetaLine}
use Rattle.wire_answers.specs.declared.meta.line.MetaLine.TheVariants.{Done, Value, Other}
use Rattle.wire_answers.specs.Told.{none_told, fields_told}
use Rattle.wire_answers.specs.Tokens.{letter_c, letter_f, letter_k, letter_s, letter_t, letter_o, ttl_in, asks_opaque, once, with_token, with_word, with_words}
use Rattle.wire_answers.specs.Line.{takes_code, is_count, as_asked, all_stand, is_size, done_said, value_said, value_line_words, bare_said, coded, meta_said, code_of}

pub both : (a b : Bool) → (a && b) ≡ true → (a ≡ true) × (b ≡ true)
both true b e = (refl, e)
both false b e = absurd cc

-- what is told is in its range
pub record IsTold (told : Told) : Type 0 where
  pub cas : IfSome told.cas (λ n. n < 2 ^ 64)
  pub flags : IfSome told.flags (λ n. n < 2 ^ 32)
  pub size : IfSome told.size (λ n. n ≤ data_limit)
  pub ttl : IfSome told.ttl IsTtl

below_limit : (limit : ℕ) (w : List ℕ) → IfSome (number_below limit w) (λ n. n < limit)
below_limit limit w = cond_both (is_number w && ltb (digits_value 10 w) limit) (Some (digits_value 10 w)) None (λ (o : Option ℕ). IfSome o (λ n. n < limit))
    (λ yes. ltb-true _ _ (both (is_number w) (ltb (digits_value 10 w) limit) yes).1)
    (λ no. tt)

map_some : {A B : Type 0} (f : A → B) (o : Option A) (P : A → Type 0) (Q : B → Type 0) → IfSome o P → ((a : A) → P a → Q (f a)) → IfSome (option_map f o) Q
map_some f (Some a) P Q h on = on a h
map_some f None P Q h on = tt

once_some : {A : Type 0} (asked : Bool) (before value : Option A) (P : A → Type 0) → IfSome value P → IfSome (once asked before value) P
once_some asked before value P h = cond_both (asked && not (is_some before)) value None (λ o. IfSome o P) (λ yes. h) (λ no. tt)

ttl_some : (text : List ℕ) → IfSome (ttl_in text) IsTtl
ttl_some text = cond_both (bytes_eq text (codes "-1")) (Some (negsuc 0)) (option_map pos (number_below (2 ^ 63) text)) (λ o. IfSome o IsTtl)
    (λ yes. (omega (arith, ints), omega (arith, ints)))
    (λ no. map_some pos (number_below (2 ^ 63) text) (λ n. n < 2 ^ 63) IsTtl (below_limit (2 ^ 63) text) (λ n lt. (omega (arith, ints), omega (arith, ints))))

-- the codes beside which nothing is kept
abbrev pub is_bare : Code → Bool
is_bare Hd = false
is_bare Va = false
is_bare _ = true

module _ (ask : Ask) where
  token_told : (letter : ℕ) (text : List ℕ) (told : Told) → IsTold told → IfSome (with_token ask letter text told) IsTold
  token_told letter text told h =
      cond_both (eqb letter letter_c) _ _ (λ (o : Option Told). IfSome o IsTold)
      (λ yes. map_some _ _ (λ (n : ℕ). n < 2 ^ 64) IsTold (once_some (wants ask.tokens LetterC) told.cas (number_below (2 ^ 64) text) (λ n. n < 2 ^ 64) (below_limit (2 ^ 64) text))
      (λ n lt. record { cas = lt; flags = h.flags; size = h.size; ttl = h.ttl }))
      (λ no. cond_both (eqb letter letter_f) _ _ (λ (o : Option Told). IfSome o IsTold)
      (λ yes. map_some _ _ (λ (n : ℕ). n < 2 ^ 32) IsTold (once_some (wants ask.tokens LetterF) told.flags (number_below (2 ^ 32) text) (λ n. n < 2 ^ 32) (below_limit (2 ^ 32) text))
      (λ n lt. record { cas = h.cas; flags = lt; size = h.size; ttl = h.ttl }))
      (λ no. cond_both (eqb letter letter_s) _ _ (λ (o : Option Told). IfSome o IsTold)
      (λ yes. map_some _ _ (λ (n : ℕ). n < data_limit + 1) IsTold (once_some (wants ask.tokens LetterS) told.size (number_below (data_limit + 1) text) (λ n. n < data_limit + 1) (below_limit (data_limit + 1) text))
      (λ n lt. record { cas = h.cas; flags = h.flags; size = omega arith; ttl = h.ttl }))
      (λ no. cond_both (eqb letter letter_t) _ _ (λ (o : Option Told). IfSome o IsTold)
      (λ yes. map_some _ _ IsTtl IsTold (once_some (wants ask.tokens LetterT) told.ttl (ttl_in text) IsTtl (ttl_some text))
      (λ z is. record { cas = h.cas; flags = h.flags; size = h.size; ttl = is }))
      (λ no. cond_both (eqb letter letter_k) _ _ (λ (o : Option Told). IfSome o IsTold)
      (λ yes. cond_both (wants ask.tokens LetterK && not told.key && bytes_eq text ask.key) _ None (λ (o : Option Told). IfSome o IsTold) (λ yes. record { cas = h.cas; flags = h.flags; size = h.size; ttl = h.ttl }) (λ no. tt))
      (λ no. cond_both (eqb letter letter_o) _ None (λ (o : Option Told). IfSome o IsTold)
      (λ yes. cond_both (not told.opaque && asks_opaque ask.tokens text) _ None (λ (o : Option Told). IfSome o IsTold) (λ yes. record { cas = h.cas; flags = h.flags; size = h.size; ttl = h.ttl }) (λ no. tt))
      (λ no. tt))))))

  word_told : (word : List ℕ) (told : Told) → IsTold told → IfSome (with_word ask word told) IsTold
  word_told [] told h = tt
  word_told (letter ∷ text) told h = token_told letter text told h

  words_told : (ws : List (List ℕ)) (told : Told) → IsTold told → IfSome (with_words ask ws told) IsTold
  words_told [] told h = h
  words_told (w ∷ ws) told h = go (with_word ask w told) (word_told w told h) (λ next is. words_told ws next is)
    where
      go : (o : Option Told) → IfSome o IsTold → ((next : Told) → IsTold next → IfSome (with_words ask ws next) IsTold) → IfSome (option_and_then (with_words ask ws) o) IsTold
      go None h on = tt
      go (Some next) h on = on next h

  none_is : IsTold none_told
  none_is = record { cas = tt; flags = tt; size = tt; ttl = tt }

  -- the fields that are told, in their ranges and as asked
  abbrev pub AreTold : Told → Type 0
  AreTold told = IsTold told × (all_stand ask.tokens told ≡ true)

  stands : (asked there : Bool) → as_asked asked there ≡ true → there ≡ asked
  stands true there e = e
  stands false true e = absurd cc
  stands false false e = refl

  pub told_stand : (told : Told) (body : Option (List ℕ)) (b : Bool) → is_some body ≡ b → all_stand ask.tokens told ≡ true → StandAs ask.tokens b (fields_told told body)
  told_stand told body b e all =
      let three = both (as_asked (wants ask.tokens LetterC) (is_some told.cas) && as_asked (wants ask.tokens LetterF) (is_some told.flags) && as_asked (wants ask.tokens LetterS) (is_some told.size)) (as_asked (wants ask.tokens LetterT) (is_some told.ttl)) all in
      let two = both (as_asked (wants ask.tokens LetterC) (is_some told.cas) && as_asked (wants ask.tokens LetterF) (is_some told.flags)) (as_asked (wants ask.tokens LetterS) (is_some told.size)) three.0 in
      let one = both (as_asked (wants ask.tokens LetterC) (is_some told.cas)) (as_asked (wants ask.tokens LetterF) (is_some told.flags)) two.0 in
      record {
        body_is = e;
        cas = stands (wants ask.tokens LetterC) (is_some told.cas) one.0;
        flags = stands (wants ask.tokens LetterF) (is_some told.flags) one.1;
        size = stands (wants ask.tokens LetterS) (is_some told.size) two.1;
        ttl = stands (wants ask.tokens LetterT) (is_some told.ttl) three.1;
      }

  pub told_range : (told : Told) (body : Option (List ℕ)) → IfSome body (λ b. length b ≤ data_limit) → IsTold told → AreFieldsInRange (fields_told told body)
  told_range told body le h = record { body = le; cas = h.cas; flags = h.flags; size = h.size; ttl = h.ttl }

  -- what the lines say
  abbrev pub IsLineOf : MetaLine → Type 0
  IsLineOf (Done told) = AreTold told × (takes_code ask.op (wants ask.tokens LetterV) Hd ≡ true)
  IsLineOf (Value line) = AreTold line.told × (takes_code ask.op (wants ask.tokens LetterV) Va ≡ true) × (line.len ≤ data_limit) × (is_size line.told.size line.len ≡ true) × (line.is_number ≡ is_count ask.op)
  IsLineOf (Other code) = (takes_code ask.op (wants ask.tokens LetterV) code ≡ true) × (is_bare code ≡ true)

  done_is : (told : Told) → takes_code ask.op (wants ask.tokens LetterV) Hd ≡ true → IsTold told → IfSome (done_said ask told) IsLineOf
  done_is told t h = cond_both (all_stand ask.tokens told) (Some (Done told)) None (λ (o : Option MetaLine). IfSome o IsLineOf) (λ yes. ((h, yes), t)) (λ no. tt)

  value_is : (n : ℕ) (told : Told) → takes_code ask.op (wants ask.tokens LetterV) Va ≡ true → n < data_limit + 1 → IsTold told → IfSome (value_said ask n told) IsLineOf
  value_is n told t lt h = cond_both (all_stand ask.tokens told && is_size told.size n) _ None (λ (o : Option MetaLine). IfSome o IsLineOf)
      (λ yes. let parts = both (all_stand ask.tokens told) (is_size told.size n) yes in ((h, parts.0), t, omega arith, parts.1, refl)) (λ no. tt)

  then_some_is : (o : Option Told) (f : Told → Option MetaLine) → IfSome o IsTold → ((told : Told) → IsTold told → IfSome (f told) IsLineOf) → IfSome (option_and_then f o) IsLineOf
  then_some_is None f h on = tt
  then_some_is (Some told) f h on = on told h

  bare_is : (code : Code) (o : Option Told) → takes_code ask.op (wants ask.tokens LetterV) code ≡ true → is_bare code ≡ true → IfSome (bare_said code o) IsLineOf
  bare_is code None t b = tt
  bare_is code (Some told) t b = (t, b)

  told_of : (ws : List (List ℕ)) → IfSome (with_words ask ws none_told) IsTold
  told_of ws = words_told ws none_told none_is

  values_are : (ws : List (List ℕ)) → takes_code ask.op (wants ask.tokens LetterV) Va ≡ true → IfSome (value_line_words ask ws) IsLineOf
  values_are [] t = tt
  values_are (len ∷ ws) t = go (number_below (data_limit + 1) len) (below_limit (data_limit + 1) len)
    where
      go : (o : Option ℕ) → IfSome o (λ n. n < data_limit + 1) → IfSome (option_and_then (λ n. option_and_then (value_said ask n) (with_words ask ws none_told)) o) IsLineOf
      go None h = tt
      go (Some n) lt = then_some_is (with_words ask ws none_told) (value_said ask n) (told_of ws) (λ told h. value_is n told t lt h)

  coded_is : (ws : List (List ℕ)) (code : Code) → takes_code ask.op (wants ask.tokens LetterV) code ≡ true → IfSome (coded ask ws code) IsLineOf
  coded_is ws Hd t = then_some_is (with_words ask ws none_told) (done_said ask) (told_of ws) (λ told h. done_is told t h)
  coded_is ws Va t = values_are ws t
  coded_is ws En t = bare_is En (with_words ask ws none_told) t refl
  coded_is ws Ns t = bare_is Ns (with_words ask ws none_told) t refl
  coded_is ws Ex t = bare_is Ex (with_words ask ws none_told) t refl
  coded_is ws Nf t = bare_is Nf (with_words ask ws none_told) t refl

  -- a line says what the table allows
  pub said_is : (word : List ℕ) (ws : List (List ℕ)) → IfSome (meta_said ask word ws) IsLineOf
  said_is word ws = go (code_of word)
    where
      go : (o : Option Code) → IfSome (option_and_then (λ code. if takes_code ask.op (wants ask.tokens LetterV) code then coded ask ws code else None) o) IsLineOf
      go None = tt
      go (Some code) = cond_both (takes_code ask.op (wants ask.tokens LetterV) code) (coded ask ws code) None (λ (o : Option MetaLine). IfSome o IsLineOf) (λ yes. coded_is ws code yes) (λ no. tt)
