-- What was read stays read, and nothing else could have been, whichever the dialect.
use Rattle.std.proofs.Common.{◌≡◌, ℕ, ◌+◌, ◌-◌, ◌<◌, ◌≤◌, true, false, eqb, ◌⊎◌, List, [], ◌∷◌, ◌++◌, length, take, drop, Option, Some, None, Result, Ok, Err, refl, sym, ap, subst, ◌∙◌, append_assoc, arith, inl, inr}
use Rattle.std.proofs.lemmas.Bool.{cases_lt, lt-ltb, le-ltb}
use Rattle.std.proofs.lemmas.List.{length-append, length-drop, length-take, take-append-le, drop-append-le, drop_all}
use Rattle.std.proofs.Math.Seq.{drop-append-add}
use Rattle.text_words.specs.Line.{IsOneLine, IsTooLong, LF, CR, without_cr}
use Rattle.text_words.specs.Word.{words}
use Rattle.wire_parts.specs.declared.refusal.RefusalReason.{RefusalReason}
use Rattle.wire_parts.specs.declared.refusal.RefusalReason.TheVariants.{BadChunk}
use Rattle.wire_parts.specs.declared.skip.Skip.{Skip}
use Rattle.wire_parts.specs.declared.skip.Skip.TheVariants.{Nothing, Bytes, ThroughNewline}
use Rattle.wire_parts.specs.declared.block.End.{End}
use Rattle.wire_parts.specs.declared.block.End.TheVariants.{Open, Good, Bad}
use Rattle.wire_parts.specs.declared.proxy_command.ProxyCommand.{ProxyCommand}
use Rattle.wire_parts.specs.declared.proxy_command.ProxyCommand.TheVariants.{Version, Quit, Noop}
use Rattle.wire_parts.specs.Grammar.{Grammar}
use Rattle.wire_parts.specs.Message.{Message, Served, Refusal, BeginsMessage, meaning_of, with_rest, with_block, data_block_end}
use Rattle.wire_parts.specs.Stream.{Place, Stands, Closed, through_newline, skipped, extended, after_own, after_message, GoesThrough, HasNoMessage}
use Rattle.wire_parts.specs.Laws.{BeginsStill, OneMessage, TooLongBeginsNothing, StaysRead, GoesFurther, OneSplitting}
use Rattle.text_words.proofs.Stays.{one_line, not_too_long}

some_is : {A : Type 0} (x y : A) → Some x ≡ Some y → x ≡ y
some_is x y e = cc

ap2_cons : {A : Type 0} (m n : A) (ms ns : List A) → m ≡ n → ms ≡ ns → m ∷ ms ≡ n ∷ ns
ap2_cons m n ms ns e f = cc

-- a block's end is decided by what is there
end_stays : (after more : List ℕ) → (data_block_end after ≡ Open) ⊎ (data_block_end (after ++ more) ≡ data_block_end after)
end_stays [] more = inl refl
end_stays (b ∷ []) [] = inr refl
end_stays (b ∷ []) (c ∷ more) = (elim (eqb b CR) as (λ t. eqb b CR ≡ t → (data_block_end (b ∷ []) ≡ Open) ⊎ (data_block_end ((b ∷ []) ++ c ∷ more) ≡ data_block_end (b ∷ []))) [
  | true ↦ λ e. inl (rw e refl)
  | false ↦ λ e. inr (rw e refl)
]) refl
end_stays (b ∷ c ∷ after) more = inr refl

with_block_stays : {Order : Type 0} (order : Order) (used n : ℕ) (rest more : List ℕ) (x : Message Order × ℕ) → with_rest order used rest (Some n) ≡ Some x → with_rest order used (rest ++ more) (Some n) ≡ Some x
with_block_stays order used n rest more x e =
    elim (cases_lt n (length rest)) [
      | inl lt ↦
          let d : drop n (rest ++ more) ≡ drop n rest ++ more = drop-append-le n rest more (omega arith) in
          let t : take n (rest ++ more) ≡ take n rest = take-append-le n rest more (omega arith) in
          elim (end_stays (drop n rest) more) [
            | inl o ↦ let f : with_block order used (take n rest) Open ≡ Some x = rw o at e in absurd (cc)
            | inr s ↦ rw (d, t, s) e
          ]
      | inr ge ↦ let f : with_block order used (take n rest) (data_block_end []) ≡ Some x = rw (drop_all n rest ge) at e in absurd (cc)
    ]

good_long : (after : List ℕ) → data_block_end after ≡ Good → 2 ≤ length after
good_long [] e = absurd cc
good_long (b ∷ []) e = (elim (eqb b CR) as (λ t. eqb b CR ≡ t → 2 ≤ 1) [
  | true ↦ λ t. let f : Open ≡ Good = rw t at e in absurd cc
  | false ↦ λ t. let f : Bad ≡ Good = rw t at e in absurd cc
]) refl
good_long (b ∷ c ∷ after) e = omega arith

by_end : {Order : Type 0} (order : Order) (used n : ℕ) (rest : List ℕ) (x : Message Order × ℕ) (r : End) → data_block_end (drop n rest) ≡ r → with_block order used (take n rest) r ≡ Some x → x.1 ≤ used + length rest
by_end order used n rest x Open r e = absurd (cc)
by_end order used n rest x Good r e =
    let long = good_long (drop n rest) r in
    let is : used + length (take n rest) + 2 ≡ x.1 = ap (λ y. y.1) (some_is (Served order (take n rest), used + length (take n rest) + 2) x e) in
    omega (arith, length-take n rest, length-drop n rest)
by_end order used n rest x Bad r e =
    let is : used + length (take n rest) ≡ x.1 = ap (λ y. y.1) (some_is (Refusal BadChunk ThroughNewline, used + length (take n rest)) x e) in
    omega (arith, length-take n rest)

within_rest : {Order : Type 0} (order : Order) (used : ℕ) (rest : List ℕ) (x : Message Order × ℕ) (n : Option ℕ) → with_rest order used rest n ≡ Some x → x.1 ≤ used + length rest
within_rest order used rest x None e = let is : used ≡ x.1 = ap (λ y. y.1) (some_is (Served order [], used) x e) in omega arith
within_rest order used rest x (Some n) e = by_end order used n rest x (data_block_end (drop n rest)) refl e

some_by_end : {Order : Type 0} (order : Order) (used n : ℕ) (rest : List ℕ) (x : Message Order × ℕ) (end : End) → 1 ≤ used → with_block order used (take n rest) end ≡ Some x → 1 ≤ x.1
some_by_end order used n rest x Open some e = absurd (cc)
some_by_end order used n rest x Good some e = let is : used + length (take n rest) + 2 ≡ x.1 = ap (λ y. y.1) (some_is (Served order (take n rest), used + length (take n rest) + 2) x e) in omega arith
some_by_end order used n rest x Bad some e = let is : used + length (take n rest) ≡ x.1 = ap (λ y. y.1) (some_is (Refusal BadChunk ThroughNewline, used + length (take n rest)) x e) in omega arith

some_by_rest : {Order : Type 0} (order : Order) (used : ℕ) (rest : List ℕ) (x : Message Order × ℕ) (n : Option ℕ) → 1 ≤ used → with_rest order used rest n ≡ Some x → 1 ≤ x.1
some_by_rest order used rest x None some e = let is : used ≡ x.1 = ap (λ y. y.1) (some_is (Served order [], used) x e) in omega arith
some_by_rest order used rest x (Some n) some e = some_by_end order used n rest x (data_block_end (drop n rest)) some e

through-append : (bytes more : List ℕ) → through_newline (bytes ++ more) ≡ extended (through_newline bytes) more
through-append [] more = refl
through-append (b ∷ bytes) more = (elim (eqb b LF) as (λ t. eqb b LF ≡ t → through_newline ((b ∷ bytes) ++ more) ≡ extended (through_newline (b ∷ bytes)) more) [
  | true ↦ λ e. simp e
  | false ↦ λ e. simp e (through-append bytes more)
]) refl

-- passing over goes on where it stopped
pub skipped-append : (skip : Skip) (bytes more : List ℕ) → skipped skip (bytes ++ more) ≡ extended (skipped skip bytes) more
skipped-append Nothing bytes more = refl
skipped-append ThroughNewline bytes more = through-append bytes more
skipped-append (Bytes n) bytes more =
    let sum = length-append bytes more in
    elim (cases_lt (length bytes) n) [
      | inl lt ↦ elim (cases_lt (length more) (n - length bytes)) [
        | inl lt2 ↦ let left : n - length (bytes ++ more) ≡ n - length bytes - length more = omega arith in
            rw (lt-ltb (length bytes) n lt, lt-ltb (length more) (n - length bytes) lt2, lt-ltb (length (bytes ++ more)) n (omega arith)) (ap (λ (k : ℕ). Stands (Bytes k) []) left)
        | inr ge2 ↦ let split : n ≡ length bytes + (n - length bytes) = omega arith in
            let rest : drop n (bytes ++ more) ≡ drop (n - length bytes) more = ap (λ (k : ℕ). drop k (bytes ++ more)) split ∙ drop-append-add bytes more (n - length bytes) in
            rw (lt-ltb (length bytes) n lt, le-ltb (length more) (n - length bytes) ge2, le-ltb (length (bytes ++ more)) n (omega arith)) (ap (λ (l : List ℕ). Stands Nothing l) rest)
      ]
      | inr ge ↦ rw (le-ltb (length bytes) n ge, le-ltb (length (bytes ++ more)) n (omega arith)) (ap (λ (l : List ℕ). Stands Nothing l) (drop-append-le n bytes more ge))
    ]

own-append : (own : Option ProxyCommand) (rest more : List ℕ) → after_own own (rest ++ more) ≡ extended (after_own own rest) more
own-append None rest more = refl
own-append (Some Version) rest more = refl
own-append (Some Noop) rest more = refl
own-append (Some Quit) rest more = refl

too_long_still : (bytes more : List ℕ) → IsTooLong bytes → IsTooLong (bytes ++ more)
too_long_still bytes more h = record { long = let a = h.long in omega (arith, length-append bytes more); one = subst IsOneLine (sym (take-append-le 65536 bytes more h.long)) h.one }

module _ (G : Grammar) where
  meaning_stays : (line : Result G.Order RefusalReason) (skip : Skip) (used : ℕ) (rest more : List ℕ) (x : Message G.Order × ℕ) → meaning_of G line skip used rest ≡ Some x → meaning_of G line skip used (rest ++ more) ≡ Some x
  meaning_stays (Err why) skip used rest more x e = e
  meaning_stays (Ok order) skip used rest more x e = go (G.block_len order) e
    where
      go : (n : Option ℕ) → with_rest order used rest n ≡ Some x → with_rest order used (rest ++ more) n ≡ Some x
      go None h = h
      go (Some n) h = with_block_stays order used n rest more x h

  pub begins_still : BeginsStill G
  begins_still bytes more message used b = record {
    text = b.text;
    rest = b.rest ++ more;
    line = record { whole = ap (λ (t : List ℕ). t ++ more) b.line.whole ∙ append_assoc b.text (LF ∷ b.rest) more; one = b.line.one; short = b.line.short };
    says = meaning_stays (G.order_of (words (without_cr b.text))) (G.skip_of (words (without_cr b.text))) (length b.text + 1) b.rest more (message, used) b.says;
  }

  pub one_message : OneMessage G
  one_message bytes m n i j b c =
      let both = one_line b.text c.text b.rest c.rest b.line.one c.line.one (sym b.line.whole ∙ c.line.whole) in
      let same : (m, i) ≡ (n, j) = some_is (m, i) (n, j) (sym b.says ∙ rw (both.0, both.1) c.says) in
      (ap (λ (x : Message G.Order × ℕ). x.0) same, ap (λ (x : Message G.Order × ℕ). x.1) same)

  within : (line : Result G.Order RefusalReason) (skip : Skip) (used : ℕ) (rest : List ℕ) (x : Message G.Order × ℕ) → meaning_of G line skip used rest ≡ Some x → x.1 ≤ used + length rest
  within (Err why) skip used rest x e = let is : used ≡ x.1 = ap (λ (y : Message G.Order × ℕ). y.1) (some_is (Refusal why skip, used) x e) in omega arith
  within (Ok order) skip used rest x e = within_rest order used rest x (G.block_len order) e

  -- a message takes no more than there is
  pub used_within : (bytes : List ℕ) (message : Message G.Order) (used : ℕ) → BeginsMessage G bytes message used → used ≤ length bytes
  used_within bytes message used b =
      let le = within (G.order_of (words (without_cr b.text))) (G.skip_of (words (without_cr b.text))) (length b.text + 1) b.rest (message, used) b.says in
      omega (arith, ap length b.line.whole, length-append b.text (LF ∷ b.rest))

  pub after_message-append : (message : Message G.Order) (rest more : List ℕ) → after_message G message (rest ++ more) ≡ extended (after_message G message rest) more
  after_message-append (Served order block) rest more = own-append (G.own_by order) rest more
  after_message-append (Refusal why skip) rest more = skipped-append skip rest more

  pub goes_on : StaysRead G
  goes_on from to [] more g = ap (λ (p : Place). extended p more) g
  goes_on (Stands Nothing held) to (message ∷ messages) more g =
      let used = g.0 in
      let le = used_within held message used g.1.0 in
      let next : after_message G message (drop used (held ++ more)) ≡ extended (after_message G message (drop used held)) more = ap (after_message G message) (drop-append-le used held more le) ∙ after_message-append message (drop used held) more in
      let rest = goes_on (after_message G message (drop used held)) to messages more g.1.1 in
      (used, (begins_still held more message used g.1.0, subst (λ (p : Place). GoesThrough G p messages (extended to more)) (sym next) rest))
  goes_on (Stands (Bytes n) held) to (message ∷ messages) more g = absurd g
  goes_on (Stands ThroughNewline held) to (message ∷ messages) more g = absurd g
  goes_on Closed to (message ∷ messages) more g = absurd g

  pub goes_further : GoesFurther G
  goes_further from through to [] others g h = subst (λ (p : Place). GoesThrough G p others to) (sym g) h
  goes_further (Stands Nothing held) through to (message ∷ messages) others g h = (g.0, (g.1.0, goes_further (after_message G message (drop g.0 held)) through to messages others g.1.1 h))
  goes_further (Stands (Bytes n) held) through to (message ∷ messages) others g h = absurd g
  goes_further (Stands ThroughNewline held) through to (message ∷ messages) others g h = absurd g
  goes_further Closed through to (message ∷ messages) others g h = absurd g

  from_one_place : (from : Place) (ms ns : List (Message G.Order)) (p q : Place) → GoesThrough G from ms p → GoesThrough G from ns q → HasNoMessage G p → HasNoMessage G q → (ms ≡ ns) × (p ≡ q)
  from_one_place from [] [] p q g h s t = (refl, sym g ∙ h)
  from_one_place (Stands Nothing held) [] (n ∷ ns) p q g h s t = absurd (subst (HasNoMessage G) (sym g) s n h.0 h.1.0)
  from_one_place (Stands Nothing held) (m ∷ ms) [] p q g h s t = absurd (subst (HasNoMessage G) (sym h) t m g.0 g.1.0)
  from_one_place (Stands Nothing held) (m ∷ ms) (n ∷ ns) p q g h s t =
      let same = one_message held m n g.0 h.0 g.1.0 h.1.0 in
      let next : after_message G n (drop h.0 held) ≡ after_message G m (drop g.0 held) = rw (same.0, same.1) refl in
      let both = from_one_place (after_message G m (drop g.0 held)) ms ns p q g.1.1 (subst (λ (x : Place). GoesThrough G x ns q) next h.1.1) s t in
      (ap2_cons m n ms ns same.0 both.0, both.1)
  from_one_place (Stands (Bytes k) held) [] (n ∷ ns) p q g h s t = absurd h
  from_one_place (Stands (Bytes k) held) (m ∷ ms) ns p q g h s t = absurd g
  from_one_place (Stands ThroughNewline held) [] (n ∷ ns) p q g h s t = absurd h
  from_one_place (Stands ThroughNewline held) (m ∷ ms) ns p q g h s t = absurd g
  from_one_place Closed [] (n ∷ ns) p q g h s t = absurd h
  from_one_place Closed (m ∷ ms) ns p q g h s t = absurd g

  pub one_splitting : OneSplitting G
  one_splitting stream ms ns p q s t = from_one_place (Stands Nothing stream) ms ns p q s.0 t.0 s.1 t.1

  pub too_long_begins_nothing : TooLongBeginsNothing G
  too_long_begins_nothing bytes more message used long b = not_too_long (bytes ++ more) b.text b.rest b.line (too_long_still bytes more long)

  some_by_line : (line : Result G.Order RefusalReason) (skip : Skip) (used : ℕ) (rest : List ℕ) (x : Message G.Order × ℕ) → 1 ≤ used → meaning_of G line skip used rest ≡ Some x → 1 ≤ x.1
  some_by_line (Err why) skip used rest x some e = let is : used ≡ x.1 = ap (λ (y : Message G.Order × ℕ). y.1) (some_is (Refusal why skip, used) x e) in omega arith
  some_by_line (Ok order) skip used rest x some e = some_by_rest order used rest x (G.block_len order) some e

  -- a message takes a byte at least
  pub some_taken : (bytes : List ℕ) (message : Message G.Order) (used : ℕ) → BeginsMessage G bytes message used → 1 ≤ used
  some_taken bytes message used b = some_by_line (G.order_of (words (without_cr b.text))) (G.skip_of (words (without_cr b.text))) (length b.text + 1) b.rest (message, used) (omega arith) b.says

  -- so fewer are left
  pub fewer_left : (held : List ℕ) (message : Message G.Order) (used : ℕ) → BeginsMessage G held message used → length (drop used held) < length held
  fewer_left held message used b = omega (arith, some_taken held message used b, used_within held message used b, length-drop used held)
