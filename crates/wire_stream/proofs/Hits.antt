-- An answer that is spelled as servers mostly do is read as the hit that it tells.
use Rattle.std.proofs.Common.{◌≡◌, ℕ, ◌+◌, ◌-◌, ◌^◌, ◌<◌, ◌≤◌, Bool, true, false, cond, leb, nat_lt, ◌&&◌, List, [], ◌∷◌, ◌++◌, length, take, drop, Option, Some, None, refl, sym, ap, ◌∙◌, subst, append_assoc, arith, inl, inr}
use Rattle.std.specs.Prelude.{codes}
use Rattle.std.specs.Str.{bytes_eq, all_ascii_digits}
use Rattle.std.proofs.lemmas.Bool.{cases_Bool, and_parts, leb-true, ltb-true}
use Rattle.std.proofs.lemmas.List.{length-append, take-append-drop, length-take-le}
use Rattle.std.proofs.Math.Seq.{drop-append_seam}
use Rattle.std.proofs.lemmas.Slice.Eq.{bytes_eq-Decides}
use Rattle.text_words.specs.Line.{CR, LF}
use Rattle.text_words.specs.Number.{is_number, number_below}
use Rattle.text_words.specs.Spelling.{spaced, words_line}
use Rattle.text_words.proofs.Spaced.{IsPlain, ArePlain, digits_plain, literal}
use Rattle.mc_types.specs.KeyText.{IsKey}
use Rattle.mc_types.specs.Asks.{data_limit}
use Rattle.mc_types.specs.Fits.{IsAnswer, FitsFetch}
use Rattle.mc_types.specs.declared.ask.Op.{Op}
use Rattle.mc_types.specs.declared.ask.Op.TheVariants as ops
use Rattle.mc_types.specs.declared.ask.Dialect.{Dialect}
use Rattle.mc_types.specs.declared.ask.Dialect.TheVariants as dialects
use Rattle.mc_types.specs.declared.ask.Ask.{Ask}
use Rattle.mc_types.specs.declared.answer.Code.TheVariants.{Va}
use Rattle.mc_types.specs.declared.answer.Answer.{Answer}
use Rattle.mc_types.specs.declared.answer.Answer.TheVariants.{Hit, Meta}
use Rattle.wire_answers.specs.declared.meta.told.Told.{Told}
use Rattle.wire_answers.specs.declared.meta.line.ValueLine.{ValueLine}
use Rattle.wire_answers.specs.declared.meta.line.MetaLine.TheVariants as lines
use Rattle.wire_answers.specs.Told.{none_told, fields_told}
use Rattle.wire_answers.specs.Tokens.{letter_f, letter_k}
use Rattle.wire_answers.specs.Line.{takes_code, is_count, meta_said}
use Rattle.wire_answers.proofs.Plain.{lettered}
use Rattle.wire_parts.proofs.Tokens.{key_plain}
use Rattle.wire_answers.specs.Reading.{Spells}
use Rattle.wire_answers.specs.FirstLine.{kind_of_line}
use Rattle.wire_answers.specs.declared.line_kinds.FirstLine.TheVariants.{Value}
use Rattle.wire_answers.specs.declared.reader.AnswerRead.TheVariants as reads
use Rattle.wire_answers.proofs.MetaBack.{line_says, data_back}
use Rattle.wire_stream.specs.Replies.{shows_values}
use Rattle.wire_stream.specs.declared.meta_gets.usual.UsualHit.{UsualHit}
use Rattle.wire_stream.specs.Form.{is_retrieval, meta_form}
use Rattle.wire_stream.specs.Reading.{SaysSameIf, ReadsInMeta}
use Rattle.wire_stream.specs.Usual.{usual_words, IsUsual, IsUsualTo}
use Rattle.wire_stream.proofs.Forms.{in_meta_is}
use Rattle.wire_stream.proofs.Answers.{fits_by}

-- a word that writes a number has 1 to 20 digits
record IsDigits (word : List ℕ) : Type 0 where
  some : 0 < length word
  short : length word ≤ 20
  digits : all_ascii_digits word ≡ true

are_digits : (word : List ℕ) → is_number word ≡ true → IsDigits word
are_digits word e =
    let parts = and_parts (leb 1 (length word) && leb (length word) 20) (all_ascii_digits word) e in
    let lengths = and_parts (leb 1 (length word)) (leb (length word) 20) parts.0 in
    record { some = omega (arith, leb-true 1 (length word) lengths.0); short = leb-true (length word) 20 lengths.1; digits = parts.1 }

writes : (b c : Bool) (v n : ℕ) → cond (b && c) (Some v) None ≡ Some n → b ≡ true
writes true c v n e = refl
writes false c v n e = absurd cc

of_number : (limit n : ℕ) (word : List ℕ) → number_below limit word ≡ Some n → IsDigits word
of_number limit n word e = are_digits word (writes (is_number word) _ _ n e)

-- what a word writes below a limit is below it
of_test : (b : Bool) (v limit n : ℕ) → cond (b && nat_lt v limit) (Some v) None ≡ Some n → n < limit
of_test true v limit n e = elim (cases_Bool (nat_lt v limit)) [
  | inl lt ↦ let same : v ≡ n = some_is v n (rw lt at e) in subst (λ m. m < limit) same (ltb-true v limit lt)
  | inr ge ↦ absurd (let f = rw ge at e in cc)
]
  where
    some_is : (v n : ℕ) → ◌≡◌ {A = Option ℕ} (Some v) (Some n) → v ≡ n
    some_is v n e = cc
of_test false v limit n e = absurd cc

below_limit : (limit n : ℕ) (word : List ℕ) → number_below limit word ≡ Some n → n < limit
below_limit limit n word e = of_test (is_number word) _ limit n e

number_plain : (word : List ℕ) → IsDigits word → IsPlain word
number_plain word h = record { some = h.some; plain = digits_plain word h.digits }

words_plain : (key len flags : List ℕ) → IsKey key → IsDigits len → IsDigits flags → ArePlain (usual_words key len flags)
words_plain key len flags is n f =
    let is_key = lettered letter_k key (omega arith) (key_plain key is).plain in
    let are_flags = lettered letter_f flags (omega arith) (number_plain flags f).plain in
    (literal (codes "VA") refl (omega arith), (number_plain len n, (is_key, (are_flags, tt))))

words_short : (key len flags : List ℕ) → IsKey key → IsDigits len → IsDigits flags → length (spaced (usual_words key len flags)) < 65535
words_short key len flags is n f =
    let k = is.short in let l = n.short in let g = f.short in
    omega (arith, length-append (codes "VA") (32 ∷ spaced (len ∷ (letter_k ∷ key) ∷ (letter_f ∷ flags) ∷ [])), length-append len (32 ∷ spaced ((letter_k ∷ key) ∷ (letter_f ∷ flags) ∷ [])), length-append (letter_k ∷ key) (32 ∷ spaced ((letter_f ∷ flags) ∷ [])))

-- data answer what shows them, and are no number that has to be one
takes_data : (dialect : Dialect) (op : Op) → shows_values dialect op ≡ true → (takes_code op true Va ≡ true) × (is_count op ≡ false)
takes_data dialects.Classic ops.Get e = (refl, refl)
takes_data dialects.Classic ops.Gat e = (refl, refl)
takes_data dialects.Classic ops.Set e = absurd cc
takes_data dialects.Classic ops.Add e = absurd cc
takes_data dialects.Classic ops.Replace e = absurd cc
takes_data dialects.Classic ops.Append e = absurd cc
takes_data dialects.Classic ops.Prepend e = absurd cc
takes_data dialects.Classic ops.Cas e = absurd cc
takes_data dialects.Classic ops.Delete e = absurd cc
takes_data dialects.Classic ops.Incr e = absurd cc
takes_data dialects.Classic ops.Decr e = absurd cc
takes_data dialects.Classic ops.Touch e = absurd cc
takes_data dialects.Meta op e = absurd cc

same_bytes : (text : List ℕ) → bytes_eq text text ≡ true
same_bytes text = (bytes_eq-Decides text text).1 refl

-- what the line of a hit with these flags tells
abbrev told_of : ℕ → Told
told_of flags = record none_told { flags = Some flags; key = true }

abbrev line_of_hit : UsualHit → ValueLine
line_of_hit hit = record { told = told_of hit.flags; len = hit.len; is_number = false }

line_said : (ask : Ask) (len flags : List ℕ) (hit : UsualHit) → is_retrieval ask ≡ true → ask.with_cas ≡ false → number_below (data_limit + 1) len ≡ Some hit.len → number_below (2 ^ 32) flags ≡ Some hit.flags
    → meta_said (meta_form ask) (codes "VA") (len ∷ (letter_k ∷ ask.key) ∷ (letter_f ∷ flags) ∷ []) ≡ Some (lines.Value (line_of_hit hit))
line_said ask len flags hit e cas n f =
    let taken = takes_data ask.dialect ask.op e in
    rw (cas, taken.0, n, same_bytes ask.key, f, taken.1) refl

regroup : (l body c more : List ℕ) → (l ++ (body ++ c)) ++ more ≡ l ++ (body ++ (c ++ more))
regroup l body c more = simp append_assoc

module _ (ask : Ask) (bytes : List ℕ) (hit : UsualHit) (key : IsKey ask.key) (e : is_retrieval ask ≡ true) (cas : ask.with_cas ≡ false) (u : IsUsual ask.key bytes hit) where
  abbrev words_of : List (List ℕ)
  words_of = usual_words ask.key u.len u.flags

  abbrev data_of : List ℕ
  data_of = take hit.len u.rest

  abbrev told : Answer
  told = Meta Va (fields_told (told_of hit.flags) (Some data_of))

  parted : bytes ≡ (words_line words_of ++ (data_of ++ codes "\r\n")) ++ u.end.0
  parted = u.whole ∙ ap (λ r. words_line words_of ++ r) (sym (take-append-drop hit.len u.rest) ∙ ap (λ r. data_of ++ r) u.end.1) ∙ sym (regroup (words_line words_of) data_of (codes "\r\n") u.end.0)

  long : length (words_line words_of ++ (data_of ++ codes "\r\n")) ≡ hit.used
  long = omega (arith, length-append (words_line words_of) (data_of ++ codes "\r\n"), length-append data_of (codes "\r\n"), length-take-le hit.len u.rest u.within, u.start, u.used)

  spells : Spells (meta_form ask) bytes told hit.used
  spells =
      let n = of_number (data_limit + 1) hit.len u.len u.len_is in let f = of_number (2 ^ 32) hit.flags u.flags u.flags_is in
      let plain = words_plain ask.key u.len u.flags key n f in
      let short = words_short ask.key u.len u.flags key n f in
      let says : kind_of_line (meta_form ask) (spaced words_of) ≡ Value (line_of_hit hit) =
      line_says (meta_form ask) Va (u.len ∷ (letter_k ∷ ask.key) ∷ (letter_f ∷ u.flags) ∷ []) (lines.Value (line_of_hit hit)) plain refl (line_said ask u.len u.flags hit e cas u.len_is u.flags_is) in
      let all = data_back (meta_form ask) words_of (line_of_hit hit) data_of u.end.0 plain short says (length-take-le hit.len u.rest u.within) refl in
      subst (λ (t : List ℕ). Spells (meta_form ask) t told hit.used) (sym parted)
      (subst (λ (n : ℕ). Spells (meta_form ask) ((words_line words_of ++ (data_of ++ codes "\r\n")) ++ u.end.0) told n) long all)

  pub usual_reads : (body : List ℕ) → body ≡ take hit.len (drop hit.start bytes) → ReadsInMeta ask bytes (reads.Answer (Hit hit.flags body None) hit.used)
  usual_reads body same =
      let rest : drop hit.start bytes ≡ u.rest = ap (λ b. drop hit.start b) u.whole ∙ ap (λ n. drop n (words_line words_of ++ u.rest)) u.start ∙ drop-append_seam (words_line words_of) u.rest in
      let same_data : body ≡ data_of = same ∙ ap (λ r. take hit.len r) rest in
      let answer : Answer = Hit hit.flags body None in
      let few : length data_of ≤ data_limit = let lt = below_limit (data_limit + 1) hit.len u.len u.len_is in omega (arith, length-take-le hit.len u.rest u.within) in
      let ranges : IsAnswer answer = (below_limit (2 ^ 32) hit.flags u.flags u.flags_is, subst (λ b. length b ≤ data_limit) (sym same_data) few, tt) in
      let fetched : FitsFetch ask.with_cas answer = sym cas in
      let says : SaysSameIf true told answer = (hit.flags, data_of, refl, refl, ap (λ b. Hit hit.flags b None) same_data) in (
        record {
          told = told;
          spells = subst (λ x. Spells x bytes told hit.used) (sym (in_meta_is ask e)) spells;
          says = subst (λ b. SaysSameIf b told answer) (sym e) says;
        },
        fits_by ask answer e ranges fetched,
      )

  pub usual_within : (hit.start + hit.len ≤ length bytes) × (hit.used ≤ length bytes)
  usual_within = let all = ap length parted ∙ length-append (words_line words_of ++ (data_of ++ codes "\r\n")) u.end.0 in (omega (arith, all, long, u.used), omega (arith, all, long))

-- what is read of such a hit
pub hit_is_read : (ask : Ask) (bytes body : List ℕ) (hit : UsualHit) → IsKey ask.key → IsUsualTo ask bytes hit → body ≡ take hit.len (drop hit.start bytes) → ReadsInMeta ask bytes (reads.Answer (Hit hit.flags body None) hit.used)
hit_is_read ask bytes body hit key is same = usual_reads ask bytes hit key is.retrieves is.no_cas is.usual body same

pub hit_within : (ask : Ask) (bytes : List ℕ) (hit : UsualHit) → IsKey ask.key → IsUsualTo ask bytes hit → (hit.start + hit.len ≤ length bytes) × (hit.used ≤ length bytes)
hit_within ask bytes hit key is = usual_within ask bytes hit key is.retrieves is.no_cas is.usual

spelled_so : (l k f n key rest : List ℕ) → codes "VA " ++ (l ++ (k ++ (key ++ (f ++ (n ++ (codes "\r\n" ++ rest)))))) ≡ (((codes "VA " ++ (l ++ (k ++ (key ++ (f ++ n))))) ++ codes "\r\n") ++ rest)
spelled_so l k f n key rest = simp append_assoc

-- the bytes that were found piece by piece
pub is_usual : (key bytes a l b c d e n g rest after : List ℕ) (hit : UsualHit)
    → bytes ≡ codes "VA " ++ a → a ≡ l ++ b → b ≡ codes " k" ++ c → c ≡ key ++ d → d ≡ codes " f" ++ e → e ≡ n ++ g → g ≡ codes "\r\n" ++ rest
    → number_below (data_limit + 1) l ≡ Some hit.len → number_below (2 ^ 32) n ≡ Some hit.flags
    → hit.len ≤ length rest → drop hit.len rest ≡ CR ∷ LF ∷ after → hit.start ≡ length bytes - length rest → hit.used ≡ length bytes - length after → IsUsual key bytes hit
is_usual key bytes a l b c d e n g rest after hit e1 e2 e3 e4 e5 e6 e7 len_is flags_is within end start used =
    let line = words_line (usual_words key l n) in
    let all : bytes ≡ line ++ rest = rw (e1, e2, e3, e4, e5, e6, e7) (spelled_so l (codes " k") (codes " f") n key rest) in
    let long = ap length all ∙ length-append line rest in
    let tail = ap length end in
    let parts = sym (ap length (take-append-drop hit.len rest)) ∙ length-append (take hit.len rest) (drop hit.len rest) in
    record {
      len = l;
      flags = n;
      rest = rest;
      whole = all;
      len_is = len_is;
      flags_is = flags_is;
      start = omega (arith, long, start);
      within = within;
      end = (after, end);
      used = omega (arith, long, start, used, tail, parts, length-take-le hit.len rest within);
    }
