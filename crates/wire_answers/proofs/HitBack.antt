-- A hit is read back.
use Rattle.std.proofs.Common.{◌≡◌, ℕ, ◌+◌, ◌^◌, ◌<◌, ◌≤◌, Bool, true, false, eqb, not, ◌||◌, List, [], ◌∷◌, ◌++◌, length, Option, Some, None, refl, sym, ap, subst, ◌∙◌, append_assoc, arith, inl, inr}
use Rattle.std.specs.Prelude.{codes, decimal, is_some, IfSome}
use Rattle.std.proofs.lemmas.Bool.{cases_lt, lt-ltb}
use Rattle.std.proofs.lemmas.Fmt.{length-decimal-le}
use Rattle.std.proofs.lemmas.List.{length-append}
use Rattle.std.proofs.lemmas.Slice.Eq.{bytes_eq-Decides}
use Rattle.text_words.specs.Line.{IsOneLine, CR}
use Rattle.text_words.specs.Word.{words}
use Rattle.text_words.specs.Spelling.{spaced}
use Rattle.text_words.proofs.NumberLemmas.{number_below-decimal}
use Rattle.text_words.proofs.Spaced.{IsPlain, ArePlain, all_plain, literal, decimal_word, plain_words, plain_lines, is_line, line_words, words-spaced, spaced_line}
use Rattle.mc_types.specs.KeyText.{IsKey, is_key_byte}
use Rattle.mc_types.specs.Asks.{data_limit}
use Rattle.mc_types.specs.Fits.{FitsClassic, IsAnswer}
use Rattle.mc_types.specs.declared.ask.Ask.{Ask}
use Rattle.mc_types.specs.declared.ask.Op.{Op}
use Rattle.mc_types.specs.declared.ask.Dialect.TheVariants.{Classic}
use Rattle.mc_types.specs.declared.ask.Op.TheVariants.{Get, Gat}
use Rattle.mc_types.specs.declared.answer.Answer.TheVariants as answers
use Rattle.wire_answers.specs.declared.line_kinds.FirstLine.{FirstLine}
use Rattle.wire_answers.specs.declared.line_kinds.FirstLine.TheVariants.{Hit}
use Rattle.wire_answers.specs.declared.line_kinds.HitLine.{HitLine}
use Rattle.wire_answers.specs.Spelling.{cas_words, end_text, answer_spelling}
use Rattle.wire_answers.specs.FirstLine.{kind_of_line, words_said, error_text, hit_said, is_fetch}
use Rattle.wire_answers.specs.Reading.{IsBlockEnd, FollowsLine, Spells}
use Rattle.wire_answers.proofs.WordBack.{spelled}

-- keys
key_byte : (b : ℕ) → is_key_byte b ≡ true → 33 ≤ b
key_byte b e = elim (cases_lt b 33) [
  | inl lt ↦ let f : not (true || eqb b 127) ≡ true = rw (lt-ltb b 33 lt) at e in absurd cc
  | inr ge ↦ ge
]

key_plain : (key : List ℕ) → IsKey key → IsPlain key
key_plain key k = record { some = k.some; plain = all_plain is_key_byte key_byte key k.bytes }

-- hits
fetch_only : (op : Op) (wc : Bool) (flags : ℕ) (body : List ℕ) (cas : Option ℕ) → FitsClassic op wc (answers.Hit flags body cas) → (is_fetch op ≡ true) × (is_some cas ≡ wc)
fetch_only Get wc flags body cas f = (refl, f)
fetch_only Gat wc flags body cas f = (refl, f)
fetch_only _ wc flags body cas f = absurd cc

hit_read : (key : List ℕ) (wc : Bool) (flags n : ℕ) (cas : Option ℕ) → flags < 2 ^ 32 → n ≤ data_limit → IfSome cas (λ c. c < 2 ^ 64) → is_some cas ≡ wc
    → hit_said key wc (key ∷ decimal flags ∷ decimal n ∷ cas_words cas) ≡ Some (record { flags = flags; len = n; cas = cas })
hit_read key false flags n None f le c e =
    rw ((bytes_eq-Decides key key).1 refl, number_below-decimal (2 ^ 32) flags f (omega arith), number_below-decimal (data_limit + 1) n (omega arith) (omega arith)) refl
hit_read key true flags n None f le c e = absurd cc
hit_read key true flags n (Some cas) f le c e =
    rw ((bytes_eq-Decides key key).1 refl, number_below-decimal (2 ^ 32) flags f (omega arith), number_below-decimal (data_limit + 1) n (omega arith) (omega arith), number_below-decimal (2 ^ 64) cas c (omega arith)) refl
hit_read key false flags n (Some cas) f le c e = absurd cc

abbrev hit_words : List ℕ → ℕ → ℕ → Option ℕ → List (List ℕ)
hit_words key flags n cas = codes "VALUE" ∷ key ∷ decimal flags ∷ decimal n ∷ cas_words cas

hit_plain : (key : List ℕ) (flags n : ℕ) (cas : Option ℕ) → IsKey key → flags < 2 ^ 32 → n ≤ data_limit → IfSome cas (λ c. c < 2 ^ 64) → ArePlain (hit_words key flags n cas)
hit_plain key flags n None k f le c = (literal (codes "VALUE") refl (omega arith), (key_plain key k, (decimal_word flags (omega arith), (decimal_word n (omega arith), tt))))
hit_plain key flags n (Some cas) k f le c = (literal (codes "VALUE") refl (omega arith), (key_plain key k, (decimal_word flags (omega arith), (decimal_word n (omega arith), (decimal_word cas c, tt)))))

digits_short : (n : ℕ) → n < 2 ^ 64 → length (decimal n) ≤ 20
digits_short n lt = length-decimal-le 20 n (omega arith) (omega arith) lt

hit_short : (key : List ℕ) (flags n : ℕ) (cas : Option ℕ) → IsKey key → flags < 2 ^ 32 → n ≤ data_limit → IfSome cas (λ c. c < 2 ^ 64) → length (spaced (hit_words key flags n cas)) < 65535
hit_short key flags n None k f le c =
    let a = digits_short flags (omega arith) in let b = digits_short n (omega arith) in let short = k.short in
    simp length-append (omega arith)
hit_short key flags n (Some cas) k f le c =
    let a = digits_short flags (omega arith) in let b = digits_short n (omega arith) in let d = digits_short cas c in let short = k.short in
    simp length-append (omega arith)

value_said : (ask : Ask) (line : List ℕ) (ws : List (List ℕ)) (hit : HitLine) → ask.dialect ≡ Classic → words line ≡ codes "VALUE" ∷ ws → is_fetch ask.op ≡ true → hit_said ask.key ask.with_cas ws ≡ Some hit → kind_of_line ask line ≡ Hit hit
value_said ask line ws hit classic is fetch h = ap (words_said ask (error_text line)) is ∙ rw (classic, fetch, h) refl

regroup : (l body c e more : List ℕ) → (((l ++ body) ++ c) ++ e) ++ more ≡ l ++ (body ++ (c ++ (e ++ more)))
regroup l body c e more = simp append_assoc

hit_len : (l body c e : List ℕ) → length (((l ++ body) ++ c) ++ e) ≡ length l + length body + length c + length e
hit_len l body c e = simp length-append (omega arith)

end_read : (more : List ℕ) → IsBlockEnd (codes "\r\n" ++ (end_text ++ more)) 7
end_read more =
    let plain : ArePlain (codes "END" ∷ []) = (literal (codes "END") refl (omega arith), tt) in
    record {
      after = end_text ++ more;
      len = 5;
      whole = refl;
      line = record {
        text = codes "END" ++ CR ∷ [];
        rest = more;
        line = is_line (codes "END" ∷ []) more (plain_lines (codes "END" ∷ []) plain) (omega arith);
        word = line_words (codes "END" ∷ []) (plain_words (codes "END" ∷ []) plain);
        used_is = omega arith;
      };
      used_is = omega arith;
    }

pub hit_back : (ask : Ask) (flags : ℕ) (body : List ℕ) (cas : Option ℕ) (more : List ℕ) → ask.dialect ≡ Classic → IsKey ask.key → IsAnswer (answers.Hit flags body cas) → FitsClassic ask.op ask.with_cas (answers.Hit flags body cas)
    → Spells ask (answer_spelling ask (answers.Hit flags body cas) ++ more) (answers.Hit flags body cas) (length (answer_spelling ask (answers.Hit flags body cas)))
hit_back ask flags body cas more classic k ranges fits =
    let n = length body in
    let line = spaced (hit_words ask.key flags n cas) in
    let only = fetch_only ask.op ask.with_cas flags body cas fits in
    let plain = hit_plain ask.key flags n cas k ranges.0 ranges.1 ranges.2 in
    let one : IsOneLine line = spaced_line (hit_words ask.key flags n cas) (plain_lines (hit_words ask.key flags n cas) plain) in
    let are : words line ≡ hit_words ask.key flags n cas = words-spaced (hit_words ask.key flags n cas) (plain_words (hit_words ask.key flags n cas) plain) in
    let hit : HitLine = record { flags = flags; len = n; cas = cas } in
    let says : kind_of_line ask line ≡ Hit hit = value_said ask line (ask.key ∷ decimal flags ∷ decimal n ∷ cas_words cas) hit classic are only.0 (hit_read ask.key ask.with_cas flags n cas ranges.0 ranges.1 ranges.2 only.1) in
    let rest = body ++ (codes "\r\n" ++ (end_text ++ more)) in
    let there : FollowsLine (Hit hit) rest (answers.Hit flags body cas) (n + 7) = (body, codes "\r\n" ++ (end_text ++ more), 7, refl, refl, refl, end_read more, refl) in
    let follows : FollowsLine (kind_of_line ask line) rest (answers.Hit flags body cas) (n + 7) = subst (λ (s : FirstLine). FollowsLine s rest (answers.Hit flags body cas) (n + 7)) (sym says) there in
    let all = spelled ask line rest (answers.Hit flags body cas) (n + 7) one (hit_short ask.key flags n cas k ranges.0 ranges.1 ranges.2) follows in
    let whole : answer_spelling ask (answers.Hit flags body cas) ++ more ≡ (line ++ codes "\r\n") ++ rest = regroup (line ++ codes "\r\n") body (codes "\r\n") end_text more in
    let long : length (answer_spelling ask (answers.Hit flags body cas)) ≡ length line + 2 + (n + 7) =
    omega (arith, hit_len (line ++ codes "\r\n") body (codes "\r\n") end_text, length-append line (codes "\r\n")) in
    subst (λ (t : List ℕ). Spells ask t (answers.Hit flags body cas) (length (answer_spelling ask (answers.Hit flags body cas)))) (sym whole)
    (subst (λ (u : ℕ). Spells ask ((line ++ codes "\r\n") ++ rest) (answers.Hit flags body cas) u) (sym long) all)
