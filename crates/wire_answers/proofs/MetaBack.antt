-- A meta answer is read back.
use Rattle.std.proofs.Common.{◌≡◌, ℕ, ◌+◌, ◌<◌, Bool, true, false, List, [], ◌∷◌, ◌++◌, length, Option, Some, None, is_some, refl, sym, ap, subst, ◌∙◌, append_assoc, append-nil, arith}
use Rattle.std.specs.Prelude.{codes, decimal}
use Rattle.std.proofs.lemmas.List.{length-append}
use Rattle.text_words.specs.Word.{words}
use Rattle.text_words.specs.Spelling.{spaced, words_line}
use Rattle.text_words.proofs.Spaced.{IsPlain, ArePlain, literal, plain_words, plain_line, plain_lines, words-spaced, spaced_line}
use Rattle.mc_types.specs.KeyText.{IsKey}
use Rattle.mc_types.specs.Asks.{HasShapeOf, Shape, meta_shape}
use Rattle.mc_types.specs.Tokens.{Letter, are_served}
use Rattle.mc_types.specs.Fits.{AreFieldsInRange, FitsMetaCode}
use Rattle.mc_types.specs.declared.ask.Ask.{Ask}
use Rattle.mc_types.specs.declared.ask.Dialect.TheVariants as dialects
use Rattle.mc_types.specs.declared.answer.Code.{Code}
use Rattle.mc_types.specs.declared.answer.Code.TheVariants.{Hd, Va, En, Ns, Ex, Nf}
use Rattle.mc_types.specs.declared.answer.Fields.{Fields}
use Rattle.mc_types.specs.declared.answer.Answer.{Answer}
use Rattle.mc_types.specs.declared.answer.Answer.TheVariants as answers
use Rattle.wire_answers.specs.declared.meta.told.Told.{Told}
use Rattle.wire_answers.specs.declared.meta.line.ValueLine.{ValueLine}
use Rattle.wire_answers.specs.declared.meta.line.MetaLine.{MetaLine}
use Rattle.wire_answers.specs.declared.meta.line.MetaLine.TheVariants as lines
use Rattle.wire_answers.specs.Fitting.{AreTexts}
use Rattle.wire_answers.specs.Told.{none_told, fields_told}
use Rattle.wire_answers.specs.Line.{code_word, is_count, meta_said}
use Rattle.wire_answers.specs.MetaSpelling.{tokens_words, meta_line_words, meta_spelling}
use Rattle.wire_answers.proofs.TokensBack.{telling_all}
use Rattle.wire_answers.proofs.LineBack.{done_back, value_back, bare_back, is_data_of, va_number, va_stands}
use Rattle.wire_answers.proofs.Plain.{words_plain, words_short}
use Rattle.wire_answers.specs.declared.line_kinds.FirstLine.{FirstLine}
use Rattle.wire_answers.specs.declared.line_kinds.FirstLine.TheVariants.{Whole, Value}
use Rattle.wire_answers.specs.FirstLine.{kind_of_line, words_said, error_text, is_error_word, line_said}
use Rattle.wire_answers.specs.Reading.{FollowsLine, Spells, is_data}
use Rattle.wire_answers.proofs.WordBack.{spelled}

-- the flags that are served of an operation
abbrev pub served_of : Option Shape → List Letter
served_of None = []
served_of (Some shape) = shape.served

served_is : (ask : Ask) (o : Option Shape) → HasShapeOf ask o → are_served (served_of o) ask.tokens ≡ true
served_is ask None h = absurd h
served_is ask (Some shape) h = h.tokens

no_error : (code : Code) (ws : List (List ℕ)) → is_error_word (code_word code) ws ≡ false
no_error Hd [] = refl
no_error Va [] = refl
no_error En [] = refl
no_error Ns [] = refl
no_error Ex [] = refl
no_error Nf [] = refl
no_error code (w ∷ ws) = refl

-- what a line of a code says is what the meta line says
code_said : (ask : Ask) (text : Option (List ℕ)) (code : Code) (ws : List (List ℕ)) (line : MetaLine) → ask.dialect ≡ dialects.Meta → meta_said ask (code_word code) ws ≡ Some line
    → words_said ask text (code_word code ∷ ws) ≡ line_said line
code_said ask text Hd ws line is e = rw (is, no_error Hd ws, e) refl
code_said ask text Va ws line is e = rw (is, no_error Va ws, e) refl
code_said ask text En ws line is e = rw (is, no_error En ws, e) refl
code_said ask text Ns ws line is e = rw (is, no_error Ns ws, e) refl
code_said ask text Ex ws line is e = rw (is, no_error Ex ws, e) refl
code_said ask text Nf ws line is e = rw (is, no_error Nf ws, e) refl

pub line_says : (ask : Ask) (code : Code) (ws : List (List ℕ)) (line : MetaLine) → ArePlain (code_word code ∷ ws) → ask.dialect ≡ dialects.Meta → meta_said ask (code_word code) ws ≡ Some line
    → kind_of_line ask (spaced (code_word code ∷ ws)) ≡ line_said line
line_says ask code ws line plain is e =
    let all = code_word code ∷ ws in
    ap (words_said ask (error_text (spaced all))) (words-spaced all (plain_words all plain)) ∙ code_said ask (error_text (spaced all)) code ws line is e

-- a line that is the whole answer
whole_back : (ask : Ask) (ws : List (List ℕ)) (answer : Answer) (more : List ℕ) → ArePlain ws → length (spaced ws) < 65535 → kind_of_line ask (spaced ws) ≡ Whole answer
    → Spells ask ((words_line ws ++ []) ++ more) answer (length (words_line ws ++ []))
whole_back ask ws answer more plain short says =
    let line = spaced ws in
    let follows : FollowsLine (kind_of_line ask line) more answer 0 = subst (λ (s : FirstLine). FollowsLine s more answer 0) (sym says) (refl, refl) in
    let all = spelled ask line more answer 0 (spaced_line ws (plain_lines ws plain)) short follows in
    let same : words_line ws ++ [] ≡ line ++ codes "\r\n" = append-nil (words_line ws) in
    let long : length (words_line ws ++ []) ≡ length line + 2 + 0 = omega (arith, ap length same, length-append line (codes "\r\n")) in
    subst (λ (n : ℕ). Spells ask ((words_line ws ++ []) ++ more) answer n) (sym long)
    (subst (λ (t : List ℕ). Spells ask (t ++ more) answer (length line + 2 + 0)) (sym same) all)

regroup : (l body c more : List ℕ) → (l ++ (body ++ c)) ++ more ≡ l ++ (body ++ (c ++ more))
regroup l body c more = simp append_assoc

-- a line and its data
pub data_back : (ask : Ask) (ws : List (List ℕ)) (line : ValueLine) (body more : List ℕ) → ArePlain ws → length (spaced ws) < 65535 → kind_of_line ask (spaced ws) ≡ Value line → length body ≡ line.len → is_data line.is_number body ≡ true
    → Spells ask ((words_line ws ++ (body ++ codes "\r\n")) ++ more) (answers.Meta Va (fields_told line.told (Some body))) (length (words_line ws ++ (body ++ codes "\r\n")))
data_back ask ws line body more plain short says len is =
    let text = spaced ws in
    let answer : Answer = answers.Meta Va (fields_told line.told (Some body)) in
    let rest = body ++ (codes "\r\n" ++ more) in
    let there : FollowsLine (Value line) rest answer (line.len + 2) = (body, codes "\r\n" ++ more, refl, len, refl, (more, refl), is, refl) in
    let follows : FollowsLine (kind_of_line ask text) rest answer (line.len + 2) = subst (λ (s : FirstLine). FollowsLine s rest answer (line.len + 2)) (sym says) there in
    let all = spelled ask text rest answer (line.len + 2) (spaced_line ws (plain_lines ws plain)) short follows in
    let whole : (words_line ws ++ (body ++ codes "\r\n")) ++ more ≡ (text ++ codes "\r\n") ++ rest = regroup (words_line ws) body (codes "\r\n") more in
    let long : length (words_line ws ++ (body ++ codes "\r\n")) ≡ length text + 2 + (line.len + 2) =
    omega (arith, length-append (words_line ws) (body ++ codes "\r\n"), length-append text (codes "\r\n"), length-append body (codes "\r\n"), len) in
    subst (λ (t : List ℕ). Spells ask t answer (length (words_line ws ++ (body ++ codes "\r\n")))) (sym whole)
    (subst (λ (u : ℕ). Spells ask ((text ++ codes "\r\n") ++ rest) answer u) (sym long) all)

same_data : (b : Bool) (body : List ℕ) → is_data_of b body ≡ true → is_data b body ≡ true
same_data true body e = e
same_data false body e = refl

abbrev pub Back : Ask → List ℕ → Code → Fields → Type 0
Back ask more code fields = Spells ask (meta_spelling ask code fields ++ more) (answers.Meta code fields) (length (meta_spelling ask code fields))

module _ (ask : Ask) (more : List ℕ) (is : ask.dialect ≡ dialects.Meta) (key : IsKey ask.key) (texts : AreTexts ask.tokens) (shape : HasShapeOf ask (meta_shape ask.op)) where
  -- where no data stand
  bare_line : (code : Code) (fields : Fields) (told : Told) (line : MetaLine) → AreFieldsInRange (fields_told told None) → fields_told told None ≡ fields → line_said line ≡ Whole (answers.Meta code (fields_told told None))
      → meta_said ask (code_word code) (tokens_words ask.key fields ask.tokens) ≡ Some line → Back ask more code fields
  bare_line code fields told line range same says said_so =
      let f : Fields = fields_told told None in
      let e : meta_said ask (code_word code) (tokens_words ask.key f ask.tokens) ≡ Some line =
      subst (λ (g : Fields). meta_said ask (code_word code) (tokens_words ask.key g ask.tokens) ≡ Some line) (sym same) said_so in
      let plain = words_plain ask.key f key range code ask.tokens texts in
      let short = words_short ask.key f key range code (served_of (meta_shape ask.op)) ask.tokens (served_is ask (meta_shape ask.op) shape) texts in
      subst (Back ask more code) same
      (whole_back ask (meta_line_words ask code f) (answers.Meta code f) more plain short (line_says ask code (tokens_words ask.key f ask.tokens) line plain is e ∙ says))

  in_range : (fields g : Fields) → g ≡ fields → AreFieldsInRange fields → AreFieldsInRange g
  in_range fields g same range = subst AreFieldsInRange (sym same) range

  go : (code : Code) (fields : Fields) (o : Option (List ℕ)) → fields.body ≡ o → AreFieldsInRange fields → FitsMetaCode ask.op ask.tokens code fields → Back ask more code fields
  go Hd fields o at range h =
      let back = done_back ask fields range (served_of (meta_shape ask.op)) (served_is ask (meta_shape ask.op) shape) shape h in
      let told = telling_all fields none_told ask.tokens in
      bare_line Hd fields told (lines.Done told) (in_range fields (fields_told told None) back.fields_are range) back.fields_are refl back.said
  go En fields o at range h =
      let back = bare_back ask fields range (served_of (meta_shape ask.op)) En (served_is ask (meta_shape ask.op) shape) refl h in
      bare_line En fields none_told (lines.Other En) (in_range fields (fields_told none_told None) back.fields_are range) back.fields_are refl back.said
  go Ns fields o at range h =
      let back = bare_back ask fields range (served_of (meta_shape ask.op)) Ns (served_is ask (meta_shape ask.op) shape) refl h in
      bare_line Ns fields none_told (lines.Other Ns) (in_range fields (fields_told none_told None) back.fields_are range) back.fields_are refl back.said
  go Ex fields o at range h =
      let back = bare_back ask fields range (served_of (meta_shape ask.op)) Ex (served_is ask (meta_shape ask.op) shape) refl h in
      bare_line Ex fields none_told (lines.Other Ex) (in_range fields (fields_told none_told None) back.fields_are range) back.fields_are refl back.said
  go Nf fields o at range h =
      let back = bare_back ask fields range (served_of (meta_shape ask.op)) Nf (served_is ask (meta_shape ask.op) shape) refl h in
      bare_line Nf fields none_told (lines.Other Nf) (in_range fields (fields_told none_told None) back.fields_are range) back.fields_are refl back.said
  go Va fields (Some body) at range h =
      let back = value_back ask fields range (served_of (meta_shape ask.op)) body (served_is ask (meta_shape ask.op) shape) shape at h in
      let told = telling_all fields none_told ask.tokens in
      let line : ValueLine = record { told = told; len = length body; is_number = is_count ask.op } in
      let f : Fields = fields_told told (Some body) in
      let plain = words_plain ask.key f key (in_range fields f back.fields_are range) Va ask.tokens texts in
      let short = words_short ask.key f key (in_range fields f back.fields_are range) Va (served_of (meta_shape ask.op)) ask.tokens (served_is ask (meta_shape ask.op) shape) texts in
      let e : meta_said ask (code_word Va) (decimal (length body) ∷ tokens_words ask.key f ask.tokens) ≡ Some (lines.Value line) =
      subst (λ (g : Fields). meta_said ask (code_word Va) (decimal (length body) ∷ tokens_words ask.key g ask.tokens) ≡ Some (lines.Value line)) (sym back.fields_are) back.said in
      let number : is_data (is_count ask.op) body ≡ true = same_data (is_count ask.op) body (va_number ask.op ask.tokens fields body at h) in
      subst (Back ask more Va) back.fields_are
      (data_back ask (meta_line_words ask Va f) line body more plain short (line_says ask Va (decimal (length body) ∷ tokens_words ask.key f ask.tokens) (lines.Value line) plain is e) refl number)
  go Va fields None at range h =
      let stands = va_stands ask.op ask.tokens fields h in
      let f : false ≡ true = sym (ap (λ (o : Option (List ℕ)). is_some o) at) ∙ stands.body_is in
      absurd cc

pub meta_back : (ask : Ask) (code : Code) (fields : Fields) (more : List ℕ) → ask.dialect ≡ dialects.Meta → IsKey ask.key → AreTexts ask.tokens → HasShapeOf ask (meta_shape ask.op) → AreFieldsInRange fields → FitsMetaCode ask.op ask.tokens code fields
    → Back ask more code fields
meta_back ask code fields more is key texts shape range h = go ask more is key texts shape code fields fields.body refl range h

-- the line ERROR
pub meta_error_back : (ask : Ask) (more : List ℕ) → ask.dialect ≡ dialects.Meta → Spells ask (words_line (codes "ERROR" ∷ []) ++ more) answers.Error (length (words_line (codes "ERROR" ∷ [])))
meta_error_back ask more is =
    let word = codes "ERROR" in
    let plain : IsPlain word = literal word refl (omega arith) in
    let says : kind_of_line ask word ≡ Whole answers.Error = ap (words_said ask (error_text word)) (words-spaced (word ∷ []) (plain_words (word ∷ []) (plain, tt))) ∙ rw is refl in
    let follows : FollowsLine (kind_of_line ask word) more answers.Error 0 = subst (λ (s : FirstLine). FollowsLine s more answers.Error 0) (sym says) (refl, refl) in
    spelled ask word more answers.Error 0 (plain_line word plain) (omega arith) follows
