-- What follows the first line of an answer, and what the answer is then.
use Rattle.std.proofs.Common.{◌≡◌, ℕ, ◌+◌, ◌-◌, ◌<◌, ◌≤◌, true, false, Some, List, ◌++◌, length, take, drop, refl, sym, ap, subst, ◌∙◌, arith, inl, inr}
use Rattle.std.proofs.lemmas.List.{length-append, length-take-le, take-append-drop, take-append-le, take_at, drop-append-le, drop_all}
use Rattle.text_words.specs.Line.{IsTooLong, TakesLine, without_cr}
use Rattle.text_words.proofs.Stays.{open_no_line, too_long_no_line, taken_only, taken_line, taken_text, taken_length, line_length, lines_are_determined, open_not_too_long, not_too_long}
use Rattle.text_words.proofs.WordLemmas.{rest_is}
use Rattle.std.proofs.Math.Seq.{drop-append_seam}
use Rattle.mc_types.specs.declared.ask.Ask.{Ask}
use Rattle.mc_types.specs.declared.answer.Answer.{Answer}
use Rattle.wire_answers.specs.declared.line_kinds.FirstLine.{FirstLine}
use Rattle.wire_answers.specs.declared.line_kinds.FirstLine.TheVariants.{Whole, Hit, Value, NoAnswer}
use Rattle.wire_answers.specs.declared.line_kinds.HitLine.{HitLine}
use Rattle.mc_types.specs.declared.answer.Code.TheVariants.{Va}
use Rattle.mc_types.specs.declared.answer.Fields.{Fields}
use Rattle.mc_types.specs.declared.answer.Answer.TheVariants as answers
use Rattle.wire_answers.specs.declared.meta.line.ValueLine.{ValueLine}
use Rattle.wire_answers.specs.Told.{fields_told}
use Rattle.wire_answers.specs.FirstLine.{kind_of_line}
use Rattle.wire_answers.specs.Reading.{IsDataEnd, IsCutDataEnd, is_data, IsBlockEnd, IsCutEnd, IsCutAfter, IsCut, FollowsLine, Spells, ReadsAnswer, ReadsAfter, LiesWithin}
use Rattle.wire_answers.specs.declared.reader.AnswerRead.{AnswerRead}
use Rattle.wire_answers.specs.declared.reader.AnswerRead.TheVariants as reads
use Rattle.wire_answers.proofs.EndLemmas.{cut_no_end, cut_no_data_end, line_not_open}

-- the bytes after a body of this length
after_body : (n : ℕ) (rest body after : List ℕ) → length body ≡ n → rest ≡ body ++ after → drop n rest ≡ after
after_body n rest body after len whole = ap (drop n) whole ∙ subst (λ (k : ℕ). drop k (body ++ after) ≡ after) len (drop-append_seam body after)

pub short_is_cut : (n : ℕ) (rest : List ℕ) → length rest < n → IsCutEnd (drop n rest)
short_is_cut n rest lt = inl (drop_all n rest (omega arith))

-- after the data stands what is cut
pub cut_no_follow : (first : FirstLine) (rest : List ℕ) → IsCutAfter first rest → (answer : Answer) (used : ℕ) → ¬ FollowsLine first rest answer used
cut_no_follow (Hit hit) rest cut answer used f =
    cut_no_end (drop hit.len rest) cut f.2 (subst (λ (t : List ℕ). IsBlockEnd t f.2) (sym (after_body hit.len rest f.0 f.1 f.4 f.5)) f.6)
cut_no_follow (Value line) rest cut answer used f =
    cut_no_data_end (drop line.len rest) cut (subst IsDataEnd (sym (after_body line.len rest f.0 f.1 f.3 f.4)) f.5)
cut_no_follow (Whole a) rest cut answer used f = cut
cut_no_follow NoAnswer rest cut answer used f = cut

pub cut_not_spelled : (ask : Ask) (bytes : List ℕ) → IsCut ask bytes → (answer : Answer) (used : ℕ) → ¬ Spells ask bytes answer used
cut_not_spelled ask bytes (inl partial) answer used s = open_no_line bytes s.text s.rest partial s.line
cut_not_spelled ask bytes (inr h) answer used s =
    let same = lines_are_determined bytes h.0 s.text h.1 s.rest h.2 s.line in
    let follows : FollowsLine (kind_of_line ask (without_cr h.0)) h.1 answer s.after =
    subst (λ (t : List ℕ). FollowsLine (kind_of_line ask (without_cr t)) h.1 answer s.after) (sym same.0)
    (subst (λ (r : List ℕ). FollowsLine (kind_of_line ask (without_cr s.text)) r answer s.after) (sym same.1) s.follows) in
    cut_no_follow (kind_of_line ask (without_cr h.0)) h.1 h.3 answer s.after follows

-- where after the data the end never comes, no hit does
pub bad_hit : (hit : HitLine) (rest : List ℕ) → hit.len ≤ length rest → ((more : List ℕ) (used : ℕ) → ¬ IsBlockEnd (take (length rest - hit.len) (drop hit.len rest) ++ more) used)
    → (more : List ℕ) (answer : Answer) (used : ℕ) → ¬ FollowsLine (Hit hit) (rest ++ more) answer used
bad_hit hit rest le never more answer used f =
    let here : f.1 ≡ take (length rest - hit.len) (drop hit.len rest) ++ more =
    sym (after_body hit.len (rest ++ more) f.0 f.1 f.4 f.5) ∙ drop-append-le hit.len rest more le ∙ ap (λ (t : List ℕ). t ++ more) (sym (rest_is rest hit.len)) in
    never more f.2 (subst (λ (t : List ℕ). IsBlockEnd t f.2) here f.6)

-- where after the data of a meta answer the end never comes, no answer follows its line
pub bad_value : (line : ValueLine) (rest : List ℕ) → line.len ≤ length rest → ((more : List ℕ) → ¬ IsDataEnd (take (length rest - line.len) (drop line.len rest) ++ more))
    → (more : List ℕ) (answer : Answer) (used : ℕ) → ¬ FollowsLine (Value line) (rest ++ more) answer used
bad_value line rest le never more answer used f =
    let here : f.1 ≡ take (length rest - line.len) (drop line.len rest) ++ more =
    sym (after_body line.len (rest ++ more) f.0 f.1 f.3 f.4) ∙ drop-append-le line.len rest more le ∙ ap (λ (t : List ℕ). t ++ more) (sym (rest_is rest line.len)) in
    never more (subst IsDataEnd here f.5)

-- where the data of a meta answer have to be a number and are none, no answer follows its line
pub no_data : (line : ValueLine) (rest : List ℕ) → line.len ≤ length rest → is_data line.is_number (take line.len rest) ≡ false
    → (more : List ℕ) (answer : Answer) (used : ℕ) → ¬ FollowsLine (Value line) (rest ++ more) answer used
no_data line rest le isnt more answer used f =
    let body : f.0 ≡ take line.len rest =
    sym (subst (λ (k : ℕ). take k (f.0 ++ f.1) ≡ f.0) f.3 (take_at f.0 f.1 (length f.0) refl)) ∙ ap (take line.len) (sym f.4) ∙ take-append-le line.len rest more le in
    let same : is_data line.is_number f.0 ≡ false = ap (is_data line.is_number) body ∙ isnt in
    let clash : true ≡ false = sym f.6 ∙ same in
    cc

pub value_there : (line : ValueLine) (rest : List ℕ) → line.len ≤ length rest → IsDataEnd (take (length rest - line.len) (drop line.len rest)) → is_data line.is_number (take line.len rest) ≡ true
    → (fields : Fields) (used : ℕ) → fields ≡ fields_told line.told (Some (take line.len rest)) → used ≡ 2 → FollowsLine (Value line) rest (answers.Meta Va fields) (line.len + used)
value_there line rest le end is fields used are two = (
  take line.len rest,
  drop line.len rest,
  ap (λ (f : Fields). answers.Meta Va f) are,
  length-take-le line.len rest le,
  sym (take-append-drop line.len rest),
  subst IsDataEnd (rest_is rest line.len) end,
  is,
  ap (λ (n : ℕ). line.len + n) two,
)

-- a hit whose data and end are there follows its line
pub hit_there : (hit : HitLine) (rest : List ℕ) → hit.len ≤ length rest → (used : ℕ) → IsBlockEnd (take (length rest - hit.len) (drop hit.len rest)) used
    → (body : List ℕ) → body ≡ take hit.len rest → FollowsLine (Hit hit) rest (answers.Hit hit.flags body hit.cas) (hit.len + used)
hit_there hit rest le used end body is = (
  take hit.len rest,
  drop hit.len rest,
  used,
  ap (λ (t : List ℕ). answers.Hit hit.flags t hit.cas) is,
  length-take-le hit.len rest le,
  sym (take-append-drop hit.len rest),
  subst (λ (t : List ℕ). IsBlockEnd t used) (rest_is rest hit.len) end,
  refl,
)

pub not_cut_value : (line : ValueLine) (rest : List ℕ) → (¬ IsCutDataEnd (take (length rest - line.len) (drop line.len rest))) → ¬ IsCutAfter (Value line) rest
not_cut_value line rest not_cut cut = not_cut (subst IsCutDataEnd (sym (rest_is rest line.len)) cut)

-- an end that is there isn't cut
pub there_not_cut : (line : ValueLine) (rest : List ℕ) → IsDataEnd (take (length rest - line.len) (drop line.len rest)) → ¬ IsCutAfter (Value line) rest
there_not_cut line rest end cut = cut_no_data_end (drop line.len rest) cut (subst IsDataEnd (rest_is rest line.len) end)

pub not_cut_hit : (hit : HitLine) (rest : List ℕ) → (¬ IsCutEnd (take (length rest - hit.len) (drop hit.len rest))) → ¬ IsCutAfter (Hit hit) rest
not_cut_hit hit rest not_cut cut = not_cut (subst IsCutEnd (sym (rest_is rest hit.len)) cut)

-- the line that the code found, and what follows it
pub answer_is : (ask : Ask) (bytes : List ℕ) (end used : ℕ) → TakesLine bytes end used → (answer : Answer) (after : ℕ) → FollowsLine (kind_of_line ask (take end bytes)) (take (length bytes - used) (drop used bytes)) answer after
    → Spells ask bytes answer (used + after)
answer_is ask bytes end used t answer after f = record {
  text = take (used - 1) bytes;
  rest = drop used bytes;
  after = after;
  line = taken_line bytes end used t;
  follows = subst (λ (l : List ℕ). FollowsLine (kind_of_line ask l) (drop used bytes) answer after) (sym (taken_text bytes end used t))
      (subst (λ (r : List ℕ). FollowsLine (kind_of_line ask (take end bytes)) r answer after) (rest_is bytes used) f);
  used_is = omega (arith, taken_length bytes end used t);
}

pub cut_is : (ask : Ask) (bytes : List ℕ) (end used : ℕ) → TakesLine bytes end used → IsCutAfter (kind_of_line ask (take end bytes)) (take (length bytes - used) (drop used bytes)) → IsCut ask bytes
cut_is ask bytes end used t cut =
    inr (
      take (used - 1) bytes,
      drop used bytes,
      taken_line bytes end used t,
      subst (λ (l : List ℕ). IsCutAfter (kind_of_line ask l) (drop used bytes)) (sym (taken_text bytes end used t))
          (subst (λ (r : List ℕ). IsCutAfter (kind_of_line ask (take end bytes)) r) (rest_is bytes used) cut),
    )

pub foreign_is : (ask : Ask) (bytes : List ℕ) (end used : ℕ) → TakesLine bytes end used
    → ((more : List ℕ) (answer : Answer) (after : ℕ) → ¬ FollowsLine (kind_of_line ask (take end bytes)) (take (length bytes - used) (drop used bytes) ++ more) answer after)
    → (more : List ℕ) (answer : Answer) (u : ℕ) → ¬ Spells ask (bytes ++ more) answer u
foreign_is ask bytes end used t never more answer u s =
    let only = taken_only bytes more s.text s.rest end used t s.line in
    let after : s.rest ≡ take (length bytes - used) (drop used bytes) ++ more = only.2 ∙ ap (λ (r : List ℕ). r ++ more) (sym (rest_is bytes used)) in
    never more answer s.after (subst (λ (l : List ℕ). FollowsLine (kind_of_line ask l) (take (length bytes - used) (drop used bytes) ++ more) answer s.after) only.0
    (subst (λ (r : List ℕ). FollowsLine (kind_of_line ask (without_cr s.text)) r answer s.after) after s.follows))

pub not_cut_is : (ask : Ask) (bytes : List ℕ) (end used : ℕ) → TakesLine bytes end used → (¬ IsCutAfter (kind_of_line ask (take end bytes)) (take (length bytes - used) (drop used bytes))) → ¬ IsCut ask bytes
not_cut_is ask bytes end used t not_cut (inl partial) = line_not_open bytes end used t partial
not_cut_is ask bytes end used t not_cut (inr h) =
    let same = lines_are_determined bytes h.0 (take (used - 1) bytes) h.1 (drop used bytes) h.2 (taken_line bytes end used t) in
    not_cut (subst (λ (r : List ℕ). IsCutAfter (kind_of_line ask (take end bytes)) r) (sym (rest_is bytes used))
    (subst (λ (l : List ℕ). IsCutAfter (kind_of_line ask l) (drop used bytes)) (ap without_cr same.0 ∙ taken_text bytes end used t)
    (subst (λ (r : List ℕ). IsCutAfter (kind_of_line ask (without_cr h.0)) r) same.1 h.3)))

pub too_long_not_cut : (ask : Ask) (bytes : List ℕ) → IsTooLong bytes → ¬ IsCut ask bytes
too_long_not_cut ask bytes long (inl partial) = open_not_too_long bytes partial long
too_long_not_cut ask bytes long (inr h) = not_too_long bytes h.0 h.1 h.2 long

pub too_long_is : (ask : Ask) (bytes : List ℕ) → IsTooLong bytes → (more : List ℕ) (answer : Answer) (used : ℕ) → ¬ Spells ask (bytes ++ more) answer used
too_long_is ask bytes long more answer used s = too_long_no_line bytes more s.text s.rest long s.line

-- an answer that begins after the line takes the line's bytes too
abbrev pub further : ℕ → AnswerRead → AnswerRead
further used (reads.Answer answer after) = reads.Answer answer (used + after)
further used reads.More = reads.More
further used reads.Foreign = reads.Foreign

go : (ask : Ask) (bytes : List ℕ) (end used : ℕ) → TakesLine bytes end used → (r : AnswerRead)
    → ReadsAfter (kind_of_line ask (take end bytes)) (take (length bytes - used) (drop used bytes)) r → ReadsAnswer ask bytes (further used r)
go ask bytes end used t (reads.Answer answer after) h = answer_is ask bytes end used t answer after h
go ask bytes end used t reads.More h = let cut = cut_is ask bytes end used t h in (cut, cut_not_spelled ask bytes cut)
go ask bytes end used t reads.Foreign h = (not_cut_is ask bytes end used t h.0, foreign_is ask bytes end used t h.1)

pub read_is : (ask : Ask) (bytes : List ℕ) (end used : ℕ) → TakesLine bytes end used → (s : FirstLine) → s ≡ kind_of_line ask (take end bytes) → (r result : AnswerRead)
    → ReadsAfter s (take (length bytes - used) (drop used bytes)) r → result ≡ further used r → ReadsAnswer ask bytes result
read_is ask bytes end used t s s-is r result h e =
    subst (ReadsAnswer ask bytes) (sym e) (go ask bytes end used t r (subst (λ (x : FirstLine). ReadsAfter x (take (length bytes - used) (drop used bytes)) r) s-is h))

-- what is read of the bytes: what their first line and the rest say, where that rest stands by itself
pub read_on : (ask : Ask) (bytes : List ℕ) (end used : ℕ) → TakesLine bytes end used → (s : FirstLine) → s ≡ kind_of_line ask (take end bytes) → (rest : List ℕ) → rest ≡ drop used bytes → (r result : AnswerRead)
    → ReadsAfter s rest r → result ≡ further used r → ReadsAnswer ask bytes result
read_on ask bytes end used t s s-is rest rest-is r result h e =
    read_is ask bytes end used t s s-is r result (subst (λ (x : List ℕ). ReadsAfter s x r) (rest-is ∙ sym (rest_is bytes used)) h) e

-- an answer lies within the bytes that spell it
end_within : (bytes : List ℕ) (used : ℕ) → IsBlockEnd bytes used → used ≤ length bytes
end_within bytes used e = omega (arith, ap length e.whole, e.used_is, e.line.used_is, line_length e.after e.line.text e.line.rest e.line.line)

follows_within : (s : FirstLine) (rest : List ℕ) (answer : Answer) (used : ℕ) → FollowsLine s rest answer used → used ≤ length rest
follows_within (Whole x) rest answer used f = omega (arith, f.1)
follows_within (Hit hit) rest answer used f = omega (arith, f.4, f.7, ap length f.5, length-append f.0 f.1, end_within f.1 f.2 f.6)
follows_within (Value line) rest answer used f = omega (arith, f.3, f.7, ap length f.4, length-append f.0 f.1, ap length f.5.1)
follows_within NoAnswer rest answer used f = absurd f

pub spelled_within : (ask : Ask) (bytes : List ℕ) (answer : Answer) (used : ℕ) → Spells ask bytes answer used → used ≤ length bytes
spelled_within ask bytes answer used s =
    omega (arith, s.used_is, line_length bytes s.text s.rest s.line, follows_within (kind_of_line ask (without_cr s.text)) s.rest answer s.after s.follows)

pub read_within : (ask : Ask) (bytes : List ℕ) (r : AnswerRead) → ReadsAnswer ask bytes r → LiesWithin bytes r
read_within ask bytes (reads.Answer answer used) h = spelled_within ask bytes answer used h
read_within ask bytes reads.More h = tt
read_within ask bytes reads.Foreign h = tt
