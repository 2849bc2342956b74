-- The laws of spellings and of reading.
use Rattle.std.proofs.Common.{◌≡◌, ℕ, ◌+◌, Some, List, [], ◌∷◌, ◌++◌, length, refl, sym, ap, subst, ◌∙◌, append_assoc, arith}
use Rattle.text_words.specs.Line.{without_cr}
use Rattle.text_words.proofs.Stays.{lines_stay, lines_are_determined}
use Rattle.mc_types.specs.declared.answer.Answer.{Answer}
use Rattle.mc_types.specs.declared.answer.Answer.TheVariants as answers
use Rattle.wire_answers.specs.declared.line_kinds.FirstLine.{FirstLine}
use Rattle.wire_answers.specs.declared.line_kinds.FirstLine.TheVariants.{Whole, Hit, Value, NoAnswer}
use Rattle.mc_types.specs.declared.answer.Code.TheVariants.{Va}
use Rattle.wire_answers.specs.Told.{fields_told}
use Rattle.wire_answers.specs.FirstLine.{kind_of_line}
use Rattle.wire_answers.specs.Spelling.{answer_spelling}
use Rattle.wire_answers.specs.Reading.{IsBlockEnd, FollowsLine, Spells}
use Rattle.wire_answers.specs.Laws.{OneAnswer, NoneBeginsAnother, AnswersStay}
use Rattle.wire_answers.proofs.EndLemmas.{one_end}
use Rattle.wire_answers.proofs.ReadBack.{answers_are_read_back}

-- two lists are one where they and what follows are as long and the same
same_front : (a b c d : List ℕ) → length a ≡ length b → a ++ c ≡ b ++ d → (a ≡ b) × (c ≡ d)
same_front [] [] c d len e = (refl, e)
same_front [] (y ∷ b) c d len e = absurd (omega arith)
same_front (x ∷ a) [] c d len e = absurd (omega arith)
same_front (x ∷ a) (y ∷ b) c d len e =
    let heads : x ≡ y = cc in
    let tails : a ++ c ≡ b ++ d = cc in
    let rest = same_front a b c d (omega arith) tails in
    (cc, rest.1)

one_follows : (s : FirstLine) (rest : List ℕ) (a b : Answer) (m n : ℕ) → FollowsLine s rest a m → FollowsLine s rest b n → (a ≡ b) × (m ≡ n)
one_follows (Whole x) rest a b m n f g = (f.0 ∙ sym g.0, f.1 ∙ sym g.1)
one_follows (Hit hit) rest a b m n f g =
    let parts = same_front f.0 g.0 f.1 g.1 (f.4 ∙ sym g.4) (sym f.5 ∙ g.5) in
    let len : f.2 ≡ g.2 = one_end f.1 f.2 g.2 f.6 (subst (λ (t : List ℕ). IsBlockEnd t g.2) (sym parts.1) g.6) in
    (f.3 ∙ ap (λ (t : List ℕ). answers.Hit hit.flags t hit.cas) parts.0 ∙ sym g.3, f.7 ∙ ap (λ (k : ℕ). hit.len + k) len ∙ sym g.7)
one_follows (Value line) rest a b m n f g =
    let parts = same_front f.0 g.0 f.1 g.1 (f.3 ∙ sym g.3) (sym f.4 ∙ g.4) in
    (f.2 ∙ ap (λ (t : List ℕ). answers.Meta Va (fields_told line.told (Some t))) parts.0 ∙ sym g.2, f.7 ∙ sym g.7)
one_follows NoAnswer rest a b m n f g = absurd f

pub one_answer : OneAnswer
one_answer ask bytes a b m n s t =
    let line = lines_are_determined bytes s.text t.text s.rest t.rest s.line t.line in
    let follows : FollowsLine (kind_of_line ask (without_cr s.text)) s.rest b t.after =
    subst (λ (l : List ℕ). FollowsLine (kind_of_line ask (without_cr l)) s.rest b t.after) (sym line.0)
    (subst (λ (r : List ℕ). FollowsLine (kind_of_line ask (without_cr t.text)) r b t.after) (sym line.1) t.follows) in
    let same = one_follows (kind_of_line ask (without_cr s.text)) s.rest a b s.after t.after s.follows follows in
    let long : length s.text ≡ length t.text = ap length line.0 in
    (same.0, omega (arith, s.used_is, t.used_is, same.1))

end_stays : (bytes more : List ℕ) (used : ℕ) → IsBlockEnd bytes used → IsBlockEnd (bytes ++ more) used
end_stays bytes more used e = record {
  after = e.after ++ more;
  len = e.len;
  whole = ap (λ (t : List ℕ). t ++ more) e.whole;
  line = record {
    text = e.line.text;
    rest = e.line.rest ++ more;
    line = lines_stay e.after e.line.text e.line.rest more e.line.line;
    word = e.line.word;
    used_is = e.line.used_is;
  };
  used_is = e.used_is;
}

follows_stay : (s : FirstLine) (rest more : List ℕ) (answer : Answer) (used : ℕ) → FollowsLine s rest answer used → FollowsLine s (rest ++ more) answer used
follows_stay (Whole x) rest more answer used f = f
follows_stay (Hit hit) rest more answer used f =
    (f.0, f.1 ++ more, f.2, f.3, f.4, ap (λ (t : List ℕ). t ++ more) f.5 ∙ append_assoc f.0 f.1 more, end_stays f.1 more f.2 f.6, f.7)
follows_stay (Value line) rest more answer used f =
    (f.0, f.1 ++ more, f.2, f.3, ap (λ (t : List ℕ). t ++ more) f.4 ∙ append_assoc f.0 f.1 more, (f.5.0 ++ more, ap (λ (t : List ℕ). t ++ more) f.5.1), f.6, f.7)
follows_stay NoAnswer rest more answer used f = absurd f

pub answers_stay : AnswersStay
answers_stay ask bytes more answer used s = record {
  text = s.text;
  rest = s.rest ++ more;
  after = s.after;
  line = lines_stay bytes s.text s.rest more s.line;
  follows = follows_stay (kind_of_line ask (without_cr s.text)) s.rest more answer s.after s.follows;
  used_is = s.used_is;
}

pub none_begins_another : NoneBeginsAnother
none_begins_another ask a b more other is texts fa fb e =
    let back = answers_are_read_back ask a more is texts fa in
    let begins : Spells ask (answer_spelling ask a ++ more) b (length (answer_spelling ask b)) =
    subst (λ (t : List ℕ). Spells ask t b (length (answer_spelling ask b))) (sym e) (answers_are_read_back ask b other is texts fb) in
    let same = one_answer ask (answer_spelling ask a ++ more) a b (length (answer_spelling ask a)) (length (answer_spelling ask b)) back begins in
    (same.0, (same_front (answer_spelling ask a) (answer_spelling ask b) more other same.1 e).1)
