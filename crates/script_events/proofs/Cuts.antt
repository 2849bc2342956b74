-- What is read of an answer that is cut.
use Rattle.std.proofs.Common.{◌≡◌, ℕ, zero, suc, ◌+◌, ◌<◌, ◌≤◌, Bool, true, false, cond, List, [], ◌∷◌, ◌++◌, length, take, get_or, Some, None, refl, ap, subst, arith, append-nil}
use Rattle.std.specs.Prelude.{nat_le, drop}
use Rattle.std.proofs.lemmas.Bool.{leb-true, leb-false}
use Rattle.mc_types.specs.Tokens.{TokenIsText}
use Rattle.mc_types.specs.Asks.{IsAsk}
use Rattle.mc_types.specs.Fits.{Fits}
use Rattle.mc_types.specs.declared.ask.Ask.{Ask}
use Rattle.mc_types.specs.declared.answer.Answer.{Answer}
use Rattle.mc_types.specs.declared.token.Token.{Token}
use Rattle.wire_answers.specs.Fitting.{AreTexts}
use Rattle.wire_answers.specs.Spelling.{answer_spelling}
use Rattle.wire_answers.specs.Reading.{Spells, ReadsAnswer, LiesWithin}
use Rattle.wire_answers.specs.declared.reader.AnswerRead.{AnswerRead}
use Rattle.wire_answers.specs.declared.reader.AnswerRead.TheVariants as reads
use Rattle.wire_answers.proofs.ReadBack.{answers_are_read_back}
use Rattle.wire_answers.proofs.Reading.{one_answer, answers_stay}
use Rattle.script_events.specs.Cutting.{answer_of}

-- ---- texts of opaque tokens

texts_suc : (xs : List Token) (i : ℕ) (x : Token) → i < length xs → x ≡ get_or xs i x → AreTexts (take i xs) → TokenIsText x → AreTexts (take (suc i) xs)
texts_suc [] i x lt is h t = absurd (omega (arith, lt))
texts_suc (y ∷ xs) zero x lt is h t = (subst TokenIsText is t, tt)
texts_suc (y ∷ xs) (suc i) x lt is h t = (h.0, texts_suc xs i x (omega (arith, lt)) is h.1 t)

pub texts_more : (xs : List Token) (i : ℕ) (x : Token) → i < length xs → x ≡ get_or xs i x → AreTexts (take i xs) → TokenIsText x → AreTexts (take (i + 1) xs)
texts_more xs i x lt is h t = let one : suc i ≡ i + 1 = omega arith in subst (λ (n : ℕ). AreTexts (take n xs)) one (texts_suc xs i x lt is h t)

-- ---- the cut

take_short : (n : ℕ) (xs : List ℕ) → length xs ≤ n → take n xs ≡ xs
take_short zero [] le = refl
take_short zero (x ∷ xs) le = absurd (omega (arith, le))
take_short (suc n) [] le = refl
take_short (suc n) (x ∷ xs) le = ap (λ l. x ∷ l) (take_short n xs (omega (arith, le)))

take_len : (n : ℕ) (xs : List ℕ) → length (take n xs) ≤ n
take_len zero xs = omega arith
take_len (suc n) [] = omega arith
take_len (suc n) (x ∷ xs) = let less = take_len n xs in omega (arith, less)

take_drop : (n : ℕ) (xs : List ℕ) → take n xs ++ drop n xs ≡ xs
take_drop zero xs = refl
take_drop (suc n) [] = refl
take_drop (suc n) (x ∷ xs) = ap (λ l. x ∷ l) (take_drop n xs)

module _ (ask : Ask) (answer : Answer) (is : IsAsk ask) (texts : AreTexts ask.tokens) (fits : Fits ask answer) where
  whole : Spells ask (answer_spelling ask answer) answer (length (answer_spelling ask answer))
  whole = subst (λ bytes. Spells ask bytes answer (length (answer_spelling ask answer))) (append-nil (answer_spelling ask answer)) (answers_are_read_back ask answer [] is texts fits)

  -- all of a spelled answer is read as that answer
  read_all : (read : AnswerRead) → ReadsAnswer ask (answer_spelling ask answer) read → answer_of read ≡ Some answer
  read_all (reads.Answer a used) r = ap Some (one_answer ask (answer_spelling ask answer) a answer used (length (answer_spelling ask answer)) r whole).0
  read_all reads.More r = absurd (r.1 answer (length (answer_spelling ask answer)) whole)
  read_all reads.Foreign r = absurd (r.1 [] answer (length (answer_spelling ask answer)) (answers_are_read_back ask answer [] is texts fits))

  -- less than all of a spelled answer is no answer
  read_part : (count : ℕ) (read : AnswerRead) → count < length (answer_spelling ask answer) → ReadsAnswer ask (take count (answer_spelling ask answer)) read → LiesWithin (take count (answer_spelling ask answer)) read → answer_of read ≡ None
  read_part count (reads.Answer a used) lt r within =
      let text = answer_spelling ask answer in
      let more : Spells ask text a used = subst (λ bytes. Spells ask bytes a used) (take_drop count text) (answers_stay ask (take count text) (drop count text) a used r) in
      let same : used ≡ length text = (one_answer ask text a answer used (length text) more whole).1 in
      let short = take_len count text in
      absurd (omega (arith, lt, within, same, short))
  read_part count reads.More lt r within = refl
  read_part count reads.Foreign lt r within = refl

  read_so : (count : ℕ) (read : AnswerRead) (b : Bool) → nat_le (length (answer_spelling ask answer)) count ≡ b → ReadsAnswer ask (take count (answer_spelling ask answer)) read → LiesWithin (take count (answer_spelling ask answer)) read → answer_of read ≡ cond b (Some answer) None
  read_so count read true e r within =
      read_all read (subst (λ bytes. ReadsAnswer ask bytes read) (take_short count (answer_spelling ask answer) (leb-true (length (answer_spelling ask answer)) count e)) r)
  read_so count read false e r within = read_part count read (leb-false (length (answer_spelling ask answer)) count e) r within

  pub read_cut : (count : ℕ) (read : AnswerRead) → ReadsAnswer ask (take count (answer_spelling ask answer)) read → LiesWithin (take count (answer_spelling ask answer)) read → answer_of read ≡ cond (nat_le (length (answer_spelling ask answer)) count) (Some answer) None
  read_cut count read r within = read_so count read (nat_le (length (answer_spelling ask answer)) count) refl r within
