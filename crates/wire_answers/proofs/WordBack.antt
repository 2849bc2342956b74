-- An answer of one word is read back.
use Rattle.std.proofs.Common.{◌≡◌, ℕ, ◌+◌, ◌^◌, ◌<◌, ◌≤◌, Bool, false, List, [], ◌∷◌, ◌++◌, length, Some, None, refl, sym, ap, subst, ◌∙◌, arith, inl, inr}
use Rattle.std.specs.Prelude.{codes, decimal}
use Rattle.std.specs.Str.{bytes_eq}
use Rattle.std.proofs.lemmas.Bool.{cases_Bool}
use Rattle.std.proofs.lemmas.Fmt.{length-decimal-le}
use Rattle.std.proofs.lemmas.List.{length-append}
use Rattle.std.proofs.lemmas.Slice.Eq.{bytes_eq-Decides}
use Rattle.text_words.specs.Line.{IsOneLine, CR}
use Rattle.text_words.specs.Number.{number_below}
use Rattle.text_words.specs.Spelling.{words_line}
use Rattle.text_words.proofs.NumberLemmas.{number_below-decimal}
use Rattle.text_words.proofs.Spaced.{IsPlain, literal, decimal_word, plain_words, plain_line, is_line, without_cr-text, words-spaced}
use Rattle.mc_types.specs.Fits.{FitsClassic, FitsStore, FitsCas, FitsFetch, FitsDelete, FitsTouch, FitsCount, IsAnswer}
use Rattle.mc_types.specs.declared.ask.Ask.{Ask}
use Rattle.mc_types.specs.declared.ask.Op.{Op}
use Rattle.mc_types.specs.declared.ask.Dialect.TheVariants.{Classic}
use Rattle.mc_types.specs.declared.ask.Op.TheVariants.{Get, Gat, Set, Add, Replace, Append, Prepend, Cas, Delete, Incr, Decr, Touch}
use Rattle.mc_types.specs.declared.answer.Answer.{Answer}
use Rattle.mc_types.specs.declared.answer.Answer.TheVariants as answers
use Rattle.mc_types.specs.declared.answer.Answer.TheVariants.{Stored, NotStored, Exists, NotFound, Deleted, Touched, Number, Miss, Meta, ClientError, Error, ServerError}
use Rattle.wire_answers.specs.declared.line_kinds.FirstLine.{FirstLine}
use Rattle.wire_answers.specs.declared.line_kinds.FirstLine.TheVariants.{Whole}
use Rattle.wire_answers.specs.Table.{looked_up, store_answers, of_cas, of_fetch, delete_answers, of_touch, count_answers, number_or, word_answer}
use Rattle.wire_answers.specs.FirstLine.{kind_of_line, words_said, error_text}
use Rattle.wire_answers.specs.Reading.{FollowsLine, Spells}

-- the bytes that begin with a line begin with what it says
pub spelled : (ask : Ask) (line rest : List ℕ) (answer : Answer) (after : ℕ) → IsOneLine line → length line < 65535 → FollowsLine (kind_of_line ask line) rest answer after
    → Spells ask ((line ++ codes "\r\n") ++ rest) answer (length line + 2 + after)
spelled ask line rest answer after one short f =
    let is = is_line (line ∷ []) rest (one, tt) short in
    record {
      text = line ++ CR ∷ [];
      rest = rest;
      after = after;
      line = is;
      follows = subst (λ (l : List ℕ). FollowsLine (kind_of_line ask l) rest answer after) (sym (without_cr-text line)) f;
      used_is = omega (arith, length-append line (CR ∷ []));
    }

-- no number is one of the words
no_number : (w word : List ℕ) (n : ℕ) → number_below (2 ^ 64) w ≡ Some n → number_below (2 ^ 64) word ≡ None → bytes_eq w word ≡ false
no_number w word n e none = elim (cases_Bool (bytes_eq w word)) [
  | inl same ↦ let is : w ≡ word = (bytes_eq-Decides w word).0 same in let f : Some n ≡ None = sym e ∙ ap (number_below (2 ^ 64)) is ∙ none in absurd cc
  | inr other ↦ other
]

-- the answers of one word
abbrev pub word_of : Answer → List ℕ
word_of Stored = codes "STORED"
word_of NotStored = codes "NOT_STORED"
word_of Exists = codes "EXISTS"
word_of NotFound = codes "NOT_FOUND"
word_of Deleted = codes "DELETED"
word_of Touched = codes "TOUCHED"
word_of (Number n) = decimal n
word_of Miss = codes "END"
word_of Error = codes "ERROR"
word_of _ = []

abbrev pub IsAlone : Answer → Type 0
IsAlone (answers.Hit flags body cas) = ⊥
IsAlone (Meta code fields) = ⊥
IsAlone (ClientError text) = ⊥
IsAlone (ServerError text) = ⊥
IsAlone _ = Unit {0}

no_command : (answer : Answer) → IsAnswer answer → IsAlone answer
    → (bytes_eq (word_of answer) (codes "CLIENT_ERROR") ≡ false) × (bytes_eq (word_of answer) (codes "SERVER_ERROR") ≡ false) × (bytes_eq (word_of answer) (codes "VALUE") ≡ false)
no_command Stored lt h = (refl, refl, refl)
no_command NotStored lt h = (refl, refl, refl)
no_command Exists lt h = (refl, refl, refl)
no_command NotFound lt h = (refl, refl, refl)
no_command Deleted lt h = (refl, refl, refl)
no_command Touched lt h = (refl, refl, refl)
no_command Miss lt h = (refl, refl, refl)
no_command Error lt h = (refl, refl, refl)
no_command (Number n) lt h =
    let is = number_below-decimal (2 ^ 64) n lt (omega arith) in
    (no_number (decimal n) (codes "CLIENT_ERROR") n is refl, no_number (decimal n) (codes "SERVER_ERROR") n is refl, no_number (decimal n) (codes "VALUE") n is refl)
no_command (answers.Hit flags body cas) lt h = absurd h
no_command (Meta code fields) lt h = absurd h
no_command (ClientError text) lt h = absurd h
no_command (ServerError text) lt h = absurd h

word_plain : (answer : Answer) → IsAnswer answer → IsAlone answer → IsPlain (word_of answer) × (length (word_of answer) ≤ 20)
word_plain Stored lt h = (literal (codes "STORED") refl (omega arith), omega arith)
word_plain NotStored lt h = (literal (codes "NOT_STORED") refl (omega arith), omega arith)
word_plain Exists lt h = (literal (codes "EXISTS") refl (omega arith), omega arith)
word_plain NotFound lt h = (literal (codes "NOT_FOUND") refl (omega arith), omega arith)
word_plain Deleted lt h = (literal (codes "DELETED") refl (omega arith), omega arith)
word_plain Touched lt h = (literal (codes "TOUCHED") refl (omega arith), omega arith)
word_plain Miss lt h = (literal (codes "END") refl (omega arith), omega arith)
word_plain Error lt h = (literal (codes "ERROR") refl (omega arith), omega arith)
word_plain (Number n) lt h = (decimal_word n lt, length-decimal-le 20 n (omega arith) (omega arith) lt)
word_plain (answers.Hit flags body cas) lt h = absurd h
word_plain (Meta code fields) lt h = absurd h
word_plain (ClientError text) lt h = absurd h
word_plain (ServerError text) lt h = absurd h

-- each fitting word is in its table
back_store : (a : Answer) → FitsStore a → IsAlone a → looked_up store_answers (word_of a) ≡ Some a
back_store Stored f h = refl
back_store NotStored f h = refl
back_store Error f h = refl
back_store (ClientError t) f h = absurd h
back_store (ServerError t) f h = absurd h
back_store _ f h = absurd cc

back_cas : (a : Answer) → FitsCas a → IsAlone a → looked_up of_cas (word_of a) ≡ Some a
back_cas Stored f h = refl
back_cas Exists f h = refl
back_cas NotFound f h = refl
back_cas Error f h = refl
back_cas (ClientError t) f h = absurd h
back_cas (ServerError t) f h = absurd h
back_cas _ f h = absurd cc

back_fetch : (wc : Bool) (a : Answer) → FitsFetch wc a → IsAlone a → looked_up of_fetch (word_of a) ≡ Some a
back_fetch wc Miss f h = refl
back_fetch wc Error f h = refl
back_fetch wc (answers.Hit flags body cas) f h = absurd h
back_fetch wc (ClientError t) f h = absurd h
back_fetch wc (ServerError t) f h = absurd h
back_fetch wc _ f h = absurd cc

back_delete : (a : Answer) → FitsDelete a → IsAlone a → looked_up delete_answers (word_of a) ≡ Some a
back_delete Deleted f h = refl
back_delete NotFound f h = refl
back_delete Error f h = refl
back_delete (ClientError t) f h = absurd h
back_delete (ServerError t) f h = absurd h
back_delete _ f h = absurd cc

back_touch : (a : Answer) → FitsTouch a → IsAlone a → looked_up of_touch (word_of a) ≡ Some a
back_touch Touched f h = refl
back_touch NotFound f h = refl
back_touch Error f h = refl
back_touch (ClientError t) f h = absurd h
back_touch (ServerError t) f h = absurd h
back_touch _ f h = absurd cc

back_count : (a : Answer) → IsAnswer a → FitsCount a → IsAlone a → number_or (word_of a) (looked_up count_answers (word_of a)) ≡ Some a
back_count NotFound lt f h = refl
back_count Error lt f h = refl
back_count (Number n) lt f h =
    let is = number_below-decimal (2 ^ 64) n lt (omega arith) in
    rw (no_number (decimal n) (codes "NOT_FOUND") n is refl, no_number (decimal n) (codes "ERROR") n is refl, is) refl
back_count (ClientError t) lt f h = absurd h
back_count (ServerError t) lt f h = absurd h
back_count _ lt f h = absurd cc

back_word : (op : Op) (wc : Bool) (a : Answer) → IsAnswer a → FitsClassic op wc a → IsAlone a → word_answer op (word_of a) ≡ Some a
back_word Get wc a lt f h = back_fetch wc a f h
back_word Gat wc a lt f h = back_fetch wc a f h
back_word Set wc a lt f h = back_store a f h
back_word Add wc a lt f h = back_store a f h
back_word Replace wc a lt f h = back_store a f h
back_word Append wc a lt f h = back_store a f h
back_word Prepend wc a lt f h = back_store a f h
back_word Cas wc a lt f h = back_cas a f h
back_word Delete wc a lt f h = back_delete a f h
back_word Incr wc a lt f h = back_count a lt f h
back_word Decr wc a lt f h = back_count a lt f h
back_word Touch wc a lt f h = back_touch a f h

-- a line of one word
alone_said : (ask : Ask) (w : List ℕ) (a : Answer) → ask.dialect ≡ Classic → IsPlain w → bytes_eq w (codes "CLIENT_ERROR") ≡ false → bytes_eq w (codes "SERVER_ERROR") ≡ false → bytes_eq w (codes "VALUE") ≡ false
    → word_answer ask.op w ≡ Some a → kind_of_line ask w ≡ Whole a
alone_said ask w a classic plain client server value is =
    ap (words_said ask (error_text w)) (words-spaced (w ∷ []) (plain_words (w ∷ []) (plain, tt))) ∙ rw (client, server, classic, value, is) refl

pub alone_back : (ask : Ask) (a : Answer) (more : List ℕ) → ask.dialect ≡ Classic → IsAnswer a → FitsClassic ask.op ask.with_cas a → IsAlone a
    → Spells ask (words_line (word_of a ∷ []) ++ more) a (length (words_line (word_of a ∷ [])))
alone_back ask a more classic lt f h =
    let w = word_of a in
    let plain = word_plain a lt h in
    let none = no_command a lt h in
    let says : kind_of_line ask w ≡ Whole a = alone_said ask w a classic plain.0 none.0 none.1 none.2 (back_word ask.op ask.with_cas a lt f h) in
    let follows : FollowsLine (kind_of_line ask w) more a 0 = subst (λ (s : FirstLine). FollowsLine s more a 0) (sym says) (refl, refl) in
    let all = spelled ask w more a 0 (plain_line w plain.0) (omega (arith, plain.1)) follows in
    subst (λ (n : ℕ). Spells ask (words_line (w ∷ []) ++ more) a n) (omega (arith, length-append w (codes "\r\n"))) all
