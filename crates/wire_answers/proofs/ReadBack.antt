-- What was written is read back.
use Rattle.std.proofs.Common.{◌≡◌, ◌≢◌, ℕ, ◌≤◌, Bool, true, false, ◌&&◌, List, [], ◌∷◌, ◌++◌, length, refl, sym, ap, subst, ◌∙◌, arith}
use Rattle.std.specs.Prelude.{codes}
use Rattle.std.specs.List.{list_all}
use Rattle.std.proofs.lemmas.Bool.{le-leb}
use Rattle.std.proofs.lemmas.List.{length-append}
use Rattle.std.proofs.lemmas.List.Elements.{All-append, All-cons, All-nil}
use Rattle.text_words.specs.Line.{IsOneLine, LF}
use Rattle.text_words.specs.Spelling.{spaced}
use Rattle.text_words.proofs.Spaced.{IsPlain, literal, plain_line}
use Rattle.mc_types.specs.KeyText.{IsKey}
use Rattle.mc_types.specs.Asks.{HasShapeOf, shape_of, meta_shape}
use Rattle.wire_answers.specs.Fitting.{AreTexts}
use Rattle.mc_types.specs.Fits.{FitsIn, FitsClassic, FitsMeta, IsAnswer, IsErrorText, is_text_byte}
use Rattle.mc_types.specs.declared.ask.Ask.{Ask}
use Rattle.mc_types.specs.declared.ask.Op.{Op}
use Rattle.mc_types.specs.declared.ask.Op.TheVariants.{Get, Gat, Set, Add, Replace, Append, Prepend, Cas, Delete, Incr, Decr, Touch}
use Rattle.mc_types.specs.declared.ask.Dialect.{Dialect}
use Rattle.mc_types.specs.declared.ask.Dialect.TheVariants as dialects
use Rattle.mc_types.specs.declared.ask.Dialect.TheVariants.{Classic}
use Rattle.mc_types.specs.declared.answer.Answer.{Answer}
use Rattle.mc_types.specs.declared.answer.Code.{Code}
use Rattle.mc_types.specs.declared.answer.Fields.{Fields}
use Rattle.mc_types.specs.declared.answer.Answer.TheVariants as answers
use Rattle.mc_types.specs.declared.answer.Answer.TheVariants.{Stored, NotStored, Exists, NotFound, Deleted, Touched, Number, Miss, Meta, ClientError, Error, ServerError}
use Rattle.wire_answers.specs.declared.line_kinds.FirstLine.{FirstLine}
use Rattle.wire_answers.specs.declared.line_kinds.FirstLine.TheVariants.{Whole}
use Rattle.wire_answers.specs.Spelling.{error_words, error_line, answer_spelling}
use Rattle.wire_answers.specs.FirstLine.{kind_of_line, is_error_text}
use Rattle.wire_answers.specs.Reading.{FollowsLine, Spells}
use Rattle.wire_answers.specs.Laws.{AnswersAreReadBack}
use Rattle.wire_answers.proofs.WordBack.{spelled, alone_back}
use Rattle.wire_answers.proofs.HitBack.{hit_back}
use Rattle.wire_answers.proofs.MetaBack.{meta_back, meta_error_back}

both : (a b : Bool) → (a && b) ≡ true → (a ≡ true) × (b ≡ true)
both true b e = (refl, e)
both false b e = absurd cc

-- error lines
text_read : (text : List ℕ) → IsErrorText text → is_error_text text ≡ true
text_read text h = rw (le-leb (length text) 1024 h.short, h.bytes) refl

no_line_end : (b : ℕ) → is_text_byte b ≡ true → b ≢ LF
no_line_end b e is = let f : is_text_byte 10 ≡ true = sym (ap is_text_byte is) ∙ e in cc

text_line : (text : List ℕ) → list_all is_text_byte text ≡ true → IsOneLine text
text_line [] e = All-nil (λ b. b ≢ LF)
text_line (b ∷ text) e = let parts = both (is_text_byte b) (list_all is_text_byte text) e in All-cons (λ b. b ≢ LF) b text (no_line_end b parts.0) (text_line text parts.1)

error_back : (ask : Ask) (word text more : List ℕ) (error : List ℕ → Answer) → IsPlain word → length word ≤ 20 → IsErrorText text
    → kind_of_line ask (spaced (error_words word text)) ≡ Whole (error text) → Spells ask (error_line word text ++ more) (error text) (length (error_line word text))
error_back ask word [] more error plain len is says =
    let all = spelled ask word more (error []) 0 (plain_line word plain) (omega arith) (subst (λ (s : FirstLine). FollowsLine s more (error []) 0) (sym says) (refl, refl)) in
    subst (λ (n : ℕ). Spells ask (error_line word [] ++ more) (error []) n) (omega (arith, length-append word (codes "\r\n"))) all
error_back ask word (b ∷ text) more error plain len is says =
    let line = word ++ 32 ∷ (b ∷ text) in
    let one : IsOneLine line = All-append (λ c. c ≢ LF) word (32 ∷ (b ∷ text)) (plain_line word plain) (All-cons (λ c. c ≢ LF) 32 (b ∷ text) (λ e. cc) (text_line (b ∷ text) is.bytes)) in
    let short = is.short in
    let all = spelled ask line more (error (b ∷ text)) 0 one (omega (arith, length-append word (32 ∷ (b ∷ text)))) (subst (λ (s : FirstLine). FollowsLine s more (error (b ∷ text)) 0) (sym says) (refl, refl)) in
    subst (λ (n : ℕ). Spells ask (error_line word (b ∷ text) ++ more) (error (b ∷ text)) n) (omega (arith, length-append line (codes "\r\n"))) all

client_said : (ask : Ask) (text : List ℕ) → IsErrorText text → kind_of_line ask (spaced (error_words (codes "CLIENT_ERROR") text)) ≡ Whole (ClientError text)
client_said ask [] h = refl
client_said ask (b ∷ text) h = rw (text_read (b ∷ text) h) refl

server_said : (ask : Ask) (text : List ℕ) → IsErrorText text → kind_of_line ask (spaced (error_words (codes "SERVER_ERROR") text)) ≡ Whole (ServerError text)
server_said ask [] h = refl
server_said ask (b ∷ text) h = rw (text_read (b ∷ text) h) refl

meta_never : (op : Op) (wc : Bool) (code : Code) (fields : Fields) → FitsClassic op wc (Meta code fields) → ⊥
meta_never Get wc code fields f = cc
meta_never Gat wc code fields f = cc
meta_never Set wc code fields f = cc
meta_never Add wc code fields f = cc
meta_never Replace wc code fields f = cc
meta_never Append wc code fields f = cc
meta_never Prepend wc code fields f = cc
meta_never Cas wc code fields f = cc
meta_never Delete wc code fields f = cc
meta_never Incr wc code fields f = cc
meta_never Decr wc code fields f = cc
meta_never Touch wc code fields f = cc

go : (ask : Ask) (answer : Answer) (more : List ℕ) → ask.dialect ≡ Classic → IsKey ask.key → IsAnswer answer → FitsClassic ask.op ask.with_cas answer → Spells ask (answer_spelling ask answer ++ more) answer (length (answer_spelling ask answer))
go ask Stored more classic k r f = alone_back ask Stored more classic r f tt
go ask NotStored more classic k r f = alone_back ask NotStored more classic r f tt
go ask Exists more classic k r f = alone_back ask Exists more classic r f tt
go ask NotFound more classic k r f = alone_back ask NotFound more classic r f tt
go ask Deleted more classic k r f = alone_back ask Deleted more classic r f tt
go ask Touched more classic k r f = alone_back ask Touched more classic r f tt
go ask (Number n) more classic k r f = alone_back ask (Number n) more classic r f tt
go ask (answers.Hit flags body cas) more classic k r f = hit_back ask flags body cas more classic k r f
go ask Miss more classic k r f = alone_back ask Miss more classic r f tt
go ask (Meta code fields) more classic k r f = absurd (meta_never ask.op ask.with_cas code fields f)
go ask (ClientError text) more classic k r f = error_back ask (codes "CLIENT_ERROR") text more ClientError (literal (codes "CLIENT_ERROR") refl (omega arith)) (omega arith) r (client_said ask text r)
go ask Error more classic k r f = alone_back ask Error more classic r f tt
go ask (ServerError text) more classic k r f = error_back ask (codes "SERVER_ERROR") text more ServerError (literal (codes "SERVER_ERROR") refl (omega arith)) (omega arith) r (server_said ask text r)

in_dialect : (ask : Ask) (answer : Answer) (more : List ℕ) (dialect : Dialect) → ask.dialect ≡ dialect → IsKey ask.key → AreTexts ask.tokens → HasShapeOf ask (shape_of dialect ask.op) → IsAnswer answer → FitsIn dialect ask answer
    → Spells ask (answer_spelling ask answer ++ more) answer (length (answer_spelling ask answer))
in_dialect ask answer more Classic is key texts shape ranges fits = go ask answer more is key ranges fits
in_dialect ask answer more dialects.Meta is key texts shape ranges fits = meta ask answer more is key texts shape ranges fits
  where
    meta : (ask : Ask) (answer : Answer) (more : List ℕ) → ask.dialect ≡ dialects.Meta → IsKey ask.key → AreTexts ask.tokens → HasShapeOf ask (meta_shape ask.op) → IsAnswer answer → FitsMeta ask.op ask.tokens answer
        → Spells ask (answer_spelling ask answer ++ more) answer (length (answer_spelling ask answer))
    meta ask (Meta code fields) more is k x s r f = meta_back ask code fields more is k x s r f
    meta ask (ClientError text) more is k x s r f = error_back ask (codes "CLIENT_ERROR") text more ClientError (literal (codes "CLIENT_ERROR") refl (omega arith)) (omega arith) r (client_said ask text r)
    meta ask (ServerError text) more is k x s r f = error_back ask (codes "SERVER_ERROR") text more ServerError (literal (codes "SERVER_ERROR") refl (omega arith)) (omega arith) r (server_said ask text r)
    meta ask Error more is k x s r f = meta_error_back ask more is
    meta ask Stored more is k x s r f = absurd cc
    meta ask NotStored more is k x s r f = absurd cc
    meta ask Exists more is k x s r f = absurd cc
    meta ask NotFound more is k x s r f = absurd cc
    meta ask Deleted more is k x s r f = absurd cc
    meta ask Touched more is k x s r f = absurd cc
    meta ask (Number n) more is k x s r f = absurd cc
    meta ask (answers.Hit flags body cas) more is k x s r f = absurd cc
    meta ask Miss more is k x s r f = absurd cc

pub answers_are_read_back : AnswersAreReadBack
answers_are_read_back ask answer more is texts fits = in_dialect ask answer more ask.dialect refl is.key texts is.shape fits.ranges fits.listed
