-- What the answer to the meta form says to the ask.
use Rattle.std.proofs.Common.{◌≡◌, ℕ, true, false, Bool, List, Option, Some, None, is_some, IfSome, IsSome, ◌++◌, length, refl, sym, ◌∙◌, subst}
use Rattle.mc_types.specs.Tokens.{wants, LetterC, LetterF}
use Rattle.mc_types.specs.Asks.{IsAsk}
use Rattle.mc_types.specs.Fits.{Fits, FitsIn, FitsClassic, FitsFetch, FitsMetaCode, FitsMetaFetch, IsAnswer}
use Rattle.mc_types.specs.declared.ask.Op.{Op}
use Rattle.mc_types.specs.declared.ask.Op.TheVariants as ops
use Rattle.mc_types.specs.declared.ask.Dialect.{Dialect}
use Rattle.mc_types.specs.declared.ask.Dialect.TheVariants as dialects
use Rattle.mc_types.specs.declared.ask.Ask.{Ask}
use Rattle.mc_types.specs.declared.token.Token.{Token}
use Rattle.mc_types.specs.declared.answer.Code.{Code}
use Rattle.mc_types.specs.declared.answer.Code.TheVariants.{Hd, Va, En, Ns, Ex, Nf}
use Rattle.mc_types.specs.declared.answer.Fields.{Fields}
use Rattle.mc_types.specs.declared.answer.Answer.{Answer}
use Rattle.mc_types.specs.declared.answer.Answer.TheVariants.{Stored, NotStored, Exists, NotFound, Deleted, Touched, Number, Hit, Miss, Meta, ClientError, Error, ServerError}
use Rattle.wire_answers.specs.Laws.{SpelledAnswersFit}
use Rattle.wire_answers.specs.Spelling.{answer_spelling}
use Rattle.wire_answers.proofs.Reading.{one_answer}
use Rattle.wire_answers.proofs.ReadBack.{answers_are_read_back}
use Rattle.wire_answers.specs.Reading.{Spells, ReadsAnswer}
use Rattle.wire_answers.specs.declared.reader.AnswerRead.{AnswerRead}
use Rattle.wire_answers.specs.declared.reader.AnswerRead.TheVariants as reads
use Rattle.wire_stream.specs.Replies.{shows_values}
use Rattle.wire_stream.specs.Form.{is_retrieval, wanted, meta_form, in_meta}
use Rattle.wire_stream.specs.Reading.{SaysSame, SaysSameIf, IsTold, ReadsInMeta}
use Rattle.wire_stream.specs.MetaLaws.{AnswersAreRead, OneMetaAnswer}
use Rattle.wire_stream.proofs.Forms.{form_is_ask, in_meta_is, in_meta_else, texts_are}

some_of : {A : Type 0} (o : Option A) → is_some o ≡ true → IsSome o
some_of o e = e

cas_wanted : (with_cas : Bool) → wants (wanted with_cas) LetterC ≡ with_cas
cas_wanted true = refl
cas_wanted false = refl

flags_wanted : (with_cas : Bool) → wants (wanted with_cas) LetterF ≡ true
flags_wanted true = refl
flags_wanted false = refl

-- a code that answers a get
fetch_is : (dialect : Dialect) (op : Op) (tokens : List Token) (code : Code) (fields : Fields) → shows_values dialect op ≡ true → FitsMetaCode op tokens code fields → FitsMetaFetch tokens code fields
fetch_is dialects.Classic ops.Get tokens code fields e fits = fits
fetch_is dialects.Classic ops.Gat tokens code fields e fits = fits
fetch_is dialects.Classic ops.Set tokens code fields e fits = absurd cc
fetch_is dialects.Classic ops.Add tokens code fields e fits = absurd cc
fetch_is dialects.Classic ops.Replace tokens code fields e fits = absurd cc
fetch_is dialects.Classic ops.Append tokens code fields e fits = absurd cc
fetch_is dialects.Classic ops.Prepend tokens code fields e fits = absurd cc
fetch_is dialects.Classic ops.Cas tokens code fields e fits = absurd cc
fetch_is dialects.Classic ops.Delete tokens code fields e fits = absurd cc
fetch_is dialects.Classic ops.Incr tokens code fields e fits = absurd cc
fetch_is dialects.Classic ops.Decr tokens code fields e fits = absurd cc
fetch_is dialects.Classic ops.Touch tokens code fields e fits = absurd cc
fetch_is dialects.Meta op tokens code fields e fits = absurd cc

-- what answers a get answers this ask
classic_is : (dialect : Dialect) (op : Op) (with_cas : Bool) (answer : Answer) → shows_values dialect op ≡ true → FitsFetch with_cas answer → FitsClassic op with_cas answer
classic_is dialects.Classic ops.Get with_cas answer e fits = fits
classic_is dialects.Classic ops.Gat with_cas answer e fits = fits
classic_is dialects.Classic ops.Set with_cas answer e fits = absurd cc
classic_is dialects.Classic ops.Add with_cas answer e fits = absurd cc
classic_is dialects.Classic ops.Replace with_cas answer e fits = absurd cc
classic_is dialects.Classic ops.Append with_cas answer e fits = absurd cc
classic_is dialects.Classic ops.Prepend with_cas answer e fits = absurd cc
classic_is dialects.Classic ops.Cas with_cas answer e fits = absurd cc
classic_is dialects.Classic ops.Delete with_cas answer e fits = absurd cc
classic_is dialects.Classic ops.Incr with_cas answer e fits = absurd cc
classic_is dialects.Classic ops.Decr with_cas answer e fits = absurd cc
classic_is dialects.Classic ops.Touch with_cas answer e fits = absurd cc
classic_is dialects.Meta op with_cas answer e fits = absurd cc

in_classic : (ask : Ask) (dialect : Dialect) (answer : Answer) → shows_values dialect ask.op ≡ true → FitsClassic ask.op ask.with_cas answer → FitsIn dialect ask answer
in_classic ask dialects.Classic answer e fits = fits
in_classic ask dialects.Meta answer e fits = absurd cc

pub fits_by : (ask : Ask) (answer : Answer) → is_retrieval ask ≡ true → IsAnswer answer → FitsFetch ask.with_cas answer → Fits ask answer
fits_by ask answer e ranges fits = record { ranges = ranges; listed = in_classic ask ask.dialect answer e (classic_is ask.dialect ask.op ask.with_cas answer e fits) }

range_of : {A : Type 0} (P : A → Type 0) (o : Option A) (x : A) → o ≡ Some x → IfSome o P → P x
range_of P o x e h = subst (λ (p : Option _). IfSome p P) e h

-- an answer that fits the form has what is translated
pub told_is : (ask : Ask) (told : Answer) → is_retrieval ask ≡ true → Fits (meta_form ask) told → IsTold told
told_is ask (Meta Va fields) e fits =
    let f = fetch_is ask.dialect ask.op (wanted ask.with_cas) Va fields e fits.listed in
    (some_of fields.flags (f.1.flags ∙ flags_wanted ask.with_cas), some_of fields.body f.1.body_is)
told_is ask (Meta En fields) e fits = tt
told_is ask (Meta Hd fields) e fits = (elim ask.with_cas as (λ b. FitsMetaFetch (wanted b) Hd fields → ⊥) [ true ↦ λ f. absurd cc | false ↦ λ f. absurd cc ]) (fetch_is ask.dialect ask.op (wanted ask.with_cas) Hd fields e fits.listed)
told_is ask (Meta Ns fields) e fits = fetch_is ask.dialect ask.op (wanted ask.with_cas) Ns fields e fits.listed
told_is ask (Meta Ex fields) e fits = fetch_is ask.dialect ask.op (wanted ask.with_cas) Ex fields e fits.listed
told_is ask (Meta Nf fields) e fits = fetch_is ask.dialect ask.op (wanted ask.with_cas) Nf fields e fits.listed
told_is ask told e fits = tt

-- an answer that says what was told in meta form fits the ask
pub fits_back : (ask : Ask) (told answer : Answer) → is_retrieval ask ≡ true → Fits (meta_form ask) told → SaysSame told answer → Fits ask answer
fits_back ask (Meta Va fields) answer e fits says =
    let f = fetch_is ask.dialect ask.op (wanted ask.with_cas) Va fields e fits.listed in
    let ranges : IsAnswer (Hit says.0 says.1 fields.cas) = (range_of _ fields.flags says.0 says.2 fits.ranges.flags, range_of _ fields.body says.1 says.3 fits.ranges.body, fits.ranges.cas) in
    subst (Fits ask) (sym says.4) (fits_by ask (Hit says.0 says.1 fields.cas) e ranges (f.1.cas ∙ cas_wanted ask.with_cas))
fits_back ask (Meta En fields) answer e fits says = subst (Fits ask) (sym says) (fits_by ask Miss e tt tt)
fits_back ask (Meta Hd fields) answer e fits says = absurd says
fits_back ask (Meta Ns fields) answer e fits says = absurd says
fits_back ask (Meta Ex fields) answer e fits says = absurd says
fits_back ask (Meta Nf fields) answer e fits says = absurd says
fits_back ask Stored answer e fits says = absurd (let h : false ≡ true = fits.listed in cc)
fits_back ask NotStored answer e fits says = absurd (let h : false ≡ true = fits.listed in cc)
fits_back ask Exists answer e fits says = absurd (let h : false ≡ true = fits.listed in cc)
fits_back ask NotFound answer e fits says = absurd (let h : false ≡ true = fits.listed in cc)
fits_back ask Deleted answer e fits says = absurd (let h : false ≡ true = fits.listed in cc)
fits_back ask Touched answer e fits says = absurd (let h : false ≡ true = fits.listed in cc)
fits_back ask (Number n) answer e fits says = absurd (let h : false ≡ true = fits.listed in cc)
fits_back ask (Hit flags body cas) answer e fits says = absurd (let h : false ≡ true = fits.listed in cc)
fits_back ask Miss answer e fits says = absurd (let h : false ≡ true = fits.listed in cc)
fits_back ask (ClientError text) answer e fits says = subst (Fits ask) (sym says) (fits_by ask (ClientError text) e fits.ranges refl)
fits_back ask Error answer e fits says = subst (Fits ask) (sym says) (fits_by ask Error e tt refl)
fits_back ask (ServerError text) answer e fits says = subst (Fits ask) (sym says) (fits_by ask (ServerError text) e fits.ranges refl)

-- an ask that isn't translated
pub reads_as_it_is : SpelledAnswersFit → (ask : Ask) (bytes : List ℕ) (read : AnswerRead) → IsAsk ask → is_retrieval ask ≡ false → ReadsAnswer ask bytes read → ReadsInMeta ask bytes read
reads_as_it_is fit ask bytes (reads.Answer answer used) is e read = (
  record {
    told = answer;
    spells = subst (λ x. Spells x bytes answer used) (sym (in_meta_else ask e)) read;
    says = subst (λ b. SaysSameIf b answer answer) (sym e) refl;
  },
  fit ask bytes answer used is read,
)
reads_as_it_is fit ask bytes reads.More is e read = subst (λ x. ReadsAnswer x bytes reads.More) (sym (in_meta_else ask e)) read
reads_as_it_is fit ask bytes reads.Foreign is e read = subst (λ x. ReadsAnswer x bytes reads.Foreign) (sym (in_meta_else ask e)) read

pub told_fits : SpelledAnswersFit → (ask form : Ask) (bytes : List ℕ) (told : Answer) (used : ℕ) → IsAsk ask → is_retrieval ask ≡ true → form ≡ meta_form ask → Spells form bytes told used → IsTold told
told_fits fit ask form bytes told used is e same spells = told_is ask told e (fit (meta_form ask) bytes told used (form_is_ask ask is e) (subst (λ x. Spells x bytes told used) same spells))

-- an answer that was translated
pub reads_answer : SpelledAnswersFit → (ask form : Ask) (bytes : List ℕ) (read : AnswerRead) (told answer : Answer) (used : ℕ) → IsAsk ask → is_retrieval ask ≡ true → form ≡ meta_form ask
    → ReadsAnswer form bytes read → read ≡ reads.Answer told used → SaysSame told answer → ReadsInMeta ask bytes (reads.Answer answer used)
reads_answer fit ask form bytes read told answer used is e same h told_is says =
    let spells : Spells (meta_form ask) bytes told used = subst (λ x. Spells x bytes told used) same (subst (ReadsAnswer form bytes) told_is h) in (
      record {
        told = told;
        spells = subst (λ x. Spells x bytes told used) (sym (in_meta_is ask e)) spells;
        says = subst (λ b. SaysSameIf b told answer) (sym e) says;
      },
      fits_back ask told answer e (fit (meta_form ask) bytes told used (form_is_ask ask is e) spells) says,
    )

-- where the bytes hold no answer in meta form, none is read
pub reads_none : (ask form : Ask) (bytes : List ℕ) (read none : AnswerRead) → is_retrieval ask ≡ true → form ≡ meta_form ask → ReadsAnswer form bytes read → read ≡ none → ReadsAnswer (in_meta ask) bytes none
reads_none ask form bytes read none e same h is = subst (λ x. ReadsAnswer x bytes none) (same ∙ sym (in_meta_is ask e)) (subst (ReadsAnswer form bytes) is h)

-- the classic answer is determined by what was told
pub says_once : (retrieves : Bool) (told a b : Answer) → SaysSameIf retrieves told a → SaysSameIf retrieves told b → a ≡ b
says_once false told a b s t = s ∙ sym t
says_once true (Meta Va fields) a b s t =
    let flags : s.0 ≡ t.0 = same_some (sym s.2 ∙ t.2) in
    let body : s.1 ≡ t.1 = same_some (sym s.3 ∙ t.3) in
    s.4 ∙ rw (flags, body) (sym t.4)
  where
    same_some : {A : Type 0} {x y : A} → ◌≡◌ {A = Option A} (Some x) (Some y) → x ≡ y
    same_some e = cc
says_once true (Meta En fields) a b s t = s ∙ sym t
says_once true (Meta Hd fields) a b s t = absurd s
says_once true (Meta Ns fields) a b s t = absurd s
says_once true (Meta Ex fields) a b s t = absurd s
says_once true (Meta Nf fields) a b s t = absurd s
says_once true told a b s t = s ∙ sym t

pub one_answer_is : OneMetaAnswer
one_answer_is ask bytes a b m n s t =
    let same = one_answer (in_meta ask) bytes s.told t.told m n s.spells t.spells in
    (says_once (is_retrieval ask) s.told a b s.says (subst (λ x. SaysSameIf (is_retrieval ask) x b) (sym same.0) t.says), same.1)

value_of : {A : Type 0} (o : Option A) → IsSome o → (x : A) × (o ≡ Some x)
value_of None e = absurd cc
value_of (Some x) e = (x, refl)

-- what was told in meta form says some classic answer
says_some : (told : Answer) → IsTold told → (answer : Answer) × SaysSame told answer
says_some (Meta Va fields) is =
    let flags = value_of fields.flags is.0 in
    let body = value_of fields.body is.1 in
    (Hit flags.0 body.0 fields.cas, (flags.0, body.0, flags.1, body.1, refl))
says_some (Meta En fields) is = (Miss, refl)
says_some (Meta Hd fields) is = absurd is
says_some (Meta Ns fields) is = absurd is
says_some (Meta Ex fields) is = absurd is
says_some (Meta Nf fields) is = absurd is
says_some told is = (told, refl)

pub answers_are_read_is : AnswersAreRead
answers_are_read_is ask told more is e fits =
    let said = says_some told (told_is ask told e fits) in
    let spells = answers_are_read_back (meta_form ask) told more (form_is_ask ask is e) (texts_are ask.with_cas) fits in (
      said.0,
      said.1,
      record {
        told = told;
        spells = subst (λ x. Spells x (answer_spelling (meta_form ask) told ++ more) told (length (answer_spelling (meta_form ask) told))) (sym (in_meta_is ask e)) spells;
        says = subst (λ b. SaysSameIf b told said.0) (sym e) said.1;
      },
    )
