-- A reply that shows a part of an item shows one that was held.
use Rattle.std.proofs.Common.{◌≡◌, Bool, true, false, not, ◌&&◌, ◌||◌, is_some, List, [], ◌∷◌, Option, Some, ⊎_elim, refl, ap, ◌∙◌}
use Rattle.mc_types.specs.Tokens.{Letter, LetterC, LetterF, LetterK, LetterS, LetterT, LetterV, LetterO, letter_of, same_letter, has_letter, wants, are_served}
use Rattle.mc_types.specs.declared.token.Token.{Token}
use Rattle.mc_types.specs.declared.ask.Op.{Op}
use Rattle.mc_types.specs.declared.ask.Op.TheVariants.{Get, Gat, Set, Add, Replace, Append, Prepend, Cas, Delete, Incr, Decr, Touch}
use Rattle.mc_types.specs.declared.ask.Dialect.{Dialect}
use Rattle.mc_types.specs.declared.ask.Dialect.TheVariants as dialects
use Rattle.mc_types.specs.declared.ask.Ask.{Ask}
use Rattle.mc_types.specs.declared.answer.Code.{Code}
use Rattle.mc_types.specs.declared.answer.Code.TheVariants.{Hd, Va, En, Ns, Ex, Nf}
use Rattle.mc_types.specs.declared.answer.Fields.{Fields}
use Rattle.mc_types.specs.declared.answer.Answer.{Answer}
use Rattle.mc_types.specs.declared.answer.Answer.TheVariants.{Stored, NotStored, Exists, NotFound, Deleted, Touched, Number, Hit, Miss, Meta, ClientError, Error, ServerError}
use Rattle.mc_types.specs.Asks.{IsAsk, HasShapeOf, shape_of, of_store}
use Rattle.mc_types.specs.Fits.{Fits, FitsIn, FitsClassic, FitsMeta, FitsMetaCode, FitsStore, FitsCas, FitsFetch, FitsDelete, FitsTouch, FitsCount, FitsMetaStore, AreBare, is_error}
use Rattle.mc_types.specs.Items.{Item}
use Rattle.mc_types.specs.Agree.{AnswerAgrees, AgreesAs, AgreesFetch, AgreesCount}
use Rattle.mc_types.specs.Shows.{shows, fields_show}
use Rattle.fresh_runs.proofs.Lists.{bool_is}

-- An answer that shows a part of an item was given for one.

abbrev Held : Option Item → Type 0
Held held = (item : Item) × (held ≡ Some item)

same_letter_is : (a b : Letter) → same_letter a b ≡ true → a ≡ b
same_letter_is LetterC LetterC e = refl
same_letter_is LetterF LetterF e = refl
same_letter_is LetterK LetterK e = refl
same_letter_is LetterS LetterS e = refl
same_letter_is LetterT LetterT e = refl
same_letter_is LetterV LetterV e = refl
same_letter_is LetterO LetterO e = refl
same_letter_is _ _ e = absurd (cc)

both_left : (a b : Bool) → (a && b) ≡ true → a ≡ true
both_left true b e = refl
both_left false b e = absurd (cc)

both_right : (a b : Bool) → (a && b) ≡ true → b ≡ true
both_right true b e = e
both_right false b e = absurd (cc)

neither : (a b : Bool) → a ≡ false → b ≡ false → (a || b) ≡ false
neither true b e f = absurd (cc)
neither false b e f = f

-- a letter that isn't served is never wanted
never_wanted : (served : List Letter) (letter : Letter) (tokens : List Token) → has_letter served letter ≡ false → are_served served tokens ≡ true → wants tokens letter ≡ false
never_wanted served letter [] lacks h = refl
never_wanted served letter (t ∷ ts) lacks h =
    let two = both_left (has_letter served (letter_of t) && not (wants ts (letter_of t))) (are_served served ts) h in
    let mine = both_left (has_letter served (letter_of t)) (not (wants ts (letter_of t))) two in
    let rest = both_right (has_letter served (letter_of t) && not (wants ts (letter_of t))) (are_served served ts) h in
    let other : same_letter (letter_of t) letter ≡ false =
    ⊎_elim (λ same. absurd (let e = ap (has_letter served) (same_letter_is (letter_of t) letter same) in cc)) (λ n. n) (bool_is (same_letter (letter_of t) letter)) in
    neither (same_letter (letter_of t) letter) _ other (never_wanted served letter ts lacks rest)

error_is_dark : (answer : Answer) → is_error answer ≡ true → shows answer ≡ true → ⊥
error_is_dark (ClientError t) e h = cc
error_is_dark (ServerError t) e h = cc
error_is_dark Error e h = cc
error_is_dark _ e h = cc

dark_fields : (fields : Fields) → is_some fields.body ≡ false → is_some fields.flags ≡ false → is_some fields.size ≡ false → fields_show fields ≡ true → ⊥
dark_fields fields b f s h =
    let e : fields_show fields ≡ false = neither (is_some fields.body || is_some fields.flags) _ (neither (is_some fields.body) _ b f) s in cc

bare_is_dark : (fields : Fields) → AreBare fields → fields_show fields ≡ true → ⊥
bare_is_dark fields bare h = dark_fields fields bare.body_is bare.flags bare.size h

dark_store : (tokens : List Token) (code : Code) (fields : Fields) → are_served of_store tokens ≡ true → FitsMetaStore tokens code fields → fields_show fields ≡ true → ⊥
dark_store tokens Hd fields served fits h =
    dark_fields fields fits.body_is (fits.flags ∙ never_wanted of_store LetterF tokens refl served) (fits.size ∙ never_wanted of_store LetterS tokens refl served) h
dark_store tokens Ns fields served fits h = bare_is_dark fields fits h
dark_store tokens Ex fields served fits h = bare_is_dark fields fits h
dark_store tokens Nf fields served fits h = bare_is_dark fields fits h
dark_store tokens Va fields served fits h = fits
dark_store tokens En fields served fits h = fits

fetch_held : (with_cas : Bool) (answer : Answer) (held : Option Item) → FitsFetch with_cas answer → shows answer ≡ true → AgreesFetch answer held → Held held
fetch_held with_cas (Hit f b c) held fits h agrees = (agrees.0, agrees.1)
fetch_held with_cas Miss held fits h agrees = absurd (cc)
fetch_held with_cas answer held fits h agrees = absurd (error_is_dark answer fits h)

store_dark : (answer : Answer) → FitsStore answer → shows answer ≡ true → ⊥
store_dark Stored fits h = cc
store_dark NotStored fits h = cc
store_dark answer fits h = error_is_dark answer fits h

cas_dark : (answer : Answer) → FitsCas answer → shows answer ≡ true → ⊥
cas_dark Stored fits h = cc
cas_dark Exists fits h = cc
cas_dark NotFound fits h = cc
cas_dark answer fits h = error_is_dark answer fits h

delete_dark : (answer : Answer) → FitsDelete answer → shows answer ≡ true → ⊥
delete_dark Deleted fits h = cc
delete_dark NotFound fits h = cc
delete_dark answer fits h = error_is_dark answer fits h

touch_dark : (answer : Answer) → FitsTouch answer → shows answer ≡ true → ⊥
touch_dark Touched fits h = cc
touch_dark NotFound fits h = cc
touch_dark answer fits h = error_is_dark answer fits h

count_held : (ask : Ask) (answer : Answer) (held : Option Item) → FitsCount answer → shows answer ≡ true → AgreesCount ask answer held → Held held
count_held ask (Number n) held fits h agrees = (agrees.0, agrees.1)
count_held ask NotFound held fits h agrees = absurd (cc)
count_held ask answer held fits h agrees = absurd (error_is_dark answer fits h)

classic_held : (op : Op) (with_cas : Bool) (ask : Ask) (answer : Answer) (held : Option Item) → FitsClassic op with_cas answer → shows answer ≡ true → AgreesAs op ask answer held → Held held
classic_held Get with_cas ask answer held fits h agrees = fetch_held with_cas answer held fits h agrees
classic_held Gat with_cas ask answer held fits h agrees = fetch_held with_cas answer held fits h agrees
classic_held Set with_cas ask answer held fits h agrees = absurd (store_dark answer fits h)
classic_held Add with_cas ask answer held fits h agrees = absurd (store_dark answer fits h)
classic_held Replace with_cas ask answer held fits h agrees = absurd (store_dark answer fits h)
classic_held Append with_cas ask answer held fits h agrees = absurd (store_dark answer fits h)
classic_held Prepend with_cas ask answer held fits h agrees = absurd (store_dark answer fits h)
classic_held Cas with_cas ask answer held fits h agrees = absurd (cas_dark answer fits h)
classic_held Delete with_cas ask answer held fits h agrees = absurd (delete_dark answer fits h)
classic_held Incr with_cas ask answer held fits h agrees = count_held ask answer held fits h agrees
classic_held Decr with_cas ask answer held fits h agrees = count_held ask answer held fits h agrees
classic_held Touch with_cas ask answer held fits h agrees = absurd (touch_dark answer fits h)

meta_fetch_held : (op : Op) (tokens : List Token) (code : Code) (fields : Fields) (held : Option Item) → FitsMetaCode Get tokens code fields → fields_show fields ≡ true → AgreesFetch (Meta code fields) held → Held held
meta_fetch_held op tokens Va fields held fits h agrees = (agrees.0, agrees.1)
meta_fetch_held op tokens Hd fields held fits h agrees = (agrees.0, agrees.1)
meta_fetch_held op tokens En fields held fits h agrees = absurd (bare_is_dark fields fits h)
meta_fetch_held op tokens Ns fields held fits h agrees = absurd fits
meta_fetch_held op tokens Ex fields held fits h agrees = absurd fits
meta_fetch_held op tokens Nf fields held fits h agrees = absurd fits

meta_delete_dark : (code : Code) (fields : Fields) → FitsMetaCode Delete [] code fields → fields_show fields ≡ true → ⊥
meta_delete_dark Hd fields fits h = bare_is_dark fields fits h
meta_delete_dark Nf fields fits h = bare_is_dark fields fits h
meta_delete_dark Ex fields fits h = bare_is_dark fields fits h
meta_delete_dark Va fields fits h = fits
meta_delete_dark En fields fits h = fits
meta_delete_dark Ns fields fits h = fits

meta_count_held : (ask : Ask) (tokens : List Token) (code : Code) (fields : Fields) (held : Option Item) → FitsMetaCode Incr tokens code fields → fields_show fields ≡ true → AgreesCount ask (Meta code fields) held → Held held
meta_count_held ask tokens Va fields held fits h agrees = (agrees.1.0, agrees.1.1)
meta_count_held ask tokens Hd fields held fits h agrees = (agrees.1.0, agrees.1.1)
meta_count_held ask tokens Nf fields held fits h agrees = absurd (bare_is_dark fields fits h)
meta_count_held ask tokens Ns fields held fits h agrees = absurd (bare_is_dark fields fits h)
meta_count_held ask tokens Ex fields held fits h agrees = absurd (bare_is_dark fields fits h)
meta_count_held ask tokens En fields held fits h agrees = absurd fits

meta_code_held : (op : Op) (ask : Ask) (code : Code) (fields : Fields) (held : Option Item) → HasShapeOf ask (shape_of dialects.Meta op) → FitsMetaCode op ask.tokens code fields → fields_show fields ≡ true → AgreesAs op ask (Meta code fields) held → Held held
meta_code_held Get ask code fields held shape fits h agrees = meta_fetch_held Get ask.tokens code fields held fits h agrees
meta_code_held Gat ask code fields held shape fits h agrees = meta_fetch_held Get ask.tokens code fields held fits h agrees
meta_code_held Set ask code fields held shape fits h agrees = absurd (dark_store ask.tokens code fields shape.tokens fits h)
meta_code_held Add ask code fields held shape fits h agrees = absurd (dark_store ask.tokens code fields shape.tokens fits h)
meta_code_held Replace ask code fields held shape fits h agrees = absurd (dark_store ask.tokens code fields shape.tokens fits h)
meta_code_held Append ask code fields held shape fits h agrees = absurd (dark_store ask.tokens code fields shape.tokens fits h)
meta_code_held Prepend ask code fields held shape fits h agrees = absurd (dark_store ask.tokens code fields shape.tokens fits h)
meta_code_held Cas ask code fields held shape fits h agrees = absurd (dark_store ask.tokens code fields shape.tokens fits h)
meta_code_held Delete ask code fields held shape fits h agrees = absurd (meta_delete_dark code fields fits h)
meta_code_held Incr ask code fields held shape fits h agrees = meta_count_held ask ask.tokens code fields held fits h agrees
meta_code_held Decr ask code fields held shape fits h agrees = meta_count_held ask ask.tokens code fields held fits h agrees
meta_code_held Touch ask code fields held shape fits h agrees = absurd shape

meta_held : (op : Op) (ask : Ask) (answer : Answer) (held : Option Item) → HasShapeOf ask (shape_of dialects.Meta op) → FitsMeta op ask.tokens answer → shows answer ≡ true → AgreesAs op ask answer held → Held held
meta_held op ask (Meta code fields) held shape fits h agrees = meta_code_held op ask code fields held shape fits h agrees
meta_held op ask answer held shape fits h agrees = absurd (error_is_dark answer fits h)

in_dialect_held : (dialect : Dialect) (ask : Ask) (answer : Answer) (held : Option Item) → HasShapeOf ask (shape_of dialect ask.op) → FitsIn dialect ask answer → shows answer ≡ true → AnswerAgrees ask answer held → Held held
in_dialect_held dialects.Classic ask answer held shape fits h agrees = classic_held ask.op ask.with_cas ask answer held fits h agrees
in_dialect_held dialects.Meta ask answer held shape fits h agrees = meta_held ask.op ask answer held shape fits h agrees

pub shown_needs_item : (ask : Ask) (answer : Answer) (held : Option Item) → IsAsk ask → Fits ask answer → shows answer ≡ true → AnswerAgrees ask answer held → Held held
shown_needs_item ask answer held asked fits h agrees = in_dialect_held ask.dialect ask answer held asked.shape fits.listed h agrees
