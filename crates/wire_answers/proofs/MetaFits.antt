-- What a line says to a meta ask fits it.
use Rattle.std.proofs.Common.{◌≡◌, ℕ, ◌^◌, ◌≤◌, Bool, true, false, List, [], ◌∷◌, length, Option, Some, None, is_some, IfSome, refl, sym, subst, ◌∙◌, arith}
use Rattle.std.specs.Prelude.{codes}
use Rattle.std.specs.Str.{bytes_eq}
use Rattle.std.proofs.lemmas.Bool.{cond_both}
use Rattle.text_words.specs.Number.{number_below}
use Rattle.text_words.specs.Word.{words}
use Rattle.mc_types.specs.Asks.{data_limit, HasShapeOf, shape_of, meta_shape}
use Rattle.mc_types.specs.Fits.{FitsIn, FitsMeta, IsAnswer, IsErrorText}
use Rattle.mc_types.specs.declared.ask.Ask.{Ask}
use Rattle.mc_types.specs.declared.ask.Dialect.{Dialect}
use Rattle.mc_types.specs.declared.ask.Dialect.TheVariants as dialects
use Rattle.mc_types.specs.declared.answer.Answer.{Answer}
use Rattle.mc_types.specs.declared.answer.Answer.TheVariants as answers
use Rattle.wire_answers.specs.declared.meta.line.MetaLine.{MetaLine}
use Rattle.wire_answers.specs.declared.meta.line.MetaLine.TheVariants as lines
use Rattle.wire_answers.specs.Told.{none_told, fields_told}
use Rattle.wire_answers.specs.Line.{meta_said}
use Rattle.wire_answers.proofs.MetaFitLemmas.{IsLineOf, said_is, told_stand, told_range}
use Rattle.wire_answers.proofs.Fitting.{none_bare, none_range, hd_fits, bare_fits, va_fits}
use Rattle.wire_answers.specs.declared.line_kinds.FirstLine.{FirstLine}
use Rattle.wire_answers.specs.declared.line_kinds.FirstLine.TheVariants.{Whole, Hit, Value, NoAnswer}
use Rattle.wire_answers.specs.FirstLine.{kind_of_line, words_said, error_said, error_text, is_error_word, line_or_foreign, meta_or_error, in_dialect}
use Rattle.wire_answers.specs.Reading.{FollowsLine, is_data}
use Rattle.wire_answers.proofs.FitLemmas.{text_is, classic_taken}
use Rattle.wire_answers.specs.Laws.{SpelledAnswersFit}
use Rattle.text_words.specs.Line.{without_cr}

module _ (ask : Ask) (shape : HasShapeOf ask (meta_shape ask.op)) where
  abbrev pub Taken : Answer → Type 0
  Taken answer = IsAnswer answer × FitsMeta ask.op ask.tokens answer

  abbrev pub SaidFits : FirstLine → Type 0
  SaidFits (Whole answer) = Taken answer
  SaidFits (Hit hit) = ⊥
  SaidFits (Value line) = IsLineOf ask (lines.Value line)
  SaidFits NoAnswer = Unit {0}

  client_fits : (o : Option (List ℕ)) → IfSome o IsErrorText → SaidFits (error_said answers.ClientError o)
  client_fits (Some text) h = (h, refl)
  client_fits None h = tt

  server_fits : (o : Option (List ℕ)) → IfSome o IsErrorText → SaidFits (error_said answers.ServerError o)
  server_fits (Some text) h = (h, refl)
  server_fits None h = tt

  line_fits : (o : Option MetaLine) → IfSome o (IsLineOf ask) → SaidFits (line_or_foreign o)
  line_fits None h = tt
  line_fits (Some (lines.Done told)) h = (told_range ask told None tt h.0.0, hd_fits ask.op ask.tokens (fields_told told None) ask refl shape h.1 (told_stand ask told None false refl h.0.1))
  line_fits (Some (lines.Value line)) h = h
  line_fits (Some (lines.Other code)) h = (none_range, bare_fits ask.op ask.tokens code (fields_told none_told None) h.1 h.0 none_bare)

  meta_fits : (w : List ℕ) (ws : List (List ℕ)) → SaidFits (meta_or_error ask w ws)
  meta_fits w ws = cond_both (is_error_word w ws) (Whole answers.Error) (line_or_foreign (meta_said ask w ws)) SaidFits (λ yes. (tt, refl)) (λ no. line_fits (meta_said ask w ws) (said_is ask w ws))

  words_fit : ask.dialect ≡ dialects.Meta → (text : Option (List ℕ)) (ws : List (List ℕ)) → IfSome text IsErrorText → SaidFits (words_said ask text ws)
  words_fit is text [] h = tt
  words_fit is text (w ∷ more) h =
      cond_both (bytes_eq w (codes "CLIENT_ERROR")) _ _ SaidFits (λ client. client_fits text h)
      (λ no. cond_both (bytes_eq w (codes "SERVER_ERROR")) _ _ SaidFits (λ server. server_fits text h)
      (λ no. subst (λ (d : Dialect). SaidFits (in_dialect d ask w more)) (sym is) (meta_fits w more)))

  is_number : (b : Bool) (body : List ℕ) → is_data b body ≡ true → b ≡ true → is_some (number_below (2 ^ 64) body) ≡ true
  is_number true body e at = e
  is_number false body e at = absurd cc

  follows_fit : (s : FirstLine) (rest : List ℕ) (answer : Answer) (used : ℕ) → SaidFits s → FollowsLine s rest answer used → Taken answer
  follows_fit (Whole x) rest answer used h f = subst Taken (sym f.0) h
  follows_fit (Hit hit) rest answer used h f = absurd h
  follows_fit (Value line) rest answer used h f =
      let le : length f.0 ≤ data_limit = omega (arith, f.3, h.2) in
      subst Taken (sym f.2) (
        told_range ask line.told (Some f.0) le h.0.0,
        va_fits ask.op ask.tokens (fields_told line.told (Some f.0)) f.0 line.len refl h.1 (told_stand ask line.told (Some f.0) true refl h.0.1) h.3 f.3 (λ at. is_number line.is_number f.0 f.6 (h.4 ∙ at)),
      )
  follows_fit NoAnswer rest answer used h f = absurd f

  pub meta_taken : ask.dialect ≡ dialects.Meta → (line rest : List ℕ) (answer : Answer) (used : ℕ) → FollowsLine (kind_of_line ask line) rest answer used → Taken answer
  meta_taken is line rest answer used f = follows_fit (kind_of_line ask line) rest answer used (words_fit is (error_text line) (words line) (text_is line)) f

fits_in : (ask : Ask) (dialect : Dialect) → ask.dialect ≡ dialect → HasShapeOf ask (shape_of dialect ask.op) → (line rest : List ℕ) (answer : Answer) (used : ℕ) → FollowsLine (kind_of_line ask line) rest answer used
    → IsAnswer answer × FitsIn dialect ask answer
fits_in ask dialects.Classic is shape line rest answer used f = classic_taken ask is line rest answer used f
fits_in ask dialects.Meta is shape line rest answer used f = meta_taken ask shape is line rest answer used f

pub spelled_answers_fit : SpelledAnswersFit
spelled_answers_fit ask bytes answer used is s =
    let taken = fits_in ask ask.dialect refl is.shape (without_cr s.text) s.rest answer s.after s.follows in
    record { ranges = taken.0; listed = taken.1 }
