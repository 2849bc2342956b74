-- What a line says fits the ask, code by code.
use Rattle.std.proofs.Common.{◌≡◌, ℕ, ◌^◌, Bool, true, false, not, eqb, ◌&&◌, List, [], ◌∷◌, length, Option, Some, None, is_some, refl, sym, subst, ◌∙◌}
use Rattle.std.proofs.lemmas.Bool.{eqb-true}
use Rattle.text_words.specs.Number.{number_below}
use Rattle.mc_types.specs.Asks.{HasShapeOf, meta_shape, of_delete}
use Rattle.mc_types.specs.Tokens.{wants, are_served, LetterC, LetterF, LetterS, LetterT, LetterV}
use Rattle.mc_types.specs.Fits.{AreFieldsInRange, StandAs, AreBare, IsSizeOf, IsNumberText, FitsMetaCode}
use Rattle.mc_types.specs.declared.token.Token.{Token}
use Rattle.mc_types.specs.declared.token.Token.TheVariants as tokens
use Rattle.mc_types.specs.declared.ask.Op.{Op}
use Rattle.mc_types.specs.declared.ask.Op.TheVariants.{Get, Gat, Set, Add, Replace, Append, Prepend, Cas, Delete, Incr, Decr, Touch}
use Rattle.mc_types.specs.declared.ask.Ask.{Ask}
use Rattle.mc_types.specs.declared.answer.Code.{Code}
use Rattle.mc_types.specs.declared.answer.Code.TheVariants.{Hd, Va, En, Ns, Ex, Nf}
use Rattle.mc_types.specs.declared.answer.Fields.{Fields}
use Rattle.wire_answers.specs.Told.{none_told, fields_told}
use Rattle.wire_answers.specs.Line.{takes_code, is_count, is_size}
use Rattle.wire_answers.proofs.MetaFitLemmas.{is_bare}

second : (a b : Bool) → (a && b) ≡ true → b ≡ true
second true b e = e
second false b e = absurd cc

not_true : (b : Bool) → not b ≡ true → b ≡ false
not_true true e = absurd cc
not_true false e = refl

-- of a delete no field can be asked for
pub record AsksNone (ts : List Token) : Type 0 where
  pub cas : wants ts LetterC ≡ false
  pub flags : wants ts LetterF ≡ false
  pub size : wants ts LetterS ≡ false
  pub ttl : wants ts LetterT ≡ false

pub of_a_delete : (ts : List Token) → are_served of_delete ts ≡ true → AsksNone ts
of_a_delete [] e = record { cas = refl; flags = refl; size = refl; ttl = refl }
of_a_delete (tokens.Key ∷ ts) e = let rest = of_a_delete ts (second _ (are_served of_delete ts) e) in record { cas = rest.cas; flags = rest.flags; size = rest.size; ttl = rest.ttl }
of_a_delete (tokens.Opaque text ∷ ts) e = let rest = of_a_delete ts (second _ (are_served of_delete ts) e) in record { cas = rest.cas; flags = rest.flags; size = rest.size; ttl = rest.ttl }
of_a_delete (tokens.Cas ∷ ts) e = absurd cc
of_a_delete (tokens.Flags ∷ ts) e = absurd cc
of_a_delete (tokens.Size ∷ ts) e = absurd cc
of_a_delete (tokens.Ttl ∷ ts) e = absurd cc
of_a_delete (tokens.Value ∷ ts) e = absurd cc

bare_of : (ts : List Token) (fields : Fields) → AsksNone ts → StandAs ts false fields → AreBare fields
bare_of ts fields none s = record { body_is = s.body_is; cas = s.cas ∙ none.cas; flags = s.flags ∙ none.flags; size = s.size ∙ none.size; ttl = s.ttl ∙ none.ttl }

pub none_bare : AreBare (fields_told none_told None)
none_bare = record { body_is = refl; cas = refl; flags = refl; size = refl; ttl = refl }

pub none_range : AreFieldsInRange (fields_told none_told None)
none_range = record { body = tt; cas = tt; flags = tt; size = tt; ttl = tt }

pub hd_fits : (op : Op) (ts : List Token) (fields : Fields) (ask : Ask) → ask.tokens ≡ ts → HasShapeOf ask (meta_shape op) → takes_code op (wants ts LetterV) Hd ≡ true → StandAs ts false fields → FitsMetaCode op ts Hd fields
hd_fits Get ts fields ask same s t h = (not_true (wants ts LetterV) t, h)
hd_fits Gat ts fields ask same s t h = (not_true (wants ts LetterV) t, h)
hd_fits Set ts fields ask same s t h = h
hd_fits Add ts fields ask same s t h = h
hd_fits Replace ts fields ask same s t h = h
hd_fits Append ts fields ask same s t h = h
hd_fits Prepend ts fields ask same s t h = h
hd_fits Cas ts fields ask same s t h = h
hd_fits Delete ts fields ask same s t h = bare_of ts fields (of_a_delete ts (subst (λ (l : List Token). are_served of_delete l ≡ true) same s.tokens)) h
hd_fits Incr ts fields ask same s t h = (not_true (wants ts LetterV) t, h)
hd_fits Decr ts fields ask same s t h = (not_true (wants ts LetterV) t, h)
hd_fits Touch ts fields ask same s t h = absurd cc

pub bare_fits : (op : Op) (ts : List Token) (code : Code) (fields : Fields) → is_bare code ≡ true → takes_code op (wants ts LetterV) code ≡ true → AreBare fields → FitsMetaCode op ts code fields
bare_fits Get ts En fields b t h = h
bare_fits Gat ts En fields b t h = h
bare_fits Set ts Ns fields b t h = h
bare_fits Set ts Ex fields b t h = h
bare_fits Set ts Nf fields b t h = h
bare_fits Add ts Ns fields b t h = h
bare_fits Add ts Ex fields b t h = h
bare_fits Add ts Nf fields b t h = h
bare_fits Replace ts Ns fields b t h = h
bare_fits Replace ts Ex fields b t h = h
bare_fits Replace ts Nf fields b t h = h
bare_fits Append ts Ns fields b t h = h
bare_fits Append ts Ex fields b t h = h
bare_fits Append ts Nf fields b t h = h
bare_fits Prepend ts Ns fields b t h = h
bare_fits Prepend ts Ex fields b t h = h
bare_fits Prepend ts Nf fields b t h = h
bare_fits Cas ts Ns fields b t h = h
bare_fits Cas ts Ex fields b t h = h
bare_fits Cas ts Nf fields b t h = h
bare_fits Delete ts Ex fields b t h = h
bare_fits Delete ts Nf fields b t h = h
bare_fits Incr ts Ns fields b t h = h
bare_fits Incr ts Ex fields b t h = h
bare_fits Incr ts Nf fields b t h = h
bare_fits Decr ts Ns fields b t h = h
bare_fits Decr ts Ex fields b t h = h
bare_fits Decr ts Nf fields b t h = h
bare_fits op ts code fields b t h = absurd cc

-- a size that stands beside data of that length
sized : (size : Option ℕ) (body : List ℕ) (len : ℕ) → is_size size len ≡ true → length body ≡ len → IsSizeOf size (Some body)
sized None body len e same = tt
sized (Some n) body len e same = eqb-true n len e ∙ sym same

number_is : (body : List ℕ) → is_some (number_below (2 ^ 64) body) ≡ true → IsNumberText (Some body)
number_is body e = e

pub va_fits : (op : Op) (ts : List Token) (fields : Fields) (body : List ℕ) (len : ℕ) → fields.body ≡ Some body → takes_code op (wants ts LetterV) Va ≡ true → StandAs ts true fields → is_size fields.size len ≡ true → length body ≡ len
    → (is_count op ≡ true → is_some (number_below (2 ^ 64) body) ≡ true) → FitsMetaCode op ts Va fields
va_fits Get ts fields body len at t h size same number = (t, h, subst (λ (o : Option (List ℕ)). IsSizeOf fields.size o) (sym at) (sized fields.size body len size same))
va_fits Gat ts fields body len at t h size same number = (t, h, subst (λ (o : Option (List ℕ)). IsSizeOf fields.size o) (sym at) (sized fields.size body len size same))
va_fits Incr ts fields body len at t h size same number = (t, h, subst IsNumberText (sym at) (number_is body (number refl)))
va_fits Decr ts fields body len at t h size same number = (t, h, subst IsNumberText (sym at) (number_is body (number refl)))
va_fits op ts fields body len at t h size same number = absurd cc
