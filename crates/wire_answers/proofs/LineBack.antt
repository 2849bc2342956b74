-- The line of a fitting meta answer is read back.
use Rattle.std.proofs.Common.{◌≡◌, ℕ, ◌+◌, ◌≤◌, ◌^◌, Bool, true, false, not, eqb, ◌&&◌, List, [], ◌∷◌, length, Option, Some, None, is_some, IfSome, refl, sym, ap, subst, ◌∙◌, arith}
use Rattle.std.specs.Prelude.{codes, decimal}
use Rattle.std.proofs.lemmas.Bool.{eq-eqb}
use Rattle.text_words.specs.Number.{number_below}
use Rattle.text_words.proofs.NumberLemmas.{number_below-decimal}
use Rattle.mc_types.specs.Asks.{data_limit, HasShapeOf, meta_shape, of_delete, of_count}
use Rattle.mc_types.specs.Tokens.{Letter, wants, are_served, LetterC, LetterF, LetterS, LetterT, LetterV}
use Rattle.mc_types.specs.Fits.{AreFieldsInRange, StandAs, AreBare, IsSizeOf, IsNumberText, FitsMetaCode}
use Rattle.mc_types.specs.declared.token.Token.{Token}
use Rattle.mc_types.specs.declared.token.Token.TheVariants as tokens
use Rattle.mc_types.specs.declared.ask.Op.{Op}
use Rattle.mc_types.specs.declared.ask.Op.TheVariants.{Get, Gat, Set, Add, Replace, Append, Prepend, Cas, Delete, Incr, Decr, Touch}
use Rattle.mc_types.specs.declared.ask.Ask.{Ask}
use Rattle.mc_types.specs.declared.answer.Code.{Code}
use Rattle.mc_types.specs.declared.answer.Code.TheVariants.{Hd, Va, En, Ns, Ex, Nf}
use Rattle.mc_types.specs.declared.answer.Fields.{Fields}
use Rattle.wire_answers.specs.declared.meta.told.Told.{Told}
use Rattle.wire_answers.specs.declared.meta.line.MetaLine.TheVariants.{Done, Value, Other}
use Rattle.wire_answers.specs.Told.{none_told, fields_told}
use Rattle.wire_answers.specs.Tokens.{with_words}
use Rattle.wire_answers.specs.Line.{takes_code, is_count, as_asked, all_stand, is_size, code_word, meta_said}
use Rattle.wire_answers.specs.MetaSpelling.{tokens_words}
use Rattle.wire_answers.proofs.MetaFitLemmas.{is_bare}
use Rattle.wire_answers.proofs.Fitting.{AsksNone, of_a_delete}
use Rattle.wire_answers.proofs.TokensBack.{telling_all, tokens_back, all_fresh, all_among, cas_told, flags_told, size_told, ttl_told, told_as_asked}

second : (a b : Bool) → (a && b) ≡ true → b ≡ true
second true b e = e
second false b e = absurd cc

not_wanted : (b : Bool) → b ≡ false → not b ≡ true
not_wanted true e = absurd cc
not_wanted false e = refl

takes_of : (op : Op) (ts : List Token) (code : Code) (fields : Fields) → FitsMetaCode op ts code fields → takes_code op (wants ts LetterV) code ≡ true
takes_of Get ts Va fields h = h.0
takes_of Get ts Hd fields h = not_wanted (wants ts LetterV) h.0
takes_of Get ts En fields h = refl
takes_of Get ts Ns fields h = absurd h
takes_of Get ts Ex fields h = absurd h
takes_of Get ts Nf fields h = absurd h
takes_of Gat ts Va fields h = h.0
takes_of Gat ts Hd fields h = not_wanted (wants ts LetterV) h.0
takes_of Gat ts En fields h = refl
takes_of Gat ts Ns fields h = absurd h
takes_of Gat ts Ex fields h = absurd h
takes_of Gat ts Nf fields h = absurd h
takes_of Set ts Hd fields h = refl
takes_of Set ts Ns fields h = refl
takes_of Set ts Ex fields h = refl
takes_of Set ts Nf fields h = refl
takes_of Set ts Va fields h = absurd h
takes_of Set ts En fields h = absurd h
takes_of Add ts Hd fields h = refl
takes_of Add ts Ns fields h = refl
takes_of Add ts Ex fields h = refl
takes_of Add ts Nf fields h = refl
takes_of Add ts Va fields h = absurd h
takes_of Add ts En fields h = absurd h
takes_of Replace ts Hd fields h = refl
takes_of Replace ts Ns fields h = refl
takes_of Replace ts Ex fields h = refl
takes_of Replace ts Nf fields h = refl
takes_of Replace ts Va fields h = absurd h
takes_of Replace ts En fields h = absurd h
takes_of Append ts Hd fields h = refl
takes_of Append ts Ns fields h = refl
takes_of Append ts Ex fields h = refl
takes_of Append ts Nf fields h = refl
takes_of Append ts Va fields h = absurd h
takes_of Append ts En fields h = absurd h
takes_of Prepend ts Hd fields h = refl
takes_of Prepend ts Ns fields h = refl
takes_of Prepend ts Ex fields h = refl
takes_of Prepend ts Nf fields h = refl
takes_of Prepend ts Va fields h = absurd h
takes_of Prepend ts En fields h = absurd h
takes_of Cas ts Hd fields h = refl
takes_of Cas ts Ns fields h = refl
takes_of Cas ts Ex fields h = refl
takes_of Cas ts Nf fields h = refl
takes_of Cas ts Va fields h = absurd h
takes_of Cas ts En fields h = absurd h
takes_of Delete ts Hd fields h = refl
takes_of Delete ts Ex fields h = refl
takes_of Delete ts Nf fields h = refl
takes_of Delete ts Va fields h = absurd h
takes_of Delete ts En fields h = absurd h
takes_of Delete ts Ns fields h = absurd h
takes_of Incr ts Va fields h = h.0
takes_of Incr ts Hd fields h = not_wanted (wants ts LetterV) h.0
takes_of Incr ts Ns fields h = refl
takes_of Incr ts Ex fields h = refl
takes_of Incr ts Nf fields h = refl
takes_of Incr ts En fields h = absurd h
takes_of Decr ts Va fields h = h.0
takes_of Decr ts Hd fields h = not_wanted (wants ts LetterV) h.0
takes_of Decr ts Ns fields h = refl
takes_of Decr ts Ex fields h = refl
takes_of Decr ts Nf fields h = refl
takes_of Decr ts En fields h = absurd h
takes_of Touch ts Hd fields h = absurd h
takes_of Touch ts Va fields h = absurd h
takes_of Touch ts En fields h = absurd h
takes_of Touch ts Ns fields h = absurd h
takes_of Touch ts Ex fields h = absurd h
takes_of Touch ts Nf fields h = absurd h

asked_none : (ts : List Token) (fields : Fields) → AsksNone ts → AreBare fields → StandAs ts false fields
asked_none ts fields none s = record { body_is = s.body_is; cas = s.cas ∙ sym none.cas; flags = s.flags ∙ sym none.flags; size = s.size ∙ sym none.size; ttl = s.ttl ∙ sym none.ttl }

hd_stands : (op : Op) (ts : List Token) (fields : Fields) (ask : Ask) → ask.tokens ≡ ts → HasShapeOf ask (meta_shape op) → FitsMetaCode op ts Hd fields → StandAs ts false fields
hd_stands Get ts fields ask same s h = h.1
hd_stands Gat ts fields ask same s h = h.1
hd_stands Incr ts fields ask same s h = h.1
hd_stands Decr ts fields ask same s h = h.1
hd_stands Set ts fields ask same s h = h
hd_stands Add ts fields ask same s h = h
hd_stands Replace ts fields ask same s h = h
hd_stands Append ts fields ask same s h = h
hd_stands Prepend ts fields ask same s h = h
hd_stands Cas ts fields ask same s h = h
hd_stands Delete ts fields ask same s h = asked_none ts fields (of_a_delete ts (subst (λ (l : List Token). are_served of_delete l ≡ true) same s.tokens)) h
hd_stands Touch ts fields ask same s h = absurd h

pub va_stands : (op : Op) (ts : List Token) (fields : Fields) → FitsMetaCode op ts Va fields → StandAs ts true fields
va_stands Get ts fields h = h.1
va_stands Gat ts fields h = h.1
va_stands Incr ts fields h = h.1
va_stands Decr ts fields h = h.1
va_stands Set ts fields h = absurd h
va_stands Add ts fields h = absurd h
va_stands Replace ts fields h = absurd h
va_stands Append ts fields h = absurd h
va_stands Prepend ts fields h = absurd h
va_stands Cas ts fields h = absurd h
va_stands Delete ts fields h = absurd h
va_stands Touch ts fields h = absurd h

-- a count has no size
no_size : (ts : List Token) → are_served of_count ts ≡ true → wants ts LetterS ≡ false
no_size [] e = refl
no_size (tokens.Cas ∷ ts) e = no_size ts (second _ (are_served of_count ts) e)
no_size (tokens.Key ∷ ts) e = no_size ts (second _ (are_served of_count ts) e)
no_size (tokens.Ttl ∷ ts) e = no_size ts (second _ (are_served of_count ts) e)
no_size (tokens.Value ∷ ts) e = no_size ts (second _ (are_served of_count ts) e)
no_size (tokens.Opaque text ∷ ts) e = no_size ts (second _ (are_served of_count ts) e)
no_size (tokens.Flags ∷ ts) e = absurd cc
no_size (tokens.Size ∷ ts) e = absurd cc

same_number : (n : ℕ) → eqb n n ≡ true
same_number n = eq-eqb n n refl

size_of : (size : Option ℕ) (body : List ℕ) → IsSizeOf size (Some body) → is_size size (length body) ≡ true
size_of None body h = refl
size_of (Some n) body h = ap (λ (k : ℕ). eqb k (length body)) h ∙ same_number (length body)

size_none : (size : Option ℕ) (len : ℕ) → is_some size ≡ false → is_size size len ≡ true
size_none None len e = refl
size_none (Some n) len e = absurd cc

va_sized : (op : Op) (ts : List Token) (fields : Fields) (body : List ℕ) → fields.body ≡ Some body → (ask : Ask) → ask.tokens ≡ ts → HasShapeOf ask (meta_shape op) → FitsMetaCode op ts Va fields → is_size fields.size (length body) ≡ true
va_sized Get ts fields body at ask same s h = size_of fields.size body (subst (λ (o : Option (List ℕ)). IsSizeOf fields.size o) at h.2)
va_sized Gat ts fields body at ask same s h = size_of fields.size body (subst (λ (o : Option (List ℕ)). IsSizeOf fields.size o) at h.2)
va_sized Incr ts fields body at ask same s h = size_none fields.size (length body) (h.1.size ∙ no_size ts (subst (λ (l : List Token). are_served of_count l ≡ true) same s.tokens))
va_sized Decr ts fields body at ask same s h = size_none fields.size (length body) (h.1.size ∙ no_size ts (subst (λ (l : List Token). are_served of_count l ≡ true) same s.tokens))
va_sized Set ts fields body at ask same s h = absurd h
va_sized Add ts fields body at ask same s h = absurd h
va_sized Replace ts fields body at ask same s h = absurd h
va_sized Append ts fields body at ask same s h = absurd h
va_sized Prepend ts fields body at ask same s h = absurd h
va_sized Cas ts fields body at ask same s h = absurd h
va_sized Delete ts fields body at ask same s h = absurd h
va_sized Touch ts fields body at ask same s h = absurd h

-- data that have to be a number
abbrev pub is_data_of : Bool → List ℕ → Bool
is_data_of true body = is_some (number_below (2 ^ 64) body)
is_data_of false body = true

pub va_number : (op : Op) (ts : List Token) (fields : Fields) (body : List ℕ) → fields.body ≡ Some body → FitsMetaCode op ts Va fields → is_data_of (is_count op) body ≡ true
va_number Incr ts fields body at h = subst IsNumberText at h.2
va_number Decr ts fields body at h = subst IsNumberText at h.2
va_number Get ts fields body at h = refl
va_number Gat ts fields body at h = refl
va_number Set ts fields body at h = absurd h
va_number Add ts fields body at h = absurd h
va_number Replace ts fields body at h = absurd h
va_number Append ts fields body at h = absurd h
va_number Prepend ts fields body at h = absurd h
va_number Cas ts fields body at h = absurd h
va_number Delete ts fields body at h = absurd h
va_number Touch ts fields body at h = absurd h

bare_fields : (op : Op) (ts : List Token) (code : Code) (fields : Fields) → is_bare code ≡ true → FitsMetaCode op ts code fields → AreBare fields
bare_fields Get ts En fields b h = h
bare_fields Get ts Ns fields b h = absurd h
bare_fields Get ts Ex fields b h = absurd h
bare_fields Get ts Nf fields b h = absurd h
bare_fields Gat ts En fields b h = h
bare_fields Gat ts Ns fields b h = absurd h
bare_fields Gat ts Ex fields b h = absurd h
bare_fields Gat ts Nf fields b h = absurd h
bare_fields Set ts Ns fields b h = h
bare_fields Set ts Ex fields b h = h
bare_fields Set ts Nf fields b h = h
bare_fields Set ts En fields b h = absurd h
bare_fields Add ts Ns fields b h = h
bare_fields Add ts Ex fields b h = h
bare_fields Add ts Nf fields b h = h
bare_fields Add ts En fields b h = absurd h
bare_fields Replace ts Ns fields b h = h
bare_fields Replace ts Ex fields b h = h
bare_fields Replace ts Nf fields b h = h
bare_fields Replace ts En fields b h = absurd h
bare_fields Append ts Ns fields b h = h
bare_fields Append ts Ex fields b h = h
bare_fields Append ts Nf fields b h = h
bare_fields Append ts En fields b h = absurd h
bare_fields Prepend ts Ns fields b h = h
bare_fields Prepend ts Ex fields b h = h
bare_fields Prepend ts Nf fields b h = h
bare_fields Prepend ts En fields b h = absurd h
bare_fields Cas ts Ns fields b h = h
bare_fields Cas ts Ex fields b h = h
bare_fields Cas ts Nf fields b h = h
bare_fields Cas ts En fields b h = absurd h
bare_fields Incr ts Ns fields b h = h
bare_fields Incr ts Ex fields b h = h
bare_fields Incr ts Nf fields b h = h
bare_fields Incr ts En fields b h = absurd h
bare_fields Decr ts Ns fields b h = h
bare_fields Decr ts Ex fields b h = h
bare_fields Decr ts Nf fields b h = h
bare_fields Decr ts En fields b h = absurd h
bare_fields Delete ts Ex fields b h = h
bare_fields Delete ts Nf fields b h = h
bare_fields Delete ts En fields b h = absurd h
bare_fields Delete ts Ns fields b h = absurd h
bare_fields Touch ts En fields b h = absurd h
bare_fields Touch ts Ns fields b h = absurd h
bare_fields Touch ts Ex fields b h = absurd h
bare_fields Touch ts Nf fields b h = absurd h
bare_fields op ts Hd fields b h = absurd cc
bare_fields op ts Va fields b h = absurd cc

asked_same : (b : Bool) → as_asked b b ≡ true
asked_same true = refl
asked_same false = refl

no_body : (o : Option (List ℕ)) → is_some o ≡ false → o ≡ None
no_body None e = refl
no_body (Some body) e = absurd cc

nothing : {A : Type 0} (o : Option A) → is_some o ≡ false → o ≡ None
nothing None e = refl
nothing (Some x) e = absurd cc

one : {A : Type 0} (asked : Bool) (o p : Option A) → o ≡ p → is_some p ≡ asked → as_asked asked (is_some o) ≡ true
one asked o p e there = ap (λ q. as_asked asked (is_some q)) e ∙ ap (as_asked asked) there ∙ asked_same asked

module _ (ask : Ask) (fields : Fields) (range : AreFieldsInRange fields) where
  read : (served : List Letter) → are_served served ask.tokens ≡ true → with_words ask (tokens_words ask.key fields ask.tokens) none_told ≡ Some (telling_all fields none_told ask.tokens)
  read served e = tokens_back ask fields range served ask.tokens none_told e (all_fresh ask.tokens) (all_among ask.tokens)

  record TellsAll (told : Told) : Type 0 where
    pub cas : told.cas ≡ fields.cas
    pub flags : told.flags ≡ fields.flags
    pub size : told.size ≡ fields.size
    pub ttl : told.ttl ≡ fields.ttl

  tells_all : (b : Bool) → StandAs ask.tokens b fields → TellsAll (telling_all fields none_told ask.tokens)
  tells_all b s = record {
    cas = cas_told fields none_told ask.tokens ∙ told_as_asked (wants ask.tokens LetterC) fields.cas s.cas;
    flags = flags_told fields none_told ask.tokens ∙ told_as_asked (wants ask.tokens LetterF) fields.flags s.flags;
    size = size_told fields none_told ask.tokens ∙ told_as_asked (wants ask.tokens LetterS) fields.size s.size;
    ttl = ttl_told fields none_told ask.tokens ∙ told_as_asked (wants ask.tokens LetterT) fields.ttl s.ttl;
  }

  fields_same : (told : Told) (body : Option (List ℕ)) → TellsAll told → body ≡ fields.body → fields_told told body ≡ fields
  fields_same told body t e = λ i. record { body = e i; cas = t.cas i; flags = t.flags i; size = t.size i; ttl = t.ttl i }

  stand : (told : Told) (b : Bool) → TellsAll told → StandAs ask.tokens b fields → all_stand ask.tokens told ≡ true
  stand told b t s =
      rw (
        one (wants ask.tokens LetterC) told.cas fields.cas t.cas s.cas,
        one (wants ask.tokens LetterF) told.flags fields.flags t.flags s.flags,
        one (wants ask.tokens LetterS) told.size fields.size t.size s.size,
        one (wants ask.tokens LetterT) told.ttl fields.ttl t.ttl s.ttl,
      ) refl

  -- HD
  pub record DoneBack (told : Told) : Type 0 where
    pub said : meta_said ask (codes "HD") (tokens_words ask.key fields ask.tokens) ≡ Some (Done told)
    pub fields_are : fields_told told None ≡ fields

  pub done_back : (served : List Letter) → are_served served ask.tokens ≡ true → HasShapeOf ask (meta_shape ask.op) → FitsMetaCode ask.op ask.tokens Hd fields → DoneBack (telling_all fields none_told ask.tokens)
  done_back served e s h =
      let stands = hd_stands ask.op ask.tokens fields ask refl s h in
      let all = tells_all false stands in
      record {
        said = rw (takes_of ask.op ask.tokens Hd fields h, read served e, stand (telling_all fields none_told ask.tokens) false all stands) refl;
        fields_are = fields_same (telling_all fields none_told ask.tokens) None all (sym (no_body fields.body stands.body_is));
      }

  -- VA
  pub record ValueBack (body : List ℕ) (told : Told) : Type 0 where
    pub said : meta_said ask (codes "VA") (decimal (length body) ∷ tokens_words ask.key fields ask.tokens) ≡ Some (Value (record { told = told; len = length body; is_number = is_count ask.op }))
    pub fields_are : fields_told told (Some body) ≡ fields

  pub value_back : (served : List Letter) (body : List ℕ) → are_served served ask.tokens ≡ true → HasShapeOf ask (meta_shape ask.op) → fields.body ≡ Some body → FitsMetaCode ask.op ask.tokens Va fields
      → ValueBack body (telling_all fields none_told ask.tokens)
  value_back served body e s at h =
      let stands = va_stands ask.op ask.tokens fields h in
      let all = tells_all true stands in
      let le : length body ≤ data_limit = subst (λ (o : Option (List ℕ)). IfSome o (λ b. length b ≤ data_limit)) at range.body in
      let sized : is_size (telling_all fields none_told ask.tokens).size (length body) ≡ true =
      ap (λ (o : Option ℕ). is_size o (length body)) all.size ∙ va_sized ask.op ask.tokens fields body at ask refl s h in
      record {
        said = rw (takes_of ask.op ask.tokens Va fields h, number_below-decimal (data_limit + 1) (length body) (omega arith) (omega arith), read served e, stand (telling_all fields none_told ask.tokens) true all stands, sized) refl;
        fields_are = fields_same (telling_all fields none_told ask.tokens) (Some body) all (sym at);
      }

  -- a line of a code beside which nothing is kept is read back as that code
  pub record BareBack (code : Code) : Type 0 where
    pub said : meta_said ask (code_word code) (tokens_words ask.key fields ask.tokens) ≡ Some (Other code)
    pub fields_are : fields_told none_told None ≡ fields

  bare_same : AreBare fields → fields_told none_told None ≡ fields
  bare_same b = λ i. record { body = sym (no_body fields.body b.body_is) i; cas = sym (nothing fields.cas b.cas) i; flags = sym (nothing fields.flags b.flags) i; size = sym (nothing fields.size b.size) i; ttl = sym (nothing fields.ttl b.ttl) i }

  bare_said_so : (served : List Letter) (code : Code) → are_served served ask.tokens ≡ true → is_bare code ≡ true → takes_code ask.op (wants ask.tokens LetterV) code ≡ true
      → meta_said ask (code_word code) (tokens_words ask.key fields ask.tokens) ≡ Some (Other code)
  bare_said_so served En e b t = rw (t, read served e) refl
  bare_said_so served Ns e b t = rw (t, read served e) refl
  bare_said_so served Ex e b t = rw (t, read served e) refl
  bare_said_so served Nf e b t = rw (t, read served e) refl
  bare_said_so served Hd e b t = absurd cc
  bare_said_so served Va e b t = absurd cc

  pub bare_back : (served : List Letter) (code : Code) → are_served served ask.tokens ≡ true → is_bare code ≡ true → FitsMetaCode ask.op ask.tokens code fields → BareBack code
  bare_back served code e b h = record {
    said = bare_said_so served code e b (takes_of ask.op ask.tokens code fields h);
    fields_are = bare_same (bare_fields ask.op ask.tokens code fields b h);
  }
