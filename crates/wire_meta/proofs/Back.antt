-- What was written is read back, as the one ask that it is.
use Rattle.std.proofs.Common.{◌≡◌, ℕ, suc, ◌+◌, ◌^◌, ◌<◌, ◌≤◌, Bool, true, false, not, ◌&&◌, List, [], ◌∷◌, ◌++◌, length, Option, Some, None, Ok, refl, sym, ap, subst, ◌∙◌, All, arith}
use Rattle.std.specs.Prelude.{ℤ, pos, negsuc, IfSome, IsSome, codes, decimal, unwrap_or, FitsSigned}
use Rattle.std.specs.Fmt.{signed_decimal}
use Rattle.std.specs.List.{AllByRecursion}
use mir.Syntax.{w64}
use Rattle.std.proofs.lemmas.Bool.{and_parts, le-leb, leb-true}
use Rattle.std.proofs.lemmas.Fmt.{length-decimal-le}
use Rattle.std.proofs.lemmas.List.{length-append}
use Rattle.std.proofs.lemmas.List.Elements.{All-cons}
use Rattle.text_words.specs.Spelling.{words_line}
use Rattle.text_words.proofs.Spaced.{IsPlain, literal, decimal_word, signed_word, all_plain}
use Rattle.mc_types.specs.KeyText.{IsKey}
use Rattle.mc_types.specs.OpaqueText.{is_opaque_byte}
use Rattle.mc_types.specs.Tokens.{Letter, LetterC, LetterF, LetterK, LetterS, LetterT, LetterV, LetterO, has_letter, wants, are_served, TokenIsText}
use Rattle.mc_types.specs.Tokens as served
use Rattle.mc_types.specs.Asks.{IsExptime, HasShape, HasShapeOf, shape_of, data_limit, of_get, of_store, of_delete, of_count}
use Rattle.mc_types.specs.Asks as shapes
use Rattle.mc_types.specs.declared.token.Token.{Token}
use Rattle.mc_types.specs.declared.token.Token.TheVariants as tokens
use Rattle.mc_types.specs.declared.ask.Ask.{Ask}
use Rattle.mc_types.specs.declared.ask.Op.{Op}
use Rattle.mc_types.specs.declared.ask.Op.TheVariants as ops
use Rattle.mc_types.specs.declared.ask.Dialect.{Dialect}
use Rattle.wire_parts.specs.Tests.{Word, ◌>>=◌}
use Rattle.wire_parts.specs.Message.{Served}
use Rattle.wire_parts.proofs.Tokens.{IsToken, AreTokens, fits, key_token, decimal_token, key_back, small_back, begins_plain, begins_block}
use Rattle.wire_meta.specs.declared.command.Kind.{Kind}
use Rattle.wire_meta.specs.declared.command.Kind.TheVariants.{Get, Store, Delete, Count}
use Rattle.wire_meta.specs.declared.command.Values.{Values}
use Rattle.wire_meta.specs.Flags.{values_of, tokens_in, flags_of, mode_of, is_some}
use Rattle.wire_meta.specs.Order.{meta_order_of, mixes, comparing}
use Rattle.wire_meta.specs.Grammar.{meta_grammar}
use Rattle.wire_meta.specs.Message.{BeginsMeta}
use Rattle.wire_meta.specs.Spelling.{meta_kind, kind_word, mode_letter, mode_word, token_word, meta_token_words, meta_cas_words, exptime_words, value_words, flag_words, block_by, line_words, meta_order_for}
use Rattle.wire_meta.specs.Asks.{IsMetaAsk, get_op, store_op, ask_by, meta_asks_by, meta_is_quiet}
use Rattle.wire_parts.specs.Requests.{AsksAreReadBack, MessagesAreOneAsk}
use Rattle.wire_meta.specs.Laws.{meta_requests}
use Rattle.wire_meta.proofs.ServedLemmas.{served_by}
use Rattle.wire_meta.proofs.FlagsBack.{AreValued, IsDate, flags_back, tokens_back, values_back}
use Rattle.wire_meta.proofs.ValuesBack.{get_date, store_date, count_date, get_values, delete_values, store_values, count_values}

-- the words are short
lettered : (l : ℕ) (w : Word) → 33 ≤ l → IsPlain w → length w ≤ 249 → IsToken (l ∷ w)
lettered l w le h short = record { plain = record { some = omega arith; plain = All-cons (λ b. 33 ≤ b) l w le h.plain }; short = omega arith }

opaque_byte : (b : ℕ) → is_opaque_byte b ≡ true → 33 ≤ b
opaque_byte b e = leb-true 33 b (and_parts _ _ e).0

wide_token : (l n : ℕ) → 33 ≤ l → n < 2 ^ 64 → IsToken (l ∷ decimal n)
wide_token l n le lt = let few : length (decimal n) ≤ 20 = length-decimal-le 20 n (omega arith) (omega arith) lt in lettered l (decimal n) le (decimal_word n lt) (omega arith)

signed_short : (z : ℤ) → FitsSigned w64 z → length (signed_decimal z) ≤ 249
signed_short (pos n) h = let small = h.sfits in let le : length (decimal n) ≤ 20 = length-decimal-le 20 n (omega arith) (omega arith) (omega arith) in omega arith
signed_short (negsuc n) h = let small = h.sfits in let le : length (decimal (suc n)) ≤ 20 = length-decimal-le 20 (suc n) (omega arith) (omega arith) (omega arith) in omega arith

signed_token : (l : ℕ) (z : ℤ) → 33 ≤ l → IsExptime z → IsToken (l ∷ signed_decimal z)
signed_token l z le h = lettered l (signed_decimal z) le (signed_word z (fits z h)) (signed_short z (fits z h))

token_token : (t : Token) → TokenIsText t → IsToken (token_word t)
token_token tokens.Cas h = record { plain = literal (codes "c") refl (omega arith); short = omega arith }
token_token tokens.Flags h = record { plain = literal (codes "f") refl (omega arith); short = omega arith }
token_token tokens.Key h = record { plain = literal (codes "k") refl (omega arith); short = omega arith }
token_token tokens.Size h = record { plain = literal (codes "s") refl (omega arith); short = omega arith }
token_token tokens.Ttl h = record { plain = literal (codes "t") refl (omega arith); short = omega arith }
token_token tokens.Value h = record { plain = literal (codes "v") refl (omega arith); short = omega arith }
token_token (tokens.Opaque text) h = lettered 79 text (omega arith) (record { some = h.some; plain = all_plain is_opaque_byte opaque_byte text h.bytes }) (let s = h.short in omega arith)

mode_token : (op : Op) → IsToken (mode_word op)
mode_token ops.Get = record { plain = literal (codes "MS") refl (omega arith); short = omega arith }
mode_token ops.Gat = record { plain = literal (codes "MS") refl (omega arith); short = omega arith }
mode_token ops.Set = record { plain = literal (codes "MS") refl (omega arith); short = omega arith }
mode_token ops.Add = record { plain = literal (codes "ME") refl (omega arith); short = omega arith }
mode_token ops.Replace = record { plain = literal (codes "MR") refl (omega arith); short = omega arith }
mode_token ops.Append = record { plain = literal (codes "MA") refl (omega arith); short = omega arith }
mode_token ops.Prepend = record { plain = literal (codes "MP") refl (omega arith); short = omega arith }
mode_token ops.Cas = record { plain = literal (codes "MS") refl (omega arith); short = omega arith }
mode_token ops.Delete = record { plain = literal (codes "MS") refl (omega arith); short = omega arith }
mode_token ops.Incr = record { plain = literal (codes "MI") refl (omega arith); short = omega arith }
mode_token ops.Decr = record { plain = literal (codes "MD") refl (omega arith); short = omega arith }
mode_token ops.Touch = record { plain = literal (codes "MS") refl (omega arith); short = omega arith }

kind_token : (kind : Kind) → IsToken (kind_word kind)
kind_token Get = record { plain = literal (codes "mg") refl (omega arith); short = omega arith }
kind_token Store = record { plain = literal (codes "ms") refl (omega arith); short = omega arith }
kind_token Delete = record { plain = literal (codes "md") refl (omega arith); short = omega arith }
kind_token Count = record { plain = literal (codes "ma") refl (omega arith); short = omega arith }

-- so many words, each a token
pub record AreFew (n : ℕ) (ws : List Word) : Type 0 where
  pub are : AreTokens ws
  pub few : length ws ≤ n

few_append : (m n : ℕ) (a b : List Word) → AreFew m a → AreFew n b → AreFew (m + n) (a ++ b)
few_append m n a b h g = record { are = joined a h.are; few = let x = h.few in let y = g.few in omega (arith, length-append a b) }
  where
    joined : (a : List Word) → AreTokens a → AreTokens (a ++ b)
    joined [] h = g.are
    joined (w ∷ a) h = (h.0, joined a h.1)

few_first : (n : ℕ) (w : Word) (ws : List Word) → IsToken w → AreFew n ws → AreFew (suc n) (w ∷ ws)
few_first n w ws h g = record { are = (h, g.are); few = let x = g.few in omega arith }

few_le : (m n : ℕ) (ws : List Word) → m ≤ n → AreFew m ws → AreFew n ws
few_le m n ws le h = record { are = h.are; few = let x = h.few in omega arith }

few_cas : (c : Option ℕ) → IfSome c (λ n. n < 2 ^ 64) → AreFew 1 (meta_cas_words c)
few_cas None h = record { are = tt; few = omega arith }
few_cas (Some n) h = record { are = (wide_token 67 n (omega arith) h, tt); few = omega arith }

few_exptime : (e : Option ℤ) → IfSome e IsExptime → AreFew 1 (exptime_words e)
few_exptime None h = record { are = tt; few = omega arith }
few_exptime (Some z) h = record { are = (signed_token 84 z (omega arith) h, tt); few = omega arith }

abbrev one_if : Bool → ℕ
one_if true = 1
one_if false = 0

one_most : (b : Bool) → one_if b ≤ 1
one_most true = omega arith
one_most false = omega arith

-- how many letters are among them
abbrev letters_in : List Token → ℕ
letters_in ts = one_if (wants ts LetterC) + one_if (wants ts LetterF) + one_if (wants ts LetterK) + one_if (wants ts LetterS) + one_if (wants ts LetterT) + one_if (wants ts LetterV) + one_if (wants ts LetterO)

not_true : (b : Bool) → not b ≡ true → b ≡ false
not_true true e = absurd cc
not_true false e = refl

none_if : (b : Bool) → b ≡ false → one_if b ≡ 0
none_if true e = absurd cc
none_if false e = refl

one_letter : (t : Token) (ts : List Token) → wants ts (served.letter_of t) ≡ false → length ts ≤ letters_in ts → suc (length ts) ≤ letters_in (t ∷ ts)
one_letter tokens.Cas ts e h = let z = none_if (wants ts LetterC) e in omega (arith, h, z)
one_letter tokens.Flags ts e h = let z = none_if (wants ts LetterF) e in omega (arith, h, z)
one_letter tokens.Key ts e h = let z = none_if (wants ts LetterK) e in omega (arith, h, z)
one_letter tokens.Size ts e h = let z = none_if (wants ts LetterS) e in omega (arith, h, z)
one_letter tokens.Ttl ts e h = let z = none_if (wants ts LetterT) e in omega (arith, h, z)
one_letter tokens.Value ts e h = let z = none_if (wants ts LetterV) e in omega (arith, h, z)
one_letter (tokens.Opaque text) ts e h = let z = none_if (wants ts LetterO) e in omega (arith, h, z)

as_letters : (letters : List Letter) (ts : List Token) → are_served letters ts ≡ true → length ts ≤ letters_in ts
as_letters letters [] e = omega arith
as_letters letters (t ∷ ts) e =
    let a = and_parts (has_letter letters (served.letter_of t) && not (wants ts (served.letter_of t))) (are_served letters ts) e in
    let b = and_parts (has_letter letters (served.letter_of t)) (not (wants ts (served.letter_of t))) a.0 in
    one_letter t ts (not_true (wants ts (served.letter_of t)) b.1) (as_letters letters ts a.1)

words_len : (ts : List Token) → length (meta_token_words ts) ≡ length ts
words_len [] = refl
words_len (t ∷ ts) = ap suc (words_len ts)

token_tokens : (ts : List Token) → AllByRecursion TokenIsText ts → AreTokens (meta_token_words ts)
token_tokens [] h = tt
token_tokens (t ∷ ts) h = (token_token t h.0, token_tokens ts h.1)

few_tokens : (letters : List Letter) (ts : List Token) → are_served letters ts ≡ true → AllByRecursion TokenIsText ts → AreFew 7 (meta_token_words ts)
few_tokens letters ts e h = record {
  are = token_tokens ts h;
  few =
      let n = as_letters letters ts e in
      let a = one_most (wants ts LetterC) in
      let b = one_most (wants ts LetterF) in
      let c = one_most (wants ts LetterK) in
      let d = one_most (wants ts LetterS) in
      let f = one_most (wants ts LetterT) in
      let g = one_most (wants ts LetterV) in
      let i = one_most (wants ts LetterO) in
      omega (arith, n, words_len ts, a, b, c, d, f, g, i);
}

-- a cas number of `ms` comes with a set
abbrev IsUnmixed : Kind → Values → Type 0
IsUnmixed Get v = Unit {0}
IsUnmixed Store v = mixes v ≡ false
IsUnmixed Delete v = Unit {0}
IsUnmixed Count v = Unit {0}

-- what the flags with a value say but the expiry
abbrev undated : Values → Values
undated v = record v { exptime = None }

-- what the line of an ask needs, to be read back as the values and the return flags of the ask
pub record IsSpelled (kind : Kind) (ask : Ask) (v : Values) : Type 0 where
  pub key : IsKey ask.key
  pub short : length ask.body ≤ data_limit
  pub served : are_served (served_by kind) ask.tokens ≡ true
  pub texts : AllByRecursion TokenIsText ask.tokens
  pub valued : AreValued kind (value_words kind ask) (undated v)
  pub date : v.exptime ≡ ask.exptime
  pub dated : IsDate kind ask.exptime
  pub time : IfSome ask.exptime IsExptime
  pub few : AreFew 3 (value_words kind ask)
  pub unmixed : IsUnmixed kind v

module _ (ask : Ask) (v : Values) where
  flags_are : (kind : Kind) → IsSpelled kind ask v → flags_of kind [] (flag_words kind ask) ≡ Ok (flag_words kind ask)
  flags_are kind h = flags_back kind (value_words kind ask) (undated v) h.valued ask.exptime ask.tokens h.dated h.served h.texts

  values_are : (kind : Kind) → IsSpelled kind ask v → values_of kind (flag_words kind ask) ≡ v
  values_are kind h = values_back kind (value_words kind ask) (undated v) h.valued ask.exptime ask.tokens h.dated refl ∙ ap (λ (x : Option ℤ). let r : Values = record v { exptime = x } in r) (sym h.date)

  few_flags : (kind : Kind) → IsSpelled kind ask v → AreFew 11 (flag_words kind ask)
  few_flags kind h = few_append 1 10 (exptime_words ask.exptime) (meta_token_words ask.tokens ++ value_words kind ask) (few_exptime ask.exptime h.time) (few_append 7 3 (meta_token_words ask.tokens) (value_words kind ask) (few_tokens (served_by kind) ask.tokens h.served h.texts) h.few)

  compared : IsSpelled Store ask v → comparing (flag_words Store ask) ≡ Ok (flag_words Store ask)
  compared h =
      let not_mixed : mixes (values_of Store (flag_words Store ask)) ≡ false = ap mixes (values_are Store h) ∙ h.unmixed in
      rw not_mixed refl

  order_back : (kind : Kind) → IsSpelled kind ask v → meta_order_of (line_words kind ask) ≡ Ok (meta_order_for kind ask)
  order_back Get h = rw (key_back ask.key h.key, flags_are Get h) refl
  order_back Delete h = rw (key_back ask.key h.key, flags_are Delete h) refl
  order_back Count h = rw (key_back ask.key h.key, flags_are Count h) refl
  order_back Store h = let below = h.short in rw (key_back ask.key h.key, small_back (length ask.body) (omega arith), flags_are Store h, compared h, le-leb (length ask.body) data_limit h.short) refl

  line_few : (kind : Kind) → IsSpelled kind ask v → AreFew 14 (line_words kind ask)
  line_few Get h = few_le 13 14 _ (omega arith) (few_first 12 (kind_word Get) _ (kind_token Get) (few_first 11 ask.key _ (key_token ask.key h.key) (few_flags Get h)))
  line_few Delete h = few_le 13 14 _ (omega arith) (few_first 12 (kind_word Delete) _ (kind_token Delete) (few_first 11 ask.key _ (key_token ask.key h.key) (few_flags Delete h)))
  line_few Count h = few_le 13 14 _ (omega arith) (few_first 12 (kind_word Count) _ (kind_token Count) (few_first 11 ask.key _ (key_token ask.key h.key) (few_flags Count h)))
  line_few Store h = let below = h.short in few_first 13 (kind_word Store) _ (kind_token Store) (few_first 12 ask.key _ (key_token ask.key h.key) (few_first 11 (decimal (length ask.body)) _ (decimal_token (length ask.body) (omega arith)) (few_flags Store h)))

  at_most : (kind : Kind) → IsSpelled kind ask v → length (line_words kind ask) ≤ 20
  at_most kind h = let n = (line_few kind h).few in omega arith

-- asks with the same fields are the same
same_ask : (a b : Ask) → a.key ≡ b.key → a.op ≡ b.op → a.dialect ≡ b.dialect → a.with_cas ≡ b.with_cas → a.flags ≡ b.flags → a.exptime ≡ b.exptime → a.body ≡ b.body → a.cas ≡ b.cas → a.delta ≡ b.delta → a.tokens ≡ b.tokens → a ≡ b
same_ask a b e1 e2 e3 e4 e5 e6 e7 e8 e9 e10 =
    let fields : (let r : Ask = record { key = a.key; op = a.op; dialect = a.dialect; with_cas = a.with_cas; flags = a.flags; exptime = a.exptime; body = a.body; cas = a.cas; delta = a.delta; tokens = a.tokens } in r)
    ≡ (let r : Ask = record { key = b.key; op = b.op; dialect = b.dialect; with_cas = b.with_cas; flags = b.flags; exptime = b.exptime; body = b.body; cas = b.cas; delta = b.delta; tokens = b.tokens } in r) = cc in
    fields

some_exptime : (o : Option ℤ) → IsSome o → Some (unwrap_or o (pos 0)) ≡ o
some_exptime None h = absurd cc
some_exptime (Some z) h = refl

gat_op : (e : Option ℤ) → IsSome e → get_op e ≡ ops.Gat
gat_op None h = absurd cc
gat_op (Some z) h = refl

cas_op : (c : Option ℕ) (m : Option Op) → IsSome c → store_op c m ≡ ops.Cas
cas_op None m h = absurd cc
cas_op (Some n) m h = refl

and_false : (b : Bool) → (b && false) ≡ false
and_false true = refl
and_false false = refl

-- the body of an ask whose line has no data is empty
abbrev BodyIs : Kind → Ask → Type 0
BodyIs Get ask = ask.body ≡ []
BodyIs Store ask = Unit {0}
BodyIs Delete ask = ask.body ≡ []
BodyIs Count ask = ask.body ≡ []

-- the line of an ask is read back as the ask
pub record IsReadBack (kind : Kind) (ask : Ask) : Type 0 where
  pub v : Values
  pub loud : v.quiet ≡ false
  pub spelled : IsSpelled kind ask v
  pub body : BodyIs kind ask
  pub same : ask_by kind ask.key v ask.tokens ask.body ≡ ask

abbrev values : Option ℕ → Option ℕ → Option ℤ → Option ℕ → Option Op → Values
values c d e f m = record { cas = c; delta = d; exptime = e; flags = f; mode = m; quiet = false }

module _ (ask : Ask) (h : IsMetaAsk ask) where
  get_spelled : are_served of_get ask.tokens ≡ true → IsSpelled Get ask (values None None ask.exptime None None)
  get_spelled s = record { key = h.well_formed.key; short = h.well_formed.ranges.body; served = s; texts = h.texts; valued = get_values; date = refl; dated = get_date ask.exptime h.well_formed.ranges.exptime; time = h.well_formed.ranges.exptime; few = record { are = tt; few = omega arith }; unmixed = tt }

  delete_spelled : are_served of_delete ask.tokens ≡ true → ask.exptime ≡ None → IsSpelled Delete ask (values ask.cas None None None None)
  delete_spelled s none = record { key = h.well_formed.key; short = h.well_formed.ranges.body; served = s; texts = h.texts; valued = delete_values ask.cas h.well_formed.ranges.cas; date = sym none; dated = subst (λ (e : Option ℤ). IsDate Delete e) (sym none) tt; time = h.well_formed.ranges.exptime; few = few_le 1 3 _ (omega arith) (few_cas ask.cas h.well_formed.ranges.cas); unmixed = tt }

  few_values : (l n : ℕ) → 33 ≤ l → n < 2 ^ 64 → AreFew 3 (meta_cas_words ask.cas ++ (l ∷ decimal n) ∷ mode_word ask.op ∷ [])
  few_values l n le lt = few_append 1 2 (meta_cas_words ask.cas) _ (few_cas ask.cas h.well_formed.ranges.cas) (few_first 1 (l ∷ decimal n) _ (wide_token l n le lt) (few_first 0 (mode_word ask.op) _ (mode_token ask.op) (record { are = tt; few = omega arith })))

  store_spelled : (m : Op) → are_served of_store ask.tokens ≡ true → mode_of Store (mode_letter ask.op ∷ []) ≡ Some m → mixes (values ask.cas None ask.exptime (Some ask.flags) (Some m)) ≡ false → IsSpelled Store ask (values ask.cas None ask.exptime (Some ask.flags) (Some m))
  store_spelled m s is u = let small = h.well_formed.ranges.flags in record { key = h.well_formed.key; short = h.well_formed.ranges.body; served = s; texts = h.texts; valued = store_values ask.cas ask.flags ask.op m h.well_formed.ranges.cas h.well_formed.ranges.flags is; date = refl; dated = store_date ask.exptime h.well_formed.ranges.exptime; time = h.well_formed.ranges.exptime; few = few_values 70 ask.flags (omega arith) (omega arith); unmixed = u }

  count_spelled : (m : Op) → are_served of_count ask.tokens ≡ true → mode_of Count (mode_letter ask.op ∷ []) ≡ Some m → IsSpelled Count ask (values ask.cas (Some ask.delta) ask.exptime None (Some m))
  count_spelled m s is = record { key = h.well_formed.key; short = h.well_formed.ranges.body; served = s; texts = h.texts; valued = count_values ask.cas ask.delta ask.op m h.well_formed.ranges.cas h.well_formed.ranges.delta is; date = refl; dated = count_date ask.exptime h.well_formed.ranges.exptime; time = h.well_formed.ranges.exptime; few = few_values 68 ask.delta (omega arith) h.well_formed.ranges.delta; unmixed = tt }

  mode_is : (kind : Kind) (op m : Op) → ask.op ≡ op → mode_of kind (mode_letter op ∷ []) ≡ Some m → mode_of kind (mode_letter ask.op ∷ []) ≡ Some m
  mode_is kind op m o e = ap (λ (p : Op). mode_of kind (mode_letter p ∷ [])) o ∙ e

  plain_store : (op : Op) → ask.op ≡ op → mode_of Store (mode_letter op ∷ []) ≡ Some op → HasShape ask (shapes.storing of_store) → IsReadBack Store ask
  plain_store op o is s = record {
    v = values ask.cas None ask.exptime (Some ask.flags) (Some op);
    loud = refl;
    spelled = store_spelled op s.tokens (mode_is Store op op o is) (ap (λ (c : Option ℕ). mixes (values c None ask.exptime (Some ask.flags) (Some op))) s.cas);
    body = tt;
    same = same_ask _ ask refl (ap (λ (c : Option ℕ). store_op c (Some op)) s.cas ∙ sym o) (sym h.meta) (sym s.with_cas) refl (some_exptime ask.exptime s.exptime) refl refl (sym s.delta) refl;
  }

  counting : (op : Op) → ask.op ≡ op → mode_of Count (mode_letter op ∷ []) ≡ Some op → HasShape ask (record (shapes.bare of_count) { exptime = shapes.Optional; cas = shapes.Optional; delta = shapes.Required }) → IsReadBack Count ask
  counting op o is s = record {
    v = values ask.cas (Some ask.delta) ask.exptime None (Some op);
    loud = refl;
    spelled = count_spelled op s.tokens (mode_is Count op op o is);
    body = s.body;
    same = same_ask _ ask refl (sym o) (sym h.meta) (sym s.with_cas) (sym s.flags) refl (sym s.body) refl refl refl;
  }

  by_op : (op : Op) → ask.op ≡ op → HasShapeOf ask (shapes.meta_shape op) → IsReadBack (meta_kind op) ask
  by_op ops.Get o s = record { v = values None None ask.exptime None None; loud = refl; spelled = get_spelled s.tokens; body = s.body; same = same_ask _ ask refl (ap get_op s.exptime ∙ sym o) (sym h.meta) (sym s.with_cas) (sym s.flags) refl (sym s.body) (sym s.cas) (sym s.delta) refl }
  by_op ops.Gat o s = record { v = values None None ask.exptime None None; loud = refl; spelled = get_spelled s.tokens; body = s.body; same = same_ask _ ask refl (gat_op ask.exptime s.exptime ∙ sym o) (sym h.meta) (sym s.with_cas) (sym s.flags) refl (sym s.body) (sym s.cas) (sym s.delta) refl }
  by_op ops.Set o s = plain_store ops.Set o refl s
  by_op ops.Add o s = plain_store ops.Add o refl s
  by_op ops.Replace o s = plain_store ops.Replace o refl s
  by_op ops.Append o s = plain_store ops.Append o refl s
  by_op ops.Prepend o s = plain_store ops.Prepend o refl s
  by_op ops.Cas o s = record {
    v = values ask.cas None ask.exptime (Some ask.flags) (Some ops.Set);
    loud = refl;
    spelled = store_spelled ops.Set s.tokens (mode_is Store ops.Cas ops.Set o refl) (and_false (is_some ask.cas));
    body = tt;
    same = same_ask _ ask refl (cas_op ask.cas (Some ops.Set) s.cas ∙ sym o) (sym h.meta) (sym s.with_cas) refl (some_exptime ask.exptime s.exptime) refl refl (sym s.delta) refl;
  }
  by_op ops.Delete o s = record { v = values ask.cas None None None None; loud = refl; spelled = delete_spelled s.tokens s.exptime; body = s.body; same = same_ask _ ask refl (sym o) (sym h.meta) (sym s.with_cas) (sym s.flags) (sym s.exptime) (sym s.body) refl (sym s.delta) refl }
  by_op ops.Incr o s = counting ops.Incr o refl s
  by_op ops.Decr o s = counting ops.Decr o refl s
  by_op ops.Touch o s = absurd s

  shape_is : HasShapeOf ask (shapes.meta_shape ask.op)
  shape_is = subst (λ (d : Dialect). HasShapeOf ask (shape_of d ask.op)) h.meta h.well_formed.shape

  pub is_back : IsReadBack (meta_kind ask.op) ask
  is_back = by_op ask.op refl shape_is

by_kind : (ask : Ask) (more : List ℕ) (kind : Kind) → IsReadBack kind ask → BeginsMeta ((words_line (line_words kind ask) ++ block_by kind ask.body) ++ more) (Served (meta_order_for kind ask) ask.body) (length (words_line (line_words kind ask) ++ block_by kind ask.body))
by_kind ask more Get r = subst (λ (b : List ℕ). BeginsMeta ((words_line (line_words Get ask) ++ []) ++ more) (Served (meta_order_for Get ask) b) (length (words_line (line_words Get ask) ++ []))) (sym r.body) (begins_plain meta_grammar (line_words Get ask) (meta_order_for Get ask) (line_few ask r.v Get r.spelled).are (at_most ask r.v Get r.spelled) (order_back ask r.v Get r.spelled) more refl)
by_kind ask more Delete r = subst (λ (b : List ℕ). BeginsMeta ((words_line (line_words Delete ask) ++ []) ++ more) (Served (meta_order_for Delete ask) b) (length (words_line (line_words Delete ask) ++ []))) (sym r.body) (begins_plain meta_grammar (line_words Delete ask) (meta_order_for Delete ask) (line_few ask r.v Delete r.spelled).are (at_most ask r.v Delete r.spelled) (order_back ask r.v Delete r.spelled) more refl)
by_kind ask more Count r = subst (λ (b : List ℕ). BeginsMeta ((words_line (line_words Count ask) ++ []) ++ more) (Served (meta_order_for Count ask) b) (length (words_line (line_words Count ask) ++ []))) (sym r.body) (begins_plain meta_grammar (line_words Count ask) (meta_order_for Count ask) (line_few ask r.v Count r.spelled).are (at_most ask r.v Count r.spelled) (order_back ask r.v Count r.spelled) more refl)
by_kind ask more Store r = begins_block meta_grammar (line_words Store ask) (meta_order_for Store ask) (line_few ask r.v Store r.spelled).are (at_most ask r.v Store r.spelled) (order_back ask r.v Store r.spelled) ask.body more refl

pub asks_are_read_back : AsksAreReadBack meta_requests
asks_are_read_back ask more h = by_kind ask more (meta_kind ask.op) (is_back ask h)

one : (a b : Ask) → a ≡ b → a ∷ [] ≡ b ∷ []
one a b e = cc

one_ask : (ask : Ask) (kind : Kind) → IsReadBack kind ask → (meta_asks_by (meta_order_for kind ask) ask.body ≡ ask ∷ []) × (meta_is_quiet (meta_order_for kind ask) ≡ false)
one_ask ask kind r =
    let vs : values_of kind (flag_words kind ask) ≡ r.v = values_are ask r.v kind r.spelled in
    let ts : tokens_in (flag_words kind ask) ≡ ask.tokens = tokens_back kind (value_words kind ask) (undated r.v) r.spelled.valued ask.exptime ask.tokens r.spelled.texts in
    let made : ask_by kind ask.key (values_of kind (flag_words kind ask)) (tokens_in (flag_words kind ask)) ask.body ≡ ask = rw (vs, ts) r.same in
    (one _ ask made, ap (λ (v : Values). v.quiet) vs ∙ r.loud)

pub messages_are_one_ask : MessagesAreOneAsk meta_requests
messages_are_one_ask ask h = one_ask ask (meta_kind ask.op) (is_back ask h)
