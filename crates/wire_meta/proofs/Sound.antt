-- The ask of a message that is served is well formed.
use Rattle.std.proofs.Common.{◌≡◌, ℕ, ◌^◌, ◌<◌, ◌≤◌, Bool, true, false, eqb, ◌||◌, List, [], ◌∷◌, length, Option, Some, None, Result, Ok, Err, refl, sym, ap, subst, ◌∙◌, arith, inl, inr}
use Rattle.std.specs.Prelude.{ℤ, pos, IfSome, unwrap_or, if◌then◌else◌}
use Rattle.std.specs.List.{AllByRecursion}
use Rattle.std.proofs.lemmas.Bool.{cases_Bool}
use Rattle.std.proofs.lemmas.Int.{ints}
use Rattle.text_words.specs.Word.{text_at}
use Rattle.text_words.specs.declared.word.Span.{Span}
use Rattle.text_words.specs.Number.{number_below, signed_number}
use Rattle.mc_types.specs.KeyText.{IsKey}
use Rattle.mc_types.specs.Tokens.{are_served, TokenIsText}
use Rattle.mc_types.specs.Asks.{IsAsk, IsExptime, data_limit, of_get, of_store, of_count}
use Rattle.mc_types.specs.declared.token.Token.{Token}
use Rattle.mc_types.specs.declared.ask.Ask.{Ask}
use Rattle.mc_types.specs.declared.ask.Op.{Op}
use Rattle.mc_types.specs.declared.ask.Op.TheVariants as ops
use Rattle.wire_parts.specs.declared.refusal.RefusalReason.{RefusalReason}
use Rattle.wire_parts.specs.declared.refusal.RefusalReason.TheVariants.{FlagNotServed}
use Rattle.wire_parts.specs.Tests.{Word, ◌>>=◌, key_of, u32_of}
use Rattle.wire_parts.specs.Message.{Served, Refusal}
use Rattle.wire_parts.proofs.Ranges.{passed, is_ok, a_key, below_limit, signed, fits}
use Rattle.wire_parts.proofs.Sound.{IsServed, served_sound}
use Rattle.wire_meta.specs.declared.command.Kind.{Kind}
use Rattle.wire_meta.specs.declared.command.Kind.TheVariants.{Get, Store, Delete, Count}
use Rattle.wire_meta.specs.declared.command.Flags.{Flags}
use Rattle.wire_meta.specs.declared.command.MetaCommand.{MetaCommand}
use Rattle.wire_meta.specs.declared.command.MetaCommand.TheVariants as commands
use Rattle.wire_meta.specs.declared.command.MetaRequest.{MetaRequest}
use Rattle.wire_meta.specs.declared.command.Verb.{Verb}
use Rattle.wire_meta.specs.declared.command.Verb.TheVariants.{Keyed, Noop}
use Rattle.wire_meta.specs.CommandWords.{meta_verb_of}
use Rattle.wire_meta.specs.Flags.{flag_letter, flag_text, or_else, says, read_in, values_of, tokens_in, store_mode, count_mode, mode_of, flags_of}
use Rattle.wire_meta.specs.Order.{MetaOrder, Asking, OfItself, asking, meta_storing, noop, mixes, comparing, meta_ordered_by, meta_order_of}
use Rattle.wire_meta.specs.Places.{meta_order_in, flags_in, MetaLiesIn}
use Rattle.wire_meta.specs.Grammar.{meta_grammar, meta_block_len}
use Rattle.wire_meta.specs.Message.{BeginsMeta, IsMetaReadFrom}
use Rattle.wire_meta.specs.Asks.{ask_by, meta_asks_by, IsMetaAsk, get_op, store_op, meta_bare_ask}
use Rattle.wire_parts.specs.Requests.{AsksAreWellFormed}
use Rattle.wire_meta.specs.Laws.{meta_requests}
use Rattle.wire_meta.proofs.ServedLemmas.{served_by, are_let_through}

-- the data of `ms` isn't too long
abbrev pub IsShort : Option ℕ → Type 0
IsShort None = Unit {0}
IsShort (Some n) = n ≤ data_limit

-- the key is one, and the return flags are those of the command, each once
pub record IsSoundAsking (kind : Kind) (key : Word) (n : Option ℕ) (flags : List Word) : Type 0 where
  pub key_is : IsKey key
  pub served : are_served (served_by kind) (tokens_in flags) ≡ true
  pub texts : AllByRecursion TokenIsText (tokens_in flags)
  pub short : IsShort n

abbrev pub IsSound : MetaOrder → Type 0
IsSound (Asking kind key n flags) = IsSoundAsking kind key n flags
IsSound (OfItself own) = Unit {0}

sound_flags : (kind : Kind) (key : Word) (n : Option ℕ) (words flags : List Word) → IsKey key → IsShort n → flags_of kind [] words ≡ Ok flags → IsSoundAsking kind key n flags
sound_flags kind key n words flags k s e =
    let a = are_let_through kind [] words flags e in
    record { key_is = k; served = ap (λ ws. are_served (served_by kind) (tokens_in ws)) a.all_are ∙ a.served; texts = subst (λ ws. AllByRecursion TokenIsText (tokens_in ws)) (sym a.all_are) a.texts; short = s }

by_asking : (kind : Kind) (ws : List Word) (o : MetaOrder) → asking kind ws ≡ Ok o → IsSound o
by_asking kind [] o h = absurd cc
by_asking kind (k ∷ ws) o h =
    let a = passed (key_of k) _ o h in
    let b = passed (flags_of kind [] ws) _ o a.2 in
    let same : Asking kind a.0 None b.0 ≡ o = is_ok (Asking kind a.0 None b.0) o b.2 in
    subst IsSound same (sound_flags kind a.0 None ws b.0 (a_key k a.0 a.1) tt b.1)

compared : (flags all : List Word) → comparing flags ≡ Ok all → flags ≡ all
compared flags all e = elim (cases_Bool (mixes (values_of Store flags))) [
  | inl same ↦ let f : ◌≡◌ {A = Result (List Word) RefusalReason} (Err FlagNotServed) (Ok all) = rw same at e in absurd cc
  | inr other ↦ let f : ◌≡◌ {A = Result (List Word) RefusalReason} (Ok flags) (Ok all) = rw other at e in is_ok flags all f
]

by_storing : (ws : List Word) (o : MetaOrder) → meta_storing ws ≡ Ok o → IsSound o
by_storing [] o h = absurd cc
by_storing (k ∷ []) o h = absurd cc
by_storing (k ∷ n ∷ ws) o h =
    let a = passed (key_of k) _ o h in
    let b = passed (u32_of n) _ o a.2 in
    let c = passed (flags_of Store [] ws) _ o b.2 in
    let d = passed (comparing c.0) _ o c.2 in
    let e = fits b.0 (Asking Store a.0 (Some b.0) d.0) o d.2 in
    let flags : flags_of Store [] ws ≡ Ok d.0 = c.1 ∙ ap (λ fs. Ok fs) (compared c.0 d.0 d.1) in
    subst IsSound e.1 (sound_flags Store a.0 (Some b.0) ws d.0 (a_key k a.0 a.1) e.0 flags)

by_noop : (ws : List Word) (o : MetaOrder) → noop ws ≡ Ok o → IsSound o
by_noop [] o h = subst IsSound (is_ok _ o h) tt
by_noop (w ∷ ws) o h = absurd cc

by_verb : (verb : Option Verb) (ws : List Word) (o : MetaOrder) → meta_ordered_by verb ws ≡ Ok o → IsSound o
by_verb None ws o h = absurd cc
by_verb (Some (Keyed Get)) ws o h = by_asking Get ws o h
by_verb (Some (Keyed Store)) ws o h = by_storing ws o h
by_verb (Some (Keyed Delete)) ws o h = by_asking Delete ws o h
by_verb (Some (Keyed Count)) ws o h = by_asking Count ws o h
by_verb (Some Noop) ws o h = by_noop ws o h

pub sound : (ws : List Word) (o : MetaOrder) → meta_order_of ws ≡ Ok o → IsSound o
sound [] o h = absurd cc
sound (w ∷ ws) o h = by_verb (meta_verb_of w) ws o h

block_short : (o : MetaOrder) (n : ℕ) → IsSound o → meta_block_len o ≡ Some n → n ≤ data_limit
block_short (Asking kind key len flags) n h e = subst IsShort e h.short
block_short (OfItself own) n h e = absurd cc

pub is_served : (bytes : List ℕ) (o : MetaOrder) (block : List ℕ) (used : ℕ) → BeginsMeta bytes (Served o block) used → IsServed meta_grammar IsSound o block
is_served = served_sound meta_grammar IsSound sound block_short

one_read : {A : Type 0} (read : Word → Option A) (text : Word) (x : A) (b : Bool) → (if b then read text else None) ≡ Some x → (t : Word) × (read t ≡ Some x)
one_read read text x true h = (text, h)
one_read read text x false h = absurd cc

read_step : {A : Type 0} (letter : ℕ) (read : Word → Option A) (w : Word) (x : A) (o : Option A) → ((y : A) → o ≡ Some y → (t : Word) × (read t ≡ Some y)) → or_else o (says letter read w) ≡ Some x → (t : Word) × (read t ≡ Some x)
read_step letter read w x None rest e = one_read read (flag_text w) x (eqb (flag_letter w) letter) e
read_step letter read w x (Some y) rest e = rest x e

-- what a flag says was read from a text
pub read_from : {A : Type 0} (letter : ℕ) (read : Word → Option A) (ws : List Word) (x : A) → read_in letter read ws ≡ Some x → (t : Word) × (read t ≡ Some x)
read_from letter read [] x e = absurd cc
read_from letter read (w ∷ ws) x e = read_step letter read w x (read_in letter read ws) (λ y h. read_from letter read ws y h) e

if_read : {A : Type 0} (letter : ℕ) (read : Word → Option A) (ws : List Word) (P : A → Type 0) → ((t : Word) (x : A) → read t ≡ Some x → P x) → (o : Option A) → read_in letter read ws ≡ o → IfSome o P
if_read letter read ws P h None is = tt
if_read letter read ws P h (Some x) is = let t = read_from letter read ws x is in h t.0 x t.1

or_read : {A : Type 0} (P : A → Type 0) (o : Option A) (default : A) → IfSome o P → P default → P (unwrap_or o default)
or_read P None default h d = d
or_read P (Some x) default h d = h

-- the stores that a mode names
abbrev IsMode : Op → Type 0
IsMode ops.Set = Unit {0}
IsMode ops.Add = Unit {0}
IsMode ops.Append = Unit {0}
IsMode ops.Prepend = Unit {0}
IsMode ops.Replace = Unit {0}
IsMode _ = ⊥

-- the counts that a mode names
abbrev IsCount : Op → Type 0
IsCount ops.Incr = Unit {0}
IsCount ops.Decr = Unit {0}
IsCount _ = ⊥

by_if : (P : Op → Type 0) (c : Bool) (a x : Op) (r : Option Op) → P a → (r ≡ Some x → P x) → (if c then Some a else r) ≡ Some x → P x
by_if P true a x r h g e = let f : a ≡ x = cc in subst P f h
by_if P false a x r h g e = g e

none_op : (P : Op → Type 0) (x : Op) → None ≡ Some x → P x
none_op P x e = absurd cc

a_store : (b : ℕ) (x : Op) → store_mode b ≡ Some x → IsMode x
a_store b x e = by_if IsMode (eqb b 83 || eqb b 115) ops.Set x _ tt (by_if IsMode (eqb b 69 || eqb b 101) ops.Add x _ tt (by_if IsMode (eqb b 65 || eqb b 97) ops.Append x _ tt (by_if IsMode (eqb b 80 || eqb b 112) ops.Prepend x _ tt (by_if IsMode (eqb b 82 || eqb b 114) ops.Replace x None tt (none_op IsMode x))))) e

a_count : (b : ℕ) (x : Op) → count_mode b ≡ Some x → IsCount x
a_count b x e = by_if IsCount (eqb b 73 || eqb b 105 || eqb b 43) ops.Incr x _ tt (by_if IsCount (eqb b 68 || eqb b 100 || eqb b 45) ops.Decr x None tt (none_op IsCount x)) e

a_store_text : (t : Word) (x : Op) → mode_of Store t ≡ Some x → IsMode x
a_store_text [] x e = absurd cc
a_store_text (b ∷ []) x e = a_store b x e
a_store_text (b ∷ c ∷ t) x e = absurd cc

a_count_text : (t : Word) (x : Op) → mode_of Count t ≡ Some x → IsCount x
a_count_text [] x e = absurd cc
a_count_text (b ∷ []) x e = a_count b x e
a_count_text (b ∷ c ∷ t) x e = absurd cc

zero_in : IsExptime (pos 0)
zero_in = (omega (arith, ints), omega (arith, ints))

get_ask : (key : Word) (exptime : Option ℤ) (wanted : List Token) → IsKey key → IfSome exptime IsExptime → are_served of_get wanted ≡ true → IsAsk (record (meta_bare_ask (get_op exptime) key wanted) { exptime = exptime })
get_ask key None wanted k h s = record { key = k; ranges = record { flags = omega arith; exptime = tt; body = omega arith; cas = tt; delta = omega arith }; shape = record { with_cas = refl; flags = refl; exptime = refl; body = refl; cas = refl; delta = refl; tokens = s } }
get_ask key (Some e) wanted k h s = record { key = k; ranges = record { flags = omega arith; exptime = h; body = omega arith; cas = tt; delta = omega arith }; shape = record { with_cas = refl; flags = refl; exptime = refl; body = refl; cas = refl; delta = refl; tokens = s } }

module _ (key : Word) (f : ℕ) (e : ℤ) (block : List ℕ) (wanted : List Token) (k : IsKey key) (fl : f < 2 ^ 32) (ex : IsExptime e) (le : length block ≤ data_limit) (s : are_served of_store wanted ≡ true) where
  plain_store : (op : Op) → IsMode op → IsAsk (record (meta_bare_ask op key wanted) { flags = f; exptime = Some e; body = block; cas = None })
  plain_store ops.Set m = record { key = k; ranges = record { flags = fl; exptime = ex; body = le; cas = tt; delta = omega arith }; shape = record { with_cas = refl; flags = tt; exptime = refl; body = tt; cas = refl; delta = refl; tokens = s } }
  plain_store ops.Add m = record { key = k; ranges = record { flags = fl; exptime = ex; body = le; cas = tt; delta = omega arith }; shape = record { with_cas = refl; flags = tt; exptime = refl; body = tt; cas = refl; delta = refl; tokens = s } }
  plain_store ops.Append m = record { key = k; ranges = record { flags = fl; exptime = ex; body = le; cas = tt; delta = omega arith }; shape = record { with_cas = refl; flags = tt; exptime = refl; body = tt; cas = refl; delta = refl; tokens = s } }
  plain_store ops.Prepend m = record { key = k; ranges = record { flags = fl; exptime = ex; body = le; cas = tt; delta = omega arith }; shape = record { with_cas = refl; flags = tt; exptime = refl; body = tt; cas = refl; delta = refl; tokens = s } }
  plain_store ops.Replace m = record { key = k; ranges = record { flags = fl; exptime = ex; body = le; cas = tt; delta = omega arith }; shape = record { with_cas = refl; flags = tt; exptime = refl; body = tt; cas = refl; delta = refl; tokens = s } }
  plain_store ops.Get m = absurd m
  plain_store ops.Gat m = absurd m
  plain_store ops.Cas m = absurd m
  plain_store ops.Delete m = absurd m
  plain_store ops.Incr m = absurd m
  plain_store ops.Decr m = absurd m
  plain_store ops.Touch m = absurd m

  store_ask : (cas : Option ℕ) (mode : Option Op) → IfSome cas (λ c. c < 2 ^ 64) → IfSome mode IsMode → IsAsk (record (meta_bare_ask (store_op cas mode) key wanted) { flags = f; exptime = Some e; body = block; cas = cas })
  store_ask None mode c m = plain_store (unwrap_or mode ops.Set) (or_read IsMode mode ops.Set m tt)
  store_ask (Some n) mode c m = record { key = k; ranges = record { flags = fl; exptime = ex; body = le; cas = c; delta = omega arith }; shape = record { with_cas = refl; flags = tt; exptime = refl; body = tt; cas = refl; delta = refl; tokens = s } }

count_ask : (op : Op) (key : Word) (exptime : Option ℤ) (cas : Option ℕ) (delta : ℕ) (wanted : List Token) → IsKey key → IfSome exptime IsExptime → IfSome cas (λ c. c < 2 ^ 64) → delta < 2 ^ 64 → are_served of_count wanted ≡ true → IsCount op → IsAsk (record (meta_bare_ask op key wanted) { exptime = exptime; cas = cas; delta = delta })
count_ask ops.Incr key exptime cas delta wanted k e c d s m = record { key = k; ranges = record { flags = omega arith; exptime = e; body = omega arith; cas = c; delta = d }; shape = record { with_cas = refl; flags = refl; exptime = tt; body = refl; cas = tt; delta = tt; tokens = s } }
count_ask ops.Decr key exptime cas delta wanted k e c d s m = record { key = k; ranges = record { flags = omega arith; exptime = e; body = omega arith; cas = c; delta = d }; shape = record { with_cas = refl; flags = refl; exptime = tt; body = refl; cas = tt; delta = tt; tokens = s } }
count_ask ops.Get key exptime cas delta wanted k e c d s m = absurd m
count_ask ops.Gat key exptime cas delta wanted k e c d s m = absurd m
count_ask ops.Set key exptime cas delta wanted k e c d s m = absurd m
count_ask ops.Add key exptime cas delta wanted k e c d s m = absurd m
count_ask ops.Replace key exptime cas delta wanted k e c d s m = absurd m
count_ask ops.Append key exptime cas delta wanted k e c d s m = absurd m
count_ask ops.Prepend key exptime cas delta wanted k e c d s m = absurd m
count_ask ops.Cas key exptime cas delta wanted k e c d s m = absurd m
count_ask ops.Delete key exptime cas delta wanted k e c d s m = absurd m
count_ask ops.Touch key exptime cas delta wanted k e c d s m = absurd m

exptime_in : (ws : List Word) → IfSome (read_in 84 signed_number ws) IsExptime
exptime_in ws = if_read 84 signed_number ws IsExptime signed _ refl

cas_in : (ws : List Word) → IfSome (read_in 67 (number_below (2 ^ 64)) ws) (λ c. c < 2 ^ 64)
cas_in ws = if_read 67 (number_below (2 ^ 64)) ws (λ c. c < 2 ^ 64) (λ t x. below_limit (2 ^ 64) x t) _ refl

is_ask : (kind : Kind) (key : Word) (n : Option ℕ) (ws : List Word) (block : List ℕ) → IsSoundAsking kind key n ws → length block ≤ data_limit → IsAsk (ask_by kind key (values_of kind ws) (tokens_in ws) block)
is_ask Get key n ws block h le = get_ask key (read_in 84 signed_number ws) (tokens_in ws) h.key_is (exptime_in ws) h.served
is_ask Store key n ws block h le =
    store_ask key (unwrap_or (read_in 70 (number_below (2 ^ 32)) ws) 0) (unwrap_or (read_in 84 signed_number ws) (pos 0)) block (tokens_in ws) h.key_is
    (or_read (λ f. f < 2 ^ 32) (read_in 70 (number_below (2 ^ 32)) ws) 0 (if_read 70 (number_below (2 ^ 32)) ws (λ f. f < 2 ^ 32) (λ t x. below_limit (2 ^ 32) x t) _ refl) (omega arith))
    (or_read IsExptime (read_in 84 signed_number ws) (pos 0) (exptime_in ws) zero_in)
    le h.served (read_in 67 (number_below (2 ^ 64)) ws) (read_in 77 (mode_of Store) ws) (cas_in ws) (if_read 77 (mode_of Store) ws IsMode a_store_text _ refl)
is_ask Delete key n ws block h le = record { key = h.key_is; ranges = record { flags = omega arith; exptime = tt; body = omega arith; cas = cas_in ws; delta = omega arith }; shape = record { with_cas = refl; flags = refl; exptime = refl; body = refl; cas = tt; delta = refl; tokens = h.served } }
is_ask Count key n ws block h le =
    count_ask (unwrap_or (read_in 77 (mode_of Count) ws) ops.Incr) key (read_in 84 signed_number ws) (read_in 67 (number_below (2 ^ 64)) ws) (unwrap_or (read_in 68 (number_below (2 ^ 64)) ws) 1) (tokens_in ws) h.key_is (exptime_in ws) (cas_in ws)
    (or_read (λ d. d < 2 ^ 64) (read_in 68 (number_below (2 ^ 64)) ws) 1 (if_read 68 (number_below (2 ^ 64)) ws (λ d. d < 2 ^ 64) (λ t x. below_limit (2 ^ 64) x t) _ refl) (omega arith))
    h.served (or_read IsCount (read_in 77 (mode_of Count) ws) ops.Incr (if_read 77 (mode_of Count) ws IsCount a_count_text _ refl) tt)

is_meta_ask : (kind : Kind) (key : Word) (n : Option ℕ) (ws : List Word) (block : List ℕ) → IsSoundAsking kind key n ws → length block ≤ data_limit → IsMetaAsk (ask_by kind key (values_of kind ws) (tokens_in ws) block)
is_meta_ask Get key n ws block h le = record { well_formed = is_ask Get key n ws block h le; meta = refl; texts = h.texts }
is_meta_ask Store key n ws block h le = record { well_formed = is_ask Store key n ws block h le; meta = refl; texts = h.texts }
is_meta_ask Delete key n ws block h le = record { well_formed = is_ask Delete key n ws block h le; meta = refl; texts = h.texts }
is_meta_ask Count key n ws block h le = record { well_formed = is_ask Count key n ws block h le; meta = refl; texts = h.texts }

are_asks : (o : MetaOrder) (block : List ℕ) → IsSound o → length block ≤ data_limit → AllByRecursion IsMetaAsk (meta_asks_by o block)
are_asks (Asking kind key n flags) block h le = (is_meta_ask kind key n flags block h le, tt)
are_asks (OfItself own) block h le = tt

pub asks_are_well_formed : AsksAreWellFormed meta_requests
asks_are_well_formed bytes (Served o block) used b = let s = is_served bytes o block used b in are_asks o block s.sound s.short
asks_are_well_formed bytes (Refusal why skip) used b = tt

-- a request that was read
pub request_sound : (bytes : List ℕ) (r : MetaRequest) (command : MetaCommand) → IsMetaReadFrom bytes r → r.command ≡ command → IsSound (meta_order_in bytes command)
request_sound bytes r command h is = let s = is_served bytes (meta_order_in bytes r.command) (text_at bytes r.block) r.used h.begins in subst (λ (k : MetaCommand). IsSound (meta_order_in bytes k)) is s.sound

-- the ask that is made of it
pub made : (bytes : List ℕ) (r : MetaRequest) (key : Span) (flags : Flags) (len : Option ℕ) (kind : Kind) (k : Word) (t : List Token) (b : List ℕ) (ask : Ask) → IsMetaReadFrom bytes r → r.command ≡ commands.Keyed kind len key flags → k ≡ text_at bytes key → t ≡ tokens_in (flags_in bytes flags) → b ≡ text_at bytes r.block → ask ≡ ask_by kind k flags.values t b → IsMetaAsk ask
made bytes r key flags len kind k t b ask h is ke te be e =
    let command = commands.Keyed kind len key flags in
    let lies : MetaLiesIn bytes command = subst (MetaLiesIn bytes) is h.placed.command in
    let served = is_served bytes (meta_order_in bytes r.command) (text_at bytes r.block) r.used h.begins in
    let full : ask_by kind k flags.values t b ≡ ask_by kind (text_at bytes key) (values_of kind (flags_in bytes flags)) (tokens_in (flags_in bytes flags)) (text_at bytes r.block) = rw (ke, te, be, lies.1.values) refl in
    subst IsMetaAsk (sym (e ∙ full)) (is_meta_ask kind (text_at bytes key) len (flags_in bytes flags) (text_at bytes r.block) (request_sound bytes r command h is) served.short)
