-- The line of an ask asks what the ask says.
use Rattle.std.proofs.Common.{◌≡◌, ℕ, ◌^◌, ◌<◌, ◌≤◌, Bool, true, false, List, [], ◌∷◌, length, Option, Some, None, Result, Ok, refl, ap, ◌∙◌, arith}
use Rattle.std.specs.Prelude.{ℤ, pos, codes, decimal, IfSome, unwrap_or}
use Rattle.std.specs.Fmt.{signed_decimal}
use Rattle.std.proofs.lemmas.Bool.{le-leb}
use Rattle.std.proofs.lemmas.Int.{ints}
use Rattle.mc_types.specs.KeyText.{IsKey}
use Rattle.mc_types.specs.Asks.{IsAsk, IsExptime, data_limit}
use Rattle.mc_types.specs.declared.ask.Ask.{Ask}
use Rattle.mc_types.specs.declared.ask.Op.{Op}
use Rattle.mc_types.specs.declared.ask.Op.TheVariants.{Get, Gat, Set, Add, Replace, Append, Prepend, Cas, Delete, Incr, Decr, Touch}
use Rattle.wire_parts.specs.declared.refusal.RefusalReason.{RefusalReason}
use Rattle.wire_classic.specs.declared.command.Verb.{Verb}
use Rattle.wire_classic.specs.declared.command.Verb.TheVariants as verbs
use Rattle.wire_parts.specs.Tests.{Word}
use Rattle.wire_classic.specs.CommandWords.{verb_of}
use Rattle.wire_classic.specs.Order.{Order, Storing, Retrieval, Storage, Swapping, Deletion, Touching, Counting, keys_of, storing_of, classic_order_of, ordered_by, storage, swapping, getting, getting_and_touching, counting, touching, deletion}
use Rattle.wire_parts.specs.Tests.{◌>>=◌, u64_of, exptime_of, fitting}
use Rattle.wire_parts.proofs.Tokens.{key_passes, key_back, small_back, wide_back, exptime_back}
use Rattle.wire_classic.specs.Spelling.{command_word, words_after, store_words, classic_storing, order_for, exptime_in, cas_in}

keys_back : (key : Word) → IsKey key → keys_of (key ∷ []) ≡ Ok (key ∷ [])
keys_back key k = rw (key_passes key k) refl

storing_back : (s : Storing) → IsKey s.key → s.flags < 2 ^ 32 → IsExptime s.exptime → s.length ≤ data_limit → storing_of s.key (decimal s.flags) (signed_decimal s.exptime) (decimal s.length) ≡ Ok s
storing_back s k f e n =
    let wide : s.length < 2 ^ 32 = omega arith in
    rw (key_back s.key k, small_back s.flags f, exptime_back s.exptime e, small_back s.length wide) refl

verb_get : verb_of (codes "get") ≡ Some (verbs.Retrieve false false)
unfolding verb_of
verb_get = refl

verb_gets : verb_of (codes "gets") ≡ Some (verbs.Retrieve false true)
unfolding verb_of
verb_gets = refl

verb_gat : verb_of (codes "gat") ≡ Some (verbs.Retrieve true false)
unfolding verb_of
verb_gat = refl

verb_gats : verb_of (codes "gats") ≡ Some (verbs.Retrieve true true)
unfolding verb_of
verb_gats = refl

verb_set : verb_of (codes "set") ≡ Some (verbs.Store Set)
unfolding verb_of
verb_set = refl

verb_add : verb_of (codes "add") ≡ Some (verbs.Store Add)
unfolding verb_of
verb_add = refl

verb_replace : verb_of (codes "replace") ≡ Some (verbs.Store Replace)
unfolding verb_of
verb_replace = refl

verb_append : verb_of (codes "append") ≡ Some (verbs.Store Append)
unfolding verb_of
verb_append = refl

verb_prepend : verb_of (codes "prepend") ≡ Some (verbs.Store Prepend)
unfolding verb_of
verb_prepend = refl

verb_cas : verb_of (codes "cas") ≡ Some verbs.Cas
unfolding verb_of
verb_cas = refl

verb_delete : verb_of (codes "delete") ≡ Some verbs.Delete
unfolding verb_of
verb_delete = refl

verb_incr : verb_of (codes "incr") ≡ Some (verbs.Count Incr)
unfolding verb_of
verb_incr = refl

verb_decr : verb_of (codes "decr") ≡ Some (verbs.Count Decr)
unfolding verb_of
verb_decr = refl

verb_touch : verb_of (codes "touch") ≡ Some verbs.Touch
unfolding verb_of
verb_touch = refl

-- the fields of an ask are in their ranges
pub record IsFit (ask : Ask) : Type 0 where
  pub key : IsKey ask.key
  pub flags : ask.flags < 2 ^ 32
  pub exptime : IsExptime (exptime_in ask)
  pub body : length ask.body ≤ data_limit
  pub cas : cas_in ask < 2 ^ 64
  pub delta : ask.delta < 2 ^ 64

exptime_of_some : (o : Option ℤ) → IfSome o IsExptime → IsExptime (unwrap_or o (pos 0))
exptime_of_some None h = (omega (arith, ints), omega (arith, ints))
exptime_of_some (Some z) h = h

cas_of_some : (o : Option ℕ) → IfSome o (λ c. c < 2 ^ 64) → unwrap_or o 0 < 2 ^ 64
cas_of_some None h = omega arith
cas_of_some (Some n) h = h

pub is_fit : (ask : Ask) → IsAsk ask → IsFit ask
is_fit ask h = record { key = h.key; flags = h.ranges.flags; exptime = exptime_of_some ask.exptime h.ranges.exptime; body = h.ranges.body; cas = cas_of_some ask.cas h.ranges.cas; delta = h.ranges.delta }

fitting_back : (n : ℕ) (o : Order) → n ≤ data_limit → fitting n o ≡ Ok o
fitting_back n o le = rw (le-leb n data_limit le) refl

storage_back : (op : Op) (ask : Ask) → IsFit ask → storage op (store_words ask []) ≡ Ok (Storage op (classic_storing ask) false)
storage_back op ask f =
    ap (λ (r : Result Storing RefusalReason). r >>= (λ stored. fitting stored.length (Storage op stored false))) (storing_back (classic_storing ask) f.key f.flags f.exptime f.body)
    ∙ fitting_back (length ask.body) (Storage op (classic_storing ask) false) f.body

swapping_back : (ask : Ask) → IsFit ask → swapping (store_words ask (decimal (cas_in ask) ∷ [])) ≡ Ok (Swapping (classic_storing ask) (cas_in ask) false)
swapping_back ask f =
    ap (λ (r : Result Storing RefusalReason). r >>= (λ stored. u64_of (decimal (cas_in ask)) >>= (λ cas. fitting stored.length (Swapping stored cas false)))) (storing_back (classic_storing ask) f.key f.flags f.exptime f.body)
    ∙ ap (λ (r : Result ℕ RefusalReason). r >>= (λ cas. fitting (length ask.body) (Swapping (classic_storing ask) cas false))) (wide_back (cas_in ask) f.cas)
    ∙ fitting_back (length ask.body) (Swapping (classic_storing ask) (cas_in ask) false) f.body

getting_back : (with_cas : Bool) (key : Word) → IsKey key → getting with_cas (key ∷ []) ≡ Ok (Retrieval None with_cas (key ∷ []))
getting_back with_cas key k = ap (λ (r : Result (List Word) RefusalReason). r >>= (λ keys. Ok (Retrieval None with_cas keys))) (keys_back key k)

gat_back : (with_cas : Bool) (key : Word) (z : ℤ) → IsKey key → IsExptime z → getting_and_touching with_cas (signed_decimal z ∷ key ∷ []) ≡ Ok (Retrieval (Some z) with_cas (key ∷ []))
gat_back with_cas key z k e =
    ap (λ (r : Result (List Word) RefusalReason). r >>= (λ keys. exptime_of (signed_decimal z) >>= (λ exptime. Ok (Retrieval (Some exptime) with_cas keys)))) (keys_back key k)
    ∙ ap (λ (r : Result ℤ RefusalReason). r >>= (λ exptime. Ok (Retrieval (Some exptime) with_cas (key ∷ [])))) (exptime_back z e)

counting_back : (op : Op) (key : Word) (delta : ℕ) → IsKey key → delta < 2 ^ 64 → counting op (key ∷ decimal delta ∷ []) ≡ Ok (Counting op key delta false)
counting_back op key delta k lt =
    ap (λ (r : Result Word RefusalReason). r >>= (λ key. u64_of (decimal delta) >>= (λ delta. Ok (Counting op key delta false)))) (key_back key k)
    ∙ ap (λ (r : Result ℕ RefusalReason). r >>= (λ delta. Ok (Counting op key delta false))) (wide_back delta lt)

touching_back : (key : Word) (z : ℤ) → IsKey key → IsExptime z → touching (key ∷ signed_decimal z ∷ []) ≡ Ok (Touching key z false)
touching_back key z k e =
    ap (λ (r : Result Word RefusalReason). r >>= (λ key. exptime_of (signed_decimal z) >>= (λ exptime. Ok (Touching key exptime false)))) (key_back key k)
    ∙ ap (λ (r : Result ℤ RefusalReason). r >>= (λ exptime. Ok (Touching key exptime false))) (exptime_back z e)

deletion_back : (key : Word) → IsKey key → deletion (key ∷ []) ≡ Ok (Deletion key false)
deletion_back key k = ap (λ (r : Result Word RefusalReason). r >>= (λ key. Ok (Deletion key false))) (key_back key k)

by_verb : (w : Word) (ws : List Word) (v : Option Verb) (o : Order) → verb_of w ≡ v → ordered_by v ws ≡ Ok o → classic_order_of (w ∷ ws) ≡ Ok o
by_verb w ws v o is e = ap (λ (v : Option Verb). ordered_by v ws) is ∙ e

get_order : (with_cas : Bool) (key : Word) → IsKey key → classic_order_of (command_word Get with_cas ∷ key ∷ []) ≡ Ok (Retrieval None with_cas (key ∷ []))
get_order false key k = by_verb (codes "get") (key ∷ []) _ _ verb_get (getting_back false key k)
get_order true key k = by_verb (codes "gets") (key ∷ []) _ _ verb_gets (getting_back true key k)

gat_order : (with_cas : Bool) (key : Word) (z : ℤ) → IsKey key → IsExptime z → classic_order_of (command_word Gat with_cas ∷ signed_decimal z ∷ key ∷ []) ≡ Ok (Retrieval (Some z) with_cas (key ∷ []))
gat_order false key z k e = by_verb (codes "gat") (signed_decimal z ∷ key ∷ []) _ _ verb_gat (gat_back false key z k e)
gat_order true key z k e = by_verb (codes "gats") (signed_decimal z ∷ key ∷ []) _ _ verb_gats (gat_back true key z k e)

-- the line of an ask asks this
pub order_back : (op : Op) (ask : Ask) → IsFit ask → classic_order_of (command_word op ask.with_cas ∷ words_after op ask) ≡ Ok (order_for op ask)
order_back Get ask f = get_order ask.with_cas ask.key f.key
order_back Gat ask f = gat_order ask.with_cas ask.key (exptime_in ask) f.key f.exptime
order_back Set ask f = by_verb (codes "set") (store_words ask []) _ _ verb_set (storage_back Set ask f)
order_back Add ask f = by_verb (codes "add") (store_words ask []) _ _ verb_add (storage_back Add ask f)
order_back Replace ask f = by_verb (codes "replace") (store_words ask []) _ _ verb_replace (storage_back Replace ask f)
order_back Append ask f = by_verb (codes "append") (store_words ask []) _ _ verb_append (storage_back Append ask f)
order_back Prepend ask f = by_verb (codes "prepend") (store_words ask []) _ _ verb_prepend (storage_back Prepend ask f)
order_back Cas ask f = by_verb (codes "cas") (store_words ask (decimal (cas_in ask) ∷ [])) _ _ verb_cas (swapping_back ask f)
order_back Delete ask f = by_verb (codes "delete") (ask.key ∷ []) _ _ verb_delete (deletion_back ask.key f.key)
order_back Incr ask f = by_verb (codes "incr") (ask.key ∷ decimal ask.delta ∷ []) _ _ verb_incr (counting_back Incr ask.key ask.delta f.key f.delta)
order_back Decr ask f = by_verb (codes "decr") (ask.key ∷ decimal ask.delta ∷ []) _ _ verb_decr (counting_back Decr ask.key ask.delta f.key f.delta)
order_back Touch ask f = by_verb (codes "touch") (ask.key ∷ signed_decimal (exptime_in ask) ∷ []) _ _ verb_touch (touching_back ask.key (exptime_in ask) f.key f.exptime)
