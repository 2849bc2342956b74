-- Each ask of a message that is served is well formed.
use Rattle.std.proofs.Common.{◌≡◌, ℕ, zero, suc, ◌+◌, ◌-◌, ◌^◌, ◌<◌, ◌≤◌, Bool, List, [], ◌∷◌, length, take, drop, Option, Some, None, refl, ap, subst, ◌∙◌, arith}
use Rattle.std.specs.Prelude.{ℤ, IfSome, map, slice_get}
use Rattle.std.specs.List.{AllByRecursion}
use Rattle.std.proofs.lemmas.List.{drop-take}
use Rattle.text_words.specs.Word.{words, text_at}
use Rattle.mc_types.specs.KeyText.{IsKey}
use Rattle.mc_types.specs.Asks.{IsAsk, IsExptime, AreInRange, data_limit}
use Rattle.mc_types.specs.declared.ask.Op.{Op}
use Rattle.mc_types.specs.declared.ask.Op.TheVariants as ops
use Rattle.wire_classic.specs.declared.command.ClassicCommand.{ClassicCommand}
use Rattle.wire_classic.specs.declared.command.Keys.{Keys}
use Rattle.wire_classic.specs.declared.command.ClassicRequest.{ClassicRequest}
use Rattle.wire_classic.specs.Places.{order_in, keys_in}
use Rattle.wire_parts.specs.Places.{SpanIsIn}
use Rattle.wire_parts.specs.Tests.{Word}
use Rattle.wire_classic.specs.Order.{Order, Storing, Retrieval, Storage, Swapping, Deletion, Touching, Counting, OfItself}
use Rattle.wire_classic.specs.Message.{BeginsClassic, IsClassicReadFrom, classic_message_in}
use Rattle.wire_parts.specs.Message.{Served, Refusal}
use Rattle.wire_classic.specs.Grammar.{classic_grammar, classic_block_len}
use Rattle.wire_classic.specs.Asks.{classic_asks_by, classic_asks_of, IsClassicAsk, retrieval_ask, store_ask, bare_ask, count_ask}
use Rattle.wire_parts.specs.Requests.{AsksAreWellFormed}
use Rattle.wire_classic.specs.Laws.{classic_requests}
use Rattle.wire_classic.proofs.Sound.{IsPlainStore, IsCount, IsSound, IsSoundStoring, sound}
use Rattle.wire_parts.proofs.Sound.{IsServed, served_sound}

bare_range : (op : Op) (key : Word) → AreInRange (bare_ask op key)
bare_range op key = record { flags = omega arith; exptime = tt; body = omega arith; cas = tt; delta = omega arith }

is_retrieval : (exptime : Option ℤ) (with_cas : Bool) (key : Word) → IsKey key → IfSome exptime IsExptime → IsAsk (retrieval_ask exptime with_cas key)
is_retrieval None with_cas key k h = record { key = k; ranges = record { flags = omega arith; exptime = tt; body = omega arith; cas = tt; delta = omega arith }; shape = record { with_cas = tt; flags = refl; exptime = refl; body = refl; cas = refl; delta = refl; tokens = refl } }
is_retrieval (Some e) with_cas key k h = record { key = k; ranges = record { flags = omega arith; exptime = h; body = omega arith; cas = tt; delta = omega arith }; shape = record { with_cas = tt; flags = refl; exptime = refl; body = refl; cas = refl; delta = refl; tokens = refl } }

are_retrievals : (exptime : Option ℤ) (with_cas : Bool) (keys : List Word) → AllByRecursion IsKey keys → IfSome exptime IsExptime → AllByRecursion IsAsk (map (retrieval_ask exptime with_cas) keys)
are_retrievals exptime with_cas [] k h = tt
are_retrievals exptime with_cas (key ∷ keys) k h = (is_retrieval exptime with_cas key k.0 h, are_retrievals exptime with_cas keys k.1 h)

store_range : (op : Op) (s : Storing) (block : List ℕ) (cas : Option ℕ) → IsSoundStoring s → length block ≤ data_limit → IfSome cas (λ c. c < 2 ^ 64) → AreInRange (store_ask op s cas block)
store_range op s block cas h le c = record { flags = h.flags; exptime = h.exptime; body = le; cas = c; delta = omega arith }

is_store : (op : Op) → IsPlainStore op → (s : Storing) (block : List ℕ) → IsSoundStoring s → length block ≤ data_limit → IsAsk (store_ask op s None block)
is_store ops.Set is s block h le = record { key = h.key; ranges = store_range ops.Set s block None h le tt; shape = record { with_cas = refl; flags = tt; exptime = refl; body = tt; cas = refl; delta = refl; tokens = refl } }
is_store ops.Add is s block h le = record { key = h.key; ranges = store_range ops.Add s block None h le tt; shape = record { with_cas = refl; flags = tt; exptime = refl; body = tt; cas = refl; delta = refl; tokens = refl } }
is_store ops.Replace is s block h le = record { key = h.key; ranges = store_range ops.Replace s block None h le tt; shape = record { with_cas = refl; flags = tt; exptime = refl; body = tt; cas = refl; delta = refl; tokens = refl } }
is_store ops.Append is s block h le = record { key = h.key; ranges = store_range ops.Append s block None h le tt; shape = record { with_cas = refl; flags = tt; exptime = refl; body = tt; cas = refl; delta = refl; tokens = refl } }
is_store ops.Prepend is s block h le = record { key = h.key; ranges = store_range ops.Prepend s block None h le tt; shape = record { with_cas = refl; flags = tt; exptime = refl; body = tt; cas = refl; delta = refl; tokens = refl } }
is_store ops.Get is s block h le = absurd is
is_store ops.Gat is s block h le = absurd is
is_store ops.Cas is s block h le = absurd is
is_store ops.Delete is s block h le = absurd is
is_store ops.Incr is s block h le = absurd is
is_store ops.Decr is s block h le = absurd is
is_store ops.Touch is s block h le = absurd is

is_count : (op : Op) → IsCount op → (key : Word) (delta : ℕ) → IsKey key → delta < 2 ^ 64 → IsAsk (count_ask op key delta)
is_count ops.Incr is key delta k lt = record { key = k; ranges = record { flags = omega arith; exptime = tt; body = omega arith; cas = tt; delta = lt }; shape = record { with_cas = refl; flags = refl; exptime = refl; body = refl; cas = refl; delta = tt; tokens = refl } }
is_count ops.Decr is key delta k lt = record { key = k; ranges = record { flags = omega arith; exptime = tt; body = omega arith; cas = tt; delta = lt }; shape = record { with_cas = refl; flags = refl; exptime = refl; body = refl; cas = refl; delta = tt; tokens = refl } }
is_count ops.Get is key delta k lt = absurd is
is_count ops.Gat is key delta k lt = absurd is
is_count ops.Set is key delta k lt = absurd is
is_count ops.Add is key delta k lt = absurd is
is_count ops.Replace is key delta k lt = absurd is
is_count ops.Append is key delta k lt = absurd is
is_count ops.Prepend is key delta k lt = absurd is
is_count ops.Cas is key delta k lt = absurd is
is_count ops.Delete is key delta k lt = absurd is
is_count ops.Touch is key delta k lt = absurd is

pub are_asks : (o : Order) (block : List ℕ) → IsSound o → length block ≤ data_limit → AllByRecursion IsAsk (classic_asks_by o block)
are_asks (Retrieval exptime with_cas keys) block h le = are_retrievals exptime with_cas keys h.0 h.1
are_asks (Storage op stored quiet) block h le = (is_store op h.2 stored block h.0 le, tt)
are_asks (Swapping stored cas quiet) block h le = (record { key = h.0.key; ranges = store_range ops.Cas stored block (Some cas) h.0 le h.2; shape = record { with_cas = refl; flags = tt; exptime = refl; body = tt; cas = refl; delta = refl; tokens = refl } }, tt)
are_asks (Deletion key quiet) block h le = (record { key = h; ranges = bare_range ops.Delete key; shape = record { with_cas = refl; flags = refl; exptime = refl; body = refl; cas = refl; delta = refl; tokens = refl } }, tt)
are_asks (Touching key exptime quiet) block h le = (record { key = h.0; ranges = record { flags = omega arith; exptime = h.1; body = omega arith; cas = tt; delta = omega arith }; shape = record { with_cas = refl; flags = refl; exptime = refl; body = refl; cas = refl; delta = refl; tokens = refl } }, tt)
are_asks (Counting op key delta quiet) block h le = (is_count op h.2 key delta h.0 h.1, tt)
are_asks (OfItself own) block h le = tt

some_is : {A : Type 0} (x y : A) → Some x ≡ Some y → x ≡ y
some_is x y e = cc

-- the block of an order is no longer than its line says, and that is at most the limit
block_short : (o : Order) (n : ℕ) → IsSound o → classic_block_len o ≡ Some n → n ≤ data_limit
block_short (Retrieval exptime with_cas keys) n h e = absurd cc
block_short (Storage op stored quiet) n h e = subst (λ (k : ℕ). k ≤ data_limit) (some_is stored.length n e) h.1
block_short (Swapping stored cas quiet) n h e = subst (λ (k : ℕ). k ≤ data_limit) (some_is stored.length n e) h.1
block_short (Deletion key quiet) n h e = absurd cc
block_short (Touching key exptime quiet) n h e = absurd cc
block_short (Counting op key delta quiet) n h e = absurd cc
block_short (OfItself own) n h e = absurd cc

pub is_served : (bytes : List ℕ) (o : Order) (block : List ℕ) (used : ℕ) → BeginsClassic bytes (Served o block) used → IsServed classic_grammar IsSound o block
is_served = served_sound classic_grammar IsSound sound block_short

are_classic_retrievals : (exptime : Option ℤ) (with_cas : Bool) (keys : List Word) → AllByRecursion IsAsk (map (retrieval_ask exptime with_cas) keys) → AllByRecursion IsClassicAsk (map (retrieval_ask exptime with_cas) keys)
are_classic_retrievals exptime with_cas [] h = tt
are_classic_retrievals exptime with_cas (key ∷ keys) h = (record { well_formed = h.0; classic = refl }, are_classic_retrievals exptime with_cas keys h.1)

are_classic : (o : Order) (block : List ℕ) → AllByRecursion IsAsk (classic_asks_by o block) → AllByRecursion IsClassicAsk (classic_asks_by o block)
are_classic (Retrieval exptime with_cas keys) block h = are_classic_retrievals exptime with_cas keys h
are_classic (Storage op stored quiet) block h = (record { well_formed = h.0; classic = refl }, tt)
are_classic (Swapping stored cas quiet) block h = (record { well_formed = h.0; classic = refl }, tt)
are_classic (Deletion key quiet) block h = (record { well_formed = h.0; classic = refl }, tt)
are_classic (Touching key exptime quiet) block h = (record { well_formed = h.0; classic = refl }, tt)
are_classic (Counting op key delta quiet) block h = (record { well_formed = h.0; classic = refl }, tt)
are_classic (OfItself own) block h = tt

pub asks_are_well_formed : AsksAreWellFormed classic_requests
asks_are_well_formed bytes (Served o block) used b = let s = is_served bytes o block used b in are_classic o block (are_asks o block s.sound s.short)
asks_are_well_formed bytes (Refusal why skip) used b = tt

-- an element of a list
pub found : {A : Type 0} (P : A → Type 0) (xs : List A) (i : ℕ) (x : A) → AllByRecursion P xs → slice_get xs i ≡ Some x → P x
found P [] i x h e = absurd cc
found P (y ∷ xs) zero x h e = let same : y ≡ x = cc in subst P same h.0
found P (y ∷ xs) (suc i) x h e = found P xs i x h.1 e

-- what is left of a list
pub taken_next : (xs : List Word) (n : ℕ) (w : Word) (rest : List Word) → w ∷ rest ≡ drop n xs → (slice_get xs n ≡ Some w) × (rest ≡ drop (suc n) xs) × (n < length xs)
taken_next [] zero w rest e = absurd cc
taken_next [] (suc n) w rest e = absurd cc
taken_next (x ∷ xs) zero w rest e = (cc, cc, omega arith)
taken_next (x ∷ xs) (suc n) w rest e = let t = taken_next xs n w rest e in (t.0, t.1, omega (arith, t.2))

pub taken_all : (xs : List Word) (n : ℕ) → [] ≡ drop n xs → slice_get xs n ≡ None
taken_all [] n e = refl
taken_all (x ∷ xs) zero e = absurd cc
taken_all (x ∷ xs) (suc n) e = taken_all xs n e

-- a request that was read is in its ranges
pub request_sound : (bytes : List ℕ) (r : ClassicRequest) (command : ClassicCommand) → IsClassicReadFrom bytes r → r.command ≡ command → IsSound (order_in bytes command)
request_sound bytes r command h is = let s = is_served bytes (order_in bytes r.command) (text_at bytes r.block) r.used h.begins in subst (λ (k : ClassicCommand). IsSound (order_in bytes k)) is s.sound

-- the asks of a request that was read are well formed
pub asks_sound : (bytes : List ℕ) (r : ClassicRequest) → IsClassicReadFrom bytes r → AllByRecursion IsClassicAsk (classic_asks_of (classic_message_in bytes r))
asks_sound bytes r h = asks_are_well_formed bytes (classic_message_in bytes r) r.used h.begins

-- the keys of a line, from its front
pub keys_line : (bytes : List ℕ) (keys : Keys) → SpanIsIn (length bytes) keys.span → words (drop keys.span.start (take keys.span.end bytes)) ≡ keys_in bytes keys
keys_line bytes keys h =
    let n-is : keys.span.end ≡ keys.span.start + (keys.span.end - keys.span.start) = omega (arith, h.ordered) in
    ap words (ap (λ (n : ℕ). drop keys.span.start (take n bytes)) n-is ∙ drop-take keys.span.start (keys.span.end - keys.span.start) bytes)
