-- What the table stores is in its ranges.
use Rattle.std.proofs.lemmas.Int.{ints}
use Rattle.std.proofs.Common.{◌≡◌, ℕ, ◌+◌, ◌<◌, ◌≤◌, ◌^◌, min, ℤ, pos, negsuc, ◌&&◌, Bool, true, false, List, ◌++◌, length, Option, Some, None, option_map, IfSome, refl, arith, ltb, leb, eqb}
use Rattle.std.specs.Fmt.{decimal}
use Rattle.std.specs.Map.{lookup}
use Rattle.std.proofs.lemmas.Bool.{cond_both, ltb-true, ltb-false}
use Rattle.std.proofs.lemmas.Fmt.{length-decimal-le}
use Rattle.lru.proofs.CallerLemmas.{Contains-lookup}
use Rattle.text_words.specs.Number.{number_below, is_number}
use Rattle.text_words.specs.Arithmetic.{number_held, changed, without_spaces}
use Rattle.std.specs.Str.Parse.{digits_value}
use Rattle.mc_types.specs.Asks.{IsAsk, IsExptime, data_limit}
use Rattle.mc_types.specs.Items.{number_made, is_up}
use Rattle.mc_types.specs.declared.ask.Ask.{Ask}
use Rattle.mc_types.specs.declared.ask.Op.{Op}
use Rattle.mc_types.specs.declared.ask.Op.TheVariants.{Get, Gat, Set, Add, Replace, Append, Prepend, Cas, Delete, Incr, Decr, Touch}
use Rattle.cache_server.specs.declared.item.CacheItem.{CacheItem}
use Rattle.cache_server.specs.declared.item.Entry.{Entry}
use Rattle.cache_server.specs.declared.decision.Decision.{Decision}
use Rattle.cache_server.specs.Expiry.{relative_limit, last_moment, moment_of, expiry_after}
use Rattle.cache_server.specs.Contents.{Key, Entries, same_key, last_number}
use Rattle.cache_server.specs.Sound.{IsItem, IsEntry, AreEntries, IsChange}
use Rattle.cache_server.specs.Table.{stores, joins, counts, counts_to, is_other, where_absent, where_held, decided, settled, finds, needs_number}
use Rattle.cache_server.specs.declared.decision.Verdict.TheVariants as verdicts

below_limit : (limit : ℕ) (word : List ℕ) → IfSome (number_below limit word) (λ n. n < limit)
below_limit limit word =
    cond_both (is_number word && ltb (digits_value 10 word) limit) (Some (digits_value 10 word)) None (λ (o : Option ℕ). IfSome o (λ n. n < limit))
    (λ yes. ltb-true (digits_value 10 word) limit (second (is_number word) (ltb (digits_value 10 word) limit) yes))
    (λ no. tt)
  where
    second : (a b : Bool) → (a && b) ≡ true → b ≡ true
    second true b e = e
    second false b e = absurd cc

changed_below : (up : Bool) (delta n : ℕ) → n < 2 ^ 64 → changed up delta n < 2 ^ 64
changed_below true delta n lt = omega arith
changed_below false delta n lt = omega arith

counted_of : (up : Bool) (delta : ℕ) (o : Option ℕ) → IfSome o (λ n. n < 2 ^ 64) → IfSome (option_map (changed up delta) o) (λ n. n < 2 ^ 64)
counted_of up delta None h = tt
counted_of up delta (Some n) h = changed_below up delta n h

-- a number that was counted has 64 bits
pub counted_below : (ask : Ask) (content : List ℕ) → IfSome (number_made ask content) (λ n. n < 2 ^ 64)
counted_below ask content = counted_of (is_up ask.op) ask.delta (number_held content) (below_limit (2 ^ 64) (without_spaces content))

short : (n : ℕ) → n < 2 ^ 64 → length (decimal n) ≤ data_limit
short n lt = let le : length (decimal n) ≤ 20 = length-decimal-le 20 n (omega arith) (omega arith) lt in omega arith

moment_sound : (now : ℕ) (exptime : ℤ) → IsExptime exptime → IfSome (moment_of now exptime) (λ n. n < 2 ^ 63)
moment_sound now (negsuc n) is = omega arith
moment_sound now (pos n) is =
    cond_both (eqb n 0) None _ (λ (o : Option ℕ). IfSome o (λ m. m < 2 ^ 63)) (λ yes. tt)
    (λ no. cond_both (leb n relative_limit) (Some (min (now + n) last_moment)) (Some n) (λ (o : Option ℕ). IfSome o (λ m. m < 2 ^ 63))
    (λ yes. omega arith) (λ no. omega (arith, ints, is.1)))

-- an expiry has 63 bits
expiry_sound : (now : ℕ) (exptime : Option ℤ) (before : Option ℕ) → IfSome exptime IsExptime → IfSome before (λ n. n < 2 ^ 63) → IfSome (expiry_after now exptime before) (λ n. n < 2 ^ 63)
expiry_sound now None before is h = h
expiry_sound now (Some exptime) before is h = moment_sound now exptime is

module _ (now stamp : ℕ) (ask : Ask) (lt : now < 2 ^ 63) (is : IsAsk ask) where
  expiry_is : (before : Option ℕ) → IfSome before (λ n. n < 2 ^ 63) → IfSome (expiry_after now ask.exptime before) (λ n. n < 2 ^ 63)
  expiry_is before h = expiry_sound now ask.exptime before is.ranges.exptime h

  stores_sound : IsChange (stores now stamp ask).change
  stores_sound = record { body = is.ranges.body; flags = is.ranges.flags; expiry = expiry_is None tt }

  absent_sound : (op : Op) → IsChange (where_absent now stamp ask op).change
  absent_sound Get = tt
  absent_sound Gat = tt
  absent_sound Set = stores_sound
  absent_sound Add = stores_sound
  absent_sound Replace = tt
  absent_sound Append = tt
  absent_sound Prepend = tt
  absent_sound Cas = tt
  absent_sound Delete = tt
  absent_sound Incr = tt
  absent_sound Decr = tt
  absent_sound Touch = tt

  joins_sound : (item : CacheItem) (body : List ℕ) → IsItem item → IsChange (joins item body).change
  joins_sound item body h = (elim (ltb data_limit (length body)) as (λ t. ltb data_limit (length body) ≡ t → IsChange (joins item body).change) [
    | true ↦ λ t. rw t tt
    | false ↦ λ t. rw t (record { body = ltb-false data_limit (length body) t; flags = h.flags; expiry = h.expiry })
  ]) refl

  counts_to_sound : (item : CacheItem) (o : Option ℕ) → IsItem item → IfSome o (λ n. n < 2 ^ 64) → IsChange (counts_to now ask item o).change
  counts_to_sound item None h small = tt
  counts_to_sound item (Some n) h small = record { body = short n small; flags = h.flags; expiry = expiry_is item.expiry h.expiry }

  counts_sound : (entry : Entry) → IsEntry entry → IsChange (counts now ask entry).change
  counts_sound entry h = (elim (is_other ask.cas entry.cas) as (λ t. is_other ask.cas entry.cas ≡ t → IsChange (counts now ask entry).change) [
    | true ↦ λ t. rw t tt
    | false ↦ λ t. rw t (counts_to_sound entry.item (number_made ask entry.item.body) h.item (counted_below ask entry.item.body))
  ]) refl

  held_sound : (entry : Entry) (op : Op) → IsEntry entry → IsChange (where_held now stamp ask entry op).change
  held_sound entry Get h = tt
  held_sound entry Gat h = record { item = record { body = h.item.body; flags = h.item.flags; expiry = expiry_is entry.item.expiry h.item.expiry }; cas = h.cas }
  held_sound entry Set h = stores_sound
  held_sound entry Add h = tt
  held_sound entry Replace h = stores_sound
  held_sound entry Append h = joins_sound entry.item (entry.item.body ++ ask.body) h.item
  held_sound entry Prepend h = joins_sound entry.item (ask.body ++ entry.item.body) h.item
  held_sound entry Cas h = (elim (is_other ask.cas entry.cas) as (λ t. is_other ask.cas entry.cas ≡ t → IsChange (where_held now stamp ask entry Cas).change) [
    | true ↦ λ t. rw t tt
    | false ↦ λ t. rw t stores_sound
  ]) refl
  held_sound entry Delete h = (elim (is_other ask.cas entry.cas) as (λ t. is_other ask.cas entry.cas ≡ t → IsChange (where_held now stamp ask entry Delete).change) [
    | true ↦ λ t. rw t tt
    | false ↦ λ t. rw t tt
  ]) refl
  held_sound entry Incr h = counts_sound entry h
  held_sound entry Decr h = counts_sound entry h
  held_sound entry Touch h = record { item = record { body = h.item.body; flags = h.item.flags; expiry = expiry_is entry.item.expiry h.item.expiry }; cas = h.cas }

  pub decided_sound : (o : Option Entry) → IfSome o IsEntry → IsChange (decided now stamp ask o).change
  decided_sound None h = absent_sound ask.op
  decided_sound (Some entry) h = held_sound entry ask.op h

pub settled_sound : (counter : ℕ) (decision : Decision) → IsChange decision.change → IsChange (settled counter decision).change
settled_sound counter decision h =
    cond_both (needs_number decision.change && eqb counter last_number) (finds verdicts.OutOfMemory) decision (λ (d : Decision). IsChange d.change) (λ yes. tt) (λ no. h)

pub lookup_entry_is : (key : Key) (es : Entries) → AreEntries es → IfSome (lookup (same_key key) es) IsEntry
lookup_entry_is key es are = go (lookup (same_key key) es) refl
  where
    go : (o : Option Entry) → lookup (same_key key) es ≡ o → IfSome o IsEntry
    go None h = tt
    go (Some entry) h = let found = Contains-lookup (same_key key) es entry h in are (found.0, entry) found.1
