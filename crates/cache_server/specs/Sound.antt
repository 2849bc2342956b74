-- What is true of every entry that a cache holds. Source: mcgate's own.
use Rattle.std.specs.Prelude.{ℕ, ◌<◌, ◌≤◌, ◌^◌, min, length, Option, Some, None, IfSome, Contains}
use Rattle.mc_types.specs.Asks.{data_limit}
use Rattle.cache_server.specs.declared.item.CacheItem.{CacheItem}
use Rattle.cache_server.specs.declared.item.Entry.{Entry}
use Rattle.cache_server.specs.declared.decision.Change.{Change}
use Rattle.cache_server.specs.declared.decision.Change.TheVariants.{Leaves, Removes, Renews, Stores}
use Rattle.cache_server.specs.Contents.{Key, Entries}

-- an item does not expire before this moment
abbrev pub IsDueFrom : ℕ → CacheItem → Type 0
IsDueFrom due item = IfSome item.expiry (λ expiry. due ≤ expiry)

abbrev pub AreDueFrom : ℕ → Entries → Type 0
AreDueFrom due entries = (e : Key × Entry) → Contains entries e → IsDueFrom due e.1.item

-- a bound that an item's expiry may lower
abbrev pub due_with : ℕ → Option ℕ → ℕ
due_with due None = due
due_with due (Some expiry) = min due expiry

-- data, flags and expiry are in their ranges
pub record IsItem (item : CacheItem) : Type 0 where
  pub body : length item.body ≤ data_limit
  pub flags : item.flags < 2 ^ 32
  pub expiry : IfSome item.expiry (λ expiry. expiry < 2 ^ 63)

pub record IsEntry (entry : Entry) : Type 0 where
  pub item : IsItem entry.item
  pub cas : entry.cas < 2 ^ 64

abbrev pub AreEntries : Entries → Type 0
AreEntries entries = (e : Key × Entry) → Contains entries e → IsEntry e.1

-- a cache's entries are in their ranges, and none expires before the moment that it knows of
pub record AreSoundEntries (due : ℕ) (entries : Entries) : Type 0 where
  pub entries_are : AreEntries entries
  pub due_from : AreDueFrom due entries

-- what a change puts is in its ranges
abbrev pub IsChange : Change → Type 0
IsChange Leaves = Unit {0}
IsChange Removes = Unit {0}
IsChange (Renews entry) = IsEntry entry
IsChange (Stores item) = IsItem item
