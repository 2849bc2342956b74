-- What a cache holds: items under keys, the most recently used first. Source: mcgate's own.
use Rattle.std.specs.Prelude.{ℕ, ◌+◌, ◌-◌, ◌^◌, min, Bool, not, List, [], filter, Option, None, bytes_eq}
use Rattle.std.specs.Map.{lookup, remove_entry}
use Rattle.lru.specs.LruCache.{lru_cache, promoted, put_entries}
use Rattle.cache_server.specs.declared.item.CacheItem.{CacheItem}
use Rattle.cache_server.specs.declared.item.Entry.{Entry}
use Rattle.cache_server.specs.Expiry.{has_come}

abbrev pub Key : Type 0
Key = List ℕ

abbrev pub Entries : Type 0
Entries = List (Key × Entry)

-- the entries, the most recently used first, how many there may be, and the last cas number that was given
pub record Contents : Type 0 where
  pub entries : Entries
  pub cap : ℕ
  pub counter : ℕ

abbrev pub same_key : Key → Key → Bool
same_key = bytes_eq

-- what is held of a key
abbrev pub entry_held : Contents → Key → Option Entry
entry_held c key = lookup (same_key key) c.entries

abbrev pub is_expired : ℕ → Key × Entry → Bool
is_expired now e = has_come now e.1.item.expiry

-- without what has expired
abbrev pub live : ℕ → Entries → Entries
live now entries = filter (λ e. not (is_expired now e)) entries

-- what is left of a cache at a moment
abbrev pub at_moment : ℕ → Contents → Contents
at_moment now c = record c { entries = live now c.entries }

-- nothing is held, and no cas number was given
abbrev pub empty : ℕ → Contents
empty cap = record { entries = []; cap = cap; counter = 0 }

-- the key becomes the most recently used, where it is held
abbrev pub using : Contents → Key → Contents
using c key = record c { entries = promoted (same_key key) c.entries }

-- the key's entry is this one, and the most recently used; a new key pushes the last out of a full cache
abbrev pub putting : Contents → Key → Entry → Contents
putting c key entry = record c { entries = put_entries same_key (lru_cache c.entries c.cap) key entry }

-- the last cas number that there is
abbrev pub last_number : ℕ
last_number = 2 ^ 64 - 1

-- the number that the next item takes; the last one is taken again
abbrev pub next_number : ℕ → ℕ
next_number counter = min (counter + 1) last_number

-- the item under the next cas number
abbrev pub storing_item : Contents → Key → CacheItem → Contents
storing_item c key item =
    record {
      entries = put_entries same_key (lru_cache c.entries c.cap) key (record { item = item; cas = next_number c.counter });
      cap = c.cap;
      counter = next_number c.counter;
    }

-- the key is held no more
abbrev pub losing : Contents → Key → Contents
losing c key = record c { entries = remove_entry (same_key key) c.entries }

-- data that are held from the start: without flags and expiry, with stamp 0
abbrev pub opening : List ℕ → CacheItem
opening body = record { body = body; flags = 0; expiry = None; stamp = 0 }

-- nothing is held, and the numbers go on
abbrev pub restarted : Contents → Contents
restarted c = record c { entries = [] }
