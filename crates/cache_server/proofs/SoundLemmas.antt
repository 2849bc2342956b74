-- What is true of every entry stays true of those that a change leaves.
use Rattle.std.proofs.Common.{◌≡◌, ℕ, ◌<◌, ◌≤◌, true, false, [], ◌∷◌, Option, Some, None, IfSome, Contains, refl, sym, ap, subst, arith, inl, inr}
use Rattle.std.specs.Map.{remove_entry}
use Rattle.std.proofs.lemmas.Bool.{lt-leb}
use Rattle.lru.specs.LruCache.{lru_cache, promoted, put_entries}
use Rattle.lru.proofs.Splits.{Contains-head, Contains-tail, Contains-cons}
use Rattle.lru.proofs.CallerLemmas.{Contains-remove_entry, Contains-promoted, Contains-put_entries}
use Rattle.cache_server.specs.declared.item.CacheItem.{CacheItem}
use Rattle.cache_server.specs.declared.item.Entry.{Entry}
use Rattle.cache_server.specs.Contents.{Key, Entries, same_key, is_expired, live}
use Rattle.cache_server.specs.Expiry.{has_come}
use Rattle.cache_server.specs.Sound.{IsDueFrom, AreDueFrom, due_with, IsEntry, AreEntries, AreSoundEntries}

pub Contains-live : (now : ℕ) (es : Entries) (e : Key × Entry) → Contains (live now es) e → Contains es e
Contains-live now [] e c = c
Contains-live now (f ∷ es) e c = (elim (is_expired now f) as (λ t. is_expired now f ≡ t → Contains (f ∷ es) e) [
  | true ↦ λ t. Contains-tail f es e (Contains-live now es e (rw t at c))
  | false ↦ λ t. elim (Contains-cons f (live now es) e (rw t at c)) [
    | inl same ↦ subst (Contains (f ∷ es)) same (Contains-head f es)
    | inr d ↦ Contains-tail f es e (Contains-live now es e d)
  ]
]) refl

not_come : (now due : ℕ) (expiry : Option ℕ) → IfSome expiry (λ at. due ≤ at) → now < due → has_come now expiry ≡ false
not_come now due None h lt = refl
not_come now due (Some at) h lt = lt-leb at now (omega arith)

-- before the moment that is known, nothing has expired
pub all_live : (now due : ℕ) (es : Entries) → AreDueFrom due es → now < due → es ≡ live now es
all_live now due [] h lt = refl
all_live now due (f ∷ es) h lt =
    rw (not_come now due f.1.item.expiry (h f (Contains-head f es)) lt)
    (ap (λ (l : Entries). f ∷ l) (all_live now due es (λ e c. h e (Contains-tail f es e c)) lt))

pub due_less : (due less : ℕ) (item : CacheItem) → less ≤ due → IsDueFrom due item → IsDueFrom less item
due_less due less item le h = go item.expiry h
  where
    go : (expiry : Option ℕ) → IfSome expiry (λ at. due ≤ at) → IfSome expiry (λ at. less ≤ at)
    go None h = tt
    go (Some at) h = omega arith

pub due_with-is : (due : ℕ) (expiry : Option ℕ) → IfSome expiry (λ at. due_with due expiry ≤ at)
due_with-is due None = tt
due_with-is due (Some at) = omega arith

pub due_with-le : (due : ℕ) (expiry : Option ℕ) → due_with due expiry ≤ due
due_with-le due None = omega arith
due_with-le due (Some at) = omega arith

pub sound_remove : (due : ℕ) (key : Key) (es : Entries) → AreSoundEntries due es → AreSoundEntries due (remove_entry (same_key key) es)
sound_remove due key es s = record {
  entries_are = λ e c. s.entries_are e (Contains-remove_entry (same_key key) es e c);
  due_from = λ e c. s.due_from e (Contains-remove_entry (same_key key) es e c);
}

pub sound_promoted : (due : ℕ) (key : Key) (es : Entries) → AreSoundEntries due es → AreSoundEntries due (promoted (same_key key) es)
sound_promoted due key es s = record {
  entries_are = λ e c. s.entries_are e (Contains-promoted (same_key key) es e c);
  due_from = λ e c. s.due_from e (Contains-promoted (same_key key) es e c);
}

pub sound_put : (due : ℕ) (key : Key) (entry : Entry) (cap : ℕ) (es : Entries) → AreSoundEntries due es → IsEntry entry
    → AreSoundEntries (due_with due entry.item.expiry) (put_entries same_key (lru_cache es cap) key entry)
sound_put due key entry cap es s is = record {
  entries_are = λ e c. elim (Contains-put_entries same_key (lru_cache es cap) key entry e c) [
    | inl old ↦ s.entries_are e old
    | inr put ↦ subst IsEntry (sym put.0) is
  ];
  due_from = λ e c. elim (Contains-put_entries same_key (lru_cache es cap) key entry e c) [
    | inl old ↦ due_less due (due_with due entry.item.expiry) e.1.item (due_with-le due entry.item.expiry) (s.due_from e old)
    | inr put ↦ subst (λ (n : Entry). IsDueFrom (due_with due entry.item.expiry) n.item) (sym put.0) (due_with-is due entry.item.expiry)
  ];
}

pub sound_live : (due now : ℕ) (es : Entries) → AreEntries es → AreDueFrom due (live now es) → AreSoundEntries due (live now es)
sound_live due now es are d = record { entries_are = λ e c. are e (Contains-live now es e c); due_from = d }
