-- What is held of each key after a change.
use Rattle.std.proofs.Common.{◌≡◌, ◌-◌, true, false, cond, [], ◌∷◌, take, drop, Option, Some, None, option_map, refl, sym, ap, subst, ◌∙◌}
use Rattle.std.specs.List.{IsDistinct}
use Rattle.std.specs.Map.{keys_of, lookup, lookup_entry, remove_entry}
use Rattle.std.specs.Cmp.Lexicographic.{nat_list_eq_equiv}
use Rattle.std.specs.Option.{option_map_or}
use Rattle.std.proofs.lemmas.Map.Keys.{IsDistinct-head, IsDistinct-tail}
use Rattle.lru.specs.LruCache.{lru_cache, promoted, put_entries}
use Rattle.lru.proofs.CallerLemmas.{Contains-lookup_entry, lookup-put_entries}
use Rattle.mc_types.specs.Items.{Item}
use Rattle.cache_server.specs.declared.item.Entry.{Entry}
use Rattle.cache_server.specs.declared.decision.Change.{Change}
use Rattle.cache_server.specs.declared.decision.Change.TheVariants.{Leaves, Removes, Renews, Stores}
use Rattle.cache_server.specs.Contents.{Contents, Key, Entries, same_key, entry_held, next_number}
use Rattle.cache_server.specs.Table.{entry_changed}
use Rattle.cache_server.specs.Held.{without, item_of, holds, pushed_by_new, pushed_out}
use Rattle.cache_server.proofs.PartLemmas.{item_in, parts_take, held_in_parts, without_none, none_of, same_as}

abbrev pub shown : Option Entry → Option Item
shown o = option_map (λ (entry : Entry). item_of entry.item) o

value_in : (k : Key) (es : Entries) → lookup (same_key k) es ≡ option_map (λ (e : Key × Entry). e.1) (lookup_entry (same_key k) es)
value_in k [] = refl
value_in k (f ∷ es) = (elim (same_key k f.0) as (λ t. same_key k f.0 ≡ t → lookup (same_key k) (f ∷ es) ≡ option_map (λ (e : Key × Entry). e.1) (lookup_entry (same_key k) (f ∷ es))) [
  | true ↦ λ t. rw t refl
  | false ↦ λ t. rw t (value_in k es)
]) refl

-- where k is told from q, so is each key that is k's
told : (k q j : Key) → same_key k q ≡ false → same_key k j ≡ true → same_key q j ≡ false
told k q j ne e = nat_list_eq_equiv.symm q j ∙ sym (nat_list_eq_equiv.congr k j q e) ∙ ne

remove_other : (k q : Key) (es : Entries) → same_key k q ≡ false → lookup (same_key q) (remove_entry (same_key k) es) ≡ lookup (same_key q) es
remove_other k q [] ne = refl
remove_other k q (f ∷ es) ne = (elim (same_key k f.0) as (λ t. same_key k f.0 ≡ t → lookup (same_key q) (remove_entry (same_key k) (f ∷ es)) ≡ lookup (same_key q) (f ∷ es)) [
  | true ↦ λ t. rw (t, told k q f.0 ne t) refl
  | false ↦ λ t. rw t (ap (cond (same_key q f.0) (Some f.1)) (remove_other k q es ne))
]) refl

remove_own : (k : Key) (es : Entries) → IsDistinct same_key (keys_of es) → lookup (same_key k) (remove_entry (same_key k) es) ≡ None
remove_own k [] d = refl
remove_own k (f ∷ es) d = (elim (same_key k f.0) as (λ t. same_key k f.0 ≡ t → lookup (same_key k) (remove_entry (same_key k) (f ∷ es)) ≡ None) [
  | true ↦ λ t. rw t (none_of k es (same_as k f.0 (keys_of es) t (IsDistinct-head same_key f.0 (keys_of es) d)))
  | false ↦ λ t. rw t (rw t (remove_own k es (IsDistinct-tail same_key f.0 (keys_of es) d)))
]) refl

promoted_own : (k : Key) (es : Entries) → lookup (same_key k) (promoted (same_key k) es) ≡ lookup (same_key k) es
promoted_own k es = go (lookup_entry (same_key k) es) refl
  where
    go : (o : Option (Key × Entry)) → lookup_entry (same_key k) es ≡ o → lookup (same_key k) (option_map_or (λ e. e ∷ remove_entry (same_key k) es) o es) ≡ lookup (same_key k) es
    go None h = refl
    go (Some e) h = let found = Contains-lookup_entry (same_key k) es e h in rw found.1 (sym (value_in k es ∙ ap (option_map (λ (f : Key × Entry). f.1)) h))

promoted_other : (k q : Key) (es : Entries) → same_key k q ≡ false → lookup (same_key q) (promoted (same_key k) es) ≡ lookup (same_key q) es
promoted_other k q es ne = go (lookup_entry (same_key k) es) refl
  where
    go : (o : Option (Key × Entry)) → lookup_entry (same_key k) es ≡ o → lookup (same_key q) (option_map_or (λ e. e ∷ remove_entry (same_key k) es) o es) ≡ lookup (same_key q) es
    go None h = refl
    go (Some e) h = let found = Contains-lookup_entry (same_key k) es e h in rw (told k q e.0 ne found.1) (remove_other k q es ne)

put_other : (k q : Key) (entry : Entry) (c : Contents) → same_key k q ≡ false → IsDistinct same_key (keys_of c.entries)
    → item_in (put_entries same_key (lru_cache c.entries c.cap) k entry) q ≡ without (pushed_by_new c (entry_held c k)) (holds c) q
put_other k q entry c ne d = subst (λ (o : Option Entry). item_in (put_entries same_key (lru_cache c.entries c.cap) k entry) q ≡ without (pushed_by_new c o) (holds c) q)
    (sym (value_in k c.entries)) (go (lookup_entry (same_key k) c.entries) refl)
  where
    go : (o : Option (Key × Entry)) → lookup_entry (same_key k) c.entries ≡ o
        → item_in (option_map_or (λ e. (e.0, entry) ∷ remove_entry (same_key k) c.entries) o ((k, entry) ∷ take (c.cap - 1) c.entries)) q
        ≡ without (pushed_by_new c (option_map (λ (e : Key × Entry). e.1) o)) (holds c) q
    go None h = let ne' : same_key q k ≡ false = nat_list_eq_equiv.symm q k ∙ ne in
        rw ne' (held_in_parts c.entries (take (c.cap - 1) c.entries) (drop (c.cap - 1) c.entries) q d (parts_take (c.cap - 1) c.entries))
    go (Some e) h = let found = Contains-lookup_entry (same_key k) c.entries e h in
        rw (told k q e.0 ne found.1) (ap shown (remove_other k q c.entries ne))

-- what a change leaves of its own key
abbrev pub left : Change → Option Item → Option Item
left Leaves before = before
left Removes before = None
left (Renews entry) before = Some (item_of entry.item)
left (Stores item) before = Some (item_of item)

pub changed_own : (c : Contents) (key : Key) (change : Change) → IsDistinct same_key (keys_of c.entries) → holds (entry_changed c key change) key ≡ left change (holds c key)
changed_own c key Leaves d = ap shown (promoted_own key c.entries)
changed_own c key Removes d = ap shown (remove_own key c.entries d)
changed_own c key (Renews entry) d = ap shown (lookup-put_entries same_key (lru_cache c.entries c.cap) key entry nat_list_eq_equiv)
changed_own c key (Stores item) d = ap shown (lookup-put_entries same_key (lru_cache c.entries c.cap) key (record { item = item; cas = next_number c.counter }) nat_list_eq_equiv)

pub changed_other : (c : Contents) (key q : Key) (change : Change) → same_key key q ≡ false → IsDistinct same_key (keys_of c.entries)
    → holds (entry_changed c key change) q ≡ without (pushed_out c key change) (holds c) q
changed_other c key q Leaves ne d = ap shown (promoted_other key q c.entries ne)
changed_other c key q Removes ne d = ap shown (remove_other key q c.entries ne)
changed_other c key q (Renews entry) ne d = put_other key q entry c ne d
changed_other c key q (Stores item) ne d = put_other key q (record { item = item; cas = next_number c.counter }) c ne d

pushed_new_own : (c : Contents) (key : Key) → without (pushed_by_new c (entry_held c key)) (holds c) key ≡ holds c key
pushed_new_own c key = go (entry_held c key) refl
  where
    go : (o : Option Entry) → entry_held c key ≡ o → without (pushed_by_new c o) (holds c) key ≡ holds c key
    go None h = let none : holds c key ≡ None = ap shown h in without_none (keys_of (drop (c.cap - 1) c.entries)) (holds c) key none ∙ sym none
    go (Some entry) h = refl

-- what is pushed out isn't the key itself
pub pushed_own : (c : Contents) (key : Key) (change : Change) → without (pushed_out c key change) (holds c) key ≡ holds c key
pushed_own c key Leaves = refl
pushed_own c key Removes = refl
pushed_own c key (Renews entry) = pushed_new_own c key
pushed_own c key (Stores item) = pushed_new_own c key
