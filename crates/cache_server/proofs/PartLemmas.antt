-- Entries that are parted into kept and lost ones, and look-ups in what is kept.
use Rattle.std.proofs.Common.{◌≡◌, ℕ, zero, suc, true, false, cond, ◌⊎◌, List, [], ◌∷◌, ◌++◌, take, drop, Option, None, option_map, refl, sym, ap, subst, ◌∙◌, inl, inr}
use Rattle.std.specs.Prelude.{filter}
use Rattle.std.specs.List.{IsDistinct, AllByRecursion}
use Rattle.std.specs.Map.{keys_of, lookup}
use Rattle.std.specs.Cmp.Lexicographic.{nat_list_eq_equiv}
use Rattle.std.proofs.lemmas.Map.Keys.{IsDistinct-head, IsDistinct-tail}
use Rattle.mc_types.specs.Items.{Item}
use Rattle.cache_server.specs.declared.item.Entry.{Entry}
use Rattle.cache_server.specs.Contents.{Key, Entries, same_key, is_expired, live}
use Rattle.cache_server.specs.Held.{without, item_of}

-- each entry is kept or lost, in order
abbrev pub Parts : Entries → Entries → Entries → Type 0
Parts [] kept lost = (kept ≡ []) × (lost ≡ [])
Parts (f ∷ es) kept lost =
    ((more : Entries) × (kept ≡ f ∷ more) × Parts es more lost) ⊎ ((more : Entries) × (lost ≡ f ∷ more) × Parts es kept more)

pub parts_live : (now : ℕ) (es : Entries) → Parts es (live now es) (filter (is_expired now) es)
parts_live now [] = (refl, refl)
parts_live now (f ∷ es) = (elim (is_expired now f) as (λ t. is_expired now f ≡ t → Parts (f ∷ es) (live now (f ∷ es)) (filter (is_expired now) (f ∷ es))) [
  | true ↦ λ t. rw t (inr (filter (is_expired now) es, refl, parts_live now es))
  | false ↦ λ t. rw t (inl (live now es, refl, parts_live now es))
]) refl

all_lost : (es : Entries) → Parts es [] es
all_lost [] = (refl, refl)
all_lost (f ∷ es) = inr (es, refl, all_lost es)

pub parts_take : (n : ℕ) (es : Entries) → Parts es (take n es) (drop n es)
parts_take zero es = all_lost es
parts_take (suc n) [] = (refl, refl)
parts_take (suc n) (f ∷ es) = inl (take n es, refl, parts_take n es)

-- a key that is told from all others is told from what is kept and lost of them
kept_apart : (key : Key) (es kept lost : Entries) → Parts es kept lost → AllByRecursion (λ (k : Key). same_key key k ≡ false) (keys_of es) → AllByRecursion (λ (k : Key). same_key key k ≡ false) (keys_of kept)
kept_apart key [] kept lost p h = subst (λ (l : Entries). AllByRecursion (λ (k : Key). same_key key k ≡ false) (keys_of l)) (sym p.0) tt
kept_apart key (f ∷ es) kept lost (inl p) h =
    subst (λ (l : Entries). AllByRecursion (λ (k : Key). same_key key k ≡ false) (keys_of l)) (sym p.1) (h.0, kept_apart key es p.0 lost p.2 h.1)
kept_apart key (f ∷ es) kept lost (inr p) h = kept_apart key es kept p.0 p.2 h.1

pub none_of : (key : Key) (es : Entries) → AllByRecursion (λ (k : Key). same_key key k ≡ false) (keys_of es) → lookup (same_key key) es ≡ None
none_of key [] h = refl
none_of key (f ∷ es) h = rw h.0 (none_of key es h.1)

abbrev pub item_in : Entries → Key → Option Item
item_in es q = option_map (λ (entry : Entry). item_of entry.item) (lookup (same_key q) es)

-- what stands in front of a list matters to no other key
without_more : (f : Key × Entry) (es : Entries) (lost : List Key) (q : Key) → same_key q f.0 ≡ false → without lost (item_in (f ∷ es)) q ≡ without lost (item_in es) q
without_more f es [] q ne = rw ne refl
without_more f es (k ∷ lost) q ne = ap (λ (o : Option Item). cond (same_key k q) None o) (without_more f es lost q ne)

-- a lost key that is told from q matters not to q
without_apart : (lost : Entries) (h : Key → Option Item) (q : Key) → AllByRecursion (λ (k : Key). same_key q k ≡ false) (keys_of lost) → without (keys_of lost) h q ≡ h q
without_apart [] h q a = refl
without_apart (f ∷ lost) h q a = rw (nat_list_eq_equiv.symm f.0 q ∙ a.0) (without_apart lost h q a.1)

lost_apart : (key : Key) (es kept lost : Entries) → Parts es kept lost → AllByRecursion (λ (k : Key). same_key key k ≡ false) (keys_of es) → AllByRecursion (λ (k : Key). same_key key k ≡ false) (keys_of lost)
lost_apart key [] kept lost p h = subst (λ (l : Entries). AllByRecursion (λ (k : Key). same_key key k ≡ false) (keys_of l)) (sym p.1) tt
lost_apart key (f ∷ es) kept lost (inl p) h = lost_apart key es p.0 lost p.2 h.1
lost_apart key (f ∷ es) kept lost (inr p) h =
    subst (λ (l : Entries). AllByRecursion (λ (k : Key). same_key key k ≡ false) (keys_of l)) (sym p.1) (h.0, lost_apart key es kept p.0 p.2 h.1)

pub same_as : (q f : Key) (ks : List Key) → same_key q f ≡ true → AllByRecursion (λ (k : Key). same_key f k ≡ false) ks → AllByRecursion (λ (k : Key). same_key q k ≡ false) ks
same_as q f [] e h = tt
same_as q f (k ∷ ks) e h = (nat_list_eq_equiv.congr q f k e ∙ h.0, same_as q f ks e h.1)

-- what is kept is held, and what is lost isn't
pub held_in_parts : (es kept lost : Entries) (q : Key) → IsDistinct same_key (keys_of es) → Parts es kept lost → item_in kept q ≡ without (keys_of lost) (item_in es) q
held_in_parts [] kept lost q d p = subst (λ (l : Entries). item_in kept q ≡ without (keys_of l) (item_in []) q) (sym p.1) (ap (λ (l : Entries). item_in l q) p.0)
held_in_parts (f ∷ es) kept lost q d (inl p) =
    let head = IsDistinct-head same_key f.0 (keys_of es) d in
    let tail = IsDistinct-tail same_key f.0 (keys_of es) d in
    ap (λ (l : Entries). item_in l q) p.1 ∙
    (elim (same_key q f.0) as (λ t. same_key q f.0 ≡ t → item_in (f ∷ p.0) q ≡ without (keys_of lost) (item_in (f ∷ es)) q) [
      | true ↦ λ t.
          let apart = same_as q f.0 (keys_of lost) t (lost_apart f.0 es p.0 lost p.2 head) in
          let first : item_in (f ∷ p.0) q ≡ item_in (f ∷ es) q = rw t refl in
          first ∙ sym (without_apart lost (item_in (f ∷ es)) q apart)
      | false ↦ λ t.
          let first : item_in (f ∷ p.0) q ≡ item_in p.0 q = rw t refl in
          first ∙ held_in_parts es p.0 lost q tail p.2 ∙ sym (without_more f es (keys_of lost) q t)
    ]) refl
held_in_parts (f ∷ es) kept lost q d (inr p) =
    let head = IsDistinct-head same_key f.0 (keys_of es) d in
    let tail = IsDistinct-tail same_key f.0 (keys_of es) d in
    subst (λ (l : Entries). item_in kept q ≡ without (keys_of l) (item_in (f ∷ es)) q) (sym p.1)
    ((elim (same_key q f.0) as (λ t. same_key q f.0 ≡ t → item_in kept q ≡ without (f.0 ∷ keys_of p.0) (item_in (f ∷ es)) q) [
      | true ↦ λ t.
          let apart = same_as q f.0 (keys_of kept) t (kept_apart f.0 es kept p.0 p.2 head) in
          let gone : item_in kept q ≡ None = ap (option_map (λ (entry : Entry). item_of entry.item)) (none_of q kept apart) in
          let hit : same_key f.0 q ≡ true = nat_list_eq_equiv.symm f.0 q ∙ t in
          gone ∙ rw hit refl
      | false ↦ λ t.
          let miss : same_key f.0 q ≡ false = nat_list_eq_equiv.symm f.0 q ∙ t in
          rw miss (held_in_parts es kept p.0 q tail p.2 ∙ sym (without_more f es (keys_of p.0) q t))
    ]) refl)

-- the keys of a part differ too
pub distinct_live : (now : ℕ) (es : Entries) → IsDistinct same_key (keys_of es) → IsDistinct same_key (keys_of (live now es))
unfolding IsDistinct
distinct_live now [] d = tt
distinct_live now (f ∷ es) d = (elim (is_expired now f) as (λ t. is_expired now f ≡ t → IsDistinct same_key (keys_of (live now (f ∷ es)))) [
  | true ↦ λ t. rw t (distinct_live now es d.1)
  | false ↦ λ t. rw t (kept_apart f.0 es (live now es) (filter (is_expired now) es) (parts_live now es) d.0, distinct_live now es d.1)
]) refl

-- two lots of losses, the second first
pub without_append : (xs ys : List Key) (h : Key → Option Item) (q : Key) → without (xs ++ ys) h q ≡ without xs (λ k. without ys h k) q
without_append [] ys h q = refl
without_append (k ∷ xs) ys h q = ap (λ (o : Option Item). cond (same_key k q) None o) (without_append xs ys h q)

-- the losses of equal holdings are equal
pub without_equal : (xs : List Key) (g h : Key → Option Item) (q : Key) → g q ≡ h q → without xs g q ≡ without xs h q
without_equal [] g h q e = e
without_equal (k ∷ xs) g h q e = ap (λ (o : Option Item). cond (same_key k q) None o) (without_equal xs g h q e)

pub without_none : (xs : List Key) (h : Key → Option Item) (q : Key) → h q ≡ None → without xs h q ≡ None
without_none [] h q e = e
without_none (k ∷ xs) h q e = (elim (same_key k q) as (λ t. same_key k q ≡ t → without (k ∷ xs) h q ≡ None) [
  | true ↦ λ t. rw t refl
  | false ↦ λ t. rw t (without_none xs h q e)
]) refl
