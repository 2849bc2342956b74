-- One round over the entries, from the last on: each is dropped or goes to the front.
use Rattle.std.proofs.Common.{◌≡◌, ℕ, suc, ◌+◌, ◌-◌, ◌<◌, ◌≤◌, true, false, [], ◌∷◌, ◌++◌, length, take, Some, refl, sym, ap, subst, ◌∙◌, arith, inl, inr, append-nil, append_assoc}
use Rattle.std.specs.List.{IsDistinct, AllByRecursion, slice_get}
use Rattle.std.specs.Map.{keys_of, lookup_entry, remove_entry}
use Rattle.std.specs.Cmp.Lexicographic.{nat_list_eq_equiv}
use Rattle.lru.specs.LruCache.{last_entry, promoted}
use Rattle.lru.proofs.Splits.{Contains-head, Contains-tail, Contains-cons, Contains-nil, distinct_differs, all_left, cut_last, last_from}
use Rattle.cache_server.specs.declared.item.Entry.{Entry}
use Rattle.cache_server.specs.Contents.{Key, Entries, same_key, is_expired, live}
use Rattle.cache_server.specs.Expiry.{has_come}
use Rattle.cache_server.specs.Sound.{IsDueFrom, AreDueFrom, due_with}
use Rattle.cache_server.proofs.SoundLemmas.{due_less, due_with-is}

pub length_push : (front : Entries) (last : Key × Entry) → length (front ++ last ∷ []) ≡ suc (length front)
length_push [] last = refl
length_push (f ∷ front) last = ap suc (length_push front last)

get_last : (front : Entries) (last : Key × Entry) → slice_get (front ++ last ∷ []) (length front) ≡ Some last
get_last [] last = refl
get_last (f ∷ front) last = get_last front last

pub last_entry-push : (front : Entries) (last : Key × Entry) → last_entry (front ++ last ∷ []) ≡ Some last
last_entry-push front last =
    let at : length (front ++ last ∷ []) - 1 ≡ length front = omega (arith, length_push front last) in
    ap (slice_get (front ++ last ∷ [])) at ∙ get_last front last

take_front : (front : Entries) (last : Key × Entry) → take (length front) (front ++ last ∷ []) ≡ front
take_front [] last = refl
take_front (f ∷ front) last = ap (λ (l : Entries). f ∷ l) (take_front front last)

pub take_last : (front : Entries) (last : Key × Entry) → take (length (front ++ last ∷ []) - 1) (front ++ last ∷ []) ≡ front
take_last front last =
    let at : length (front ++ last ∷ []) - 1 ≡ length front = omega (arith, length_push front last) in
    ap (λ (n : ℕ). take n (front ++ last ∷ [])) at ∙ take_front front last

apart : (front : Entries) (last : Key × Entry) → IsDistinct same_key (keys_of (front ++ last ∷ [])) → AllByRecursion (λ (e : Key × Entry). same_key last.0 e.0 ≡ false) front
apart front last d =
    all_left (λ (e : Key × Entry). same_key last.0 e.0 ≡ false) front []
    (distinct_differs (λ (e : Key × Entry). e.0) same_key nat_list_eq_equiv.symm front last [] d)

finds_last : (front : Entries) (last : Key × Entry) → AllByRecursion (λ (e : Key × Entry). same_key last.0 e.0 ≡ false) front
    → (lookup_entry (same_key last.0) (front ++ last ∷ []) ≡ Some last) × (remove_entry (same_key last.0) (front ++ last ∷ []) ≡ front)
finds_last [] last h = let self : same_key last.0 last.0 ≡ true = nat_list_eq_equiv.refl last.0 in (rw self refl, rw self refl)
finds_last (f ∷ front) last h =
    let later = finds_last front last h.1 in
    (rw h.0 later.0, rw h.0 (ap (λ (l : Entries). f ∷ l) later.1))

pub promoted_last : (front : Entries) (last : Key × Entry) → IsDistinct same_key (keys_of (front ++ last ∷ [])) → promoted (same_key last.0) (front ++ last ∷ []) ≡ last ∷ front
promoted_last front last d =
    let found = finds_last front last (apart front last d) in
    rw (found.0, found.1) refl

pub live_one-gone : (now : ℕ) (last : Key × Entry) → is_expired now last ≡ true → live now (last ∷ []) ≡ []
live_one-gone now last e = rw e refl

pub live_one : (now : ℕ) (last : Key × Entry) → is_expired now last ≡ false → live now (last ∷ []) ≡ last ∷ []
live_one now last e = rw e refl

-- what is left to look at, and what has been looked at
pub record IsSwept (now : ℕ) (all : Entries) (due seen : ℕ) (entries : Entries) : Type 0 where
  pub front : Entries
  pub back : Entries
  pub split : all ≡ front ++ back
  pub count : length front + seen ≡ length all
  pub entries_are : entries ≡ live now back ++ front
  pub due_from : AreDueFrom due (live now back)

cons_app : (now : ℕ) (last : Key × Entry) (back : Entries) → live now (last ∷ back) ≡ live now (last ∷ []) ++ live now back
cons_app now last back = (elim (is_expired now last) as (λ t. is_expired now last ≡ t → live now (last ∷ back) ≡ live now (last ∷ []) ++ live now back) [
  | true ↦ λ t. rw t refl
  | false ↦ λ t. rw t refl
]) refl

due_both : (due : ℕ) (xs ys : Entries) → AreDueFrom due xs → AreDueFrom due ys → AreDueFrom due (xs ++ ys)
due_both due [] ys h k = k
due_both due (x ∷ xs) ys h k = λ e c. elim (Contains-cons x (xs ++ ys) e c) [
  | inl same ↦ subst (λ (f : Key × Entry). IsDueFrom due f.1.item) same (h x (Contains-head x xs))
  | inr d ↦ due_both due xs ys (λ f b. h f (Contains-tail x xs f b)) k e d
]

-- an entry is last in what is left
pub record HasLast (front : Entries) : Type 0 where
  pub before : Entries
  pub last : Key × Entry
  pub is : front ≡ before ++ last ∷ []

pub has_last : (front : Entries) → 0 < length front → HasLast front
has_last [] lt = absurd (omega arith)
has_last (f ∷ front) lt = let cut = cut_last f front in record { before = cut.0; last = last_from f front; is = cut.1 }

-- one entry more has been looked at
pub swept_on : (now : ℕ) (all : Entries) (due seen next : ℕ) (entries new : Entries) → seen < length all → IsSwept now all due seen entries → next ≤ due
    → ((front : Entries) (last : Key × Entry) → entries ≡ front ++ last ∷ [] → new ≡ live now (last ∷ []) ++ front)
    → ((front : Entries) (last : Key × Entry) → entries ≡ front ++ last ∷ [] → AreDueFrom next (live now (last ∷ [])))
    → IsSwept now all next (seen + 1) new
swept_on now all due seen next entries new lt s le turned due_is =
    let cut = has_last s.front (omega (arith, s.count)) in
    let at : entries ≡ (live now s.back ++ cut.before) ++ cut.last ∷ [] =
    s.entries_are ∙ ap (λ (l : Entries). live now s.back ++ l) cut.is ∙ sym (append_assoc (live now s.back) cut.before (cut.last ∷ [])) in
    let ahead : live now (cut.last ∷ s.back) ≡ live now (cut.last ∷ []) ++ live now s.back = cons_app now cut.last s.back in
    record {
      front = cut.before;
      back = cut.last ∷ s.back;
      split = s.split ∙ ap (λ (l : Entries). l ++ s.back) cut.is ∙ append_assoc cut.before (cut.last ∷ []) s.back;
      count = let one = length_push cut.before cut.last in let len = ap length cut.is in omega (arith, s.count);
      entries_are = turned (live now s.back ++ cut.before) cut.last at ∙ sym (append_assoc (live now (cut.last ∷ [])) (live now s.back) cut.before) ∙ ap (λ (l : Entries). l ++ cut.before) (sym ahead);
      due_from = subst (AreDueFrom next) (sym ahead)
          (due_both next (live now (cut.last ∷ [])) (live now s.back) (due_is (live now s.back ++ cut.before) cut.last at) (λ e c. due_less due next e.1.item le (s.due_from e c)));
    }

pub swept_none : (now due : ℕ) (all : Entries) → IsSwept now all due 0 all
swept_none now due all = record {
  front = all;
  back = [];
  split = sym (append-nil all);
  count = omega arith;
  entries_are = refl;
  due_from = λ e c. absurd (Contains-nil e c);
}

nothing : (front : Entries) → length front ≡ 0 → front ≡ []
nothing [] e = refl
nothing (f ∷ front) e = absurd cc

pub swept_all : (now due seen : ℕ) (all entries : Entries) → seen ≡ length all → IsSwept now all due seen entries → (entries ≡ live now all) × AreDueFrom due entries
swept_all now due seen all entries e s =
    let gone : s.front ≡ [] = nothing s.front (omega (arith, s.count)) in
    let whole : all ≡ s.back = s.split ∙ ap (λ (l : Entries). l ++ s.back) gone in
    let is : entries ≡ live now s.back = s.entries_are ∙ ap (λ (l : Entries). live now s.back ++ l) gone ∙ append-nil (live now s.back) in
    (is ∙ ap (live now) (sym whole), subst (AreDueFrom due) (sym is) s.due_from)

is_last : (es front : Entries) (e last : Key × Entry) → Some e ≡ last_entry es → es ≡ front ++ last ∷ [] → e ≡ last
is_last es front e last is at = let same : Some e ≡ Some last = is ∙ ap last_entry at ∙ last_entry-push front last in cc

-- the last entry has expired, and is dropped
pub turn_gone : (now : ℕ) (es front : Entries) (e last : Key × Entry) → Some e ≡ last_entry es → has_come now e.1.item.expiry ≡ true → es ≡ front ++ last ∷ []
    → (take (length es - 1) es ≡ live now (last ∷ []) ++ front) × (live now (last ∷ []) ≡ [])
turn_gone now es front e last is come at =
    let same : e ≡ last = is_last es front e last is at in
    let gone : live now (last ∷ []) ≡ [] = live_one-gone now last (subst (λ (f : Key × Entry). is_expired now f ≡ true) same come) in
    (ap (λ (l : Entries). take (length l - 1) l) at ∙ take_last front last ∙ ap (λ (l : Entries). l ++ front) (sym gone), gone)

-- the last entry has not expired: it stays, and goes first
pub turn_kept : (now due : ℕ) (es front : Entries) (e last : Key × Entry) → IsDistinct same_key (keys_of es) → Some e ≡ last_entry es → has_come now e.1.item.expiry ≡ false → es ≡ front ++ last ∷ []
    → (promoted (same_key e.0) es ≡ live now (last ∷ []) ++ front) × AreDueFrom (due_with due e.1.item.expiry) (live now (last ∷ []))
turn_kept now due es front e last d is come at =
    let same : e ≡ last = is_last es front e last is at in
    let stays : live now (last ∷ []) ≡ last ∷ [] = live_one now last (subst (λ (f : Key × Entry). is_expired now f ≡ false) same come) in
    let first : promoted (same_key e.0) es ≡ last ∷ front =
    ap (λ (l : Entries). promoted (same_key e.0) l) at ∙ ap (λ (f : Key × Entry). promoted (same_key f.0) (front ++ last ∷ [])) same
    ∙ promoted_last front last (subst (λ (l : Entries). IsDistinct same_key (keys_of l)) at d) in (
      first ∙ ap (λ (l : Entries). l ++ front) (sym stays),
      subst (AreDueFrom (due_with due e.1.item.expiry)) (sym stays)
          (λ f c. elim (Contains-cons last [] f c) [
            | inl this ↦ subst (λ (g : Key × Entry). IsDueFrom (due_with due e.1.item.expiry) g.1.item) (same ∙ this) (due_with-is due e.1.item.expiry)
            | inr none ↦ absurd (Contains-nil f none)
          ]),
    )
