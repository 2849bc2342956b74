-- The slots of a pool.
use Rattle.std.proofs.Common.{◌≡◌, ◌≤◌, ◌<◌, ℕ, suc, zero, ◌+◌, ◌*◌, List, [], ◌∷◌, ◌++◌, length, replicate, sym, ap, ◌∙◌, arith, subst, append_assoc, length-append}
use Rattle.std.proofs.lemmas.List.{length-replicate, replicate_more}
use Rattle.route_tree.specs.Route.{Pool}
use Rattle.route_json.specs.declared.pools.WeightedServer.{WeightedServer}
use Rattle.route_json.specs.Fits.{IsLeaf}
use Rattle.route_json.specs.Pools.{AllBelow, AreWeighted, IsServerList, AreSlots, Slotted, IsPool, slots_of}

pub slot_count_cons : (s : WeightedServer) (ss : List WeightedServer) → length (slots_of (s ∷ ss)) ≡ s.weight + length (slots_of ss)
slot_count_cons s ss = length-append (replicate s.weight s.server) (slots_of ss) ∙ ap (λ n. n + length (slots_of ss)) (length-replicate s.weight s.server)

slots_some : (b : ℕ) (ss : List WeightedServer) → 0 < length ss → AreWeighted b ss → 0 < length (slots_of ss)
slots_some b [] some h = absurd (omega arith)
slots_some b (s ∷ ss) some h = omega (arith, slot_count_cons s ss, h.1)

slots_light : (b : ℕ) (ss : List WeightedServer) → AreWeighted b ss → length (slots_of ss) ≤ 16 * length ss
slots_light b [] h = omega arith
slots_light b (s ∷ ss) h = omega (arith, slot_count_cons s ss, h.2, slots_light b ss h.3)

below_append : (b : ℕ) (xs ys : List ℕ) → AllBelow b xs → AllBelow b ys → AllBelow b (xs ++ ys)
below_append b [] ys h k = k
below_append b (x ∷ xs) ys h k = (h.0, below_append b xs ys h.1 k)

below_replicate : (b n x : ℕ) → x < b → AllBelow b (replicate n x)
below_replicate b zero x lt = tt
below_replicate b (suc n) x lt = (lt, below_replicate b n x lt)

slots_below : (b : ℕ) (ss : List WeightedServer) → AreWeighted b ss → AllBelow b (slots_of ss)
slots_below b [] h = tt
slots_below b (s ∷ ss) h = below_append b (replicate s.weight s.server) (slots_of ss) (below_replicate b s.weight s.server h.0) (slots_below b ss h.3)

-- the slots that weights make are slots
pub weights_make_slots : (b : ℕ) (ss : List WeightedServer) (slots : List ℕ) → slots ≡ slots_of ss → IsServerList b ss → AreSlots b slots
weights_make_slots b ss slots is h = subst (AreSlots b) (sym is) (slots_some b ss h.0 h.2, h.1, slots_below b ss h.2)

pub pool_is_leaf : (b : ℕ) (pool : Slotted) (slots : List ℕ) → IsPool b pool → slots ≡ pool.slots → IsLeaf b (Pool slots)
pool_is_leaf b pool slots h is = subst (λ l. IsLeaf b (Pool l)) (sym is) (record {
  good = (h.slots.0, h.slots.1);
  below = h.slots.2;
  deep = omega arith;
  many = omega arith;
})

-- ---- loops

-- a run of one number goes on by one more at the end
pub one_more : (n n' x : ℕ) (first done done' : List ℕ) → n' ≡ n + 1 → done ≡ first ++ replicate n x → done' ≡ done ++ x ∷ [] → done' ≡ first ++ replicate n' x
one_more n n' x first done done' step h is =
    is ∙ ap (λ l. l ++ x ∷ []) h ∙ append_assoc first (replicate n x) (x ∷ []) ∙ ap (λ l. first ++ l) (replicate_more n x ∙ ap (λ m. replicate m x) (sym step))

-- a pool's slots so far, and those of the servers left
pub slots_go : (all left : List WeightedServer) (s : WeightedServer) (xs : List WeightedServer) (done done' : List ℕ) → done ++ slots_of xs ≡ slots_of all → xs ≡ s ∷ left → done' ≡ done ++ replicate s.weight s.server → done' ++ slots_of left ≡ slots_of all
slots_go all left s xs done done' h at is =
    ap (λ l. l ++ slots_of left) is ∙ append_assoc done (replicate s.weight s.server) (slots_of left) ∙ ap (λ l. done ++ slots_of l) (sym at) ∙ h

-- how many slots a pool has so far, and how many those of the servers left are
pub count_goes : (all xs left : List WeightedServer) (s : WeightedServer) (n : ℕ) → n + length (slots_of xs) ≡ length (slots_of all) → xs ≡ s ∷ left → (n + s.weight) + length (slots_of left) ≡ length (slots_of all)
count_goes all xs left s n h at = omega (arith, h, ap (λ l. length (slots_of l)) at, slot_count_cons s left)

pub count_fits : (b : ℕ) (all xs left : List WeightedServer) (s : WeightedServer) (n : ℕ) → AreWeighted b all → length all ≤ 1024 → n + length (slots_of xs) ≡ length (slots_of all) → xs ≡ s ∷ left → n + s.weight ≤ 16384
count_fits b all xs left s n light few h at = omega (arith, count_goes all xs left s n h at, slots_light b all light)
