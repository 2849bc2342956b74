-- What is left of a tree for a key is what is left of it for the key's place.
use Rattle.std.proofs.Common.{◌≡◌, ℕ, ◌%◌, ◌<◌, ◌≤◌, Bool, true, false, cond, ◌&&◌, List, [], ◌∷◌, ◌++◌, length, Option, Some, None, refl, sym, ap, ap₂, ◌∙◌, arith, nat_eq, subst}
use Rattle.std.specs.Int.{◌∣◌}
use Rattle.std.proofs.Math.Nat.{mod-mod_of_dvd}
use Rattle.std.specs.Prelude.{slice_index}
use Rattle.std.proofs.lemmas.Bool.{eqb-true, eq-eqb}
use Rattle.route_tree.specs.Plan as plan
use Rattle.route_tree.specs.Plan.{Plan}
use Rattle.route_tree.specs.Route.{Route, Routes, Policies, Prefixes, Pool, Server, Null, Failing, AllSync, Failover, MissFailover, WarmUp, ByOperation, ByPrefix, End, More, Otherwise, Policy, Wildcard, Prefix, IsGood, AreGood, ArePoliciesGood, ArePrefixesGood, IsTree}
use Rattle.route_tree.specs.At.{begins, is_longer, best_or, plain_for, plain_for_all, plain_for_policies, plain_for_prefixes}
use Rattle.route_tree.specs.Each.{Each}
use Rattle.route_tree.specs.Place.{sizes, sizes_of_all, sizes_of_policies, sizes_of_prefixes, prefixes, prefixes_of_all, prefixes_of_policies, prefixes_of_prefixes, IsLongest, prefix_text, PlaceIsEnough}
use Rattle.route_tree.specs.Tag.{key_hash}
use Rattle.mc_types.specs.KeyText.{IsKey}

pub each_append : {A : Type 0} (P : A → Type 0) (xs ys : List A) → Each P xs → Each P ys → Each P (xs ++ ys)
each_append P [] ys h k = k
each_append P (x ∷ xs) ys h k = (h.0, each_append P xs ys h.1 k)

pub each_left : {A : Type 0} (P : A → Type 0) (xs ys : List A) → Each P (xs ++ ys) → Each P xs
each_left P [] ys h = tt
each_left P (x ∷ xs) ys h = (h.0, each_left P xs ys h.1)

pub each_right : {A : Type 0} (P : A → Type 0) (xs ys : List A) → Each P (xs ++ ys) → Each P ys
each_right P [] ys h = h
each_right P (x ∷ xs) ys h = each_right P xs ys h.1

module _ (hash hash' : ℕ) (text text' : List ℕ) where
  abbrev Rest : ℕ → Type 0
  Rest n = hash % n ≡ hash' % n

  abbrev Test : List ℕ → Type 0
  Test p = begins p text ≡ begins p text'

  mutual
    pub alike : (r : Route) → Each Rest (sizes r) → Each Test (prefixes r) → plain_for hash text r ≡ plain_for hash' text' r
    alike (Pool servers) h t = ap (λ n. plan.Server (slice_index servers n)) h.0
    alike (Server s) h t = refl
    alike Null h t = refl
    alike Failing h t = refl
    alike (AllSync rs) h t = ap plan.AllSync (all_alike rs h t)
    alike (Failover rs) h t = ap plan.Failover (all_alike rs h t)
    alike (MissFailover rs) h t = ap plan.MissFailover (all_alike rs h t)
    alike (WarmUp c w e) h t = ap₂ (λ x y. plan.WarmUp x y e) (alike c (each_left Rest (sizes c) (sizes w) h) (each_left Test (prefixes c) (prefixes w) t)) (alike w (each_right Rest (sizes c) (sizes w) h) (each_right Test (prefixes c) (prefixes w) t))
    alike (ByOperation ps) h t = ap plan.ByOperation (policies_alike ps h t)
    alike (ByPrefix ps) h t = prefixes_alike ps None h t

    all_alike : (rs : Routes) → Each Rest (sizes_of_all rs) → Each Test (prefixes_of_all rs) → plain_for_all hash text rs ≡ plain_for_all hash' text' rs
    all_alike End h t = refl
    all_alike (More r rs) h t = ap₂ plan.More (alike r (each_left Rest (sizes r) (sizes_of_all rs) h) (each_left Test (prefixes r) (prefixes_of_all rs) t)) (all_alike rs (each_right Rest (sizes r) (sizes_of_all rs) h) (each_right Test (prefixes r) (prefixes_of_all rs) t))

    policies_alike : (ps : Policies) → Each Rest (sizes_of_policies ps) → Each Test (prefixes_of_policies ps) → plain_for_policies hash text ps ≡ plain_for_policies hash' text' ps
    policies_alike (Otherwise r) h t = ap plan.Otherwise (alike r h t)
    policies_alike (Policy op r ps) h t = ap₂ (plan.Policy op) (alike r (each_left Rest (sizes r) (sizes_of_policies ps) h) (each_left Test (prefixes r) (prefixes_of_policies ps) t)) (policies_alike ps (each_right Rest (sizes r) (sizes_of_policies ps) h) (each_right Test (prefixes r) (prefixes_of_policies ps) t))

    prefixes_alike : (ps : Prefixes) (best : Option (List ℕ × Plan)) → Each Rest (sizes_of_prefixes ps) → Each Test (prefixes_of_prefixes ps) → plain_for_prefixes hash text ps best ≡ plain_for_prefixes hash' text' ps best
    prefixes_alike (Wildcard r) best h t = ap (λ p. best_or p best) (alike r h t)
    prefixes_alike (Prefix p r ps) best h t =
        prefixes_alike ps _ (each_right Rest (sizes r) (sizes_of_prefixes ps) h) (each_right Test (prefixes r) (prefixes_of_prefixes ps) t.1)
        ∙ (λ i. plain_for_prefixes hash' text' ps (cond (t.0 i && is_longer p best) (Some (p, alike r (each_left Rest (sizes r) (sizes_of_prefixes ps) h) (each_left Test (prefixes r) (prefixes_of_prefixes ps) t.1) i)) best))

-- ---- fronts

both_split : (a b : Bool) → (a && b) ≡ true → (a ≡ true) × (b ≡ true)
both_split true b h = (refl, h)
both_split false b h = absurd (cc)

both : (a b : Bool) → a ≡ true → b ≡ true → (a && b) ≡ true
both a b h k = ap₂ (λ x y. x && y) h k

-- a front of a front
pub begins_trans : (p q key : List ℕ) → begins p q ≡ true → begins q key ≡ true → begins p key ≡ true
begins_trans [] q key h k = refl
begins_trans (x ∷ p) [] key h k = absurd (cc)
begins_trans (x ∷ p) (y ∷ q) [] h k = absurd (cc)
begins_trans (x ∷ p) (y ∷ q) (z ∷ key) h k =
    let a = both_split (nat_eq x y) (begins p q) h in
    let b = both_split (nat_eq y z) (begins q key) k in
    both (nat_eq x z) (begins p key) (eq-eqb x z (eqb-true x y a.0 ∙ eqb-true y z b.0)) (begins_trans p q key a.1 b.1)

-- the shorter of two fronts is a front of the longer
pub begins_shorter : (p q key : List ℕ) → begins p key ≡ true → begins q key ≡ true → length p ≤ length q → begins p q ≡ true
begins_shorter [] q key h k le = refl
begins_shorter (x ∷ p) q [] h k le = absurd (cc)
begins_shorter (x ∷ p) [] (z ∷ key) h k le = absurd (omega arith)
begins_shorter (x ∷ p) (y ∷ q) (z ∷ key) h k le =
    let a = both_split (nat_eq x z) (begins p key) h in
    let b = both_split (nat_eq y z) (begins q key) k in
    both (nat_eq x y) (begins p q) (eq-eqb x y (eqb-true x z a.0 ∙ sym (eqb-true y z b.0))) (begins_shorter p q key a.1 b.1 (omega arith))

pub same_test : (p longest key : List ℕ) → begins longest key ≡ true → (begins p key ≡ true → length p ≤ length longest) → begins p key ≡ begins p longest
same_test p longest key is le = decide (begins p key) refl (begins p longest) refl
  where
    decide : (a : Bool) → begins p key ≡ a → (b : Bool) → begins p longest ≡ b → a ≡ b
    decide true e true f = refl
    decide false e false f = refl
    decide true e false f = sym (begins_shorter p longest key e is (le e)) ∙ f
    decide false e true f = sym e ∙ begins_trans p longest key f is

pub no_front : (p : List ℕ) → 0 < length p → begins p [] ≡ false
no_front [] h = absurd (omega arith)
no_front (x ∷ p) h = refl

pub tests : (ps : List (List ℕ)) (key : List ℕ) (r : Option (List ℕ)) → Each (λ p. 0 < length p) ps → IsLongest ps key r → Each (λ p. begins p key ≡ begins p (prefix_text r)) ps
tests ps key None some h = none ps some h
  where
    none : (qs : List (List ℕ)) → Each (λ p. 0 < length p) qs → Each (λ p. begins p key ≡ false) qs → Each (λ p. begins p key ≡ begins p []) qs
    none [] s k = tt
    none (q ∷ qs) s k = (k.0 ∙ sym (no_front q s.0), none qs s.1 k.1)
tests ps key (Some longest) some h = those ps h.2
  where
    those : (qs : List (List ℕ)) → Each (λ p. begins p key ≡ true → length p ≤ length longest) qs → Each (λ p. begins p key ≡ begins p longest) qs
    those [] k = tt
    those (q ∷ qs) k = (same_test q longest key h.1 k.0, those qs k.1)

-- ---- rests

pub rests : (hash m : ℕ) (ns : List ℕ) → Each (λ n. n ∣ m) ns → Each (λ n. hash % n ≡ hash % m % n) ns
rests hash m [] h = tt
rests hash m (n ∷ ns) h = (sym (mod-mod_of_dvd n hash h.0), rests hash m ns h.1)

module _ (P : List ℕ → Type 0) (of_key : (text : List ℕ) → IsKey text → P text) where
  mutual
    pub of_prefixes : (r : Route) → IsGood r → Each P (prefixes r)
    of_prefixes (Pool servers) h = tt
    of_prefixes (Server s) h = tt
    of_prefixes Null h = tt
    of_prefixes Failing h = tt
    of_prefixes (AllSync rs) h = of_all rs h.1
    of_prefixes (Failover rs) h = of_all rs h.1
    of_prefixes (MissFailover rs) h = of_all rs h.1
    of_prefixes (WarmUp c w e) h = each_append P (prefixes c) (prefixes w) (of_prefixes c h.0) (of_prefixes w h.1)
    of_prefixes (ByOperation ps) h = of_policies ps h
    of_prefixes (ByPrefix ps) h = of_each ps h

    of_all : (rs : Routes) → AreGood rs → Each P (prefixes_of_all rs)
    of_all End h = tt
    of_all (More r rs) h = each_append P (prefixes r) (prefixes_of_all rs) (of_prefixes r h.0) (of_all rs h.1)

    of_policies : (ps : Policies) → ArePoliciesGood ps → Each P (prefixes_of_policies ps)
    of_policies (Otherwise r) h = of_prefixes r h
    of_policies (Policy op r ps) h = each_append P (prefixes r) (prefixes_of_policies ps) (of_prefixes r h.0) (of_policies ps h.1)

    of_each : (ps : Prefixes) → ArePrefixesGood ps → Each P (prefixes_of_prefixes ps)
    of_each (Wildcard r) h = of_prefixes r h
    of_each (Prefix p r ps) h = (of_key p h.0, each_append P (prefixes r) (prefixes_of_prefixes ps) (of_prefixes r h.1) (of_each ps h.2))

-- the prefixes of a tree are keys
pub prefixes_are_keys : (r : Route) → IsTree r → Each IsKey (prefixes r)
prefixes_are_keys r h = of_prefixes IsKey (λ text k. k) r h.good

pub place_is_enough : PlaceIsEnough
place_is_enough r key place tree h =
    let some = of_prefixes (λ p. 0 < length p) (λ text k. k.some) r tree.good in
    alike (key_hash key) place.residue key (prefix_text place.prefix) r (subst (λ k. Each (λ n. key_hash key % n ≡ k % n) (sizes r)) (sym h.residue) (rests (key_hash key) place.modulus (sizes r) h.modulus.common)) (tests (prefixes r) key place.prefix some h.prefix)
