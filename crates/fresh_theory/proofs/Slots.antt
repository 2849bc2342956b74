-- Where slots only go to servers that never had them, generations are sound.
use Rattle.std.proofs.Common.{◌≡◌, ℕ, zero, suc, ◌%◌, ◌<◌, ◌≤◌, Bool, true, false, not, ◌&&◌, ◌||◌, List, [], ◌∷◌, Some, inl, inr, ⊎_elim, refl, sym, ap, ◌∙◌, subst, arith, nat_eq, slice_get, slice_index}
use Rattle.std.proofs.lemmas.Bool.{eqb-true, eq-eqb, cases_lt}
use Rattle.route_tree.specs.declared.place.Place.{Place}
use Rattle.route_tree.specs.Plan.{Server}
use Rattle.route_tree.specs.Route.{Route, Pool}
use Rattle.route_tree.specs.Place.{tree_at_place}
use Rattle.gate_coverage.specs.Computed.{asks_get, is_taking}
use Rattle.gate_coverage.proofs.Choices.{both_split, either_split}
use Rattle.gate_coverage.proofs.Copying.{takes_is_taken}
use Rattle.gate_coverage.proofs.Keeping.{cleared_is_exact}
use Rattle.gate_growth.specs.Puts.{Puts}
use Rattle.gate_growth.proofs.Stored.{puts_are_computed}
use Rattle.gate_growth.specs.Marks.{IsTaken, IsClear}
use Rattle.gate_growth.specs.Grown.{AreSoundSince}
use Rattle.fresh_theory.specs.Slots.{pool_trees, HaveSlots, NoneGoesBack, GrowingSlotsAreSound}

-- ---- one server

server_taken : (t s : ℕ) → IsTaken (Server t) s → t ≡ s
server_taken t s h =
    let taken = takes_is_taken (Server t) h.0 s h.2 in
    ⊎_elim
    (λ shown. eqb-true t s shown)
    (λ copied. absurd (let f = (both_split (asks_get h.0) false copied).1 in cc))
    (either_split (nat_eq t s) (asks_get h.0 && false) (both_split (is_taking h.0) (nat_eq t s || (asks_get h.0 && false)) taken).1)

twice_not : (b : Bool) → b ≡ true → not (not b) ≡ true
twice_not true e = refl
twice_not false e = absurd cc

server_clear : (t s : ℕ) → t ≡ s → IsClear (Server t) s
server_clear t s e kind = (cleared_is_exact (Server t) kind s tt).0 (twice_not (nat_eq t s) (eq-eqb t s e))

-- what some operation stores
any_of : (same : Bool) (A : Type 0) → (same ≡ true → A) → (same || same || same || same || false) ≡ true → A
any_of true A f e = f refl
any_of false A f e = absurd cc

server_puts : (t s : ℕ) → Puts (Server t) s → t ≡ s
server_puts t s h = any_of (nat_eq t s) (t ≡ s) (eqb-true t s) (puts_are_computed (Server t) s h)

-- ---- pools

pool_of : (pools : List (List ℕ)) (i : ℕ) (a : Route) → slice_get (pool_trees pools) i ≡ Some a → (servers : List ℕ) × (slice_get pools i ≡ Some servers) × (Pool servers ≡ a)
pool_of [] i a e = absurd cc
pool_of (p ∷ pools) zero a e = (p, refl, cc)
pool_of (p ∷ pools) (suc i) a e = pool_of pools i a e

module _ (arbitrary : ℕ → Bool) (pools : List (List ℕ)) (n : ℕ) (some : 0 < n) (have : HaveSlots pools n) (stays : NoneGoesBack arbitrary pools n) where
  -- the server of a pool at a place
  at_slot : (i : ℕ) (servers : List ℕ) (a : Route) → slice_get pools i ≡ Some servers → Pool servers ≡ a → (place : Place) → Server (slice_index servers (place.residue % n)) ≡ tree_at_place a place
  at_slot i servers a got is place = ap (λ m. Server (slice_index servers (place.residue % m))) (sym (have i servers got)) ∙ ap (λ r. tree_at_place r place) is

  sound : AreSoundSince arbitrary (pool_trees pools)
  sound i j a b le ga gb place among server taken =
      let p = pool_of pools i a ga in
      let q = pool_of pools j b gb in
      let slot = place.residue % n in
      let below : slot < n = omega (arith, some) in
      let is : slice_index q.0 slot ≡ server = server_taken (slice_index q.0 slot) server (subst (λ x. IsTaken x server) (sym (at_slot j q.0 b q.1 q.2 place)) taken) in
      ⊎_elim
      (λ same. inl (subst (λ x. IsClear x server) (at_slot i p.0 a p.1 p.2 place) (server_clear (slice_index p.0 slot) server (same ∙ is))))
      (λ other.
      ⊎_elim
      (λ (lt : i < j). inr (
        lt,
        subst (λ x. arbitrary x ≡ false) is other.0,
        (λ h t small got puts.
            let c = pool_of pools h t got in
            other.1 h c.0 small c.1 (server_puts (slice_index c.0 slot) server (subst (λ x. Puts x server) (sym (at_slot h c.0 t c.1 c.2 place)) puts) ∙ sym is)),
      ))
      (λ (ge : j ≤ i). absurd (other.1 j q.0 ge q.1 refl))
      (cases_lt i j))
      (stays i j p.0 q.0 le p.1 q.1 slot below)

pub growing_slots : GrowingSlotsAreSound
growing_slots arbitrary pools n some have stays = sound arbitrary pools n some have stays
