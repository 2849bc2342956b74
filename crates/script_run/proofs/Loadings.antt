-- The gate's answers to reloads, and that a run by the trees that it accepted is fresh.
use Rattle.std.proofs.Common.{◌≡◌, ℕ, zero, suc, ◌+◌, ◌-◌, ◌<◌, ◌≤◌, Bool, true, false, List, [], ◌∷◌, ◌++◌, length, length-append, map, take, get_or, slice_get, Option, Some, None, refl, sym, ap, ◌∙◌, arith}
use Rattle.std.proofs.lemmas.List.{map-append, take_more}
use Rattle.route_tree.specs.Route.{Route}
use Rattle.route_json.specs.Configuration.{Configuration}
use Rattle.gate_check.specs.Sound.{IsLast}
use Rattle.script_events.specs.declared.script.Reload.{Reload}
use Rattle.script_events.specs.Reloads.{is_refused}
use Rattle.script_run.specs.declared.accepted.judging.Loading.{Loading}
use Rattle.script_run.specs.declared.accepted.judging.Loading.TheVariants.{Loaded, Refused}
use Rattle.script_run.specs.Reloads.{loading_is_refused}

-- the tree in use after one more reload: where it is refused the one before
abbrev pub tree_after_reload : Bool → Option Reload → Route → Route
tree_after_reload true reload tree = tree
tree_after_reload false None tree = tree
tree_after_reload false (Some reload) tree = reload.config.tree

-- the tree in use after so many reloads
abbrev pub tree_after : Route → List Bool → List Reload → ℕ → Route
tree_after first refused reloads zero = first
tree_after first refused reloads (suc n) = tree_after_reload (is_refused (slice_get refused n)) (slice_get reloads n) (tree_after first refused reloads n)

last_is : (configs : List Configuration) (c : Configuration) → slice_get (configs ++ c ∷ []) (length configs) ≡ Some c
last_is [] c = refl
last_is (d ∷ configs) c = last_is configs c

pub last_of_more : (configs : List Configuration) (c : Configuration) → IsLast (configs ++ c ∷ []) c
last_of_more configs c = let e = length-append configs (c ∷ []) in let at : length (configs ++ c ∷ []) - 1 ≡ length configs = omega (arith, e) in ap (slice_get (configs ++ c ∷ [])) at ∙ last_is configs c

-- ---- answers in order

pub refused_more : (ls : List Loading) (i : ℕ) (l : Loading) → i < length ls → l ≡ get_or ls i l → map loading_is_refused (take (i + 1) ls) ≡ map loading_is_refused (take i ls) ++ loading_is_refused l ∷ []
refused_more ls i l lt is = ap (map loading_is_refused) (take_more ls i l lt ∙ ap (λ (x : Loading). take i ls ++ x ∷ []) (sym is)) ∙ map-append loading_is_refused (take i ls) (l ∷ [])

-- how many of the first so many were accepted
abbrev pub accepted_in : List Loading → ℕ → ℕ
accepted_in [] k = zero
accepted_in (Loaded n ∷ ls) zero = zero
accepted_in (Refused fault ∷ ls) zero = zero
accepted_in (Loaded n ∷ ls) (suc k) = suc (accepted_in ls k)
accepted_in (Refused fault ∷ ls) (suc k) = accepted_in ls k

pub accepted_rise : (ls : List Loading) (i j : ℕ) → i ≤ j → accepted_in ls i ≤ accepted_in ls j
accepted_rise [] i j le = omega arith
accepted_rise (Loaded n ∷ ls) zero j le = omega arith
accepted_rise (Refused fault ∷ ls) zero j le = omega arith
accepted_rise (Loaded n ∷ ls) (suc i) zero le = absurd (omega (arith, le))
accepted_rise (Refused fault ∷ ls) (suc i) zero le = absurd (omega (arith, le))
accepted_rise (Loaded n ∷ ls) (suc i) (suc j) le = let h = accepted_rise ls i j (omega (arith, le)) in omega (arith, h)
accepted_rise (Refused fault ∷ ls) (suc i) (suc j) le = accepted_rise ls i j (omega (arith, le))

-- ---- the trees in use are generations

pub more_at : (xs ys : List Configuration) (i : ℕ) (c : Configuration) → slice_get xs i ≡ Some c → slice_get (xs ++ ys) i ≡ Some c
more_at [] ys i c e = absurd (cc)
more_at (x ∷ xs) ys zero c e = e
more_at (x ∷ xs) ys (suc i) c e = more_at xs ys i c e

pub after_none : (t : Route) (k : ℕ) → tree_after t [] [] k ≡ t
after_none t zero = refl
after_none t (suc k) = after_none t k

pub after_one : (t : Route) (x : Bool) (refused : List Bool) (r : Reload) (rs : List Reload) (k : ℕ) → tree_after t (x ∷ refused) (r ∷ rs) (suc k) ≡ tree_after (tree_after_reload x (Some r) t) refused rs k
after_one t x refused r rs zero = refl
after_one t x refused r rs (suc k) = ap (tree_after_reload (is_refused (slice_get refused k)) (slice_get rs k)) (after_one t x refused r rs k)
