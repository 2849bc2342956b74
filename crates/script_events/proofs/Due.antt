-- When a reload is due, and which came before.
use Rattle.std.proofs.Common.{◌≡◌, ℕ, zero, suc, ◌+◌, ◌<◌, ◌≤◌, Bool, true, false, List, [], ◌∷◌, ◌++◌, length, take, drop, get_or, nat_le, slice_get, Option, Some, refl, sym, ap, ◌∙◌, subst, arith, ◌⊎◌, inl, inr}
use Rattle.std.specs.Prelude.{IsTrue, IfSome}
use Rattle.std.proofs.Math.Seq.{drop-cons}
use Rattle.std.proofs.lemmas.Bool.{leb-true, leb-false}
use Rattle.std.proofs.lemmas.List.{take_more}
use Rattle.std.proofs.lemmas.Option.{slice_get_within, slice_get-get_or}
use Rattle.script_events.specs.declared.script.Reload.{Reload}
use Rattle.script_events.specs.Reloads.{ReloadsInOrder}

le_or_above : (a b : ℕ) → (a ≤ b) ⊎ (b < a)
le_or_above a b = by (nat_le a b) refl
  where
    by : (x : Bool) → nat_le a b ≡ x → (a ≤ b) ⊎ (b < a)
    by true e = inl (leb-true a b e)
    by false e = inr (leb-false a b e)

at_front : (rs : List Reload) (i : ℕ) → slice_get (drop i rs) zero ≡ slice_get rs i
at_front rs zero = refl
at_front [] (suc i) = refl
at_front (r ∷ rs) (suc i) = at_front rs i

-- whether the reload of this number comes before the event of this place
abbrev pub IsDue : List Reload → ℕ → ℕ → Type 0
IsDue reloads loaded next = (loaded < length reloads) × IfSome (slice_get reloads loaded) (λ r. r.at ≤ next)

not_true : (b : Bool) → b ≡ false → IsTrue b → ⊥
not_true true e t = cc
not_true false e t = cc

-- where none is due, the next one comes later
later : (due : Bool) (reloads : List Reload) (loaded next : ℕ) (r : Reload) → (IsDue reloads loaded next → IsTrue due) → due ≡ false → slice_get reloads loaded ≡ Some r → next < r.at
later due reloads loaded next r says none at = elim (le_or_above r.at next) [
  | inl le ↦ absurd (not_true due none (says (slice_get_within reloads loaded r at, subst (λ (o : Option Reload). IfSome o (λ x. x.at ≤ next)) (sym at) le)))
  | inr lt ↦ lt
]

raised : (end servers place place' : ℕ) (rs : List Reload) → ReloadsInOrder end servers place rs → ((r : Reload) → slice_get rs zero ≡ Some r → place' ≤ r.at) → ReloadsInOrder end servers place' rs
raised end servers place place' [] h up = tt
raised end servers place place' (r ∷ rs) h up = (up r refl, h.1, h.2, h.3)

-- the reloads that are left stand in order after one more event
pub order_on : (end servers loaded next : ℕ) (reloads : List Reload) (due : Bool) → (IsDue reloads loaded next → IsTrue due) → due ≡ false → ReloadsInOrder end servers next (drop loaded reloads) → ReloadsInOrder end servers (next + 1) (drop loaded reloads)
order_on end servers loaded next reloads due says none h =
    raised end servers next (next + 1) (drop loaded reloads) h (λ r e. let lt = later due reloads loaded next r says none (sym (at_front reloads loaded) ∙ e) in omega (arith, lt))

-- the one that is due, and those after it
pub order_at : (end servers loaded next : ℕ) (reloads : List Reload) (r : Reload) → loaded < length reloads → r ≡ get_or reloads loaded r → ReloadsInOrder end servers next (drop loaded reloads) → (next ≤ r.at) × (r.at ≤ end) × (length r.config.servers ≤ servers) × ReloadsInOrder end servers r.at (drop (loaded + 1) reloads)
order_at end servers loaded next reloads r lt is h =
    let one : suc loaded ≡ loaded + 1 = omega arith in
    subst (λ (n : ℕ). (next ≤ r.at) × (r.at ≤ end) × (length r.config.servers ≤ servers) × ReloadsInOrder end servers r.at (drop n reloads)) one
    (subst (λ (x : Reload). (next ≤ x.at) × (x.at ≤ end) × (length x.config.servers ≤ servers) × ReloadsInOrder end servers x.at (drop (suc loaded) reloads)) (sym is)
    (subst (ReloadsInOrder end servers next) (drop-cons reloads loaded r lt) h))

-- the one that is due comes at this place
pub due_at : (end servers loaded next : ℕ) (reloads : List Reload) (r : Reload) → IsDue reloads loaded next → r ≡ get_or reloads loaded r → ReloadsInOrder end servers next (drop loaded reloads) → r.at ≡ next
due_at end servers loaded next reloads r due is h =
    let at : r.at ≤ next = subst (λ (o : Option Reload). IfSome o (λ x. x.at ≤ next)) (slice_get-get_or reloads loaded r due.0 ∙ ap Some (sym is)) due.1 in
    let from = (order_at end servers loaded next reloads r due.0 is h).0 in
    omega (arith, at, from)

-- the reloads that came, and one more
pub one_more_taken : (rs : List Reload) (i : ℕ) (r : Reload) → i < length rs → r ≡ get_or rs i r → take (i + 1) rs ≡ take i rs ++ r ∷ []
one_more_taken rs i r lt is = take_more rs i r lt ∙ ap (λ (x : Reload). take i rs ++ x ∷ []) (sym is)
