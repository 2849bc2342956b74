-- Calls that had waited too long, and when calls began.
use Rattle.std.proofs.Common.{◌≡◌, ◌⊎◌, ◌≤◌, inl, inr, ℕ, zero, suc, ◌+◌, ◌<◌, List, [], ◌∷◌, refl, sym, ◌∙◌, subst, arith}
use Rattle.std.proofs.Math.Nat.{min-eq_left, min-eq_right}
use Rattle.std.specs.Prelude.{min}
use Rattle.serve_links.specs.declared.calls.calls.SentCall.{SentCall}
use Rattle.serve_links.specs.Story.{said_asks}
use Rattle.serve_links.specs.Talks.{HasWaited}
use Rattle.serve_links.specs.Unsent.{HasSince}

-- one that began so long before has waited too long
pub waited : (limit now since : ℕ) (calls : List SentCall) → HasSince since calls → since + limit < now → HasWaited limit now (said_asks calls)
waited limit now since [] has late = has
waited limit now since (call ∷ calls) (inl is) late = inl (subst (λ (n : ℕ). n + limit < now) (sym is) late)
waited limit now since (call ∷ calls) (inr has) late = inr (waited limit now since calls has late)

-- each of those that are left is one of all
abbrev pub AreOf : List SentCall → List SentCall → Type 0
AreOf rest calls = (since : ℕ) → HasSince since rest → HasSince since calls

pub all_are : (rest calls : List SentCall) → rest ≡ calls → AreOf rest calls
all_are rest calls same = λ since has. subst (λ (l : List SentCall). HasSince since l) same has

pub less_are : (call : SentCall) (rest rest' calls : List SentCall) → rest ≡ call ∷ rest' → AreOf rest calls → AreOf rest' calls
less_are call rest rest' calls more are = λ since has. are since (subst (λ (l : List SentCall). HasSince since l) (sym more) (inr has))

below_or : (m n : ℕ) → (m ≤ n) ⊎ (n ≤ m)
below_or zero n = inl (omega arith)
below_or (suc m) zero = inr (omega arith)
below_or (suc m) (suc n) = elim (below_or m n) [ inl below ↦ inl (omega (arith, below)) | inr above ↦ inr (omega (arith, above)) ]

-- the earlier of two times is one of them
pub earlier_since :
    (since first oldest : ℕ) (call : SentCall) (rest rest' calls : List SentCall) → rest ≡ call ∷ rest' → AreOf rest calls → (first ≡ since) ⊎ HasSince first calls → oldest ≡ min first call.since
    → (oldest ≡ since) ⊎ HasSince oldest calls
earlier_since since first oldest call rest rest' calls more are was is =
    elim (below_or first call.since) [
      | inl below ↦ subst (λ (n : ℕ). (n ≡ since) ⊎ HasSince n calls) (sym (is ∙ min-eq_left below)) was
      | inr above ↦ inr (subst (λ (n : ℕ). HasSince n calls) (sym (is ∙ min-eq_right above)) (are call.since (subst (λ (l : List SentCall). HasSince call.since l) (sym more) (inl refl))))
    ]
