-- Servers that are emptied before their first call.
use Rattle.std.proofs.Common.{◌≡◌, ℕ, zero, suc, true, List, ◌⊎◌, inl, inr, Some, refl, sym, ap, subst}
use Rattle.std.specs.Prelude.{slice_get}
use Rattle.serve_links.specs.declared.link.Link.{Link}
use Rattle.serve_proxy.specs.Emptying.{EmptiesAt}
use Rattle.mcgate_serve.specs.Emptied.{EmptiesOnly, FlushesAt}

pub empties_none : (Is : ℕ → Type 0) (links : List Link) → EmptiesOnly Is links links
empties_none Is links = λ i link is flushes. inl (link, is, flushes)

is_it : (i at : ℕ) → (i ≡ at) ⊎ (i ≡ at → ⊥)
is_it zero zero = inl refl
is_it zero (suc at) = inr (λ same. cc same)
is_it (suc i) zero = inr (λ same. cc same)
is_it (suc i) (suc at) = by (is_it i at)
  where
    by : (i ≡ at) ⊎ (i ≡ at → ⊥) → (suc i ≡ suc at) ⊎ (suc i ≡ suc at → ⊥)
    by (inl same) = inl (ap suc same)
    by (inr other) = inr (λ same. other (cc same))

-- one more is
pub empties_more : (Is : ℕ → Type 0) (at : ℕ) (old mid new : List Link) → Is at → EmptiesOnly Is old mid → EmptiesAt at mid new → EmptiesOnly Is old new
empties_more Is at old mid new here before one = λ i link is flushes. by i link is flushes (is_it i at)
  where
    by : (i : ℕ) (link : Link) → slice_get new i ≡ Some link → link.flushes ≡ true → (i ≡ at) ⊎ (i ≡ at → ⊥) → ((was : Link) × (slice_get old i ≡ Some was) × (was.flushes ≡ true)) ⊎ Is i
    by i link is flushes (inl same) = inr (subst Is (sym same) here)
    by i link is flushes (inr other) = before i link (one.others i link other is) flushes

-- it is still emptied first, where nothing was done to the links since
pub flushes_still : (at : ℕ) (old mid new : List Link) → EmptiesAt at old mid → new ≡ mid → FlushesAt at new
flushes_still at old mid new one same = subst (λ links. FlushesAt at links) (sym same) one.one
