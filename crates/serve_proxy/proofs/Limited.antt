-- Links that are given their limits, one after another.
use Rattle.std.proofs.Common.{◌≡◌, ℕ, zero, suc, ◌+◌, ◌≤◌, List, [], ◌∷◌, ◌++◌, length, take, drop, set, get_or, refl, sym, ap, ◌∙◌, add-one, arith}
use Rattle.serve_links.specs.declared.link.Link.{Link}
use Rattle.serve_links.specs.declared.settings.LinkLimits.{LinkLimits}
use Rattle.serve_proxy.specs.Limiting.{limited_by}

-- so many of them have theirs
abbrev pub limited_to : (List ℕ → LinkLimits) → ℕ → List Link → List Link
limited_to limits zero links = links
limited_to limits (suc n) [] = []
limited_to limits (suc n) (link ∷ links) = record link { limits = limits link.text.items } ∷ limited_to limits n links

next_limited : (limits : List ℕ → LinkLimits) (n : ℕ) (links : List Link) (other y : Link) → (let x : Link = get_or (limited_to limits n links) n other in y ≡ record x { limits = limits x.text.items }) → set (limited_to limits n links) n y ≡ limited_to limits (suc n) links
next_limited limits zero [] other y is = refl
next_limited limits zero (link ∷ links) other y is = ap (λ (z : Link). z ∷ links) is
next_limited limits (suc n) [] other y is = refl
next_limited limits (suc n) (link ∷ links) other y is = ap (λ ls. record link { limits = limits link.text.items } ∷ ls) (next_limited limits n links other y is)

-- one more
pub one_limited :
    (limits : List ℕ → LinkLimits) (n : ℕ) (first links : List Link) (other y : Link) → links ≡ limited_to limits n first → (let x : Link = get_or links n other in y ≡ record x { limits = limits x.text.items })
    → set links n y ≡ limited_to limits (n + 1) first
one_limited limits n first links other y so is =
    ap (λ ls. set ls n y) so ∙ next_limited limits n first other y (is ∙ ap (λ ls. let x : Link = get_or ls n other in record x { limits = limits x.text.items }) so)
    ∙ ap (λ m. limited_to limits m first) (sym (add-one n))

-- all of them
all_limited : (limits : List ℕ → LinkLimits) (n : ℕ) (links : List Link) → length links ≤ n → limited_to limits n links ≡ limited_by limits links
all_limited limits zero [] all = refl
all_limited limits (suc n) [] all = refl
all_limited limits zero (link ∷ links) all = absurd (omega arith)
all_limited limits (suc n) (link ∷ links) all = let rest : length links ≤ n = omega arith in ap (λ ls. record link { limits = limits link.text.items } ∷ ls) (all_limited limits n links rest)

as_long : (limits : List ℕ → LinkLimits) (links : List Link) → length (limited_by limits links) ≡ length links
as_long limits [] = refl
as_long limits (link ∷ links) = ap (λ n. suc n) (as_long limits links)

written : (limits : List ℕ → LinkLimits) (links : List Link) → take (length links) (limited_by limits links ++ drop (length links) links) ≡ limited_by limits links
written limits [] = refl
written limits (link ∷ links) = ap (λ ls. record link { limits = limits link.text.items } ∷ ls) (written limits links)

-- and they are all
pub each_limited :
    (limits : List ℕ → LinkLimits) (n len : ℕ) (first old new : List Link) → new ≡ limited_to limits n first → first ≡ old → len ≡ length old → length first ≤ n → take len (new ++ drop (length new) old) ≡ limited_by limits old
each_limited limits n len first old new so same is all =
    let theirs : new ≡ limited_by limits old = so ∙ all_limited limits n first all ∙ ap (limited_by limits) same in
    ap (λ m. take m (new ++ drop (length new) old)) is ∙ ap (λ ls. take (length old) (ls ++ drop (length ls) old)) theirs ∙ ap (λ m. take (length old) (limited_by limits old ++ drop m old)) (as_long limits old) ∙ written limits old
