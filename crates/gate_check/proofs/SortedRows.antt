-- Rows that rise as they are put together, and rows that are sorted.
use Rattle.std.proofs.Common.{◌≡◌, ℕ, zero, suc, ◌<◌, Bool, true, false, List, [], ◌∷◌, ◌++◌, length, eqb, inl, inr, refl, sym, ap, ◌∙◌, subst, arith}
use Rattle.std.specs.Prelude.{slice_index_or}
use Rattle.std.specs.List.{AllPairs, Contains, dedup}
use Rattle.std.specs.List.Sorted.{IsPermutation, IsSorted}
use Rattle.std.specs.Ordering.{nat_cmp}
use Rattle.std.proofs.lemmas.List.Kept.{AllPairs-from_increasing, Contains-dedup_nat, Contains-from_dedup}
use Rattle.std.proofs.lemmas.List.Sorted.{Contains-permutation, IsPermutation-sym}
use Rattle.std.proofs.lemmas.Map.Keys.{IsStrictlyIncreasing-dedup}
use Rattle.route_tree.specs.Each.{Each, IsIn}
use Rattle.route_tree.proofs.Places.{each_append}
use Rattle.gate_coverage.specs.Pools.{has, servers_at}
use Rattle.gate_check.specs.TableRows.{IsRowOf}
use Rattle.gate_check.specs.Valid.{IsRising}
use Rattle.gate_check.proofs.Proposals.{has_in, in_has}

pub rise_more : (xs : List ℕ) (s : ℕ) → Each (λ y. y < s) xs → IsRising xs → IsRising (xs ++ s ∷ [])
rise_more [] s h r = (tt, tt)
rise_more (x ∷ xs) s h r = (each_append (λ y. x < y) xs (s ∷ []) r.0 (h.0, tt), rise_more xs s h.1 r.1)

each_index : (P : ℕ → Type 0) (xs : List ℕ) → ((k : ℕ) → k < length xs → P (slice_index_or xs k 0)) → Each P xs
each_index P [] f = tt
each_index P (x ∷ xs) f = (f 0 (omega arith), each_index P xs (λ k lt. f (suc k) (omega (arith, lt))))

pairs_rise : (xs : List ℕ) → AllPairs (λ x y. x < y) xs → IsRising xs
pairs_rise [] a = tt
pairs_rise (x ∷ xs) a = (each_index (λ y. x < y) xs (λ k lt. a 0 (suc k) 0 (omega arith) (omega (arith, lt))), pairs_rise xs (λ i j d lt le. a (suc i) (suc j) d (omega (arith, lt)) (omega (arith, le))))

contains_of : (xs : List ℕ) (s : ℕ) → IsIn s xs → Contains xs s
contains_of [] s h = absurd h
contains_of (x ∷ xs) s (inl e) = (0, omega arith, sym e)
contains_of (x ∷ xs) s (inr h) = let r = contains_of xs s h in (suc r.0, (let lt = r.1 in omega (arith, lt)), r.2)

in_at : (xs : List ℕ) (k s : ℕ) → k < length xs → slice_index_or xs k s ≡ s → IsIn s xs
in_at [] k s lt e = absurd (omega (arith, lt))
in_at (x ∷ xs) zero s lt e = inl (sym e)
in_at (x ∷ xs) (suc k) s lt e = inr (in_at xs k s (omega (arith, lt)) e)

same_bool : (a b : Bool) → (a ≡ true → b ≡ true) → (b ≡ true → a ≡ true) → a ≡ b
same_bool true b f g = sym (f refl)
same_bool false true f g = g refl
same_bool false false f g = refl

same_held : (xs ys : List ℕ) → ((s : ℕ) → Contains xs s → Contains ys s) → ((s : ℕ) → Contains ys s → Contains xs s) → (s : ℕ) → has xs s ≡ has ys s
same_held xs ys f g s = same_bool (has xs s) (has ys s) (there xs ys f) (there ys xs g)
  where
    there : (us vs : List ℕ) → ((t : ℕ) → Contains us t → Contains vs t) → has us s ≡ true → has vs s ≡ true
    there us vs h e = let c = h s (contains_of us s (has_in us s e)) in in_has vs s (in_at vs c.0 s c.1 c.2)

-- the servers sorted, and each kept once
pub sorted_row : (residue : ℕ) (pools : List (List ℕ)) (old sorted new : List ℕ) → old ≡ servers_at residue pools → IsPermutation old sorted → IsSorted nat_cmp sorted → new ≡ dedup eqb sorted → IsRowOf residue pools new
sorted_row residue pools old sorted new is moved up kept = record {
  rising = subst IsRising (sym kept) (pairs_rise (dedup eqb sorted) (AllPairs-from_increasing (dedup eqb sorted) (IsStrictlyIncreasing-dedup sorted up)));
  holds = λ s.
      ap (λ (l : List ℕ). has l s) kept
      ∙ same_held (dedup eqb sorted) old
      (λ t h. Contains-permutation sorted old t (IsPermutation-sym old sorted moved) (Contains-from_dedup eqb sorted t h))
      (λ t h. Contains-dedup_nat sorted t (Contains-permutation old sorted t moved h)) s
      ∙ ap (λ (l : List ℕ). has l s) is;
}

pub rising_row : (residue : ℕ) (pools : List (List ℕ)) (row : List ℕ) → row ≡ servers_at residue pools → IsRising row → IsRowOf residue pools row
rising_row residue pools row is up = record { rising = up; holds = λ s. ap (λ (l : List ℕ). has l s) is }
