-- A tree that all generations cover, itself too, is the next generation.
use Rattle.std.proofs.Common.{◌≡◌, ℕ, zero, suc, ◌+◌, ◌<◌, ◌≤◌, Bool, true, false, cond, List, [], ◌∷◌, ◌++◌, length, slice_get, get_or, Some, ◌⊎◌, inl, inr, ⊎_elim, refl, sym, ap, subst, arith}
use Rattle.route_json.specs.Configuration.{Configuration}
use Rattle.route_tree.specs.Route.{Route, IsTree}
use Rattle.route_tree.proofs.Places.{each_append}
use Rattle.gate_check.specs.Places.{CoversAt}
use Rattle.gate_check.specs.declared.pairs.PairFault.{PairFault}
use Rattle.gate_check.specs.declared.pairs.PairFault.TheVariants as pairs
use Rattle.gate_check.specs.declared.reloading.ReloadFault.{ReloadFault}
use Rattle.gate_check.specs.declared.reloading.ReloadFault.TheVariants as faults
use Rattle.gate_check.specs.Numbered.{numbered_fault}
use Rattle.gate_check.specs.Pairs.{IsPairFault}
use Rattle.gate_check.specs.Reload.{AreCovering, FailsAt, IsReloadFault, IsFaultAmong}
use Rattle.gate_check.specs.Sound.{AreGenerations, EveryRunIsFresh, GenerationsAreFresh, trees_of}

same_item : (xs : List Route) (i : ℕ) (a b : Route) → slice_get xs i ≡ Some a → slice_get xs i ≡ Some b → a ≡ b
same_item xs i a b e f = cc

-- the configuration at a place, and its tree
pub config_at : (xs : List Configuration) (i : ℕ) (d : Configuration) → i < length xs → d ≡ get_or xs i d → slice_get xs i ≡ Some d
config_at [] i d lt e = absurd (omega (arith, lt))
config_at (x ∷ xs) zero d lt e = ap Some (sym e)
config_at (x ∷ xs) (suc i) d lt e = config_at xs i d (omega (arith, lt)) e

pub tree_of_config : (xs : List Configuration) (i : ℕ) (d : Configuration) → i < length xs → d ≡ get_or xs i d → slice_get (trees_of xs) i ≡ Some d.tree
tree_of_config [] i d lt e = absurd (omega (arith, lt))
tree_of_config (x ∷ xs) zero d lt e = ap (λ (c : Configuration). Some c.tree) (sym e)
tree_of_config (x ∷ xs) (suc i) d lt e = tree_of_config xs i d (omega (arith, lt)) e

pub length_trees : (xs : List Configuration) → length (trees_of xs) ≡ length xs
length_trees [] = refl
length_trees (x ∷ xs) = ap suc (length_trees xs)

pub trees_more : (xs : List Configuration) (d : Configuration) → trees_of (xs ++ d ∷ []) ≡ trees_of xs ++ d.tree ∷ []
trees_more [] d = refl
trees_more (x ∷ xs) d = ap (λ (l : List Route). x.tree ∷ l) (trees_more xs d)

-- the item of a longer list is one of the shorter, or the last
last_or : (xs : List Route) (t : Route) (i : ℕ) (a : Route) → slice_get (xs ++ t ∷ []) i ≡ Some a → ((i < length xs) × (slice_get xs i ≡ Some a)) ⊎ ((i ≡ length xs) × (t ≡ a))
last_or [] t zero a e = inr (refl, cc)
last_or [] t (suc i) a e = absurd (cc)
last_or (x ∷ xs) t zero a e = inl (omega arith, e)
last_or (x ∷ xs) t (suc i) a e =
    ⊎_elim (λ (l : (i < length xs) × (slice_get xs i ≡ Some a)). inl (omega (arith, l.0), l.1)) (λ (r : (i ≡ length xs) × (t ≡ a)). inr (ap suc r.0, r.1)) (last_or xs t i a e)

front_item : (xs : List Route) (t : Route) (i : ℕ) (a : Route) → slice_get xs i ≡ Some a → slice_get (xs ++ t ∷ []) i ≡ Some a
front_item [] t i a e = absurd (cc)
front_item (x ∷ xs) t zero a e = e
front_item (x ∷ xs) t (suc i) a e = front_item xs t i a e

pub last_item : (xs : List Route) (t : Route) → slice_get (xs ++ t ∷ []) (length xs) ≡ Some t
last_item [] t = refl
last_item (x ∷ xs) t = last_item xs t

within : (xs : List Route) (i : ℕ) (a : Route) → slice_get xs i ≡ Some a → i < length xs
within [] i a e = absurd (cc)
within (x ∷ xs) zero a e = omega arith
within (x ∷ xs) (suc i) a e = omega (arith, within xs i a e)

-- where the trees before a number cover the tree, and that one does, those before the next number do
pub covering_more : (trees : List Route) (tree : Route) (i : ℕ) (d : Route) → AreCovering trees tree i → slice_get trees i ≡ Some d → CoversAt d tree → AreCovering trees tree (i + 1)
covering_more trees tree i d h is c j b below at =
    ⊎_elim
    (λ (less : j < i). h j b less at)
    (λ (same : j ≡ i). subst (λ (x : Route). CoversAt x tree) (same_item trees i d b is (subst (λ (k : ℕ). slice_get trees k ≡ Some b) same at)) c)
    (split j i below)
  where
    split : (j i : ℕ) → j < i + 1 → (j < i) ⊎ (j ≡ i)
    split zero zero lt = inr refl
    split zero (suc i) lt = inl (omega arith)
    split (suc j) zero lt = absurd (omega (arith, lt))
    split (suc j) (suc i) lt = ⊎_elim (λ (l : j < i). inl (omega (arith, l))) (λ (e : j ≡ i). inr (ap suc e)) (split j i (omega (arith, lt)))

pub fails_at : (trees : List Route) (tree : Route) (i n : ℕ) (d : Route) (fault : PairFault) → AreCovering trees tree i → slice_get trees i ≡ Some d → n ≡ i + 1 → IsPairFault d tree fault → IsFaultAmong trees tree (numbered_fault n fault)
fails_at trees tree i n d pairs.TooManyPlaces h at e f = (i, d, e, at, h, f)
fails_at trees tree i n d (pairs.Uncovered gap) h at e f = (i, d, e, at, h, f)
fails_at trees tree i n d pairs.NoMemory h at e f = tt

covering_front : (trees : List Route) (tree t : Route) (n : ℕ) → n ≤ length trees → AreCovering trees tree n → AreCovering (trees ++ t ∷ []) tree n
covering_front trees tree t n le h j b lt at =
    ⊎_elim (λ (l : (j < length trees) × (slice_get trees j ≡ Some b)). h j b lt l.1) (λ (r : (j ≡ length trees) × (t ≡ b)). absurd (let e = r.0 in omega (arith, e, lt, le))) (last_or trees t j b at)

fails_front : (trees : List Route) (tree : Route) (n : ℕ) (fault : PairFault) → FailsAt trees tree n fault → FailsAt (trees ++ tree ∷ []) tree n fault
fails_front trees tree n fault h =
    let lt = within trees h.0 h.1 h.3 in
    (h.0, h.1, h.2, front_item trees tree h.0 h.1 h.3, covering_front trees tree tree h.0 (omega (arith, lt)) h.4, h.5)

-- a fault among the generations
pub among_is : (trees : List Route) (tree : Route) (fault : ReloadFault) → IsFaultAmong trees tree fault → IsReloadFault trees tree fault
among_is trees tree faults.TooManyGenerations h = absurd h
among_is trees tree (faults.TooManyPlaces n) h = fails_front trees tree n pairs.TooManyPlaces h
among_is trees tree (faults.Uncovered n gap) h = fails_front trees tree n (pairs.Uncovered gap) h
among_is trees tree faults.NoMemory h = h

-- a fault of the tree with itself
pub last_is : (trees : List Route) (tree : Route) (n : ℕ) (fault : PairFault) → AreCovering trees tree (length trees) → n ≡ length trees + 1 → IsPairFault tree tree fault → IsReloadFault trees tree (numbered_fault n fault)
last_is trees tree n pairs.TooManyPlaces h e f = (length trees, tree, e, last_item trees tree, covering_front trees tree tree (length trees) (omega arith) h, f)
last_is trees tree n (pairs.Uncovered gap) h e f = (length trees, tree, e, last_item trees tree, covering_front trees tree tree (length trees) (omega arith) h, f)
last_is trees tree n pairs.NoMemory h e f = tt
