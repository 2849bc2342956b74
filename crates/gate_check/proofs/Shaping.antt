-- The tests say whether a certificate has the shape of a table.
use Rattle.std.proofs.Common.{◌≡◌, ℕ, zero, suc, ◌<◌, Bool, true, false, cond, ◌&&◌, List, [], ◌∷◌, length, slice_get, nat_eq, nat_lt, Option, Some, None, refl, subst, arith}
use Rattle.std.proofs.lemmas.Bool.{eqb-true, eq-eqb, leb-true, le-leb}
use Rattle.gate_check.specs.declared.places.table.Class.{Class}
use Rattle.gate_check.specs.declared.places.table.Run.{Run}
use Rattle.gate_check.specs.declared.places.table.ClassRows.{ClassRows}
use Rattle.gate_check.specs.Texts.{place_after_it}
use Rattle.gate_check.specs.Valid.{AreAfter, AreRuns, EachClass, IsShaped}
use Rattle.gate_coverage.proofs.Choices.{both, both_split}
use Rattle.gate_check.specs.Shapes.{is_rising, has_runs, is_shaped, first_misshaped}

-- the class of this index is the first of a wrong shape
pub record IsMisshapedAt (classes : List Class) (all : List ClassRows) (i : ℕ) : Type 0 where
  pub class : Class
  pub rows : ClassRows
  pub is_class : slice_get classes i ≡ Some class
  pub are_rows : slice_get all i ≡ Some rows
  pub misshaped : IsShaped class rows → ⊥
  pub before : (j : ℕ) (c : Class) (r : ClassRows) → j < i → slice_get classes j ≡ Some c → slice_get all j ≡ Some r → IsShaped c r

-- all have the right shape, or this one is the first that hasn't
abbrev pub IfMisshaped : List Class → List ClassRows → Option ℕ → Type 0
IfMisshaped classes all None = EachClass IsShaped classes all
IfMisshaped classes all (Some i) = IsMisshapedAt classes all i

rising_is : (last m : ℕ) (runs : List Run) → is_rising last m runs ≡ true → AreAfter last m runs
rising_is last m [] h = tt
rising_is last m (run ∷ runs) h =
    let p = both_split (nat_lt last run.first && nat_lt run.first m) (is_rising run.first m runs) h in
    let q = both_split (nat_lt last run.first) (nat_lt run.first m) p.0 in
    (leb-true _ _ q.0, leb-true _ _ q.1, rising_is run.first m runs p.1)

is_so_rising : (last m : ℕ) (runs : List Run) → AreAfter last m runs → is_rising last m runs ≡ true
is_so_rising last m [] h = refl
is_so_rising last m (run ∷ runs) h = both (nat_lt last run.first && nat_lt run.first m) _ (both (nat_lt last run.first) _ (le-leb _ _ h.0) (le-leb _ _ h.1)) (is_so_rising run.first m runs h.2)

runs_are : (m : ℕ) (runs : List Run) → has_runs m runs ≡ true → AreRuns m runs
runs_are m [] h = absurd (cc)
runs_are m (run ∷ runs) h = let p = both_split (nat_eq run.first 0) (is_rising 0 m runs) h in (eqb-true run.first 0 p.0, rising_is 0 m runs p.1)

are_runs : (m : ℕ) (runs : List Run) → AreRuns m runs → has_runs m runs ≡ true
are_runs m [] h = absurd h
are_runs m (run ∷ runs) h = both (nat_eq run.first 0) _ (eq-eqb run.first 0 h.0) (is_so_rising 0 m runs h.1)

shape_is : (c : Class) (r : ClassRows) → is_shaped c r ≡ true → IsShaped c r
shape_is c r h = let p = both_split (nat_eq r.modulus c.modulus) (has_runs c.modulus r.runs.items) h in (eqb-true r.modulus c.modulus p.0, runs_are c.modulus r.runs.items p.1)

is_shape : (c : Class) (r : ClassRows) → IsShaped c r → is_shaped c r ≡ true
is_shape c r h = both (nat_eq r.modulus c.modulus) _ (eq-eqb r.modulus c.modulus h.0) (are_runs c.modulus r.runs.items h.1)

one_more_shaped : (c : Class) (r : ClassRows) (cs : List Class) (rs : List ClassRows) (o : Option ℕ) → IsShaped c r → IfMisshaped cs rs o → IfMisshaped (c ∷ cs) (r ∷ rs) (place_after_it o)
one_more_shaped c r cs rs None h k = (h, k)
one_more_shaped c r cs rs (Some i) h k = record {
  class = k.class;
  rows = k.rows;
  is_class = k.is_class;
  are_rows = k.are_rows;
  misshaped = k.misshaped;
  before = before_next;
}
  where
    before_next : (j : ℕ) (d : Class) (s : ClassRows) → j < suc i → slice_get (c ∷ cs) j ≡ Some d → slice_get (r ∷ rs) j ≡ Some s → IsShaped d s
    before_next zero d s lt a b =
        let e : c ≡ d = cc in
        let f : r ≡ s = cc in
        subst (λ (x : Class). IsShaped x s) e (subst (λ (y : ClassRows). IsShaped c y) f h)
    before_next (suc j) d s lt a b = k.before j d s (omega (arith, lt)) a b

-- of as many classes the first of a wrong shape
pub misshaped_is : (cs : List Class) (rs : List ClassRows) → length rs ≡ length cs → IfMisshaped cs rs (first_misshaped cs rs)
misshaped_is [] [] len = tt
misshaped_is [] (r ∷ rs) len = absurd (omega (arith, len))
misshaped_is (c ∷ cs) [] len = absurd (omega (arith, len))
misshaped_is (c ∷ cs) (r ∷ rs) len = step (misshaped_is cs rs (omega (arith, len))) (is_shaped c r) refl
  where
    step : IfMisshaped cs rs (first_misshaped cs rs) → (b : Bool) → is_shaped c r ≡ b → IfMisshaped (c ∷ cs) (r ∷ rs) (cond b (place_after_it (first_misshaped cs rs)) (Some 0))
    step rest true e = one_more_shaped c r cs rs (first_misshaped cs rs) (shape_is c r e) rest
    step rest false e = record {
      class = c;
      rows = r;
      is_class = refl;
      are_rows = refl;
      misshaped = (λ h. let t = is_shape c r h in cc);
      before = (λ j d s lt a b. absurd (omega (arith, lt)));
    }
