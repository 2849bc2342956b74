-- Looks that all found two trees covered, and the first gap of two.
use Rattle.std.proofs.Common.{◌≡◌, ℕ, zero, suc, ◌%◌, ◌<◌, ◌≤◌, List, [], ◌∷◌, ◌++◌, length, map, slice_get, get_or, Option, Some, None, inl, inr, ⊎_elim, refl, sym, ap, ◌∙◌, subst, arith}
use Rattle.std.specs.Int.{◌∣◌}
use Rattle.route_tree.specs.Each.{Each, IsIn}
use Rattle.route_tree.specs.Plan.{Plan}
use Rattle.route_tree.specs.Route.{Route}
use Rattle.route_tree.specs.At.{plain_for}
use Rattle.route_tree.specs.Place.{sizes, prefixes, prefix_text, IsLeastCommonMultiple}
use Rattle.route_tree.proofs.Parts.{each_at}
use Rattle.route_tree.proofs.Places.{each_left, each_right}
use Rattle.gate_check.specs.declared.places.table.Class.{Class}
use Rattle.gate_check.specs.declared.places.table.PlaceTable.{PlaceTable}
use Rattle.gate_coverage.specs.Cover.{Covers}
use Rattle.gate_check.specs.Resolved.{resolved}
use Rattle.gate_check.specs.Places.{IsClassOf, place_at, CoversAt}
use Rattle.gate_check.specs.Valid.{IsClass, IsTableOf}
use Rattle.gate_check.proofs.Resolving.{same_left}
use Rattle.gate_check.proofs.Sizing.{both_left}
use Rattle.gate_check.proofs.PlacesValidity.{each_in}
use Rattle.gate_check.specs.declared.finding.Found.{Found}
use Rattle.gate_check.specs.declared.gap.Gap.{Gap}
use Rattle.gate_check.specs.declared.pairs.PairEnd.TheVariants as ends
use Rattle.gate_check.specs.declared.pairs.TwoEnd.TheVariants as tables
use Rattle.gate_check.specs.declared.pairs.PairEnd.{PairEnd}
use Rattle.gate_check.specs.declared.pairs.TwoEnd.{TwoEnd}
use Rattle.gate_check.proofs.ClassLooks.{got}
use Rattle.gate_check.specs.Gate.{IsFirstGap}
use Rattle.gate_check.specs.Pairs.{IsCoveredAt, AreCoveredBelow, IsPairEnd, PairEndsAt, IsTwoEnd}

end_nil : {A : Type 0} (xs : List A) → xs ++ [] ≡ xs
end_nil [] = refl
end_nil (x ∷ xs) = ap (λ l. x ∷ l) (end_nil xs)

two : {A : Type 0} (xs ys : List A) → xs ++ (ys ++ []) ≡ xs ++ ys
two xs ys = ap (λ l. xs ++ l) (end_nil ys)

in_some : (xs : List (List ℕ)) (x : List ℕ) → IsIn x xs → IsIn (Some x) (map Some xs)
in_some [] x h = absurd h
in_some (y ∷ ys) x (inl e) = inl (ap Some e)
in_some (y ∷ ys) x (inr h) = inr (in_some ys x h)

-- the class of a prefix
class_of : (cs : List Class) (prefix : Option (List ℕ)) → IsIn prefix (map (λ (c : Class). c.prefix) cs) → (i : ℕ) × (c : Class) × (slice_get cs i ≡ Some c) × (prefix ≡ c.prefix)
class_of [] prefix h = absurd h
class_of (c ∷ cs) prefix (inl e) = (0, c, refl, e)
class_of (c ∷ cs) prefix (inr h) = let r = class_of cs prefix h in (suc r.0, r.1, r.2, r.3)

get_within : (cs : List Class) (i : ℕ) (c : Class) → slice_get cs i ≡ Some c → i < length cs
get_within [] i c e = absurd (cc)
get_within (x ∷ cs) zero c e = omega arith
get_within (x ∷ cs) (suc i) c e = omega (arith, get_within cs i c e)

module _ (earlier later : Route) (table : PlaceTable) (t : IsTableOf (earlier ∷ later ∷ []) table) where
  in_table : (prefix : Option (List ℕ)) → IsClassOf (prefixes earlier ++ prefixes later) prefix → IsIn prefix (map (λ (c : Class). c.prefix) table.classes.items)
  in_table None h = subst (IsIn None) (sym t.classes) (inl refl)
  in_table (Some p) h =
      let whole : Each (λ q. IsIn q t.texts) (prefixes earlier ++ prefixes later) = subst (Each (λ q. IsIn q t.texts)) (two (prefixes earlier) (prefixes later)) t.whole in
      subst (IsIn (Some p)) (sym t.classes) (inr (in_some t.texts p (each_in (λ q. IsIn q t.texts) (prefixes earlier ++ prefixes later) p whole h)))

  least_two : IsLeastCommonMultiple (sizes earlier ++ sizes later) table.modulus
  least_two = subst (λ (l : List ℕ). IsLeastCommonMultiple l table.modulus) (two (sizes earlier) (sizes later)) t.modulus

  -- the class's own residues stand for all
  all_covered : (c : Class) → IsClass (earlier ∷ later ∷ []) c → AreCoveredBelow earlier later table.modulus c.prefix c.modulus → (q : ℕ) → IsCoveredAt earlier later table.modulus c.prefix q
  all_covered c is looks q =
      let k = c.modulus in
      let some : 0 < k = is.some in
      let below : q % k < k = omega (arith, some) in
      let text = prefix_text c.prefix in
      let S = sizes (resolved text earlier) in
      let T = sizes (resolved text later) in
      let common : Each (λ n. n ∣ k) (S ++ T) = subst (Each (λ n. n ∣ k)) (two S T) is.common in
      let one : plain_for q text earlier ≡ plain_for (q % k) text earlier = same_left text earlier k q (each_left (λ n. n ∣ k) S T common) in
      let other : plain_for q text later ≡ plain_for (q % k) text later = same_left text later k q (each_right (λ n. n ∣ k) S T common) in
      subst (λ (x : Plan). Covers x (plain_for q text later)) (sym one) (subst (λ (x : Plan). Covers (plain_for (q % k) text earlier) x) (sym other) (looks (q % k) below))

  covered_at : (i : ℕ) (c : Class) → slice_get table.classes.items i ≡ Some c → PairEndsAt earlier later table.modulus table.classes.items i ends.Covered → (q : ℕ) → IsCoveredAt earlier later table.modulus c.prefix q
  covered_at i c e end q = all_covered c (each_at (IsClass (earlier ∷ later ∷ [])) table.classes.items i c t.moduli e) (end c e) q

  pub covers_two : IsTwoEnd earlier later table.modulus table.classes.items tables.Covered → CoversAt earlier later
  covers_two end = record {
    modulus = table.modulus;
    least = least_two;
    covers = λ prefix residue class lt.
        let c = class_of table.classes.items prefix (in_table prefix class) in
        subst (λ (o : Option (List ℕ)). IsCoveredAt earlier later table.modulus o residue) (sym c.3) (covered_at c.0 c.1 c.2 (end c.0 (get_within table.classes.items c.0 c.1 c.2)) residue);
  }

  pub class_within : (i : ℕ) (c : Class) → slice_get table.classes.items i ≡ Some c → c.modulus ≤ table.modulus
  class_within i c e =
      let is : IsClass (earlier ∷ later ∷ []) c = each_at (IsClass (earlier ∷ later ∷ [])) table.classes.items i c t.moduli e in
      let text = prefix_text c.prefix in
      let D : ℕ → Type 0 = λ n. n ∣ table.modulus in
      is.least table.modulus t.modulus.some (subst (Each (λ n. n ∣ table.modulus)) (sym (two (sizes (resolved text earlier)) (sizes (resolved text later)))) (both_left (λ n. n ∣ table.modulus) text earlier later least_two.common))

  pub gap_of_two : (i r : ℕ) (f : Found) (gap : Gap) (c : Class) → IsTwoEnd earlier later table.modulus table.classes.items (tables.Gap i r f) → slice_get table.classes.items i ≡ Some c → gap ≡ record { place = place_at c.prefix r table.modulus; server = f.server; op = f.op; deleting = f.deleting } → IsFirstGap earlier later table gap
  gap_of_two i r f gap c end e is = subst (IsFirstGap earlier later table) (sym is) (record {
    index = i;
    class = c;
    is_class = e;
    below = (let w = class_within i c e in let lt = here.0 in omega (arith, w, lt));
    at = refl;
    first = here.2;
    before = λ j q d at lt is_before. ⊎_elim
        (λ (less : j < i). covered_at j d at (end.1 j less) q)
        (λ (same : (j ≡ i) × (q < r)).
        let one : d ≡ c = same_class j i d c same.0 at e in
        subst (λ (x : Class). IsCoveredAt earlier later table.modulus x.prefix q) (sym one) (here.1 q same.1))
        is_before;
  })
    where
      here : IsPairEnd earlier later table.modulus c (ends.Gap r f)
      here = end.2 c e

      same_class : (j k : ℕ) (x y : Class) → j ≡ k → slice_get table.classes.items j ≡ Some x → slice_get table.classes.items k ≡ Some y → x ≡ y
      same_class j k x y n a b = let g : slice_get table.classes.items k ≡ Some x = subst (λ l. slice_get table.classes.items l ≡ Some x) n a in cc

pub pair_ends_at : (earlier later : Route) (m : ℕ) (classes : List Class) (i : ℕ) (c : Class) (end : PairEnd) → c ≡ get_or classes i c → IsPairEnd earlier later m c end → PairEndsAt earlier later m classes i end
pair_ends_at earlier later m classes i c end h is class a = subst (λ (x : Class). IsPairEnd earlier later m x end) (h ∙ got classes i c class a) is

pub two_end_of : (earlier later : Route) (m : ℕ) (cs ds : List Class) (e f : TwoEnd) → cs ≡ ds → e ≡ f → IsTwoEnd earlier later m cs e → IsTwoEnd earlier later m ds f
two_end_of earlier later m cs ds e f a b h = subst (λ (x : List Class). IsTwoEnd earlier later m x f) a (subst (λ (x : TwoEnd). IsTwoEnd earlier later m cs x) b h)
