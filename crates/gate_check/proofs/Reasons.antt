-- Why a tree is refused, from where the looks ended.
use Rattle.std.proofs.Common.{◌≡◌, ℕ, zero, suc, ◌+◌, ◌*◌, ◌%◌, ◌<◌, ◌≤◌, List, [], ◌∷◌, length, slice_get, Some, inl, inr, ⊎_elim, refl, sym, subst, arith}
use Rattle.std.specs.Int.{◌∣◌}
use Rattle.std.proofs.Math.Nat.{mul-le-mul_left, mod-eq_of_lt}
use Rattle.route_tree.specs.Each.{Each}
use Rattle.route_tree.specs.Plan.{Plan}
use Rattle.route_tree.specs.Route.{Route}
use Rattle.route_tree.specs.Place.{sizes, prefix_text, tree_at_place}
use Rattle.route_tree.proofs.Parts.{each_at}
use Rattle.route_tree.proofs.Places.{each_append, each_left}
use Rattle.gate_check.specs.declared.places.table.Class.{Class}
use Rattle.gate_check.specs.declared.places.table.ClassRows.{ClassRows}
use Rattle.gate_check.specs.declared.places.table.PlaceTable.{PlaceTable}
use Rattle.gate_check.specs.declared.places.table.Certificate.{Certificate}
use Rattle.gate_coverage.specs.Cover.{Covers}
use Rattle.gate_check.specs.Resolved.{resolved}
use Rattle.gate_check.specs.Places.{place_at}
use Rattle.gate_check.specs.Tables.{row_count}
use Rattle.gate_check.specs.Valid.{EachClass, IsClass, IsShaped, IsTableOf, IsValidRow, AreValidRows, row_at, run_at}
use Rattle.gate_check.proofs.Sizing.{sizes_left}
use Rattle.gate_check.proofs.PlacesValidity.{looks_are_enough}
use Rattle.gate_check.specs.declared.classes.ClassEnd.TheVariants as ends
use Rattle.gate_check.specs.declared.classes.TableEnd.TheVariants as tables
use Rattle.gate_check.specs.declared.finding.Found.{Found}
use Rattle.gate_check.specs.declared.gap.Gap.{Gap}
use Rattle.gate_check.specs.Ends.{IsClassEnd, IsTableEnd, EndsAt, AreValidBelow, AreValidBefore}
use Rattle.gate_check.specs.Gate.{IsInvalid, IsBadRow, AreValidUpTo, IsGapMet}
use Rattle.gate_check.proofs.Shaping.{IsMisshapedAt}

-- the rows of a class
pub rows_of : (P : Class → ClassRows → Type 0) (cs : List Class) (rs : List ClassRows) (i : ℕ) (c : Class) → EachClass P cs rs → slice_get cs i ≡ Some c → (r : ClassRows) × (slice_get rs i ≡ Some r) × P c r
rows_of P [] rs i c h e = absurd (cc)
rows_of P (x ∷ cs) [] i c h e = absurd h
rows_of P (x ∷ cs) (r ∷ rs) zero c h e = let s : x ≡ c = cc in (r, refl, subst (λ y. P y r) s h.0)
rows_of P (x ∷ cs) (r ∷ rs) (suc i) c h e = rows_of P cs rs i c h.1 e

-- what each class has with its rows, a given class has with given rows
pub each_class_at : (P : Class → ClassRows → Type 0) (cs : List Class) (rs : List ClassRows) (i : ℕ) (c : Class) (r : ClassRows) → EachClass P cs rs → slice_get cs i ≡ Some c → slice_get rs i ≡ Some r → P c r
each_class_at P [] rs i c r h e f = absurd (cc)
each_class_at P (x ∷ cs) [] i c r h e f = absurd h
each_class_at P (x ∷ cs) (y ∷ rs) zero c r h e f = let a : x ≡ c = cc in let b : y ≡ r = cc in subst (λ (z : Class). P z r) a (subst (λ (z : ClassRows). P x z) b h.0)
each_class_at P (x ∷ cs) (y ∷ rs) (suc i) c r h e f = each_class_at P cs rs i c r h.1 e f

pub class_at : (cs : List Class) (i : ℕ) → i < length cs → (c : Class) × (slice_get cs i ≡ Some c)
class_at [] i lt = absurd (omega (arith, lt))
class_at (x ∷ cs) zero lt = (x, refl)
class_at (x ∷ cs) (suc i) lt = class_at cs i (omega (arith, lt))

get_within : (cs : List Class) (i : ℕ) (c : Class) → slice_get cs i ≡ Some c → i < length cs
get_within [] i c e = absurd (cc)
get_within (x ∷ cs) zero c e = omega arith
get_within (x ∷ cs) (suc i) c e = omega (arith, get_within cs i c e)

valid_covers : (plain : Plan) (row : List ℕ) → IsValidRow plain row → Covers plain plain
valid_covers plain row v op taking server takes kind = v.cleared server (v.holds_taken op taking server takes) kind

rest_of : (r k : ℕ) → r < k → r % k ≡ r
rest_of r k lt = mod-eq_of_lt lt

-- a row's number is below the number of rows
row_below : (i n r k m : ℕ) → i < n → r < k → k ≤ m → i * m + r < n * m
row_below i n r k m a b c =
    let h : m * suc i ≤ m * n = mul-le-mul_left m (omega (arith, a)) in
    grind arith

module _ (tree : Route) (table : PlaceTable) (certificate : Certificate) (t : IsTableOf (tree ∷ []) table) where
  m : ℕ
  m = table.modulus

  class_within : (i : ℕ) (c : Class) → slice_get table.classes.items i ≡ Some c → c.modulus ≤ table.modulus
  class_within i c e =
      let is : IsClass (tree ∷ []) c = each_at (IsClass (tree ∷ [])) table.classes.items i c t.moduli e in
      let text = prefix_text c.prefix in
      let common : Each (λ n. n ∣ table.modulus) (sizes tree) = each_left (λ n. n ∣ table.modulus) (sizes tree) [] t.modulus.common in
      is.least table.modulus t.modulus.some (each_append (λ n. n ∣ table.modulus) (sizes (resolved text tree)) [] (sizes_left (λ n. n ∣ table.modulus) text tree common) tt)

  module _ (shaped : EachClass IsShaped table.classes.items certificate.classes.items) where
    -- where the looks at a class ended well, all its rows are valid
    valid_at : (i : ℕ) (c : Class) (r : ClassRows) → slice_get table.classes.items i ≡ Some c → slice_get certificate.classes.items i ≡ Some r → EndsAt tree table.modulus table.classes.items certificate.classes.items i ends.Valid → AreValidRows tree table.modulus c r
    valid_at i c r e f end =
        let is : IsClass (tree ∷ []) c = each_at (IsClass (tree ∷ [])) table.classes.items i c t.moduli e in
        let own : IsShaped c r = each_class_at IsShaped table.classes.items certificate.classes.items i c r shaped e f in
        looks_are_enough tree table.modulus c r is own (λ residue below. end c r e f residue (let s = own.0 in omega (arith, below, s)))

    -- the rows of a class before the residue where its looks ended are valid
    valid_in : (i r : ℕ) → ((c : Class) (rows : ClassRows) → slice_get table.classes.items i ≡ Some c → slice_get certificate.classes.items i ≡ Some rows → (r < rows.modulus) × AreValidBelow tree c.prefix table.modulus rows r) → (j q : ℕ) (c : Class) (rows : ClassRows) → slice_get table.classes.items j ≡ Some c → slice_get certificate.classes.items j ≡ Some rows → j ≡ i → q < r → IsValidRow (tree_at_place tree (place_at c.prefix q table.modulus)) (row_at rows q)
    valid_in i r looks j q c rows a b same lt =
        let h : (r < rows.modulus) × AreValidBelow tree c.prefix table.modulus rows r = looks c rows (subst (λ (n : ℕ). slice_get table.classes.items n ≡ Some c) same a) (subst (λ (n : ℕ). slice_get certificate.classes.items n ≡ Some rows) same b) in
        let e : q % rows.modulus ≡ q = rest_of q rows.modulus (let w = h.0 in omega (arith, w, lt)) in
        subst (λ (n : ℕ). IsValidRow (tree_at_place tree (place_at c.prefix q table.modulus)) (run_at [] rows.runs.items n)) (sym e) (h.1 q lt)

    -- all before the row where the looks ended is right
    up_to : (i r : ℕ) → AreValidBefore tree table.modulus table.classes.items certificate.classes.items i → ((c : Class) (rows : ClassRows) → slice_get table.classes.items i ≡ Some c → slice_get certificate.classes.items i ≡ Some rows → (r < rows.modulus) × AreValidBelow tree c.prefix table.modulus rows r) → AreValidUpTo tree table certificate i r
    up_to i r before looks = record {
      shaped = shaped;
      valid = λ j q c rows a b lt is_before. ⊎_elim
          (λ (less : j < i). valid_at j c rows a b (before j less) q lt)
          (λ (same : (j ≡ i) × (q < r)). valid_in i r looks j q c rows a b same.0 same.1)
          is_before;
    }

    -- the first gap
    pub gap_is_met : (i r : ℕ) (f : Found) (gap : Gap) (c : Class) → IsTableEnd tree table.modulus table.classes.items certificate.classes.items (tables.Gap i r f) → slice_get table.classes.items i ≡ Some c → gap ≡ record { place = place_at c.prefix r table.modulus; server = f.server; op = f.op; deleting = f.deleting } → IsGapMet tree table certificate gap
    gap_is_met i r f gap c end e is = subst (IsGapMet tree table certificate) (sym is) (record {
      first = record {
        index = i;
        class = c;
        is_class = e;
        below = (let w = class_within i c e in let s = own.2.0 in let lt = here.0 in omega (arith, w, s, lt));
        at = refl;
        first = here.2;
        before = λ j q d at lt is_before. (let rows = rows_of IsShaped table.classes.items certificate.classes.items j d shaped at in valid_covers _ _ (met.valid j q d rows.0 at rows.1 lt is_before));
      };
      before = met;
    })
      where
        own : (r : ClassRows) × (slice_get certificate.classes.items i ≡ Some r) × IsShaped c r
        own = rows_of IsShaped table.classes.items certificate.classes.items i c shaped e

        here : IsClassEnd tree c.prefix table.modulus own.0 (ends.Gap r f)
        here = end.2 c own.0 e own.1

        met : AreValidUpTo tree table certificate i r
        met = up_to i r end.1 (λ d rows a b. (let h = end.2 d rows a b in (h.0, h.1)))

    -- the first row that isn't valid, and its number
    pub bad_is : (i r row : ℕ) → IsTableEnd tree table.modulus table.classes.items certificate.classes.items (tables.Bad i r) → row ≡ i * table.modulus + r → IsInvalid tree table certificate row
    bad_is i r row end is = record {
      index = i;
      residue = r;
      class = c.0;
      rows = own.0;
      is_class = c.1;
      are_rows = own.1;
      below = below;
      is_row = is;
      before = up_to i r end.1 (λ d rows a b. (let h = end.2 d rows a b in (h.0, h.1)));
      covers = here.2;
      invalid = not_valid;
    }
      where
        c : (c : Class) × (slice_get table.classes.items i ≡ Some c)
        c = class_at table.classes.items i end.0

        own : (r : ClassRows) × (slice_get certificate.classes.items i ≡ Some r) × IsShaped c.0 r
        own = rows_of IsShaped table.classes.items certificate.classes.items i c.0 shaped c.1

        here : IsClassEnd tree c.0.prefix table.modulus own.0 (ends.Bad r)
        here = end.2 c.0 own.0 c.1 own.1

        below : r < table.modulus
        below = let w = class_within i c.0 c.1 in let s = own.2.0 in let lt = here.0 in omega (arith, w, s, lt)

        not_valid : IsValidRow (tree_at_place tree (place_at c.0.prefix r table.modulus)) (row_at own.0 r) → ⊥
        not_valid v =
            let lt : r < own.0.modulus = here.0 in
            let e : r % own.0.modulus ≡ r = rest_of r own.0.modulus lt in
            here.3 (subst (λ (n : ℕ). IsValidRow (tree_at_place tree (place_at c.0.prefix r table.modulus)) (run_at [] own.0.runs.items n)) e v)

    -- the numbers stay small
    pub bad_below : (i r : ℕ) → IsTableEnd tree table.modulus table.classes.items certificate.classes.items (tables.Bad i r) → i * table.modulus + r < row_count table
    bad_below i r end =
        let c = class_at table.classes.items i end.0 in
        let own = rows_of IsShaped table.classes.items certificate.classes.items i c.0 shaped c.1 in
        let here = end.2 c.0 own.0 c.1 own.1 in
        row_below i (length table.classes.items) r c.0.modulus table.modulus end.0 (let s = own.2.0 in let lt = here.0 in omega (arith, s, lt)) (class_within i c.0 c.1)

  pub misshaped_row : (i row : ℕ) → length certificate.classes.items ≡ length table.classes.items → IsMisshapedAt table.classes.items certificate.classes.items i → row ≡ i * table.modulus → IsBadRow tree table certificate row
  misshaped_row i row len h is = inr (inl (record {
    counted = len;
    index = i;
    class = h.class;
    rows = h.rows;
    is_class = h.is_class;
    are_rows = h.are_rows;
    misshaped = h.misshaped;
    is_row = is;
    before = λ j lt c r a b. h.before j c r lt a b;
  }))
