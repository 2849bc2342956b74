-- What the gate answers.
use Rattle.std.proofs.Common.{◌≡◌, ℕ, zero, suc, ◌<◌, ◌≤◌, List, [], ◌∷◌, ◌++◌, map, slice_get, Result, Ok, Err, MatchResult, OnOk, IfOk, Option, Some, None, inl, inr, ⊎_elim, sym, ap, subst, arith}
use Rattle.std.specs.Int.{◌∣◌}
use Rattle.route_tree.specs.Each.{Each, IsIn}
use Rattle.route_tree.specs.declared.place.Place.{Place}
use Rattle.route_tree.specs.Route.{Route}
use Rattle.route_tree.specs.Place.{sizes, prefixes, tree_at_place}
use Rattle.route_tree.proofs.Places.{each_append, each_left}
use Rattle.gate_check.specs.declared.places.table.Class.{Class}
use Rattle.gate_check.specs.declared.places.table.ClassRows.{ClassRows}
use Rattle.gate_check.specs.declared.places.table.PlaceTable.{PlaceTable}
use Rattle.gate_check.specs.declared.places.table.Certificate.{Certificate}
use Rattle.gate_check.specs.Places.{place_at, CoversAt, IsClassOf}
use Rattle.gate_check.specs.Tables.{IsTable}
use Rattle.gate_check.specs.Valid.{IsTableOf, IsValid}
use Rattle.gate_check.proofs.PlacesValidity.{each_in, in_either, in_front, valid_is_sound}
use Rattle.gate_check.specs.declared.classes.TableEnd.{TableEnd}
use Rattle.gate_check.specs.declared.gap.Gap.{Gap}
use Rattle.gate_check.specs.declared.gap.Reason.{Reason}
use Rattle.gate_check.specs.declared.gap.Reason.TheVariants as reasons
use Rattle.gate_check.specs.Ends.{IsTableEnd}
use Rattle.gate_check.specs.Gate.{HasCertificate, IsCertified, IsCertifiedBy, IsTooLarge, IsReason, IsInvalid, IsGapAt, IsFirstGap, IsJudged}
use Rattle.gate_check.specs.Shapes.{IsTableReason, IsLookReason, IsJudgedBy}
use Rattle.gate_check.specs.Proposed.{AreValidWhereCovered, IsProposedBy}
use Rattle.gate_check.proofs.PlacesAnswering.{each_valid}
use Rattle.gate_check.proofs.Reasons.{each_class_at}

pub end_of : (tree : Route) (m : ℕ) (cs ds : List Class) (rs ss : List ClassRows) (e f : TableEnd) → cs ≡ ds → rs ≡ ss → e ≡ f → IsTableEnd tree m cs rs e → IsTableEnd tree m ds ss f
end_of tree m cs ds rs ss e f a b c h =
    subst (λ (x : List Class). IsTableEnd tree m x ss f) a (subst (λ (x : List ClassRows). IsTableEnd tree m cs x f) b (subst (λ (x : TableEnd). IsTableEnd tree m cs rs x) c h))

-- a class of the table has a prefix of the tree, or none
class_known : (tree : Route) (table : PlaceTable) → IsTableOf (tree ∷ []) table → (i : ℕ) (c : Class) → slice_get table.classes.items i ≡ Some c → IsClassOf (prefixes tree ++ prefixes tree) c.prefix
class_known tree table t i c e = of_texts c.prefix (subst (IsIn c.prefix) t.classes (in_map table.classes.items i e))
  where
    in_map : (cs : List Class) (j : ℕ) → slice_get cs j ≡ Some c → IsIn c.prefix (map (λ (d : Class). d.prefix) cs)
    in_map [] j f = absurd (cc)
    in_map (x ∷ cs) zero f = let g : x ≡ c = cc in inl (ap (λ (d : Class). d.prefix) (sym g))
    in_map (x ∷ cs) (suc j) f = inr (in_map cs j f)

    some_in : (p : List ℕ) (texts : List (List ℕ)) → IsIn (Some p) (map Some texts) → IsIn p texts
    some_in p [] h = absurd h
    some_in p (x ∷ xs) (inl g) = inl (cc)
    some_in p (x ∷ xs) (inr h) = inr (some_in p xs h)

    of_texts : (prefix : Option (List ℕ)) → IsIn prefix (None ∷ map Some t.texts) → IsClassOf (prefixes tree ++ prefixes tree) prefix
    of_texts None h = tt
    of_texts (Some p) (inl g) = absurd (cc)
    of_texts (Some p) (inr h) =
        let known : IsIn p (prefixes tree ++ []) = each_in (λ (q : List ℕ). IsIn q (prefixes tree ++ [])) t.texts p t.known (some_in p t.texts h) in
        in_front (prefixes tree) (prefixes tree) p (⊎_elim (λ (l : IsIn p (prefixes tree)). l) (λ (r : IsIn p []). absurd r) (in_either (prefixes tree) [] p known))

module _ (tree : Route) (table : PlaceTable) (certificate : Certificate) where
  reason_of : (reason : Reason) → IsLookReason tree table certificate reason → IsTableReason tree table certificate reason
  reason_of reasons.TooManyPlaces h = h
  reason_of (reasons.BadCertificate row) h = inr (inr h)
  reason_of (reasons.Uncovered gap) h = h
  reason_of reasons.NoMemory h = h

  pub looked : (x : Result (Unit {0}) Reason) → MatchResult x (λ _. IsValid tree table certificate) (λ reason. IsLookReason tree table certificate reason) → MatchResult x (λ _. IsValid tree table certificate) (λ reason. IsTableReason tree table certificate reason)
  looked (Ok u) h = h
  looked (Err reason) h = reason_of reason h

  all_reason : (reason : Reason) → IsTable (tree ∷ []) table → IsTableReason tree table certificate reason → IsReason tree certificate reason
  all_reason reasons.TooManyPlaces t h = absurd h
  all_reason (reasons.BadCertificate row) t h = (table, t, h)
  all_reason (reasons.Uncovered gap) t h = (table, t, h)
  all_reason reasons.NoMemory t h = tt

  has_certificate : IsTable (tree ∷ []) table → IsValid tree table certificate → HasCertificate tree certificate
  has_certificate t v = record { table = table; is_table = t; valid = v }

  pub checked : (x : Result (Unit {0}) Reason) → IsTable (tree ∷ []) table → MatchResult x (λ _. IsValid tree table certificate) (λ reason. IsTableReason tree table certificate reason) → MatchResult x (λ _. HasCertificate tree certificate) (λ reason. IsReason tree certificate reason)
  checked (Ok u) t h = has_certificate t h
  checked (Err reason) t h = all_reason reason t h

  -- the proposal has no row that isn't valid where its place has no gap
  no_unproposed : IsTable (tree ∷ []) table → IsProposedBy tree table certificate → (row : ℕ) → IsInvalid tree table certificate row → ⊥
  no_unproposed t p row h =
      h.invalid
      (each_class_at (AreValidWhereCovered tree table.modulus) table.classes.items certificate.classes.items h.index h.class h.rows
      (each_valid tree table.modulus table.classes.items certificate.classes.items t.is_table.moduli p) h.is_class h.are_rows h.residue h.below h.covers)

  judged_reason : (reason : Reason) → IsTable (tree ∷ []) table → IsProposedBy tree table certificate → IsLookReason tree table certificate reason → IsJudgedBy tree table reason
  judged_reason reasons.TooManyPlaces t p h = h
  judged_reason (reasons.BadCertificate row) t p h = no_unproposed t p row h
  judged_reason (reasons.Uncovered gap) t p h = h.first
  judged_reason reasons.NoMemory t p h = h

  pub judged_by : (x : Result (Unit {0}) Reason) → IsTable (tree ∷ []) table → IsProposedBy tree table certificate → MatchResult x (λ _. IsValid tree table certificate) (λ reason. IsLookReason tree table certificate reason) → MatchResult x (λ _. IsCertifiedBy tree table) (λ reason. IsJudgedBy tree table reason)
  judged_by (Ok u) t p h = (certificate, h)
  judged_by (Err reason) t p h = judged_reason reason t p h

-- a tree too large has no certificate
pub none_too_large : (tree : Route) → IsTooLarge tree → IsCertified tree → ⊥
none_too_large tree large h = let lt = large h.1.table h.1.is_table.is_table in let le = h.1.is_table.within in omega (arith, lt, le)

-- a tree with a gap has none
none_with_gap : (tree : Route) (table : PlaceTable) (gap : Gap) → IsTable (tree ∷ []) table → IsFirstGap tree tree table gap → IsCertified tree → ⊥
none_with_gap tree table gap t g h =
    let covers : CoversAt tree tree = valid_is_sound tree h.1.table h.0 h.1.is_table.is_table h.1.valid in
    let common : Each (λ n. n ∣ covers.modulus) (sizes tree ++ []) = each_append (λ n. n ∣ covers.modulus) (sizes tree) [] (each_left (λ n. n ∣ covers.modulus) (sizes tree) (sizes tree) covers.least.common) tt in
    let le : table.modulus ≤ covers.modulus = t.is_table.modulus.least covers.modulus covers.least.some common in
    let lt : gap.place.residue < covers.modulus = (let b = g.below in omega (arith, le, b)) in
    let here : IsGapAt (tree_at_place tree gap.place) (tree_at_place tree gap.place) gap.server gap.op gap.deleting = g.first.gap in
    let at : IsGapAt (tree_at_place tree (place_at g.class.prefix gap.place.residue table.modulus)) (tree_at_place tree (place_at g.class.prefix gap.place.residue table.modulus)) gap.server gap.op gap.deleting =
    subst (λ (p : Place). IsGapAt (tree_at_place tree p) (tree_at_place tree p) gap.server gap.op gap.deleting) g.at here in
    at.uncleared (covers.covers g.class.prefix gap.place.residue (class_known tree table t.is_table g.index g.class g.is_class) lt gap.op at.taking gap.server at.taken gap.deleting)

module _ (tree : Route) (table : PlaceTable) where
  last_reason : (reason : Reason) → IsTable (tree ∷ []) table → IsJudgedBy tree table reason → IsJudged tree reason
  last_reason reasons.TooManyPlaces t h = absurd h
  last_reason (reasons.BadCertificate row) t h = h
  last_reason (reasons.Uncovered gap) t h = ((table, t, h), none_with_gap tree table gap t h)
  last_reason reasons.NoMemory t h = tt

  pub judged : (x : Result (Unit {0}) Reason) → IsTable (tree ∷ []) table → MatchResult x (λ _. IsCertifiedBy tree table) (λ reason. IsJudgedBy tree table reason) → MatchResult x (λ _. IsCertified tree) (λ reason. IsJudged tree reason)
  judged (Ok u) t h = (h.0, has_certificate tree table h.0 t h.1)
  judged (Err reason) t h = last_reason reason t h

-- what holds anyway holds where the answer is Ok
pub on_ok : {A B : Type 0} (P : Type 0) (x : Result A B) → P → OnOk x P
on_ok P (Ok a) p = p
on_ok P (Err e) p = tt

pub with_ok : {A B : Type 0} (P : A → Type 0) (Q : Type 0) (x : Result A B) → IfOk x P → Q → IfOk x (λ a. P a × Q)
with_ok P Q (Ok a) p q = (p, q)
with_ok P Q (Err e) p q = tt
