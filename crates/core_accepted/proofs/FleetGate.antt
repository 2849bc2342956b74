-- What the gate for fleets finds.
use Rattle.std.proofs.Common.{◌≡◌, ℕ, zero, suc, ◌+◌, ◌<◌, ◌≤◌, true, false, List, [], ◌∷◌, ◌++◌, length, map, slice_get, Option, Some, None, Result, Ok, Err, inl, inr, refl, sym, ap, ◌∙◌, subst, arith}
use Rattle.std.specs.Prelude.{MatchResult}
use Rattle.std.specs.Int.{◌∣◌}
use Rattle.mc_types.specs.declared.ask.Op.TheVariants.{Get}
use Rattle.route_tree.specs.Each.{Each, IsIn}
use Rattle.route_tree.specs.Route.{Route, IsTree}
use Rattle.route_tree.specs.At.{tree_at}
use Rattle.route_tree.specs.Copies.{may_copy}
use Rattle.route_tree.specs.Place.{sizes, prefixes, prefix_text, tree_at_place}
use Rattle.route_tree.specs.declared.place.Place.{Place}
use Rattle.route_tree.proofs.Parts.{each_at}
use Rattle.route_tree.proofs.Places.{each_append, each_left, each_right}
use Rattle.gate_check.specs.declared.places.table.Class.{Class}
use Rattle.gate_check.specs.declared.places.table.PlaceTable.{PlaceTable}
use Rattle.gate_check.specs.declared.gap.Gap.{Gap}
use Rattle.gate_check.specs.declared.pairs.PairFault.{PairFault}
use Rattle.gate_check.specs.declared.pairs.PairFault.TheVariants as pairs
use Rattle.gate_check.specs.declared.reloading.ReloadFault.{ReloadFault}
use Rattle.gate_check.specs.declared.reloading.ReloadFault.TheVariants as reloads
use Rattle.gate_check.specs.Gate.{IsFirstGap, IsGapAt}
use Rattle.gate_check.specs.Places.{IsClassOf, place_at, CoversAt}
use Rattle.gate_check.specs.Reload.{AreCovering, FailsAt, IsFaultAmong}
use Rattle.gate_check.specs.Valid.{IsTableOf}
use Rattle.gate_check.proofs.PlacesValidity.{each_in}
use Rattle.core_accepted.specs.Rollout.{TreesCopyNothing}
use Rattle.core_accepted.specs.Copying.{CopiesNothing, CopiesKeys}
use Rattle.core_accepted.specs.FleetGate.{AreSideBySide, AcceptedFleetIsFresh, IsFirstCopying, AreAllCovering, IsFirstPair, IsFleetFault}
use Rattle.core_accepted.specs.declared.fleets.gates.judging.FleetFault.{FleetFault}
use Rattle.core_accepted.specs.declared.fleets.gates.judging.FleetFault.TheVariants as faults
use Rattle.core_accepted.proofs.Copying.{own_longest}
use Rattle.core_accepted.proofs.Rollout.{fleet_trees}

within : (xs : List Route) (i : ℕ) (a : Route) → slice_get xs i ≡ Some a → i < length xs
within [] i a e = absurd (cc)
within (x ∷ xs) zero a e = omega arith
within (x ∷ xs) (suc i) a e = omega (arith, within xs i a e)

same_item : (xs : List Route) (i : ℕ) (a b : Route) → slice_get xs i ≡ Some a → slice_get xs i ≡ Some b → a ≡ b
same_item xs i a b e f = cc

-- ---- what was accepted

index_of : (xs : List Route) (t : Route) → IsIn t xs → (i : ℕ) × (slice_get xs i ≡ Some t)
index_of [] t h = absurd h
index_of (x ∷ xs) t (inl e) = (0, ap Some (sym e))
index_of (x ∷ xs) t (inr h) = let r = index_of xs t h in (suc r.0, r.1)

pub accepted : AcceptedFleetIsFresh
accepted trees side tree is =
    fleet_trees (length trees) trees (side (length trees)) tree
    (record {
      generation = λ n. (index_of trees (tree n) (is n)).0;
      loaded = λ n. (index_of trees (tree n) (is n)).1;
      near = λ n m lt. (let i = index_of trees (tree n) (is n) in let w = within trees i.0 (tree n) i.1 in omega (arith, w));
    })

pub side_by_side : (trees : List Route) (n : ℕ) → length trees ≡ n → Each IsTree trees → TreesCopyNothing trees → AreAllCovering trees n → AreSideBySide trees
side_by_side trees n same are none all lag = record {
  trees_are = are;
  sound = λ i j a b le x y. all j b (subst (λ k. j < k) same (within trees j b y)) y i a (within trees i a x) x;
  copy_nothing = none;
}

pub judged : (trees : List Route) (n : ℕ) (r : Result (Unit {0}) FleetFault) → length trees ≡ n → Each IsTree trees → TreesCopyNothing trees → MatchResult r (λ _. AreAllCovering trees n) (IsFleetFault trees) → MatchResult r (λ _. AreSideBySide trees) (IsFleetFault trees)
judged trees n (Ok u) same are none h = side_by_side trees n same are none h
judged trees n (Err fault) same are none h = h

-- ---- a tree that copies

refuted : (i : ℕ) (tree : Route) (trees : List Route) (prefix : Option (List ℕ)) → slice_get trees i ≡ Some tree → CopiesKeys tree prefix → AreSideBySide trees → ⊥
refuted i tree trees prefix at copies side =
    let is = each_at IsTree trees i tree (side 0).trees_are at in
    let key = prefix_text prefix in
    let yes : may_copy Get (tree_at tree key) ≡ true = copies.copies key (own_longest tree is prefix copies.known) in
    let no : may_copy Get (tree_at tree key) ≡ false = (side 0).copy_nothing i tree at Get key in
    absurd (cc)

pub first_copying : (trees : List Route) (i : ℕ) (tree : Route) (prefix : Option (List ℕ)) → slice_get trees i ≡ Some tree → CopiesKeys tree prefix → ((j : ℕ) (a : Route) → j < i → slice_get trees j ≡ Some a → CopiesNothing a) → IsFleetFault trees (faults.Copies i prefix)
first_copying trees i tree prefix at copies before = (record { tree = tree; is_tree = at; copies = copies; before = before }, refuted i tree trees prefix at copies)

-- ---- a gap of two trees

end_nil : {A : Type 0} (xs : List A) → xs ++ [] ≡ xs
end_nil [] = refl
end_nil (x ∷ xs) = ap (λ l. x ∷ l) (end_nil xs)

in_map : (cs : List Class) (i : ℕ) (c : Class) → slice_get cs i ≡ Some c → IsIn c.prefix (map (λ (d : Class). d.prefix) cs)
in_map [] i c e = absurd (cc)
in_map (d ∷ cs) zero c e = let same : d ≡ c = cc in inl (ap (λ (x : Class). x.prefix) (sym same))
in_map (d ∷ cs) (suc i) c e = inr (in_map cs i c e)

-- a class of the table has a prefix of the trees, or none
known : (ps : List (List ℕ)) (texts : List (List ℕ)) (o : Option (List ℕ)) → Each (λ p. IsIn p ps) texts → IsIn o (None ∷ map Some texts) → IsClassOf ps o
known ps texts None each h = tt
known ps texts (Some p) each (inl e) = absurd (cc)
known ps texts (Some p) each (inr h) = of texts each h
  where
    of : (ts : List (List ℕ)) → Each (λ q. IsIn q ps) ts → IsIn (Some p) (map Some ts) → IsIn p ps
    of [] k i = absurd i
    of (t ∷ ts) k (inl e) = let same : p ≡ t = cc in subst (λ q. IsIn q ps) (sym same) k.0
    of (t ∷ ts) k (inr i) = of ts k.1 i

module _ (earlier later : Route) where
  uncovered : (table : PlaceTable) (gap : Gap) → IsTableOf (earlier ∷ later ∷ []) table → IsFirstGap earlier later table gap → CoversAt earlier later → ⊥
  uncovered table gap t g h =
      let D : ℕ → Type 0 = λ n. n ∣ h.modulus in
      let common : Each D (sizes earlier ++ (sizes later ++ [])) =
      each_append D (sizes earlier) (sizes later ++ []) (each_left D (sizes earlier) (sizes later) h.least.common)
      (each_append D (sizes later) [] (each_right D (sizes earlier) (sizes later) h.least.common) tt) in
      let le : table.modulus ≤ h.modulus = t.modulus.least h.modulus h.least.some common in
      let lt : gap.place.residue < h.modulus = (let b = g.below in omega (arith, le, b)) in
      let ps = ap (λ l. prefixes earlier ++ l) (end_nil (prefixes later)) in
      let class : IsClassOf (prefixes earlier ++ prefixes later) g.class.prefix =
      known (prefixes earlier ++ prefixes later) t.texts g.class.prefix (subst (λ (l : List (List ℕ)). Each (λ p. IsIn p l) t.texts) ps t.known) (subst (IsIn g.class.prefix) t.classes (in_map table.classes.items g.index g.class g.is_class)) in
      let at : IsGapAt (tree_at_place earlier (place_at g.class.prefix gap.place.residue table.modulus)) (tree_at_place later (place_at g.class.prefix gap.place.residue table.modulus)) gap.server gap.op gap.deleting =
      subst (λ (p : Place). IsGapAt (tree_at_place earlier p) (tree_at_place later p) gap.server gap.op gap.deleting) g.at g.first.gap in
      at.uncleared (h.covers g.class.prefix gap.place.residue class lt gap.op at.taking gap.server at.taken gap.deleting)

pub no_fleet : (trees : List Route) (reads n : ℕ) (tree : Route) (gap : Gap) → slice_get trees reads ≡ Some tree → FailsAt trees tree n (pairs.Uncovered gap) → AreSideBySide trees → ⊥
no_fleet trees reads n tree gap at h side = uncovered h.1 tree h.5.0 gap h.5.1 h.5.2 ((side h.0).sound h.0 reads h.1 tree (omega arith) h.3 at)

first_pair : (trees : List Route) (reads deletes generation : ℕ) (tree : Route) (fault : PairFault) → slice_get trees reads ≡ Some tree → TreesCopyNothing trees → AreAllCovering trees reads → ((i : ℕ) → generation ≡ i + 1 → deletes ≡ i) → FailsAt trees tree generation fault → IsFirstPair trees reads deletes fault
first_pair trees reads deletes generation tree fault at none before is h = record {
  copy_nothing = none;
  tree = tree;
  is_tree = at;
  before = before;
  fails = (h.0, h.1, ap (λ n. n + 1) (is h.0 h.2), h.3, h.4, h.5);
}

pub too_many : (trees : List Route) (reads deletes generation : ℕ) (tree : Route) → ((i : ℕ) → generation ≡ i + 1 → deletes ≡ i) → slice_get trees reads ≡ Some tree → TreesCopyNothing trees → AreAllCovering trees reads → IsFaultAmong trees tree (reloads.TooManyPlaces generation) → IsFleetFault trees (faults.TooManyPlaces reads deletes)
too_many trees reads deletes generation tree is at none before h = first_pair trees reads deletes generation tree pairs.TooManyPlaces at none before is h

pub gap_of : (trees : List Route) (reads deletes generation : ℕ) (gap : Gap) (tree : Route) → ((i : ℕ) → generation ≡ i + 1 → deletes ≡ i) → slice_get trees reads ≡ Some tree → TreesCopyNothing trees → AreAllCovering trees reads → IsFaultAmong trees tree (reloads.Uncovered generation gap) → IsFleetFault trees (faults.Uncovered reads deletes gap)
gap_of trees reads deletes generation gap tree is at none before h =
    (first_pair trees reads deletes generation tree (pairs.Uncovered gap) at none before is h, no_fleet trees reads generation tree gap at h)

-- ---- loops

-- none before this number copies, and all are trees
abbrev pub AreFit : List Route → ℕ → Type 0
AreFit trees n = (j : ℕ) (a : Route) → j < n → slice_get trees j ≡ Some a → IsTree a × CopiesNothing a

split : (j i : ℕ) → j < i + 1 → (P : Type 0) → (j < i → P) → (j ≡ i → P) → P
split zero zero lt P f g = g refl
split zero (suc i) lt P f g = f (omega arith)
split (suc j) zero lt P f g = absurd (omega (arith, lt))
split (suc j) (suc i) lt P f g = split j i (omega (arith, lt)) P (λ l. f (omega (arith, l))) (λ e. g (ap suc e))

pub fit_more : (trees : List Route) (i : ℕ) (tree : Route) → slice_get trees i ≡ Some tree → IsTree tree → CopiesNothing tree → AreFit trees i → AreFit trees (i + 1)
fit_more trees i tree at is none h j a lt x =
    split j i lt (IsTree a × CopiesNothing a) (λ l. h j a l x)
    (λ e. subst (λ (r : Route). IsTree r × CopiesNothing r) (same_item trees i tree a at (subst (λ k. slice_get trees k ≡ Some a) e x)) (is, none))

pub fit_all : (trees : List Route) (n : ℕ) → length trees ≡ n → AreFit trees n → Each IsTree trees × TreesCopyNothing trees
fit_all trees n same h = (each trees (λ j a x. (h j a (subst (λ k. j < k) same (within trees j a x)) x).0), λ j a x. (h j a (subst (λ k. j < k) same (within trees j a x)) x).1)
  where
    each : (xs : List Route) → ((j : ℕ) (a : Route) → slice_get xs j ≡ Some a → IsTree a) → Each IsTree xs
    each [] f = tt
    each (x ∷ xs) f = (f 0 x refl, each xs (λ j a e. f (suc j) a e))

pub covering_all : (trees : List Route) (i n : ℕ) (tree : Route) → length trees ≡ n → slice_get trees i ≡ Some tree → AreCovering trees tree n → AreAllCovering trees i → AreAllCovering trees (i + 1)
covering_all trees i n tree same at c h j b lt y =
    split j i lt (AreCovering trees b (length trees)) (λ l. h j b l y)
    (λ e. subst (λ (r : Route). AreCovering trees r (length trees)) (same_item trees i tree b at (subst (λ k. slice_get trees k ≡ Some b) e y)) (subst (AreCovering trees tree) (sym same) c))
