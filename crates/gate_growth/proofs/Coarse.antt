-- At a place of more trees, trees are what they are at the place of the best class and a remainder of their modulus.
use Rattle.std.proofs.Common.{◌≡◌, ℕ, zero, suc, ◌%◌, ◌<◌, ◌≤◌, true, List, [], ◌∷◌, ◌++◌, map, length, Option, Some, None, inl, inr, refl, sym, ap, ap₂, ◌∙◌, subst, arith, get_or, take, drop, ◌-◌, slice_get}
use Rattle.std.proofs.lemmas.List.{append_assoc, append-nil, take_all}
use Rattle.std.specs.Int.{◌∣◌}
use Rattle.route_tree.specs.declared.place.Place.{Place}
use Rattle.route_tree.specs.Each.{Each, IsIn}
use Rattle.route_tree.specs.Route.{Route}
use Rattle.route_tree.specs.At.{begins}
use Rattle.route_tree.specs.Place.{sizes, prefixes, prefix_text, tree_at_place}
use Rattle.route_tree.proofs.Parts.{each_weaker}
use Rattle.route_tree.proofs.Places.{each_left, each_right, same_test}
use Rattle.gate_check.specs.Places.{place_at}
use Rattle.gate_check.specs.Valid.{all_sizes, all_prefixes}
use Rattle.gate_growth.specs.declared.ledger.class.ClassPages.{ClassPages}
use Rattle.gate_growth.specs.Grown.{plans_at}
use Rattle.gate_growth.specs.Classes.{class_prefixes, NoneLonger, IsBest}
use Rattle.gate_growth.proofs.Among.{left_at_place}

-- what is read at a place of a list stands there
pub read_is : {A : Type 0} (xs : List A) (i : ℕ) (d : A) → i < length xs → d ≡ get_or xs i d → slice_get xs i ≡ Some d
read_is [] i d lt e = absurd (omega (arith, lt))
read_is (x ∷ xs) zero d lt e = ap Some (sym e)
read_is (x ∷ xs) (suc i) d lt e = read_is xs i d (omega (arith, lt)) e

-- a list as its first item and the others
pub parted : {A : Type 0} (xs : List A) (x : A) → 1 ≤ length xs → x ≡ get_or xs 0 x → xs ≡ x ∷ take (length xs - 1) (drop 1 xs)
parted [] x le e = absurd (omega (arith, le))
parted (y ∷ ys) x le e = ap₂ (λ z l. z ∷ l) (sym e) (sym (take_all (length (y ∷ ys) - 1) ys (omega arith)))

pub parted_numbers : (xs : List ℕ) → 1 ≤ length xs → xs ≡ get_or xs 0 0 ∷ take (length xs - 1) (drop 1 xs)
parted_numbers [] le = absurd (omega (arith, le))
parted_numbers (y ∷ ys) le = ap (λ l. y ∷ l) (sym (take_all (length (y ∷ ys) - 1) ys (omega arith)))

-- ---- one tree more

pub plans_more : (place : Place) (trees : List Route) (tree : Route) → plans_at place (trees ++ tree ∷ []) ≡ plans_at place trees ++ tree_at_place tree place ∷ []
plans_more place [] tree = refl
plans_more place (t ∷ trees) tree = ap (λ ps. tree_at_place t place ∷ ps) (plans_more place trees tree)

pub plans_length : (place : Place) (trees : List Route) → length (plans_at place trees) ≡ length trees
plans_length place [] = refl
plans_length place (t ∷ trees) = ap suc (plans_length place trees)

pub sizes_more : (trees : List Route) (tree : Route) → all_sizes (trees ++ tree ∷ []) ≡ all_sizes trees ++ sizes tree
sizes_more [] tree = append-nil (sizes tree)
sizes_more (t ∷ trees) tree = ap (λ l. sizes t ++ l) (sizes_more trees tree) ∙ sym (append_assoc (sizes t) (all_sizes trees) (sizes tree))

pub prefixes_more : (trees : List Route) (tree : Route) → all_prefixes (trees ++ tree ∷ []) ≡ all_prefixes trees ++ prefixes tree
prefixes_more [] tree = append-nil (prefixes tree)
prefixes_more (t ∷ trees) tree = ap (λ l. prefixes t ++ l) (prefixes_more trees tree) ∙ sym (append_assoc (prefixes t) (all_prefixes trees) (prefixes tree))

-- ---- coarse places

pub plans_coarse : (prefix o : Option (List ℕ)) (r whole m : ℕ) (trees : List Route) → Each (λ n. n ∣ m) (all_sizes trees) → Each (λ p. begins p (prefix_text prefix) ≡ begins p (prefix_text o)) (all_prefixes trees) → plans_at (place_at prefix r whole) trees ≡ plans_at (place_at o (r % m) m) trees
plans_coarse prefix o r whole m [] divides same = refl
plans_coarse prefix o r whole m (t ∷ trees) divides same =
    let D : ℕ → Type 0 = λ n. n ∣ m in
    let P : List ℕ → Type 0 = λ p. begins p (prefix_text prefix) ≡ begins p (prefix_text o) in
    ap₂ (λ p ps. p ∷ ps)
    (left_at_place t r (prefix_text prefix) o m (each_left D (sizes t) (all_sizes trees) divides) (each_left P (prefixes t) (all_prefixes trees) same))
    (plans_coarse prefix o r whole m trees (each_right D (sizes t) (all_sizes trees) divides) (each_right P (prefixes t) (all_prefixes trees) same))

pub in_some : (xs : List (List ℕ)) (x : List ℕ) → IsIn x xs → IsIn (Some x) (map Some xs)
in_some [] x h = absurd h
in_some (y ∷ ys) x (inl e) = inl (ap Some e)
in_some (y ∷ ys) x (inr h) = inr (in_some ys x h)

-- no prefix of a class that begins the text is longer
bounded : (known : List ClassPages) (text : List ℕ) (best : ClassPages) (p : List ℕ) → IsIn (Some p) (class_prefixes known) → NoneLonger known text best → begins p text ≡ true → length p ≤ length (prefix_text best.prefix)
bounded [] text best p i none is = absurd i
bounded (c ∷ known) text best p (inl e) none is =
    subst (λ o. begins (prefix_text o) text ≡ true → length (prefix_text o) ≤ length (prefix_text best.prefix)) (sym e) none.0 is
bounded (c ∷ known) text best p (inr i) none is = bounded known text best p i none.1 is

-- each prefix begins the text where it begins the best class's prefix
pub best_tests : (known : List ClassPages) (text : List ℕ) (best : ClassPages) (texts ps : List (List ℕ)) → class_prefixes known ≡ None ∷ map Some texts → Each (λ p. IsIn p texts) ps → IsBest known text best → Each (λ p. begins p text ≡ begins p (prefix_text best.prefix)) ps
best_tests known text best texts ps first whole is =
    each_weaker (λ p. IsIn p texts) (λ p. begins p text ≡ begins p (prefix_text best.prefix)) ps
    (λ p i. same_test p (prefix_text best.prefix) text is.0 (bounded known text best p (subst (IsIn (Some p)) (sym first) (inr (in_some texts p i))) is.1))
    whole
