-- The trees of a list up to one: their sizes and prefixes, and the place of a key among theirs.
use Rattle.std.proofs.Common.{◌≡◌, ℕ, zero, suc, ◌%◌, ◌<◌, ◌≤◌, List, [], ◌∷◌, ◌++◌, length, Option, Some, None, inl, inr, subst, arith, slice_get, take}
use Rattle.std.specs.Int.{◌∣◌}
use Rattle.mc_types.specs.KeyText.{IsKey}
use Rattle.route_tree.specs.declared.place.Place.{Place}
use Rattle.route_tree.specs.Each.{Each, IsIn}
use Rattle.route_tree.specs.Route.{Route, IsTree}
use Rattle.route_tree.specs.At.{begins, plain_for}
use Rattle.route_tree.specs.Place.{sizes, prefixes, IsLongest, prefix_text, tree_at_place}
use Rattle.route_tree.proofs.Parts.{each_weaker}
use Rattle.route_tree.proofs.Places.{each_append, each_left, each_right, alike, tests, rests, prefixes_are_keys}
use Rattle.gate_check.specs.Places.{IsClassOf, place_at}
use Rattle.gate_check.specs.Valid.{all_sizes, all_prefixes}
use Rattle.gate_check.proofs.Placing.{longest_of}
use Rattle.gate_check.proofs.Sizing.{both_sizes}
use Rattle.gate_growth.specs.Grown.{IsPlaceAmong}
use Rattle.gate_growth.proofs.Multiples.{least_exists}

-- what all sizes keep, those of each tree do
pub sizes_of_one : (P : ℕ → Type 0) (trees : List Route) (k h : ℕ) (t : Route) → h < k → slice_get trees h ≡ Some t → Each P (all_sizes (take k trees)) → Each P (sizes t)
sizes_of_one P [] k h t lt e all = absurd cc
sizes_of_one P (x ∷ trees) zero h t lt e all = absurd (omega arith)
sizes_of_one P (x ∷ trees) (suc k) zero t lt e all = let is : x ≡ t = cc in subst (λ r. Each P (sizes r)) is (each_left P (sizes x) (all_sizes (take k trees)) all)
sizes_of_one P (x ∷ trees) (suc k) (suc h) t lt e all = sizes_of_one P trees k h t (omega arith) e (each_right P (sizes x) (all_sizes (take k trees)) all)

pub prefixes_of_one : (P : List ℕ → Type 0) (trees : List Route) (k h : ℕ) (t : Route) → h < k → slice_get trees h ≡ Some t → Each P (all_prefixes (take k trees)) → Each P (prefixes t)
prefixes_of_one P [] k h t lt e all = absurd cc
prefixes_of_one P (x ∷ trees) zero h t lt e all = absurd (omega arith)
prefixes_of_one P (x ∷ trees) (suc k) zero t lt e all = let is : x ≡ t = cc in subst (λ r. Each P (prefixes r)) is (each_left P (prefixes x) (all_prefixes (take k trees)) all)
prefixes_of_one P (x ∷ trees) (suc k) (suc h) t lt e all = prefixes_of_one P trees k h t (omega arith) e (each_right P (prefixes x) (all_prefixes (take k trees)) all)

pub in_left : {A : Type 0} (xs ys : List A) (x : A) → IsIn x xs → IsIn x (xs ++ ys)
in_left [] ys x h = absurd h
in_left (z ∷ xs) ys x (inl h) = inl h
in_left (z ∷ xs) ys x (inr h) = inr (in_left xs ys x h)

pub in_right : {A : Type 0} (xs ys : List A) (x : A) → IsIn x ys → IsIn x (xs ++ ys)
in_right [] ys x h = h
in_right (z ∷ xs) ys x h = inr (in_right xs ys x h)

-- a prefix of one is one of all
pub prefix_of_all : (trees : List Route) (k h : ℕ) (t : Route) (p : List ℕ) → h < k → slice_get trees h ≡ Some t → IsIn p (prefixes t) → IsIn p (all_prefixes (take k trees))
prefix_of_all [] k h t p lt e i = absurd cc
prefix_of_all (x ∷ trees) zero h t p lt e i = absurd (omega arith)
prefix_of_all (x ∷ trees) (suc k) zero t p lt e i = let is : t ≡ x = cc in in_left (prefixes x) (all_prefixes (take k trees)) p (subst (λ r. IsIn p (prefixes r)) is i)
prefix_of_all (x ∷ trees) (suc k) (suc h) t p lt e i = in_right (prefixes x) (all_prefixes (take k trees)) p (prefix_of_all trees k h t p (omega arith) e i)

pub sizes_some : (t : Route) → IsTree t → Each (λ n. 0 < n) (sizes t)
sizes_some t tree = each_weaker (λ n. (0 < n) × (n ≤ 2048)) (λ n. 0 < n) (sizes t) (λ n h. h.0) (each_left (λ n. (0 < n) × (n ≤ 2048)) (sizes t) (sizes t) (both_sizes t t tree.good tree.good))

pub some_text : (t : Route) → IsTree t → Each (λ p. 0 < length p) (prefixes t)
some_text t tree = each_weaker IsKey (λ p. 0 < length p) (prefixes t) (λ p k. k.some) (prefixes_are_keys t tree)

pub all_sizes_some : (trees : List Route) (k : ℕ) → Each IsTree trees → Each (λ n. 0 < n) (all_sizes (take k trees))
all_sizes_some [] zero are = tt
all_sizes_some [] (suc k) are = tt
all_sizes_some (x ∷ trees) zero are = tt
all_sizes_some (x ∷ trees) (suc k) are = each_append (λ n. 0 < n) (sizes x) (all_sizes (take k trees)) (sizes_some x are.0) (all_sizes_some trees k are.1)

pub all_texts : (trees : List Route) (k : ℕ) → Each IsTree trees → Each (λ p. 0 < length p) (all_prefixes (take k trees))
all_texts [] zero are = tt
all_texts [] (suc k) are = tt
all_texts (x ∷ trees) zero are = tt
all_texts (x ∷ trees) (suc k) are = each_append (λ p. 0 < length p) (prefixes x) (all_prefixes (take k trees)) (some_text x are.0) (all_texts trees k are.1)

pub class_of : (ps : List (List ℕ)) (key : List ℕ) (o : Option (List ℕ)) → IsLongest ps key o → IsClassOf ps o
class_of ps key None h = tt
class_of ps key (Some q) h = h.0

-- what is left of a tree for a hash and a text is what is left for a remainder and the longest prefix that begins the text
pub left_at_place : (t : Route) (hash : ℕ) (text : List ℕ) (o : Option (List ℕ)) (m : ℕ) → Each (λ n. n ∣ m) (sizes t) → Each (λ p. begins p text ≡ begins p (prefix_text o)) (prefixes t) → plain_for hash text t ≡ plain_for (hash % m) (prefix_text o) t
left_at_place t hash text o m divides same = alike hash (hash % m) text (prefix_text o) t (rests hash m (sizes t) divides) same

-- the place of a hash and a text among the first k trees
module _ (trees : List Route) (are : Each IsTree trees) (k : ℕ) (hash : ℕ) (text : List ℕ) where
  abbrev pub place_of : Place
  place_of =
      let m = least_exists (all_sizes (take k trees)) (all_sizes_some trees k are) in
      place_at (longest_of (all_prefixes (take k trees)) text).0 (hash % m.0) m.0

  pub is_among : IsPlaceAmong (take k trees) place_of
  is_among =
      let m = least_exists (all_sizes (take k trees)) (all_sizes_some trees k are) in
      let o = longest_of (all_prefixes (take k trees)) text in
      let some = m.1.some in
      record { modulus = m.1; prefix = class_of (all_prefixes (take k trees)) text o.0 o.1; below = omega (arith, some) }

  pub tree_there : (h : ℕ) (t : Route) → h < k → slice_get trees h ≡ Some t → plain_for hash text t ≡ tree_at_place t place_of
  tree_there h t lt e =
      let m = least_exists (all_sizes (take k trees)) (all_sizes_some trees k are) in
      let ps = all_prefixes (take k trees) in
      let o = longest_of ps text in
      let same = tests ps text o.0 (all_texts trees k are) o.1 in
      left_at_place t hash text o.0 m.0 (sizes_of_one (λ n. n ∣ m.0) trees k h t lt e m.1.common) (prefixes_of_one (λ p. begins p text ≡ begins p (prefix_text o.0)) trees k h t lt e same)
