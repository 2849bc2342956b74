-- The table of two trees, and that of one, which is the table of the tree with itself.
use Rattle.std.proofs.Common.{◌≡◌, ℕ, suc, ◌+◌, ◌*◌, ◌/◌, ◌%◌, ◌<◌, ◌≤◌, List, [], ◌∷◌, ◌++◌, length, map, Some, None, inr, ⊎_elim, refl, sym, ap, ◌∙◌, subst, arith}
use Rattle.std.specs.Int.{◌∣◌}
use Rattle.std.proofs.Math.Nat.{mul-le-mul_left}
use Rattle.route_tree.specs.Each.{Each, IsIn}
use Rattle.route_tree.specs.Route.{Route}
use Rattle.route_tree.specs.Place.{sizes, prefixes, prefix_text, IsLeastCommonMultiple}
use Rattle.route_tree.proofs.Parts.{each_weaker}
use Rattle.route_tree.proofs.Places.{each_append, each_left, each_right}
use Rattle.gate_check.specs.declared.places.table.Class.{Class}
use Rattle.gate_check.specs.declared.places.table.PlaceTable.{PlaceTable}
use Rattle.gate_check.specs.declared.places.table.PlaceFault.{PlaceFault}
use Rattle.gate_check.specs.declared.places.table.PlaceFault.TheVariants as faults
use Rattle.gate_check.specs.Resolved.{resolved}
use Rattle.gate_check.specs.Texts.{ordered}
use Rattle.gate_check.specs.Valid.{all_prefixes, IsClass, IsTableOf}
use Rattle.gate_check.specs.Tables.{most_rows, row_count, AreTooMany, IsTable, IsPlaceFault}
use Rattle.gate_check.proofs.PlacesValidity.{in_either, in_front, each_in}
use Rattle.gate_check.proofs.OrderedTexts.{are_in_order, known, whole, no_more}

end_nil : {A : Type 0} (xs : List A) → xs ++ [] ≡ xs
end_nil [] = refl
end_nil (x ∷ xs) = ap (λ l. x ∷ l) (end_nil xs)

both : {A : Type 0} (xs ys : List A) → xs ++ ys ≡ xs ++ (ys ++ [])
both xs ys = ap (λ l. xs ++ l) (sym (end_nil ys))

map_length : {A B : Type 0} (f : A → B) (xs : List A) → length (map f xs) ≡ length xs
map_length f [] = refl
map_length f (x ∷ xs) = ap suc (map_length f xs)

-- ---- two trees

pub class_is : (a b : Route) (class : Class) → IsLeastCommonMultiple (sizes (resolved (prefix_text class.prefix) a) ++ sizes (resolved (prefix_text class.prefix) b)) class.modulus → IsClass (a ∷ b ∷ []) class
class_is a b class h = subst (λ l. IsLeastCommonMultiple l class.modulus) (both (sizes (resolved (prefix_text class.prefix) a)) (sizes (resolved (prefix_text class.prefix) b))) h

pub table_is : (a b : Route) (table : PlaceTable) → IsLeastCommonMultiple (sizes a ++ sizes b) table.modulus → map (λ (c : Class). c.prefix) table.classes.items ≡ None ∷ map Some (ordered (prefixes a ++ prefixes b)) → Each (IsClass (a ∷ b ∷ [])) table.classes.items → IsTableOf (a ∷ b ∷ []) table
table_is a b table m classes moduli =
    let ps = prefixes a ++ prefixes b in
    record {
      modulus = subst (λ l. IsLeastCommonMultiple l table.modulus) (both (sizes a) (sizes b)) m;
      texts = ordered ps;
      classes = classes;
      in_order = are_in_order ps;
      known = subst (λ (l : List (List ℕ)). Each (λ p. IsIn p l) (ordered ps)) (both (prefixes a) (prefixes b)) (known ps);
      whole = subst (λ (l : List (List ℕ)). Each (λ p. IsIn p (ordered ps)) l) (both (prefixes a) (prefixes b)) (whole ps);
      moduli = moduli;
    }

class_count : (trees : List Route) (table : PlaceTable) (t : IsTableOf trees table) → length table.classes.items ≡ suc (length t.texts)
class_count trees table t = sym (map_length (λ (c : Class). c.prefix) table.classes.items) ∙ ap length t.classes ∙ ap suc (map_length Some t.texts)

more_rows : (n m : ℕ) → m ≤ suc n * m
more_rows n m = grind arith

pub too_many : (a b : Route) → AreTooMany (sizes a ++ sizes b) → IsPlaceFault (a ∷ b ∷ []) faults.TooManyPlaces
too_many a b h table t =
    let k = h table.modulus t.modulus.some (subst (Each (λ n. n ∣ table.modulus)) (sym (both (sizes a) (sizes b))) t.modulus.common) in
    let le = more_rows (length t.texts) table.modulus in
    let e : row_count table ≡ suc (length t.texts) * table.modulus = ap (λ n. n * table.modulus) (class_count (a ∷ b ∷ []) table t) in
    subst (λ n. most_rows < n) (sym e) (omega (arith, k, le))

pub one_multiple : (ns : List ℕ) (l m : ℕ) → IsLeastCommonMultiple ns l → IsLeastCommonMultiple ns m → l ≡ m
one_multiple ns l m h g = (let a = h.least m g.some g.common in let b = g.least l h.some h.common in omega (arith, a, b))

-- as many rows as the quotient allows
above : (n k m : ℕ) → 0 < m → n ≤ k → 262144 / m ≤ n → 262144 < suc k * m
above n k m some le h =
    let q = 262144 / m in
    let r : 262144 % m < m = omega arith in
    let d : 262144 ≡ m * q + 262144 % m = omega arith in
    let lm : m * suc q ≤ m * suc k = mul-le-mul_left m (omega (arith, le, h)) in
    grind arith

pub within : (n m : ℕ) → 0 < m → n < 262144 / m → suc n * m ≤ 262144
within n m some lt =
    let q = 262144 / m in
    let d : 262144 ≡ m * q + 262144 % m = omega arith in
    let lm : m * suc n ≤ m * q = mul-le-mul_left m (omega (arith, lt)) in
    grind arith

pub too_many_texts : (a b : Route) (m n : ℕ) → IsLeastCommonMultiple (sizes a ++ sizes b) m → n ≡ length (ordered (prefixes a ++ prefixes b)) → 262144 / m ≤ n → IsPlaceFault (a ∷ b ∷ []) faults.TooManyPlaces
too_many_texts a b m n h len le table t =
    let ps = prefixes a ++ prefixes b in
    let same : m ≡ table.modulus = one_multiple (sizes a ++ sizes b) m table.modulus h (subst (λ l. IsLeastCommonMultiple l table.modulus) (sym (both (sizes a) (sizes b))) t.modulus) in
    let all : Each (λ p. IsIn p t.texts) ps = subst (Each (λ p. IsIn p t.texts)) (sym (both (prefixes a) (prefixes b))) t.whole in
    let are : Each (λ p. IsIn p t.texts) (ordered ps) = each_weaker (λ p. IsIn p ps) (λ p. IsIn p t.texts) (ordered ps) (λ p i. each_in (λ q. IsIn q t.texts) ps p all i) (known ps) in
    let few = no_more (ordered ps) t.texts (are_in_order ps) t.in_order are in
    let rows = above n (length t.texts) m h.some (omega (arith, len, few)) le in
    let e : row_count table ≡ suc (length t.texts) * table.modulus = ap (λ k. k * table.modulus) (class_count (a ∷ b ∷ []) table t) in
    subst (λ k. most_rows < k) (sym e) (subst (λ k. most_rows < suc (length t.texts) * k) same rows)

-- so many rows has a table with these classes
pub rows_within : (a b : Route) (table : PlaceTable) (n : ℕ) → IsTableOf (a ∷ b ∷ []) table → map (λ (c : Class). c.prefix) table.classes.items ≡ None ∷ map Some (ordered (prefixes a ++ prefixes b)) → n ≡ length (ordered (prefixes a ++ prefixes b)) → n < 262144 / table.modulus → row_count table ≤ most_rows
rows_within a b table n t classes len lt =
    let ts = ordered (prefixes a ++ prefixes b) in
    let count : length table.classes.items ≡ suc n = sym (map_length (λ (c : Class). c.prefix) table.classes.items) ∙ ap length classes ∙ ap suc (map_length Some ts) ∙ ap suc (sym len) in
    subst (λ k. k * table.modulus ≤ most_rows) (sym count) (within n table.modulus t.modulus.some lt)

-- ---- one tree

once : {A : Type 0} (P : A → Type 0) (xs : List A) → Each P (xs ++ (xs ++ [])) → Each P (xs ++ [])
once P xs h = each_right P xs (xs ++ []) h

twice : {A : Type 0} (P : A → Type 0) (xs : List A) → Each P (xs ++ []) → Each P (xs ++ (xs ++ []))
twice P xs h = each_append P xs (xs ++ []) (each_left P xs [] h) h

once_in : (xs : List (List ℕ)) (x : List ℕ) → IsIn x (xs ++ (xs ++ [])) → IsIn x (xs ++ [])
once_in xs x h = ⊎_elim (λ (l : IsIn x xs). in_front xs [] x l) (λ (r : IsIn x (xs ++ [])). r) (in_either xs (xs ++ []) x h)

in_back : (xs ys : List (List ℕ)) (x : List ℕ) → IsIn x ys → IsIn x (xs ++ ys)
in_back [] ys x h = h
in_back (z ∷ zs) ys x h = inr (in_back zs ys x h)

multiple_once : (xs : List ℕ) (m : ℕ) → IsLeastCommonMultiple (xs ++ (xs ++ [])) m → IsLeastCommonMultiple (xs ++ []) m
multiple_once xs m h = record { some = h.some; common = once (λ n. n ∣ m) xs h.common; least = λ k some c. h.least k some (twice (λ n. n ∣ k) xs c) }

multiple_twice : (xs : List ℕ) (m : ℕ) → IsLeastCommonMultiple (xs ++ []) m → IsLeastCommonMultiple (xs ++ (xs ++ [])) m
multiple_twice xs m h = record { some = h.some; common = twice (λ n. n ∣ m) xs h.common; least = λ k some c. h.least k some (once (λ n. n ∣ k) xs c) }

table_once : (tree : Route) (table : PlaceTable) → IsTableOf (tree ∷ tree ∷ []) table → IsTableOf (tree ∷ []) table
table_once tree table t = record {
  modulus = multiple_once (sizes tree) table.modulus t.modulus;
  texts = t.texts;
  classes = t.classes;
  in_order = t.in_order;
  known = each_weaker (λ p. IsIn p (all_prefixes (tree ∷ tree ∷ []))) (λ p. IsIn p (all_prefixes (tree ∷ []))) t.texts (λ p i. once_in (prefixes tree) p i) t.known;
  whole = once (λ p. IsIn p t.texts) (prefixes tree) t.whole;
  moduli = each_weaker (IsClass (tree ∷ tree ∷ [])) (IsClass (tree ∷ [])) table.classes.items (λ c h. multiple_once (sizes (resolved (prefix_text c.prefix) tree)) c.modulus h) t.moduli;
}

pub table_twice : (tree : Route) (table : PlaceTable) → IsTableOf (tree ∷ []) table → IsTableOf (tree ∷ tree ∷ []) table
table_twice tree table t = record {
  modulus = multiple_twice (sizes tree) table.modulus t.modulus;
  texts = t.texts;
  classes = t.classes;
  in_order = t.in_order;
  known = each_weaker (λ p. IsIn p (all_prefixes (tree ∷ []))) (λ p. IsIn p (all_prefixes (tree ∷ tree ∷ []))) t.texts (λ p i. in_back (prefixes tree) (prefixes tree ++ []) p i) t.known;
  whole = twice (λ p. IsIn p t.texts) (prefixes tree) t.whole;
  moduli = each_weaker (IsClass (tree ∷ [])) (IsClass (tree ∷ tree ∷ [])) table.classes.items (λ c h. multiple_twice (sizes (resolved (prefix_text c.prefix) tree)) c.modulus h) t.moduli;
}

pub is_table_once : (tree : Route) (table : PlaceTable) → IsTable (tree ∷ tree ∷ []) table → IsTable (tree ∷ []) table
is_table_once tree table t = record { is_table = table_once tree table t.is_table; within = t.within }

pub fault_once : (tree : Route) (fault : PlaceFault) → IsPlaceFault (tree ∷ tree ∷ []) fault → IsPlaceFault (tree ∷ []) fault
fault_once tree faults.TooManyPlaces h = λ table t. h table (table_twice tree table t)
fault_once tree faults.NoMemory h = tt
