-- The modulus and the prefixes of one tree more, and when there are too many places.
use Rattle.std.proofs.Common.{◌≡◌, ℕ, suc, ◌+◌, ◌*◌, ◌/◌, ◌%◌, ◌<◌, ◌≤◌, List, [], ◌∷◌, ◌++◌, map, length, Option, Some, None, inl, inr, ◌⊎◌, refl, sym, ap, ◌∙◌, subst, arith}
use Rattle.std.proofs.lemmas.List.{length-map}
use Rattle.std.proofs.lemmas.Nat.Gcd.{dvd_trans, dvd_refl, le_of_dvd}
use Rattle.std.proofs.Math.Nat.{mul-le-mul_left}
use Rattle.std.specs.Int.{◌∣◌}
use Rattle.route_tree.specs.Each.{Each, IsIn}
use Rattle.route_tree.specs.Route.{Route, IsTree}
use Rattle.route_tree.specs.Place.{sizes, prefixes, IsLeastCommonMultiple}
use Rattle.route_tree.proofs.Parts.{each_weaker}
use Rattle.route_tree.proofs.Places.{each_append, each_left, each_right}
use Rattle.gate_check.specs.Tables.{most_rows, AreSizes, IsMultiple}
use Rattle.gate_check.specs.Texts.{ordered}
use Rattle.gate_check.specs.Valid.{all_sizes, all_prefixes, AreInOrder}
use Rattle.gate_check.proofs.LeastMultiples.{least_divides}
use Rattle.gate_check.proofs.OrderedTexts.{are_in_order, known, whole, no_more}
use Rattle.gate_check.proofs.PlacesValidity.{each_in, in_either}
use Rattle.gate_check.proofs.Sizing.{are_sizes}
use Rattle.gate_check.proofs.Tabling.{one_multiple}
use Rattle.gate_growth.specs.Classes.{given}
use Rattle.gate_growth.specs.PlaceRows.{AreRowsOf, AreTooManyPlaces}
use Rattle.gate_growth.proofs.Among.{in_left, in_right}
use Rattle.gate_growth.proofs.Coarse.{sizes_more, prefixes_more}

-- ---- multiples

-- of numbers with the same common multiples
multiple_moves : (xs ys : List ℕ) → ((k : ℕ) → Each (λ n. n ∣ k) xs → Each (λ n. n ∣ k) ys) → ((k : ℕ) → Each (λ n. n ∣ k) ys → Each (λ n. n ∣ k) xs) → (o : Option ℕ) → IsMultiple xs o → IsMultiple ys o
multiple_moves xs ys to from None h = λ k some c. h k some (from k c)
multiple_moves xs ys to from (Some m) h = (record { some = h.0.some; common = to m h.0.common; least = λ k some c. h.0.least k some (from k c) }, h.1)

pub alone : (m : ℕ) → 0 < m → m ≤ most_rows → IsMultiple (m ∷ []) (Some m)
alone m some le = (record { some = some; common = (dvd_refl m, tt); least = λ k pos c. le_of_dvd pos c.0 }, le)

-- one number more is taken in
pub taken_in : (m n l : ℕ) (ns : List ℕ) (o : Option ℕ) → IsLeastCommonMultiple (m ∷ n ∷ []) l → IsMultiple (l ∷ ns) o → IsMultiple (m ∷ n ∷ ns) o
taken_in m n l ns o h =
    multiple_moves (l ∷ ns) (m ∷ n ∷ ns)
    (λ k c. (dvd_trans m h.common.0 c.0, (dvd_trans n h.common.1.0 c.0, c.1)))
    (λ k c. (least_divides (m ∷ n ∷ []) l k h (c.0, (c.1.0, tt)), c.1.1))
    o

pub too_large : (m n l : ℕ) (ns : List ℕ) → IsLeastCommonMultiple (m ∷ n ∷ []) l → most_rows < l → IsMultiple (m ∷ n ∷ ns) None
too_large m n l ns h lt = λ k some c. (let le = h.least k some (c.0, (c.1.0, tt)) in omega (arith, lt, le))

pub tree_sizes : (xs : List ℕ) (tree : Route) → IsTree tree → xs ≡ sizes tree → AreSizes xs
tree_sizes xs tree is e = subst AreSizes (sym e) (are_sizes tree is.good)

-- of these numbers and others, by the least multiple of these
with_all : (ns : List ℕ) (m : ℕ) (ms : List ℕ) (o : Option ℕ) → IsLeastCommonMultiple ns m → IsMultiple (m ∷ ms) o → IsMultiple (ns ++ ms) o
with_all ns m ms o h =
    multiple_moves (m ∷ ms) (ns ++ ms)
    (λ k c. each_append (λ n. n ∣ k) ns ms (each_weaker (λ n. n ∣ m) (λ n. n ∣ k) ns (λ n d. dvd_trans n d c.0) h.common) c.1)
    (λ k c. (least_divides ns m k h (each_left (λ n. n ∣ k) ns ms c), each_right (λ n. n ∣ k) ns ms c))
    o

-- ---- prefixes

given_texts : (ts : List (List ℕ)) → given (map Some ts) ≡ ts
given_texts [] = refl
given_texts (t ∷ ts) = ap (λ l. t ∷ l) (given_texts ts)

module _ (trees : List Route) (tree : Route) (old : List (Option (List ℕ))) (m : ℕ) (h : AreRowsOf trees old m) where
  abbrev more : List Route
  more = trees ++ tree ∷ []

  given_are : given old ≡ h.texts
  given_are = ap given h.first ∙ given_texts h.texts

  pub finer_are : (texts : List (List ℕ)) (finer : ℕ) → texts ≡ ordered (given old ++ prefixes tree) → IsMultiple (m ∷ sizes tree) (Some finer) → AreRowsOf more (None ∷ map Some texts) finer
  finer_are texts finer e multiple =
      let xs = h.texts ++ prefixes tree in
      let all = all_prefixes trees ++ prefixes tree in
      let is : texts ≡ ordered xs = e ∙ ap (λ (l : List (List ℕ)). ordered (l ++ prefixes tree)) given_are in
      let known_all : Each (λ p. IsIn p all) (ordered xs) = each_weaker (λ p. IsIn p xs) (λ p. IsIn p all) (ordered xs) (λ p i. from_given p (in_either h.texts (prefixes tree) p i)) (known xs) in
      let in_texts : Each (λ p. IsIn p (ordered xs)) h.texts = each_left (λ p. IsIn p (ordered xs)) h.texts (prefixes tree) (whole xs) in
      let whole_all : Each (λ p. IsIn p (ordered xs)) all =
      each_append (λ p. IsIn p (ordered xs)) (all_prefixes trees) (prefixes tree)
      (each_weaker (λ p. IsIn p h.texts) (λ p. IsIn p (ordered xs)) (all_prefixes trees) (λ p i. each_in (λ q. IsIn q (ordered xs)) h.texts p in_texts i) h.whole)
      (each_right (λ p. IsIn p (ordered xs)) h.texts (prefixes tree) (whole xs)) in
      record {
        least = subst (λ (l : List ℕ). IsLeastCommonMultiple l finer) (sym (sizes_more trees tree)) (with_all (all_sizes trees) m (sizes tree) (Some finer) h.least multiple).0;
        texts = texts;
        first = refl;
        in_order = subst AreInOrder (sym is) (are_in_order xs);
        known = subst (λ (l : List (List ℕ)). Each (λ p. IsIn p (all_prefixes more)) l) (sym is) (subst (λ (l : List (List ℕ)). Each (λ p. IsIn p l) (ordered xs)) (sym (prefixes_more trees tree)) known_all);
        whole = subst (λ (l : List (List ℕ)). Each (λ p. IsIn p l) (all_prefixes more)) (sym is) (subst (Each (λ p. IsIn p (ordered xs))) (sym (prefixes_more trees tree)) whole_all);
      }
    where
      from_given : (p : List ℕ) → IsIn p h.texts ⊎ IsIn p (prefixes tree) → IsIn p (all_prefixes trees ++ prefixes tree)
      from_given p (inl i) = in_left (all_prefixes trees) (prefixes tree) p (each_in (λ q. IsIn q (all_prefixes trees)) h.texts p h.known i)
      from_given p (inr i) = in_right (all_prefixes trees) (prefixes tree) p i

-- ---- too many

rows_count : (trees : List Route) (ps : List (Option (List ℕ))) (m : ℕ) (h : AreRowsOf trees ps m) → length ps ≡ suc (length h.texts)
rows_count trees ps m h = ap length h.first ∙ ap suc (length-map h.texts Some)

more_rows : (n m : ℕ) → m ≤ suc n * m
more_rows n m = grind arith

above : (n k m : ℕ) → 0 < m → n ≤ k → 262144 / m ≤ n → 262144 < suc k * m
above n k m some le h =
    let q = 262144 / m in
    let r : 262144 % m < m = omega arith in
    let d : 262144 ≡ m * q + 262144 % m = omega arith in
    let lm : m * suc q ≤ m * suc k = mul-le-mul_left m (omega (arith, le, h)) in
    grind arith

pub too_many_sizes : (trees : List Route) (tree : Route) (old : List (Option (List ℕ))) (m : ℕ) → AreRowsOf trees old m → IsMultiple (m ∷ sizes tree) None → AreTooManyPlaces (trees ++ tree ∷ [])
too_many_sizes trees tree old m h large ps whole_modulus rows =
    let all : IsMultiple (all_sizes trees ++ sizes tree) None = with_all (all_sizes trees) m (sizes tree) None h.least large in
    let lt : most_rows < whole_modulus = all whole_modulus rows.least.some (subst (Each (λ n. n ∣ whole_modulus)) (sizes_more trees tree) rows.least.common) in
    let le = more_rows (length rows.texts) whole_modulus in
    subst (λ n. most_rows < n * whole_modulus) (sym (rows_count (trees ++ tree ∷ []) ps whole_modulus rows)) (omega (arith, lt, le))

pub too_many_texts : (trees : List Route) (texts : List (List ℕ)) (m n : ℕ) → AreRowsOf trees (None ∷ map Some texts) m → n ≡ length texts → 262144 / m ≤ n → AreTooManyPlaces trees
too_many_texts trees texts m n finer size le ps modulus rows =
    let same : m ≡ modulus = one_multiple (all_sizes trees) m modulus finer.least rows.least in
    let are : Each (λ p. IsIn p rows.texts) finer.texts = each_weaker (λ p. IsIn p (all_prefixes trees)) (λ p. IsIn p rows.texts) finer.texts (λ p i. each_in (λ q. IsIn q rows.texts) (all_prefixes trees) p rows.whole i) finer.known in
    let few = no_more finer.texts rows.texts finer.in_order rows.in_order are in
    let one : suc (length texts) ≡ suc (length finer.texts) = ap suc (sym (length-map texts Some)) ∙ rows_count trees (None ∷ map Some texts) m finer in
    let lt = above n (length rows.texts) m finer.least.some (omega (arith, size, one, few)) le in
    subst (λ k. most_rows < length ps * k) same (subst (λ k. most_rows < k * m) (sym (rows_count trees ps modulus rows)) lt)
