-- Where each place of a table is covered, some certificate is valid: at each residue a run of the servers that are taken.
use Rattle.std.proofs.Common.{◌≡◌, ℕ, zero, suc, ◌+◌, ◌*◌, ◌^◌, ◌<◌, ◌≤◌, Bool, true, false, cond, ◌||◌, List, [], ◌∷◌, length, nat_eq, nat_le, slice_get, Option, Some, refl, sym, ap, ◌∙◌, subst, arith}
use Rattle.std.proofs.lemmas.Bool.{leb-true, le-leb}
use Rattle.route_tree.specs.Each.{Each}
use Rattle.route_tree.specs.At.{plain_for}
use Rattle.route_tree.specs.Place.{prefix_text}
use Rattle.route_tree.specs.Route.{Route, IsTree}
use Rattle.gate_check.specs.declared.places.table.Class.{Class}
use Rattle.gate_check.specs.declared.places.table.Run.{Run}
use Rattle.gate_check.specs.declared.places.table.ClassRows.{ClassRows}
use Rattle.gate_check.specs.declared.places.table.PlaceTable.{PlaceTable}
use Rattle.gate_check.specs.declared.places.table.Certificate.{Certificate}
use Rattle.gate_coverage.specs.Pools.{has, servers_at, taken_pools}
use Rattle.gate_check.specs.TableRows.{IsRowOf}
use Rattle.gate_check.specs.Tables.{IsTable}
use Rattle.gate_check.specs.Valid.{EachClass, IsClass, IsShaped, IsRising, IsValidRow, AreAfter, AreRuns, AreValidRows, run_at}
use Rattle.gate_check.proofs.Proposals.{with_number, by_place, stay_rising, has_with, valid_if_covered}
use Rattle.gate_check.proofs.Tabling.{table_twice}
use Rattle.gate_check.proofs.PlacesValidity.{looks_are_enough}
use Rattle.gate_check.specs.declared.pairs.TwoEnd.TheVariants as tables
use Rattle.gate_check.specs.Gate.{IsCertifiedBy}
use Rattle.gate_check.specs.Pairs.{AreCoveredBelow, IsTwoEnd}
use Rattle.gate_check.proofs.PoolCounts.{few_pools}
use Rattle.gate_check.proofs.RowTests.{good_plain}
use Rattle.gate_check.proofs.Two.{class_within}

-- ---- a row

abbrev row_of_all : List ℕ → List ℕ
row_of_all [] = []
row_of_all (s ∷ ss) = with_number (row_of_all ss) s

all_rise : (ss : List ℕ) → IsRising (row_of_all ss)
all_rise [] = tt
all_rise (s ∷ ss) = stay_rising (row_of_all ss) s (all_rise ss)

all_held : (ss : List ℕ) (s : ℕ) → has (row_of_all ss) s ≡ has ss s
all_held [] s = refl
all_held (x ∷ ss) s = has_with (row_of_all ss) x s ∙ ap (λ b. nat_eq x s || b) (all_held ss s)

one_longer : (xs : List ℕ) (s : ℕ) → length (with_number xs s) ≤ suc (length xs)
one_longer [] s = omega arith
one_longer (x ∷ xs) s = let h = one_longer xs s in by_place (λ l. length l ≤ suc (suc (length xs))) x xs s (λ _. omega arith) (λ _. omega arith) (λ _. omega (arith, h))

no_longer : (ss : List ℕ) → length (row_of_all ss) ≤ length ss
no_longer [] = omega arith
no_longer (s ∷ ss) = let h = no_longer ss in let k = one_longer (row_of_all ss) s in omega (arith, h, k)

as_many : (hash : ℕ) (ps : List (List ℕ)) → length (servers_at hash ps) ≡ length ps
as_many hash [] = refl
as_many hash (p ∷ ps) = ap suc (as_many hash ps)

-- ---- lists that fit

module _ (tree : Route) (is : IsTree tree) (table : PlaceTable) where
  abbrev row : List ℕ → ℕ → List ℕ
  row text r = row_of_all (servers_at r (taken_pools text tree))

  row_fits : (text : List ℕ) (r : ℕ) → length (row text r) < 2 ^ 63
  row_fits text r =
      let a = no_longer (servers_at r (taken_pools text tree)) in
      let b = as_many r (taken_pools text tree) in
      let c = few_pools text tree is.many in
      omega (arith, a, b, c)

  abbrev run : List ℕ → ℕ → Run
  run text r = record {
    first = r;
    servers = record { ptr = table.classes.ptr; len = length (row text r); cap = length (row text r); alloc = table.classes.alloc; items = row text r; ok = (refl, omega arith); small = row_fits text r };
  }

  abbrev runs : List ℕ → ℕ → ℕ → List Run
  runs text k zero = []
  runs text k (suc n) = run text k ∷ runs text (suc k) n

  so_many : (text : List ℕ) (k n : ℕ) → length (runs text k n) ≡ n
  so_many text k zero = refl
  so_many text k (suc n) = ap suc (so_many text (suc k) n)

  abbrev rows : (c : Class) → c.modulus ≤ 262144 → ClassRows
  rows c small =
      let text = prefix_text c.prefix in
      let all = runs text 0 c.modulus in
      record {
        modulus = c.modulus;
        runs = record { ptr = table.classes.ptr; len = length all; cap = length all; alloc = table.classes.alloc; items = all; ok = (refl, omega arith); small = (let e = so_many text 0 c.modulus in omega (arith, e, small)) };
      }

  -- ---- the run of a residue

  if_above : (b : Bool) (xs ys : List ℕ) → (b ≡ true → xs ≡ ys) → cond b xs ys ≡ ys
  if_above true xs ys h = h refl
  if_above false xs ys h = refl

  not_begun : (text : List ℕ) (n k q : ℕ) (servers : List ℕ) → q < k → run_at servers (runs text k n) q ≡ servers
  not_begun text zero k q servers lt = refl
  not_begun text (suc n) k q servers lt = if_above (nat_le k q) (run_at (row text k) (runs text (suc k) n) q) servers (λ e. absurd (let le : k ≤ q = leb-true _ _ e in omega (arith, lt, le)))

  begun : (b : Bool) (xs ys : List ℕ) → b ≡ true → cond b xs ys ≡ xs
  begun true xs ys h = refl
  begun false xs ys h = absurd (cc)

  own_run : (text : List ℕ) (n k j : ℕ) (servers : List ℕ) → j < n → run_at servers (runs text k n) (k + j) ≡ row text (k + j)
  own_run text zero k j servers lt = absurd (omega arith)
  own_run text (suc n) k zero servers lt =
      let e : k + zero ≡ k = omega arith in
      subst (λ (q : ℕ). run_at servers (runs text k (suc n)) q ≡ row text q) (sym e)
      (begun (nat_le k k) (run_at (row text k) (runs text (suc k) n) k) servers (le-leb _ _ (omega arith)) ∙ not_begun text n (suc k) k (row text k) (omega arith))
  own_run text (suc n) k (suc j) servers lt =
      let e : k + suc j ≡ suc k + j = omega arith in
      subst (λ (q : ℕ). run_at servers (runs text k (suc n)) q ≡ row text q) (sym e)
      (begun (nat_le k (suc k + j)) (run_at (row text k) (runs text (suc k) n) (suc k + j)) servers (le-leb _ _ (omega arith)) ∙ own_run text n (suc k) j (row text k) (omega (arith, lt)))

  own_first : (text : List ℕ) (n r : ℕ) → r < n → run_at [] (runs text 0 n) r ≡ row text r
  own_first text n r lt = let e : 0 + r ≡ r = omega arith in subst (λ (q : ℕ). run_at [] (runs text 0 n) q ≡ row text q) e (own_run text n 0 r [] lt)

  after : (text : List ℕ) (n k last m : ℕ) → last < k → k + n ≤ m → AreAfter last m (runs text k n)
  after text zero k last m lt le = tt
  after text (suc n) k last m lt le = (lt, omega (arith, le), after text n (suc k) k m (omega arith) (omega (arith, le)))

  are_runs : (text : List ℕ) (m : ℕ) → 0 < m → AreRuns m (runs text 0 m)
  are_runs text zero some = absurd (omega (arith, some))
  are_runs text (suc n) some = (refl, after text n 1 0 (suc n) (omega arith) (omega arith))

  -- ---- a class

  module _ (m : ℕ) where
    good_row : (prefix : Option (List ℕ)) (k r : ℕ) → r < k → AreCoveredBelow tree tree m prefix k → IsValidRow (plain_for r (prefix_text prefix) tree) (row (prefix_text prefix) r)
    good_row prefix k r lt covers =
        let text = prefix_text prefix in
        let those : IsRowOf r (taken_pools text tree) (row text r) = record { rising = all_rise (servers_at r (taken_pools text tree)); holds = all_held (servers_at r (taken_pools text tree)) } in
        valid_if_covered text tree r (row text r) (good_plain tree text r is) those (covers r lt)

    good_class : (c : Class) (small : c.modulus ≤ 262144) → IsClass (tree ∷ []) c → AreCoveredBelow tree tree m c.prefix c.modulus → IsShaped c (rows c small) × AreValidRows tree m c (rows c small)
    good_class c small known covers =
        let text = prefix_text c.prefix in
        let shaped : IsShaped c (rows c small) = (refl, are_runs text c.modulus known.some) in
        (shaped, looks_are_enough tree m c (rows c small) known shaped (λ r lt. subst (IsValidRow (plain_for r text tree)) (sym (own_first text c.modulus r lt)) (good_row c.prefix c.modulus r lt covers)))

    -- ---- all classes

    record All (cs : List Class) : Type 0 where
      all : List ClassRows
      many : length all ≡ length cs
      shaped : EachClass IsShaped cs all
      valid : EachClass (AreValidRows tree m) cs all

    all_good : (cs : List Class) → Each (λ c. c.modulus ≤ 262144) cs → Each (IsClass (tree ∷ [])) cs → ((i : ℕ) (c : Class) → slice_get cs i ≡ Some c → AreCoveredBelow tree tree m c.prefix c.modulus) → All cs
    all_good [] small known covers = record { all = []; many = refl; shaped = tt; valid = tt }
    all_good (c ∷ cs) small known covers =
        let one = good_class c small.0 known.0 (covers 0 c refl) in
        let rest = all_good cs small.1 known.1 (λ i d e. covers (suc i) d e) in
        record { all = rows c small.0 ∷ rest.all; many = ap suc rest.many; shaped = (one.0, rest.shaped); valid = (one.1, rest.valid) }

-- ---- the table

get_within : (cs : List Class) (i : ℕ) (c : Class) → slice_get cs i ≡ Some c → i < length cs
get_within [] i c e = absurd (cc)
get_within (x ∷ cs) zero c e = omega arith
get_within (x ∷ cs) (suc i) c e = omega (arith, get_within cs i c e)

each_of : (P : Class → Type 0) (cs : List Class) → ((i : ℕ) (c : Class) → slice_get cs i ≡ Some c → P c) → Each P cs
each_of P [] f = tt
each_of P (c ∷ cs) f = (f 0 c refl, each_of P cs (λ i d e. f (suc i) d e))

once_at_least : (n m k : ℕ) → 0 < n → n * m ≤ k → m ≤ k
once_at_least zero m k some le = absurd (omega (arith, some))
once_at_least (suc n) m k some le = omega (arith, le)

-- what is covered everywhere has a certificate
pub certified : (tree : Route) (table : PlaceTable) → IsTree tree → IsTable (tree ∷ []) table → IsTwoEnd tree tree table.modulus table.classes.items tables.Covered → IsCertifiedBy tree table
certified tree table is t end =
    let cs = table.classes.items in
    let covers : (i : ℕ) (c : Class) → slice_get cs i ≡ Some c → AreCoveredBelow tree tree table.modulus c.prefix c.modulus = λ i c e. end i (get_within cs i c e) c e in
    let small : Each (λ c. c.modulus ≤ 262144) cs = each_of (λ c. c.modulus ≤ 262144) cs (λ i c e.
    let lt = get_within cs i c e in
    let w = class_within tree tree table (table_twice tree table t.is_table) i c e in
    let h = once_at_least (length cs) table.modulus 262144 (omega (arith, lt)) t.within in
    omega (arith, w, h)) in
    let good = all_good tree is table table.modulus cs small t.is_table.moduli covers in
    let certificate : Certificate = record { classes = record { ptr = table.classes.ptr; len = length good.all; cap = length good.all; alloc = table.classes.alloc; items = good.all; ok = (refl, omega arith); small = fits good.all good.many } } in
    (certificate, record { shaped = good.shaped; rows = good.valid })
  where
    fits : (all : List ClassRows) → length all ≡ length table.classes.items → length all < 2 ^ 63
    fits all e = let a = table.classes.ok.0 in let b = table.classes.ok.1 in let c = table.classes.small in omega (arith, e, a, b, c)
