-- Runs, one residue after another.
use Rattle.std.proofs.Common.{◌≡◌, ℕ, zero, suc, ◌+◌, ◌<◌, ◌≤◌, Bool, true, false, cond, List, [], ◌∷◌, ◌++◌, length, nat_le, slice_get, take, Option, Some, inl, inr, ⊎_elim, refl, sym, ap, ◌∙◌, subst, arith}
use Rattle.std.specs.Prelude.{slice_index_or}
use Rattle.std.proofs.lemmas.Bool.{cases_lt}
use Rattle.route_tree.specs.Route.{Route}
use Rattle.route_tree.specs.Place.{tree_at_place}
use Rattle.route_tree.proofs.Parts.{each_at}
use Rattle.gate_check.specs.declared.places.table.Class.{Class}
use Rattle.gate_check.specs.declared.places.table.Run.{Run}
use Rattle.gate_check.specs.declared.places.table.ClassRows.{ClassRows}
use Rattle.gate_check.specs.declared.places.table.PlaceTable.{PlaceTable}
use Rattle.gate_check.specs.Places.{place_at}
use Rattle.gate_check.specs.Tables.{IsTable}
use Rattle.gate_check.specs.Valid.{AreAfter, AreRuns, EachClass, IsClass, run_at}
use Rattle.gate_check.specs.Proposed.{last_of, IsLastRun, IsWithRun, AreProposed, IsValidIfCovered}
use Rattle.gate_check.proofs.PlacesAnswering.{at_index}

-- the runs of all residues below this one
abbrev AreRunsBelow : ℕ → List Run → Type 0
AreRunsBelow n [] = n ≡ 0
AreRunsBelow n (run ∷ runs) = (0 < n) × AreRuns n (run ∷ runs)

-- and what each of them is to be
abbrev pub AreRowsBelow : Route → Option (List ℕ) → ℕ → ℕ → List Run → Type 0
AreRowsBelow tree prefix modulus n runs =
    AreRunsBelow n runs
    × ((r : ℕ) → r < n → IsValidIfCovered (tree_at_place tree (place_at prefix r modulus)) (run_at [] runs r))

at_most : (a b : ℕ) → a ≤ b → nat_le a b ≡ true
at_most a b h = grind arith

not_most : (a b : ℕ) → b < a → nat_le a b ≡ false
not_most a b h = grind arith

after_more : (last n : ℕ) (xs : List Run) (run : Run) → AreAfter last n xs → last < n → run.first ≡ n → AreAfter last (suc n) (xs ++ run ∷ [])
after_more last n [] run h lt e = (omega (arith, lt, e), omega (arith, e), tt)
after_more last n (x ∷ xs) run h lt e = (h.0, omega (arith, h.1), after_more x.first n xs run h.2 h.1 e)

runs_more : (n : ℕ) (xs : List Run) (run : Run) → AreRunsBelow n xs → run.first ≡ n → AreRunsBelow (suc n) (xs ++ run ∷ [])
runs_more n [] run h e = (omega arith, (e ∙ h, tt))
runs_more n (x ∷ xs) run h e = (omega arith, (h.1.0, after_more 0 n xs run h.1.1 h.0 e))

run_at_front : (s : List ℕ) (xs : List Run) (run : Run) (r : ℕ) → r < run.first → run_at s (xs ++ run ∷ []) r ≡ run_at s xs r
run_at_front s [] run r lt = ap (λ (t : Bool). cond t run.servers.items s) (not_most run.first r lt)
run_at_front s (x ∷ xs) run r lt = ap (λ (l : List ℕ). cond (nat_le x.first r) l s) (run_at_front x.servers.items xs run r lt)

run_at_last : (s : List ℕ) (last : ℕ) (xs : List Run) (run : Run) (n : ℕ) → AreAfter last n xs → run.first ≡ n → run_at s (xs ++ run ∷ []) n ≡ run.servers.items
run_at_last s last [] run n h e = ap (λ (t : Bool). cond t run.servers.items s) (at_most run.first n (omega (arith, e)))
run_at_last s last (x ∷ xs) run n h e =
    ap (λ (t : Bool). cond t (run_at x.servers.items (xs ++ run ∷ []) n) s) (at_most x.first n (let lt = h.1 in omega (arith, lt)))
    ∙ run_at_last x.servers.items x.first xs run n h.2 e

run_at_new : (xs : List Run) (run : Run) (n : ℕ) → AreRunsBelow n xs → run.first ≡ n → run_at [] (xs ++ run ∷ []) n ≡ run.servers.items
run_at_new [] run n h e = run_at_last [] 0 [] run n tt e
run_at_new (x ∷ xs) run n h e =
    ap (λ (t : Bool). cond t (run_at x.servers.items (xs ++ run ∷ []) n) []) (at_most x.first n (let z = h.1.0 in omega (arith, z)))
    ∙ run_at_last x.servers.items 0 xs run n h.1.1 e

-- one run more
pub rows_more : (tree : Route) (prefix : Option (List ℕ)) (modulus n : ℕ) (xs : List Run) (run : Run) → AreRowsBelow tree prefix modulus n xs → run.first ≡ n → IsValidIfCovered (tree_at_place tree (place_at prefix n modulus)) run.servers.items → AreRowsBelow tree prefix modulus (suc n) (xs ++ run ∷ [])
rows_more tree prefix modulus n xs run h e v = (runs_more n xs run h.0 e, all)
  where
    all : (r : ℕ) → r < suc n → IsValidIfCovered (tree_at_place tree (place_at prefix r modulus)) (run_at [] (xs ++ run ∷ []) r)
    all r lt =
        ⊎_elim
        (λ (less : r < n). subst (IsValidIfCovered (tree_at_place tree (place_at prefix r modulus))) (sym (run_at_front [] xs run r (omega (arith, less, e)))) (h.1 r less))
        (λ (le : n ≤ r).
        let same : n ≡ r = omega (arith, le, lt) in
        subst (λ (q : ℕ). IsValidIfCovered (tree_at_place tree (place_at prefix q modulus)) (run_at [] (xs ++ run ∷ []) q)) same
        (subst (IsValidIfCovered (tree_at_place tree (place_at prefix n modulus))) (sym (run_at_new xs run n h.0 e)) v))
        (cases_lt r n)

one : (n : ℕ) → suc n ≡ n + 1
one n = omega arith

pub rows_next : (tree : Route) (prefix : Option (List ℕ)) (modulus n : ℕ) (xs : List Run) (run : Run) → AreRowsBelow tree prefix modulus n xs → run.first ≡ n → IsValidIfCovered (tree_at_place tree (place_at prefix n modulus)) run.servers.items → AreRowsBelow tree prefix modulus (n + 1) (xs ++ run ∷ [])
rows_next tree prefix modulus n xs run h e v = subst (λ (k : ℕ). AreRowsBelow tree prefix modulus k (xs ++ run ∷ [])) (one n) (rows_more tree prefix modulus n xs run h e v)

-- ---- going on with the last run

after_wider : (last n : ℕ) (xs : List Run) → AreAfter last n xs → AreAfter last (suc n) xs
after_wider last n [] h = tt
after_wider last n (x ∷ xs) h = (h.0, (let k = h.1 in omega (arith, k)), after_wider x.first n xs h.2)

runs_wider : (n : ℕ) (xs : List Run) → 0 < length xs → AreRunsBelow n xs → AreRunsBelow (suc n) xs
runs_wider n [] some h = absurd (omega (arith, some))
runs_wider n (x ∷ xs) some h = (omega arith, (h.1.0, after_wider 0 n xs h.1.1))

run_at_end : (s : List ℕ) (last n : ℕ) (xs : List Run) → AreAfter last n xs → run_at s xs n ≡ last_of s xs
run_at_end s last n [] h = refl
run_at_end s last n (x ∷ xs) h =
    ap (λ (t : Bool). cond t (run_at x.servers.items xs n) s) (at_most x.first n (let lt = h.1 in omega (arith, lt)))
    ∙ run_at_end x.servers.items x.first n xs h.2

run_at_last_of : (n : ℕ) (xs : List Run) → 0 < length xs → AreRunsBelow n xs → run_at [] xs n ≡ last_of [] xs
run_at_last_of n [] some h = refl
run_at_last_of n (x ∷ xs) some h =
    ap (λ (t : Bool). cond t (run_at x.servers.items xs n) []) (at_most x.first n (let z = h.1.0 in omega (arith, z)))
    ∙ run_at_end x.servers.items 0 n xs h.1.1

rows_joined : (tree : Route) (prefix : Option (List ℕ)) (modulus n : ℕ) (xs : List Run) (servers : List ℕ) → AreRowsBelow tree prefix modulus n xs → IsLastRun xs servers → IsValidIfCovered (tree_at_place tree (place_at prefix n modulus)) servers → AreRowsBelow tree prefix modulus (suc n) xs
rows_joined tree prefix modulus n xs servers h l v = (runs_wider n xs l.0 h.0, all)
  where
    all : (r : ℕ) → r < suc n → IsValidIfCovered (tree_at_place tree (place_at prefix r modulus)) (run_at [] xs r)
    all r lt =
        ⊎_elim (λ (less : r < n). h.1 r less)
        (λ (le : n ≤ r).
        let same : n ≡ r = omega (arith, le, lt) in
        subst (λ (q : ℕ). IsValidIfCovered (tree_at_place tree (place_at prefix q modulus)) (run_at [] xs q)) same
        (subst (IsValidIfCovered (tree_at_place tree (place_at prefix n modulus))) (sym (run_at_last_of n xs l.0 h.0 ∙ l.1)) v))
        (cases_lt r n)

-- the runs with those of one residue more
pub rows_with : (tree : Route) (prefix : Option (List ℕ)) (modulus n : ℕ) (xs ys : List Run) (servers : List ℕ) → AreRowsBelow tree prefix modulus n xs → IsValidIfCovered (tree_at_place tree (place_at prefix n modulus)) servers → IsWithRun n servers xs ys → AreRowsBelow tree prefix modulus (n + 1) ys
rows_with tree prefix modulus n xs ys servers h v (inl w) =
    subst (λ (l : List Run). AreRowsBelow tree prefix modulus (n + 1) l) (sym w.1)
    (subst (λ (k : ℕ). AreRowsBelow tree prefix modulus k xs) (one n) (rows_joined tree prefix modulus n xs servers h w.0 v))
rows_with tree prefix modulus n xs ys servers h v (inr w) =
    subst (λ (l : List Run). AreRowsBelow tree prefix modulus (n + 1) l) (sym w.3)
    (rows_next tree prefix modulus n xs w.0 h w.1 (subst (IsValidIfCovered (tree_at_place tree (place_at prefix n modulus))) (sym w.2) v))

-- the last run's servers
pub last_is : (servers : List ℕ) (xs : List Run) (n : ℕ) (run : Run) → n + 1 ≡ length xs → run ≡ slice_index_or xs n run → last_of servers xs ≡ run.servers.items
last_is servers [] n run e is = absurd (omega (arith, e))
last_is servers (x ∷ []) zero run e is = ap (λ (r : Run). r.servers.items) (sym is)
last_is servers (x ∷ []) (suc n) run e is = absurd (omega (arith, e))
last_is servers (x ∷ y ∷ xs) zero run e is = absurd (omega (arith, e))
last_is servers (x ∷ y ∷ xs) (suc n) run e is = last_is x.servers.items (y ∷ xs) n run (omega (arith, e)) is

runs_are : (n : ℕ) (xs : List Run) → 0 < n → AreRunsBelow n xs → AreRuns n xs
runs_are n [] some h = absurd (omega (arith, some, h))
runs_are n (x ∷ xs) some h = h.1

-- the runs of all residues are what is proposed
pub proposed_is : (tree : Route) (modulus : ℕ) (class : Class) (rows : ClassRows) → 0 < class.modulus → rows.modulus ≡ class.modulus → AreRowsBelow tree class.prefix modulus class.modulus rows.runs.items → AreProposed tree modulus class rows
proposed_is tree modulus class rows some e h = ((e, runs_are class.modulus rows.runs.items some h.0), h.1)

pub each_class_more : (P : Class → ClassRows → Type 0) (cs : List Class) (rs : List ClassRows) (c : Class) (r : ClassRows) → EachClass P cs rs → P c r → EachClass P (cs ++ c ∷ []) (rs ++ r ∷ [])
each_class_more P [] [] c r h p = (p, tt)
each_class_more P [] (y ∷ rs) c r h p = absurd h
each_class_more P (x ∷ cs) [] c r h p = absurd h
each_class_more P (x ∷ cs) (y ∷ rs) c r h p = (h.0, each_class_more P cs rs c r h.1 p)

pub some_modulus : (tree : Route) (table : PlaceTable) (i : ℕ) (d : Class) → IsTable (tree ∷ []) table → i < length table.classes.items → d ≡ slice_index_or table.classes.items i d → 0 < d.modulus
some_modulus tree table i d t lt e = (each_at (IsClass (tree ∷ [])) table.classes.items i d t.is_table.moduli (at_index table.classes.items i d lt e)).some

take_at : (xs : List Class) (i : ℕ) (d : Class) → slice_get xs i ≡ Some d → take (suc i) xs ≡ take i xs ++ d ∷ []
take_at [] i d e = absurd (cc)
take_at (x ∷ xs) zero d e = let s : x ≡ d = cc in ap (λ (y : Class). y ∷ []) s
take_at (x ∷ xs) (suc i) d e = ap (λ (l : List Class). x ∷ l) (take_at xs i d e)

pub class_more : (tree : Route) (m : ℕ) (cs : List Class) (rs ss : List ClassRows) (i : ℕ) (c : Class) (r : ClassRows) → EachClass (AreProposed tree m) (take i cs) rs → i < length cs → c ≡ slice_index_or cs i c → AreProposed tree m c r → ss ≡ rs ++ r ∷ [] → EachClass (AreProposed tree m) (take (i + 1) cs) ss
class_more tree m cs rs ss i c r h lt e p is =
    subst (λ (l : List Class). EachClass (AreProposed tree m) l ss) (sym (take_at cs i c (at_index cs i c lt e)) ∙ ap (λ (k : ℕ). take k cs) (one i))
    (subst (λ (l : List ClassRows). EachClass (AreProposed tree m) (take i cs ++ c ∷ []) l) (sym is) (each_class_more (AreProposed tree m) (take i cs) rs c r h p))
