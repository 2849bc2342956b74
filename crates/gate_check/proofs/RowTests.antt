-- Rows of servers that are taken, and the tests of a row.
use Rattle.std.proofs.Common.{◌≡◌, ◌↔◌, IsTrue, ℕ, ◌<◌, Bool, true, false, cond, not, ap, ◌&&◌, List, [], ◌∷◌, inl, inr, ⊎_elim, refl, sym, ◌∙◌, subst, arith, nat_eq, nat_lt, Result, Ok, Err, IfOk}
use Rattle.std.proofs.lemmas.Bool.{eqb-true, eq-eqb, leb-true, le-leb}
use Rattle.route_tree.specs.At.{plain_for}
use Rattle.route_tree.specs.Each.{Each, IsIn}
use Rattle.route_tree.specs.Plan.{Plan, IsGoodPlan}
use Rattle.route_tree.specs.Route.{Route, IsTree}
use Rattle.route_tree.proofs.PlainTrees.{plan_plain}
use Rattle.route_tree.proofs.Parts.{each_weaker}
use Rattle.gate_coverage.specs.declared.deleting.Deleting.{Deleting}
use Rattle.gate_coverage.specs.declared.deleting.Deleting.TheVariants as kinds
use Rattle.gate_coverage.specs.Computed.{cleared, is_taken}
use Rattle.gate_coverage.specs.Pools.{has, pool_server_at, servers_at, taken_pools}
use Rattle.gate_coverage.specs.Doubted.{doubts, doubted_pools}
use Rattle.gate_check.specs.TableRows.{IsRowOf}
use Rattle.gate_coverage.specs.Cover.{Clears, Covers}
use Rattle.gate_check.specs.Valid.{IsValidRow, IsRising}
use Rattle.gate_coverage.proofs.Choices.{both, both_split, either_left, either_right, either_split}
use Rattle.gate_coverage.proofs.Keeping.{cleared_is_exact}
use Rattle.gate_coverage.proofs.Finding.{taken_is_exact}
use Rattle.gate_coverage.proofs.SomeTaken.{takes, taken_takes}
use Rattle.gate_coverage.proofs.TakenPools.{pools_are_taken}
use Rattle.gate_coverage.proofs.SurePools.{sure}
use Rattle.gate_check.specs.Rows.{rises_above, rises, holds_all, all_cleared, HoldsTaken, IsTakenRow}

above : (x : ℕ) (ys : List ℕ) → rises_above x ys ≡ true → Each (λ y. x < y) ys × IsRising ys
above x [] h = (tt, tt)
above x (y ∷ ys) h =
    let t = both_split (nat_lt x y) (rises_above y ys) h in
    let lt : x < y = leb-true _ _ t.0 in
    let rest = above y ys t.1 in
    ((lt, each_weaker (λ z. y < z) (λ z. x < z) ys (λ z k. omega arith) rest.0), rest)

rises_is : (xs : List ℕ) → rises xs ≡ true → IsRising xs
rises_is [] h = tt
rises_is (x ∷ xs) h = above x xs h

is_above : (x : ℕ) (ys : List ℕ) → Each (λ y. x < y) ys → IsRising ys → rises_above x ys ≡ true
is_above x [] h r = refl
is_above x (y ∷ ys) h r = both (nat_lt x y) _ (le-leb _ _ h.0) (is_above y ys r.0 r.1)

is_rises : (xs : List ℕ) → IsRising xs → rises xs ≡ true
is_rises [] r = refl
is_rises (x ∷ xs) r = is_above x xs r.0 r.1

-- ---- servers held by a row

has_in : (xs : List ℕ) (s : ℕ) → has xs s ≡ true → IsIn s xs
has_in [] s h = absurd (cc)
has_in (x ∷ xs) s h = ⊎_elim (λ a. inl (sym (eqb-true x s a))) (λ b. inr (has_in xs s b)) (either_split (nat_eq x s) (has xs s) h)

in_has : (xs : List ℕ) (s : ℕ) → IsIn s xs → has xs s ≡ true
in_has [] s h = absurd h
in_has (x ∷ xs) s (inl e) = either_left (nat_eq x s) _ (eq-eqb x s (sym e))
in_has (x ∷ xs) s (inr h) = either_right (nat_eq x s) _ (in_has xs s h)

held : (row ss : List ℕ) → holds_all row ss ≡ true → (s : ℕ) → IsIn s ss → IsIn s row
held row [] h s i = absurd i
held row (x ∷ xs) h s i =
    let p = both_split (has row x) (holds_all row xs) h in
    ⊎_elim (λ (e : s ≡ x). subst (λ (n : ℕ). IsIn n row) (sym e) (has_in row x p.0)) (λ (r : IsIn s xs). held row xs p.1 s r) i

holding : (row ss : List ℕ) → ((s : ℕ) → IsIn s ss → IsIn s row) → holds_all row ss ≡ true
holding row [] f = refl
holding row (x ∷ xs) f = both (has row x) _ (in_has row x (f x (inl refl))) (holding row xs (λ s i. f s (inr i)))

-- ---- the row of what is taken

pub good_plain : (tree : Route) (text : List ℕ) (residue : ℕ) → IsTree tree → IsGoodPlan (plain_for residue text tree)
good_plain tree text residue is = (plan_plain residue text tree is).good

pub taken_row : (text : List ℕ) (tree : Route) (residue : ℕ) (row : List ℕ) → IsRowOf residue (taken_pools text tree) row → IsTakenRow (plain_for residue text tree) row
taken_row text tree residue row h = record {
  rising = h.rising;
  holds = λ s. h.holds s ∙ pools_are_taken text residue s tree;
}

holds_those : (plain : Plan) → IsGoodPlan plain → (row : List ℕ) → ((s : ℕ) → has row s ≡ is_taken plain s) → HoldsTaken plain row
holds_those plain good row those op taking s h = has_in row s (those s ∙ takes plain good op s taking ((taken_is_exact plain op s good).1 h))

pub holds_what_is_taken : (plain : Plan) → IsGoodPlan plain → (row : List ℕ) → IsTakenRow plain row → HoldsTaken plain row
holds_what_is_taken plain good row t = holds_those plain good row t.holds

module _ (plain : Plan) (good : IsGoodPlan plain) where
  clear_of : (row : List ℕ) → all_cleared plain row ≡ true → (s : ℕ) → IsIn s row → (kind : Deleting) → Clears plain kind s
  clear_of [] h s i kind = absurd i
  clear_of (x ∷ xs) h s i kind =
      let p = both_split (cleared plain x) (all_cleared plain xs) h in
      ⊎_elim (λ e. subst (Clears plain kind) (sym e) ((cleared_is_exact plain kind x good).0 p.0)) (λ r. clear_of xs p.1 s r kind) i

  of_clear : (row : List ℕ) → ((s : ℕ) → IsIn s row → (kind : Deleting) → Clears plain kind s) → all_cleared plain row ≡ true
  of_clear [] f = refl
  of_clear (x ∷ xs) f = both (cleared plain x) _ ((cleared_is_exact plain kinds.Delete x good).1 (f x (inl refl) kinds.Delete)) (of_clear xs (λ s i kind. f s (inr i) kind))

-- pools that aren't doubted are cleared
sure_more : (text : List ℕ) (tree : Route) (hash : ℕ) (p : List ℕ) (ps : List (List ℕ)) (b : Bool) → doubts text p tree ≡ b → (all_cleared (plain_for hash text tree) (servers_at hash (doubted_pools text tree ps)) ≡ true → all_cleared (plain_for hash text tree) (servers_at hash ps) ≡ true) → all_cleared (plain_for hash text tree) (servers_at hash (cond b (p ∷ doubted_pools text tree ps) (doubted_pools text tree ps))) ≡ true → all_cleared (plain_for hash text tree) (servers_at hash (p ∷ ps)) ≡ true
sure_more text tree hash p ps true e rest k =
    let plain = plain_for hash text tree in
    let two = both_split (cleared plain (pool_server_at hash p)) (all_cleared plain (servers_at hash (doubted_pools text tree ps))) k in
    both (cleared plain (pool_server_at hash p)) _ two.0 (rest two.1)
sure_more text tree hash p ps false e rest k = both (cleared (plain_for hash text tree) (pool_server_at hash p)) _ (ap not (sure text p hash tree e)) (rest k)

all_sure : (text : List ℕ) (tree : Route) (hash : ℕ) (pools : List (List ℕ)) → all_cleared (plain_for hash text tree) (servers_at hash (doubted_pools text tree pools)) ≡ true → all_cleared (plain_for hash text tree) (servers_at hash pools) ≡ true
all_sure text tree hash [] h = refl
all_sure text tree hash (p ∷ ps) h = sure_more text tree hash p ps (doubts text p tree) refl (all_sure text tree hash ps) h

-- where the doubted pools of what is taken are cleared, there is no gap
pub cleared_covers : (text : List ℕ) (residue : ℕ) (earlier later : Route) → IsTree earlier → IsTree later → all_cleared (plain_for residue text earlier) (servers_at residue (doubted_pools text earlier (taken_pools text later))) ≡ true → Covers (plain_for residue text earlier) (plain_for residue text later)
cleared_covers text residue earlier later is was h op taking s takes_it kind =
    let row = servers_at residue (taken_pools text later) in
    clear_of (plain_for residue text earlier) (good_plain earlier text residue is) row (all_sure text earlier residue (taken_pools text later) h) s
    (holds_those (plain_for residue text later) (good_plain later text residue was) row (λ t. pools_are_taken text residue t later) op taking s takes_it) kind

-- where there is no gap, all that is taken is cleared

pub covers_cleared : (earlier later : Plan) → IsGoodPlan earlier → IsGoodPlan later → (row : List ℕ) → IsTakenRow later row → Covers earlier later → all_cleared earlier row ≡ true
covers_cleared earlier later good is row t covers =
    of_clear earlier good row (λ s i kind. (let x = taken_takes later is s (sym (t.holds s) ∙ in_has row s i) in covers x.0 x.1 s x.2 kind))

-- ---- the tests of a row

module _ (plain : Plan) (good : IsGoodPlan plain) (taken : List ℕ) (t : IsTakenRow plain taken) where
  pub valid_of : (row : List ℕ) → (rises row && holds_all row taken && all_cleared plain row) ≡ true → IsValidRow plain row
  valid_of row h =
      let p = both_split (rises row && holds_all row taken) (all_cleared plain row) h in
      let q = both_split (rises row) (holds_all row taken) p.0 in
      record {
        rising = rises_is row q.0;
        holds_taken = λ op taking s takes_it. held row taken q.1 s (holds_what_is_taken plain good taken t op taking s takes_it);
        cleared = λ s i kind. clear_of plain good row p.1 s i kind;
      }

  of_valid : (row : List ℕ) → IsValidRow plain row → (rises row && holds_all row taken && all_cleared plain row) ≡ true
  of_valid row v =
      both (rises row && holds_all row taken) _
      (both (rises row) _ (is_rises row v.rising) (holding row taken (λ s i. (let x = taken_takes plain good s (sym (t.holds s) ∙ in_has taken s i) in v.holds_taken x.0 x.1 s x.2))))
      (of_clear plain good row v.cleared)

  pub valid_is_tested : (row : List ℕ) (b : Bool) → b ≡ (rises row && holds_all row taken && all_cleared plain row) → IsTrue b ↔ IsValidRow plain row
  valid_is_tested row b e = ((λ h. valid_of row (sym e ∙ h)), (λ v. e ∙ of_valid row v))

  pub taken_is_valid : (row : List ℕ) → row ≡ taken → all_cleared plain taken ≡ true → IsValidRow plain row
  taken_is_valid row e h = subst (IsValidRow plain) (sym e) (record {
    rising = t.rising;
    holds_taken = holds_what_is_taken plain good taken t;
    cleared = λ s i kind. clear_of plain good taken h s i kind;
  })

pub taken_row_if : {A B : Type 0} (text : List ℕ) (tree : Route) (pools : List (List ℕ)) (residue : ℕ) (row : List ℕ) (x : Result A B) → pools ≡ taken_pools text tree → IfOk x (λ _. IsRowOf residue pools row) → IfOk x (λ _. IsTakenRow (plain_for residue text tree) row)
taken_row_if text tree pools residue row (Ok a) e h = taken_row text tree residue row (subst (λ (l : List (List ℕ)). IsRowOf residue l row) e h)
taken_row_if text tree pools residue row (Err b) e h = tt
