-- Pages: servers that no tree names are alike, and one tree more.
use Rattle.std.proofs.Common.{◌≡◌, ℕ, ◌<◌, ◌≤◌, Bool, true, false, cond, ◌||◌, List, [], ◌∷◌, ◌++◌, length, Option, Some, None, MatchOption, inl, inr, ⊎_elim, refl, sym, subst, arith, nat_eq, slice_get}
use Rattle.std.proofs.lemmas.Bool.{eqb-true, eq-eqb}
use Rattle.mc_types.specs.declared.ask.Ask.{Ask}
use Rattle.mc_types.specs.declared.call.Origin.TheVariants.{Client}
use Rattle.fresh_runs.specs.Calls.{Call}
use Rattle.fresh_runs.specs.Cover.{ClearsIn}
use Rattle.route_tree.specs.Each.{Each, IsIn}
use Rattle.route_tree.specs.Plan.{Plan}
use Rattle.route_tree.specs.Servers.{servers}
use Rattle.route_tree.specs.Word.{Given, PlanWord}
use Rattle.route_tree.proofs.Parts.{each_at, each_weaker}
use Rattle.route_tree.proofs.Places.{each_append}
use Rattle.route_tree.proofs.Servers.{calls_stay}
use Rattle.gate_coverage.proofs.Choices.{either_left, either_right, either_split, bool_is}
use Rattle.gate_growth.specs.Puts.{Puts}
use Rattle.gate_growth.specs.declared.ledger.mark.Mark.{Mark}
use Rattle.gate_growth.specs.declared.ledger.row.Cell.{Cell}
use Rattle.gate_growth.specs.declared.ledger.row.Refused.{Refused}
use Rattle.gate_growth.specs.declared.ledger.page.Beginning.{Beginning}
use Rattle.gate_growth.specs.declared.ledger.page.Beginning.TheVariants.{Any, Own}
use Rattle.gate_growth.specs.Marks.{IsTaken, IsClear, Leaves, NoneLeaves, IsFirstLeft, MayStandAfter, IsRefusedFor, IsMarkOf}
use Rattle.gate_growth.specs.Rows.{cell_servers, AreCellsOf, RefusedNotAfter, IfRefused}
use Rattle.gate_growth.specs.Pages.{is_any, AreBegun, unnamed_mark, has_cell, with_cell, HasCells, IsPageOf, IsPageWith, IfRefusedOf}
use Rattle.gate_growth.proofs.Marking.{none_held}

-- ---- a server that a plain tree doesn't name

no_clears : (xs : List ℕ) (s : ℕ) → (IsIn s xs → ⊥) → (calls : List Call) → Each (λ (c : Call). IsIn c.server xs) calls → ClearsIn calls s → ⊥
no_clears xs s none [] stay h = h
no_clears xs s none (c ∷ calls) stay (inl h) = none (subst (λ x. IsIn x xs) h.0 stay.0)
no_clears xs s none (c ∷ calls) stay (inr h) = no_clears xs s none calls stay.1 h

-- a call of a word is of a server that the plain tree names
called : (plain : Plan) (s : ℕ) (ask : Ask) (calls : List Call) (given : Given) → PlanWord plain ask Client 0 calls given → (i : ℕ) (call : Call) → slice_get calls i ≡ Some call → call.server ≡ s → IsIn s (servers plain)
called plain s ask calls given w i call got is =
    subst (λ x. IsIn x (servers plain)) is (each_at (λ (c : Call). IsIn c.server (servers plain)) calls i call (calls_stay plain ask Client 0 calls given w).1 got)

pub put_named : (plain : Plan) (s : ℕ) → Puts plain s → IsIn s (servers plain)
put_named plain s h = let p = h.6 in called plain s h.0 h.2 (record { reply = h.3; from = h.4 }) h.5 p.0 p.1 p.2 p.3

pub taken_named : (plain : Plan) (s : ℕ) → IsTaken plain s → IsIn s (servers plain)
taken_named plain s h =
    let t = h.2 in
    let takes = t.7 in
    let call = takes.1 in
    called plain s t.0 t.3 (record { reply = t.4; from = t.5 }) t.6 takes.0 call.0 call.1 call.2

-- where a server that it doesn't name is cleared, each server is: no delete is acknowledged
pub all_clear : (plain : Plan) (s : ℕ) → (IsIn s (servers plain) → ⊥) → (t : ℕ) → IsClear plain s → IsClear plain t
all_clear plain s none t clear kind ask is op dialect calls reply from word ack =
    absurd (no_clears (servers plain) s none calls (calls_stay plain ask Client 0 calls (record { reply = reply; from = from }) word).1 (clear kind ask is op dialect calls reply from word ack))

-- no tree of the list names it
abbrev pub AreWithout : ℕ → List Plan → Type 0
AreWithout s plans = Each (λ p. IsIn s (servers p) → ⊥) plans

-- ---- marks of arbitrary servers that no tree names are the same

module _ (plans : List Plan) (s t : ℕ) (none_s : AreWithout s plans) (none_t : AreWithout t plans) where
  leaves_same : (i : ℕ) → Leaves true plans i s → Leaves true plans i t
  leaves_same i h = (h.0, h.1, inl refl, (λ clear. h.3 (all_clear h.0 t (each_at (λ p. IsIn t (servers p) → ⊥) plans i h.0 none_t h.1) s clear)))

module _ (plans : List Plan) (s t : ℕ) (none_s : AreWithout s plans) (none_t : AreWithout t plans) where
  first_same : (left : Option ℕ) → MatchOption left (NoneLeaves true plans s) (IsFirstLeft true plans s) → MatchOption left (NoneLeaves true plans t) (IsFirstLeft true plans t)
  first_same None h = λ i leaves. h i (leaves_same plans t s none_t none_s i leaves)
  first_same (Some g) h = (leaves_same plans s t none_s none_t g h.0, (λ i lt leaves. h.1 i lt (leaves_same plans t s none_t none_s i leaves)))

  pub mark_same : (others : Option ℕ) → IsMarkOf true plans s (unnamed_mark Any others) → IsMarkOf true plans t (unnamed_mark Any others)
  mark_same others of = record { holds = ((λ _. inl refl), (λ _. refl)); first = first_same others of.first }

-- ---- cells

in_append : (xs : List Cell) (c : Cell) (s : ℕ) → IsIn s (cell_servers xs) → IsIn s (cell_servers (xs ++ c ∷ []))
in_append [] c s h = absurd h
in_append (x ∷ xs) c s (inl e) = inl e
in_append (x ∷ xs) c s (inr h) = inr (in_append xs c s h)

in_last : (xs : List Cell) (c : Cell) → IsIn c.server (cell_servers (xs ++ c ∷ []))
in_last [] c = inl refl
in_last (x ∷ xs) c = inr (in_last xs c)

each_last : (P : ℕ → Type 0) (xs : List Cell) (c : Cell) → Each P (cell_servers xs) → P c.server → Each P (cell_servers (xs ++ c ∷ []))
each_last P [] c h p = (p, tt)
each_last P (x ∷ xs) c h p = (h.0, each_last P xs c h.1 p)

-- what each cell's server has, a server that has a cell has
pub of_cell : (Q : ℕ → Type 0) (cells : List Cell) (s : ℕ) → Each (λ (c : Cell). Q c.server) cells → IsIn s (cell_servers cells) → Q s
of_cell Q [] s h i = absurd i
of_cell Q (c ∷ cells) s h (inl e) = subst Q (sym e) h.0
of_cell Q (c ∷ cells) s h (inr i) = of_cell Q cells s h.1 i

of_each : (P : ℕ → Type 0) (xs : List ℕ) (s : ℕ) → Each P xs → IsIn s xs → P s
of_each P [] s h i = absurd i
of_each P (x ∷ xs) s h (inl e) = subst P (sym e) h.0
of_each P (x ∷ xs) s h (inr i) = of_each P xs s h.1 i

-- a server that the tree names has a cell
pub has_cell_of : (cells : List Cell) (plan : Plan) → HasCells cells plan → (s : ℕ) → IsIn s (servers plan) → IsIn s (cell_servers cells)
has_cell_of cells plan have s i = of_each (λ x. IsIn x (cell_servers cells)) (servers plan) s have i

pub without : (s : ℕ) (cells : List Cell) (plans : List Plan) → (IsIn s (cell_servers cells) → ⊥) → Each (HasCells cells) plans → AreWithout s plans
without s cells plans none named = each_weaker (HasCells cells) (λ p. IsIn s (servers p) → ⊥) plans (λ p have i. none (has_cell_of cells p have s i)) named

module _ (arbitrary : ℕ → Bool) (plans : List Plan) (bound : ℕ) (others : Option ℕ) where
  -- the mark of a new cell
  new_mark : (cells : List Cell) (s : ℕ) (b : Beginning) → IsPageOf arbitrary plans bound cells others → (IsIn s (cell_servers cells) → ⊥) → arbitrary s ≡ is_any b → IsMarkOf (arbitrary s) plans s (unnamed_mark b others)
  new_mark cells s Any page none e = subst (λ a. IsMarkOf a plans s (unnamed_mark Any others)) (sym e) (page.others s none)
  new_mark cells s Own page none e =
      let bare : Each (λ p. Puts p s → ⊥) plans = each_weaker (λ p. IsIn s (servers p) → ⊥) (λ p. Puts p s → ⊥) plans (λ p un put. un (put_named p s put)) (without s cells plans none page.named) in
      subst (λ a. IsMarkOf a plans s (unnamed_mark Own others)) (sym e) (record {
        holds = ((λ f. absurd cc), (λ h. absurd (none_held plans s (length plans) bare h)));
        first = λ i leaves. none_held plans s _ bare leaves.2;
      })

  pub one_cell : (begun : List Beginning) → AreBegun arbitrary begun → (cells : List Cell) (s : ℕ) (b : Beginning) → s < bound → slice_get begun s ≡ Some b → IsPageOf arbitrary plans bound cells others → (IsIn s (cell_servers cells) → ⊥) → IsPageOf arbitrary plans bound (cells ++ record { server = s; mark = unnamed_mark b others } ∷ []) others
  one_cell begun are cells s b lt got page none =
      let cell : Cell = record { server = s; mark = unnamed_mark b others } in
      record {
        marks = each_append (λ (c : Cell). IsMarkOf (arbitrary c.server) plans c.server c.mark) cells (cell ∷ []) page.marks (new_mark cells s b page none (are s b got), tt);
        below = each_last (λ x. x < bound) cells cell page.below lt;
        named = each_weaker (HasCells cells) (HasCells (cells ++ cell ∷ [])) plans (λ p have. each_weaker (λ x. IsIn x (cell_servers cells)) (λ x. IsIn x (cell_servers (cells ++ cell ∷ []))) (servers p) (λ x i. in_append cells cell x i) have) page.named;
        others = λ x un. page.others x (λ i. un (in_append cells cell x i));
      }

  -- ---- refusals of all servers

  pub all_refused : (later : Plan) (cells : List Cell) (found : Option Refused) → HasCells cells later → IfRefused arbitrary plans later cells found → IfRefusedOf arbitrary plans later found
  all_refused later cells None have h = λ s taken. of_cell (λ x. MayStandAfter (arbitrary x) plans later x) cells s h (has_cell_of cells later have s (taken_named later s taken)) taken
  all_refused later cells (Some r) have h = record {
    refused = h.refused;
    first = λ s g refused. of_cell (λ x. (g' : ℕ) → IsRefusedFor (arbitrary x) plans later x g' → RefusedNotAfter r x g') cells s h.first (has_cell_of cells later have s (taken_named later s refused.0)) g refused;
  }

-- ---- one tree more

module _ (arbitrary : ℕ → Bool) (plans : List Plan) (later : Plan) (bound : ℕ) where
  -- a server that isn't below the bound has no cell
  no_cell : (cells : List Cell) (s : ℕ) → bound ≤ s → Each (λ x. x < bound) (cell_servers cells) → IsIn s (cell_servers cells) → ⊥
  no_cell cells s le below i = let lt : s < bound = of_each (λ x. x < bound) (cell_servers cells) s below i in omega (arith, lt, le)

  pub page_after : (old new : List Cell) (others after : Option ℕ) → IsPageOf arbitrary plans bound old others → HasCells old later → cell_servers new ≡ cell_servers old → AreCellsOf arbitrary (plans ++ later ∷ []) new → (IsMarkOf true plans bound (unnamed_mark Any others) → IsMarkOf true (plans ++ later ∷ []) bound (unnamed_mark Any after)) → IsPageOf arbitrary (plans ++ later ∷ []) bound new after
  page_after old new others after page have same marks follows =
      let more = plans ++ later ∷ [] in
      let named_old : Each (HasCells old) more = each_append (HasCells old) plans (later ∷ []) page.named (have, tt) in
      let named : Each (HasCells new) more = subst (λ xs. Each (λ p. Each (λ s. IsIn s xs) (servers p)) more) (sym same) named_old in
      let below : Each (λ x. x < bound) (cell_servers new) = subst (Each (λ x. x < bound)) (sym same) page.below in
      let no_old = no_cell old bound (let h : bound ≤ bound = omega arith in h) page.below in
      let no_new = no_cell new bound (let h : bound ≤ bound = omega arith in h) below in
      let at = follows (page.others bound no_old) in
      record {
        marks = marks;
        below = below;
        named = named;
        others = λ s none. mark_same more bound s (without bound new more no_new named) (without s new more none named) after at;
      }

-- ---- cells of several servers

pub has_cell_in : (cells : List Cell) (s : ℕ) → has_cell cells s ≡ true → IsIn s (cell_servers cells)
has_cell_in [] s e = absurd cc
has_cell_in (c ∷ cells) s e = ⊎_elim (λ h. inl (sym (eqb-true c.server s h))) (λ h. inr (has_cell_in cells s h)) (either_split (nat_eq c.server s) (has_cell cells s) e)

pub has_no_cell : (cells : List Cell) (s : ℕ) → has_cell cells s ≡ false → IsIn s (cell_servers cells) → ⊥
has_no_cell [] s e i = i
has_no_cell (c ∷ cells) s e (inl is) = let t : (nat_eq c.server s || has_cell cells s) ≡ true = either_left (nat_eq c.server s) (has_cell cells s) (eq-eqb c.server s (sym is)) in cc
has_no_cell (c ∷ cells) s e (inr i) =
    has_no_cell cells s (⊎_elim (λ (t : has_cell cells s ≡ true). absurd (let u : (nat_eq c.server s || has_cell cells s) ≡ true = either_right (nat_eq c.server s) (has_cell cells s) t in cc)) (λ f. f) (bool_is (has_cell cells s))) i

module _ (arbitrary : ℕ → Bool) (plans : List Plan) (bound : ℕ) (others : Option ℕ) (begun : List Beginning) (are : AreBegun arbitrary begun) where
  -- one server more, unless it has a cell
  one_more : (cells : List Cell) (s : ℕ) (b : Beginning) → s < bound → slice_get begun s ≡ Some b → IsPageOf arbitrary plans bound cells others → IsPageWith arbitrary plans bound cells others (s ∷ []) (with_cell cells (record { server = s; mark = unnamed_mark b others }))
  one_more cells s b lt got page =
      let cell : Cell = record { server = s; mark = unnamed_mark b others } in
      (elim (has_cell cells s) as (λ t. has_cell cells s ≡ t → IsPageWith arbitrary plans bound cells others (s ∷ []) (cond t cells (cells ++ cell ∷ []))) [
        | true ↦ λ e. record { page = page; kept = λ x i. i; have = (has_cell_in cells s e, tt) }
        | false ↦ λ e. record {
          page = one_cell arbitrary plans bound others begun are cells s b lt got page (has_no_cell cells s e);
          kept = λ x i. in_append cells cell x i;
          have = (in_last cells cell, tt);
        }
      ]) refl

  pub no_more_cells : (cells : List Cell) → IsPageOf arbitrary plans bound cells others → IsPageWith arbitrary plans bound cells others [] cells
  no_more_cells cells page = record { page = page; kept = λ x i. i; have = tt }

  pub more_cells : (cells : List Cell) (s : ℕ) (b : Beginning) (rest : List ℕ) (new : List Cell) → s < bound → slice_get begun s ≡ Some b → IsPageOf arbitrary plans bound cells others
      → (IsPageOf arbitrary plans bound (with_cell cells (record { server = s; mark = unnamed_mark b others })) others → IsPageWith arbitrary plans bound (with_cell cells (record { server = s; mark = unnamed_mark b others })) others rest new)
      → IsPageWith arbitrary plans bound cells others (s ∷ rest) new
  more_cells cells s b rest new lt got page goes =
      let one = one_more cells s b lt got page in
      let all = goes one.page in
      record { page = all.page; kept = λ x i. all.kept x (one.kept x i); have = (all.kept s one.have.0, all.have) }

-- more servers may have a cell
pub bound_more : (arbitrary : ℕ → Bool) (plans : List Plan) (bound bound' : ℕ) (cells : List Cell) (others : Option ℕ) → bound ≤ bound' → IsPageOf arbitrary plans bound cells others → IsPageOf arbitrary plans bound' cells others
bound_more arbitrary plans bound bound' cells others le page = record {
  marks = page.marks;
  below = each_weaker (λ s. s < bound) (λ s. s < bound') (cell_servers cells) (λ s lt. omega (arith, lt, le)) page.below;
  named = page.named;
  others = page.others;
}

-- the page of no trees
pub no_page : (arbitrary : ℕ → Bool) (bound : ℕ) → IsPageOf arbitrary [] bound [] None
no_page arbitrary bound = record {
  marks = tt;
  below = tt;
  named = tt;
  others = λ s none. record { holds = ((λ _. inl refl), (λ _. refl)); first = λ i leaves. (let e = leaves.1 in cc) };
}

-- an arbitrary server may hold anything, whatever its mark says
pub any_mark : (plans : List Plan) (s : ℕ) (mark : Mark) → IsMarkOf true plans s mark → IsMarkOf true plans s (unnamed_mark Any mark.left)
any_mark plans s mark of = record { holds = ((λ _. inl refl), (λ _. refl)); first = of.first }
