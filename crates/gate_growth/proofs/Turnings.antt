-- The pages of a class after one tree more, of one place after another, and those of several classes.
use Rattle.std.proofs.Common.{◌≡◌, ℕ, suc, ◌+◌, ◌%◌, ◌<◌, ◌≤◌, Bool, List, [], ◌∷◌, ◌++◌, length, Option, Some, None, ⊎_elim, sym, ap, ◌∙◌, subst, arith, slice_get}
use Rattle.std.proofs.lemmas.Bool.{cases_lt}
use Rattle.std.proofs.lemmas.List.{map-append}
use Rattle.fresh_runs.proofs.Stamps.{get_left, get_seam}
use Rattle.route_tree.specs.declared.place.Place.{Place}
use Rattle.route_tree.specs.Plan.{Plan}
use Rattle.route_tree.specs.Route.{Route}
use Rattle.route_tree.specs.Place.{prefix_text}
use Rattle.route_tree.proofs.Parts.{each_at}
use Rattle.route_tree.proofs.Places.{each_append}
use Rattle.gate_check.specs.Places.{place_at}
use Rattle.gate_check.specs.Valid.{all_prefixes}
use Rattle.gate_growth.specs.declared.ledger.page.Page.{Page}
use Rattle.gate_growth.specs.declared.ledger.class.ClassPages.{ClassPages}
use Rattle.gate_growth.specs.declared.ledger.turning.Successor.{Successor}
use Rattle.gate_growth.specs.declared.ledger.turning.LeftGap.{LeftGap}
use Rattle.gate_growth.specs.Grown.{plans_at}
use Rattle.gate_growth.specs.Pages.{IsPageOf}
use Rattle.gate_growth.specs.Classes.{class_prefixes, IsBest, IsBestAt, ArePagesBelow, ArePagesOf}
use Rattle.gate_growth.specs.PlaceRows.{rows_below, place_rows}
use Rattle.gate_growth.specs.LeftGaps.{IfFirstLeft, earlier}
use Rattle.gate_growth.specs.Turning.{AreBefore, AreKnown, TurnsTrees, TurnsPage, TurnsGap}
use Rattle.gate_growth.proofs.Paging.{bound_more}
use Rattle.gate_growth.proofs.Coarse.{plans_coarse, best_tests}
use Rattle.gate_growth.proofs.RowPlaces.{rows_append, rows_one}
use Rattle.gate_growth.proofs.FirstLeft.{earlier_first, one_row}

-- the pages of the class of this prefix, at its places with remainders below n, after one tree more: whatever the trees were
abbrev pub TurnsBelow : List ClassPages → Successor → Option (List ℕ) → List Page → ℕ → Option LeftGap → Type 0
TurnsBelow known step prefix pages n gap =
    (arbitrary : ℕ → Bool) (trees : List Route) (modulus bound : ℕ) → AreBefore arbitrary trees step.number step.begun.now → bound ≤ length step.begun.now
    → AreKnown arbitrary trees modulus bound known
    → ArePagesBelow arbitrary (trees ++ step.tree.now ∷ []) prefix step.modulus (length step.begun.now) pages n × IfFirstLeft arbitrary trees step.tree.now (rows_below prefix step.modulus n) gap

-- ---- one place

module _ (known : List ClassPages) (step : Successor) (prefix : Option (List ℕ)) (class : ClassPages) (i : ℕ) (at : slice_get known i ≡ Some class) (best : IsBestAt known (prefix_text prefix) i) where
  -- what was known of it
  known_page : (arbitrary : ℕ → Bool) (trees : List Route) (m bound : ℕ) → bound ≤ length step.begun.now → AreKnown arbitrary trees m bound known → (r : ℕ) (page : Page) → slice_get class.pages.items (r % length class.pages.items) ≡ Some page
      → IsPageOf arbitrary (plans_at (place_at prefix r step.modulus) trees) (length step.begun.now) page.cells.items page.others
  known_page arbitrary trees m bound le k r page got =
      let of : ArePagesOf arbitrary trees m bound class = each_at (ArePagesOf arbitrary trees m bound) known i class k.pages at in
      let some = k.rows.least.some in
      let low : r % m < m = omega (arith, some) in
      let there = of.1 (r % m) low in
      let here : slice_get class.pages.items (r % m) ≡ Some page = subst (λ n. slice_get class.pages.items (r % n) ≡ Some page) of.0 got in
      let same : there.0 ≡ page = let e = there.1 in cc in
      let is : IsBest known (prefix_text prefix) class = best class at (k.rows.texts, k.rows.first) in
      let coarse = plans_coarse prefix class.prefix r step.modulus m trees k.rows.least.common (best_tests known (prefix_text prefix) class k.rows.texts (all_prefixes trees) k.rows.first k.rows.whole is) in
      bound_more arbitrary (plans_at (place_at prefix r step.modulus) trees) bound (length step.begun.now) page.cells.items page.others le
      (subst (λ (ps : List Plan). IsPageOf arbitrary ps bound page.cells.items page.others) (sym coarse)
      (subst (λ (p : Page). IsPageOf arbitrary (plans_at (place_at class.prefix (r % m) m) trees) bound p.cells.items p.others) same there.2))

  -- its page after the tree, and its gap
  pub turn_more : (pages : List Page) (r : ℕ) (gap : Option LeftGap) (page new : Page) (here : Option LeftGap) → length pages ≡ r → TurnsBelow known step prefix pages r gap → slice_get class.pages.items (r % length class.pages.items) ≡ Some page
      → TurnsPage step (place_at prefix r step.modulus) page new → TurnsGap step (place_at prefix r step.modulus) page here
      → TurnsBelow known step prefix (pages ++ new ∷ []) (r + 1) (earlier gap here)
  turn_more pages r gap page new here size before got turns left arbitrary trees m bound b le k =
      let more = trees ++ step.tree.now ∷ [] in
      let place = place_at prefix r step.modulus in
      let old = before arbitrary trees m bound b le k in
      let was = known_page arbitrary trees m bound le k r page got in
      let on : suc r ≡ r + 1 = omega arith in
      let first : IfFirstLeft arbitrary trees step.tree.now (rows_below prefix step.modulus (suc r)) (earlier gap here) =
      earlier_first arbitrary trees step.tree.now (rows_below prefix step.modulus r) (place ∷ []) gap here old.1 (one_row arbitrary trees step.tree.now place here (left arbitrary trees b was)) in (
        (λ q lt.
            ⊎_elim
            (λ (less : q < r). (let p = old.0 q less in (p.0, get_left pages (new ∷ []) q p.0 p.1, p.2)))
            (λ (ge : r ≤ q).
            let same : length pages ≡ q = omega (arith, size, ge, lt) in
            let is : r ≡ q = omega (arith, ge, lt) in (
              new,
              subst (λ n. slice_get (pages ++ new ∷ []) n ≡ Some new) same (get_seam pages new []),
              subst (λ n. IsPageOf arbitrary (plans_at (place_at prefix n step.modulus) more) (length step.begun.now) new.cells.items new.others) is (turns arbitrary trees b was),
            ))
            (cases_lt q r)),
        subst (λ n. IfFirstLeft arbitrary trees step.tree.now (rows_below prefix step.modulus n) (earlier gap here)) on first,
      )

pub turn_none : (known : List ClassPages) (step : Successor) (prefix : Option (List ℕ)) (pages : List Page) → TurnsBelow known step prefix pages 0 None
turn_none known step prefix pages arbitrary trees m bound b le k = ((λ r lt. absurd (omega (arith, lt))), tt)

-- ---- a class

pub turn_class : (known : List ClassPages) (step : Successor) (prefix : Option (List ℕ)) (pages : List Page) (gap : Option LeftGap) (r : ℕ) → r ≡ step.modulus → length pages ≡ r → TurnsBelow known step prefix pages r gap
    → (arbitrary : ℕ → Bool) (trees : List Route) (modulus bound : ℕ) → AreBefore arbitrary trees step.number step.begun.now → bound ≤ length step.begun.now → AreKnown arbitrary trees modulus bound known
    → (((length pages ≡ step.modulus) × ArePagesBelow arbitrary (trees ++ step.tree.now ∷ []) prefix step.modulus (length step.begun.now) pages step.modulus) × Unit {0})
    × IfFirstLeft arbitrary trees step.tree.now (rows_below prefix step.modulus step.modulus ++ []) gap
turn_class known step prefix pages gap r end size below arbitrary trees m bound b le k =
    let all = subst (λ n. TurnsBelow known step prefix pages n gap) end below arbitrary trees m bound b le k in (
      ((size ∙ end, all.0), tt),
      subst (λ (rows : List Place). IfFirstLeft arbitrary trees step.tree.now rows gap) (sym (rows_one prefix step.modulus)) all.1,
    )

-- ---- several classes

pub turns_none : (known : List ClassPages) (step : Successor) → TurnsTrees known step [] None
turns_none known step arbitrary trees m bound b le k = (tt, tt)

pub turns_both : (known : List ClassPages) (step : Successor) (xs ys : List ClassPages) (a b : Option LeftGap) → TurnsTrees known step xs a → TurnsTrees known step ys b → TurnsTrees known step (xs ++ ys) (earlier a b)
turns_both known step xs ys a b h g arbitrary trees m bound before le k =
    let p = h arbitrary trees m bound before le k in
    let q = g arbitrary trees m bound before le k in
    let more = trees ++ step.tree.now ∷ [] in
    let rows = ap (λ (os : List (Option (List ℕ))). place_rows os step.modulus) (map-append (λ (c : ClassPages). c.prefix) xs ys) ∙ rows_append (class_prefixes xs) (class_prefixes ys) step.modulus in (
      each_append (ArePagesOf arbitrary more step.modulus (length step.begun.now)) xs ys p.0 q.0,
      subst (λ (l : List Place). IfFirstLeft arbitrary trees step.tree.now l (earlier a b)) (sym rows) (earlier_first arbitrary trees step.tree.now (place_rows (class_prefixes xs) step.modulus) (place_rows (class_prefixes ys) step.modulus) a b p.1 q.1),
    )
