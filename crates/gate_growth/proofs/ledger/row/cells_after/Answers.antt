use Rattle.std.proofs.Common.{◌≡◌, ◌++◌, ◌+◌, ℕ, [], ◌∷◌, List, take, sym, subst, ap, ap₂, ◌∙◌}
use Rattle.std.proofs.lemmas.List.{take_more, take_all, map-append}
use Rattle.route_tree.proofs.Places.{each_append, each_left, each_right}
use Rattle.gate_coverage.specs.Seen.{plan_of}
use Rattle.gate_growth.specs.declared.ledger.row.Cell.{Cell}
use Rattle.gate_growth.specs.Marks.{IsMarkOf}
use Rattle.gate_growth.specs.Rows.{cell_servers, AreCellsOf}
use Rattle.gate_growth.proofs.ledger.row.cells_after.Goals as goal

pub loop-cell-preserved : goal.loop-cell-preserved
loop-cell-preserved c =
    let xs = c.args.cells.now in
    let i = c.loop-cell.cell-index in
    let x = c.cell-item.result in
    let new = c.cell_after.result in
    let server = λ (k : Cell). k.server in
    let all : take (i + 1) xs ≡ take i xs ++ x ∷ [] = take_more xs i x c.loop-cell-test.true ∙ ap (λ y. take i xs ++ y ∷ []) (sym c.cell-item.is) in
    let one : new.server ≡ x.server = c.cell_after.ensures.server in
    let servers : cell_servers (c.loop-cell.new.items ++ new ∷ []) ≡ cell_servers (take i xs ++ x ∷ []) =
    map-append server c.loop-cell.new.items (new ∷ []) ∙ ap₂ (λ (l : List ℕ) (s : ℕ). l ++ s ∷ []) c.loop-cell.invariant.0 one ∙ sym (map-append server (take i xs) (x ∷ [])) in (
      ap cell_servers c.in_ok-push.ensures.items ∙ servers ∙ ap cell_servers (sym all),
      (λ arbitrary plans size of.
          let more = plans ++ plan_of c.args.seen ∷ [] in
          let both : AreCellsOf arbitrary plans (take i xs ++ x ∷ []) = subst (AreCellsOf arbitrary plans) all of in
          let before = c.loop-cell.invariant.1 arbitrary plans size (each_left (λ (k : Cell). IsMarkOf (arbitrary k.server) plans k.server k.mark) (take i xs) (x ∷ []) both) in
          let last = (each_right (λ (k : Cell). IsMarkOf (arbitrary k.server) plans k.server k.mark) (take i xs) (x ∷ []) both).0 in
          subst (AreCellsOf arbitrary more) (sym c.in_ok-push.ensures.items)
          (each_append (λ (k : Cell). IsMarkOf (arbitrary k.server) more k.server k.mark) c.loop-cell.new.items (new ∷ []) before (c.cell_after.ensures.mark arbitrary plans size last, tt))),
    )

pub returns-clause-servers : goal.returns-clause-servers
returns-clause-servers c = c.loop-cell.invariant.0 ∙ ap cell_servers (take_all c.loop-cell.cell-index c.args.cells.now c.loop-cell-test.false)

pub returns-clause-marks : goal.returns-clause-marks
returns-clause-marks c = λ arbitrary plans size of.
    let xs = c.args.cells.now in
    c.loop-cell.invariant.1 arbitrary plans size (subst (AreCellsOf arbitrary plans) (sym (take_all c.loop-cell.cell-index xs c.loop-cell-test.false)) of)
