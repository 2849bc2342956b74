use Rattle.std.proofs.Common.{◌≡◌, ◌∷◌, ◌<◌, ◌-◌, ℕ, List, length, take, drop, ap, sym, subst, ◌∙◌}
use Rattle.std.proofs.lemmas.Result.{IfOk-weaker}
use Rattle.route_tree.specs.Each.{Each}
use Rattle.gate_growth.specs.declared.ledger.row.Cell.{Cell}
use Rattle.gate_growth.specs.declared.ledger.mark.Mark.{Mark}
use Rattle.gate_growth.specs.Pages.{with_cell, unnamed_mark, IsPageOf, IsPageWith}
use Rattle.gate_growth.proofs.Coarse.{parted}
use Rattle.gate_growth.proofs.Paging.{more_cells}
use Rattle.gate_growth.proofs.ledger.page.+add_cells.Goals as goal

pub returns-in_ok-add_cell-in-len1-up : goal.returns-in_ok-add_cell-in-len1-up
returns-in_ok-add_cell-in-len1-up t c =
    let named = c.args.named.now in
    let bound = length c.args.begun.now in
    let old = c.args.cells.now.items in
    let others = c.args.others in
    let first = c.first-item.result in
    let rest : List ℕ = take (length named - 1) (drop 1 named) in
    let b = c.begun_of.result in
    let next = c.add_cell.new.cells.items in
    let all : named ≡ first ∷ rest = parted named first c.in-len1-up.len_at_least c.first-item.is in
    let lt : first < bound = (subst (Each (λ s. s < bound)) all c.requires).0 in
    let is : next ≡ with_cell old (record { server = first; mark = unnamed_mark b others }) = c.in_ok-add_cell-in-len1-up.ensures ∙ ap (λ (m : Mark). with_cell old (record { server = first; mark = m })) c.unnamed_mark.ensures in
    IfOk-weaker c.add_cells.result _ _
    (λ u goes arbitrary plans begun page.
    subst (λ (l : List ℕ). IsPageWith arbitrary plans bound old others l c.add_cells.new.cells.items) (sym all)
    (more_cells arbitrary plans bound others c.args.begun.now begun old first b rest c.add_cells.new.cells.items lt c.begun_of.ensures page
    (λ with. subst (λ (l : List Cell). IsPageWith arbitrary plans bound l others rest c.add_cells.new.cells.items) is (goes arbitrary plans begun (subst (λ (l : List Cell). IsPageOf arbitrary plans bound l others) (sym is) with)))))
    c.add_cells.ensures
