use Rattle.std.proofs.Common.{◌≡◌, ◌++◌, ℕ, List, length, ap, sym, subst, ◌∙◌}
use Rattle.route_tree.specs.Each.{Each, IsIn}
use Rattle.route_tree.specs.At.{plain_for}
use Rattle.route_tree.specs.Servers.{servers}
use Rattle.gate_growth.specs.declared.ledger.row.Cell.{Cell}
use Rattle.gate_growth.specs.Rows.{cell_servers}
use Rattle.gate_growth.specs.Pages.{IsPageOf}
use Rattle.gate_growth.proofs.ledger.page.all_cells.Goals as goal

pub returns : goal.returns
returns c = λ arbitrary plans begun page.
    let plain = plain_for c.args.at.now.hash c.args.at.now.text.now c.args.tree.now in
    let bound = length c.args.begun.now in
    let others = c.args.page.now.others in
    let new = c.add_cells.new.cells.items in
    let named : c.deref-2.result.now ≡ servers plain = c.deref-2.ensures.value ∙ c.in_ok-add_servers.ensures ∙ ap (λ (l : List ℕ). l ++ servers plain) c.new-named.ensures.items in
    let cells : c.in_ok-cells.cells.items ≡ c.args.page.now.cells.items = c.in_ok-cells.ensures.items ∙ c.deref.ensures.value in
    let with = c.in_ok-add_cells.ensures arbitrary plans begun (subst (λ (l : List Cell). IsPageOf arbitrary plans bound l others) (sym cells) page) in
    (with.page, subst (λ (l : List ℕ). Each (λ s. IsIn s (cell_servers new)) l) named with.have)
