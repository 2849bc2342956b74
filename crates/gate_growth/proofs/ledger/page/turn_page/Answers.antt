use Rattle.std.proofs.Common.{◌≡◌, ◌++◌, ◌∷◌, [], List, true, length, ap, sym, subst, ◌∙◌}
use Rattle.route_tree.specs.At.{plain_for}
use Rattle.gate_growth.specs.declared.ledger.row.Cell.{Cell}
use Rattle.gate_growth.specs.declared.ledger.page.Beginning.TheVariants.{Any}
use Rattle.gate_growth.specs.Marks.{IsMarkOf}
use Rattle.gate_growth.specs.Rows.{cell_servers, AreCellsOf, IfRefused}
use Rattle.gate_growth.specs.Pages.{unnamed_mark}
use Rattle.gate_growth.proofs.Paging.{all_refused, page_after}
use Rattle.gate_growth.proofs.ledger.page.turn_page.Goals as goal

pub returns : goal.returns
returns c = λ arbitrary plans size begun page.
    let later = plain_for c.args.at.now.hash c.args.at.now.text.now c.args.tree.now in
    let more = plans ++ later ∷ [] in
    let bound = length c.args.begun.now in
    let others = c.args.page.now.others in
    let cells = c.in_ok-cells.cells.items in
    let new = c.in_ok-cells_after.field-0.items in
    let old = c.in_ok-cells.ensures arbitrary plans begun page in
    let marks = c.in_ok-cells_after.ensures.marks arbitrary plans size (subst (AreCellsOf arbitrary plans) (sym c.deref-2.ensures.value) old.0.marks) in
    let servers = c.in_ok-cells_after.ensures.servers ∙ ap cell_servers c.deref-2.ensures.value in
    let refused = c.first_refused-refused.ensures arbitrary plans size (subst (AreCellsOf arbitrary plans) (sym c.deref.ensures.value) old.0.marks) in
    let unnamed : c.new-unnamed.result ≡ bound = c.new-unnamed.ensures in (
      page_after arbitrary plans later bound cells new others c.others_after.result old.0 old.1 servers marks
          (λ mark. subst (λ s. IsMarkOf true more s (unnamed_mark Any c.others_after.result)) unnamed (c.others_after.ensures plans size (subst (λ s. IsMarkOf true plans s (unnamed_mark Any others)) (sym unnamed) mark))),
      all_refused arbitrary plans bound others later cells c.first_refused-refused.result old.1 (subst (λ (l : List Cell). IfRefused arbitrary plans later l c.first_refused-refused.result) c.deref.ensures.value refused),
    )
