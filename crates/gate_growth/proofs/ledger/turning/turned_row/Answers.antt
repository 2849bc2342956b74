use Rattle.std.proofs.Common.{◌++◌, ◌∷◌, [], ℕ, List, length, sym, subst, ◌∙◌}
use Rattle.route_tree.specs.Plan.{Plan}
use Rattle.route_tree.specs.At.{plain_for}
use Rattle.gate_growth.specs.Grown.{plans_at}
use Rattle.gate_growth.specs.Pages.{IsPageOf}
use Rattle.gate_growth.specs.LeftGaps.{IfLeftBy}
use Rattle.gate_growth.proofs.Naming.{plain_low}
use Rattle.gate_growth.proofs.Coarse.{plans_more, plans_length}
use Rattle.gate_growth.proofs.Reload.{plans_good}
use Rattle.gate_growth.proofs.ledger.turning.turned_row.Goals as goal

pub turn_page-requires-clause-below : goal.turn_page-requires-clause-below
turn_page-requires-clause-below c = plain_low (length c.args.step.now.begun.now) c.args.step.now.tree.now c.form-form.ensures.tree c.requires.below c.args.place.now.residue c.prefix_text.result.now

pub returns-clause-page : goal.returns-clause-page
returns-clause-page c = λ arbitrary trees before page.
    let place = c.args.place.now in
    let tree = c.args.step.now.tree.now in
    let bound = length c.args.step.now.begun.now in
    let plans = plans_at place trees in
    let new = c.in_ok-turned.turned.page in
    let turned = c.in_ok-turned.ensures arbitrary plans (plans_length place trees ∙ before.counted) before.began page in
    subst (λ (ps : List Plan). IsPageOf arbitrary ps bound new.cells.items new.others) (sym (plans_more place trees tree))
    (subst (λ (t : List ℕ). IsPageOf arbitrary (plans ++ plain_for place.residue t tree ∷ []) bound new.cells.items new.others) c.prefix_text.ensures turned.0)

pub returns-clause-gap : goal.returns-clause-gap
returns-clause-gap c = λ arbitrary trees before page.
    let place = c.args.place.now in
    let tree = c.args.step.now.tree.now in
    let plans = plans_at place trees in
    let turned = c.in_ok-turned.ensures arbitrary plans (plans_length place trees ∙ before.counted) before.began page in
    subst (λ (t : List ℕ). IfLeftBy arbitrary plans (plain_for place.residue t tree) place c.gap_of.result) c.prefix_text.ensures
    (c.gap_of.ensures arbitrary plans (plans_good place trees before.trees_are) turned.1)
