use Rattle.std.proofs.Common.{◌≡◌, ◌++◌, ◌+◌, [], ◌∷◌, take, sym, subst, ap, ◌∙◌}
use Rattle.std.proofs.lemmas.List.{take_more}
use Rattle.gate_coverage.specs.Seen.{plan_of}
use Rattle.gate_growth.specs.declared.ledger.row.Cell.{Cell}
use Rattle.gate_growth.specs.Marks.{IsMarkOf}
use Rattle.gate_growth.specs.Rows.{IfRefused, lesser_refusal}
use Rattle.gate_growth.proofs.Rowing.{more_refused, each_read}
use Rattle.gate_growth.proofs.ledger.row.first_refused.Goals as goal

pub loop-cell-preserved : goal.loop-cell-preserved
loop-cell-preserved c = λ arbitrary plans size of.
    let later = plan_of c.args.seen in
    let xs = c.args.cells.now in
    let i = c.loop-cell.cell-index in
    let x = c.cell-item.result in
    let here = c.refused_at-here.result in
    let mark : IsMarkOf (arbitrary x.server) plans x.server x.mark = subst (λ (k : Cell). IsMarkOf (arbitrary k.server) plans k.server k.mark) (sym c.cell-item.is) (each_read (λ (k : Cell). IsMarkOf (arbitrary k.server) plans k.server k.mark) xs i x c.loop-cell-test.true of) in
    let h = more_refused arbitrary plans later (take i xs) x c.loop-cell.best here (c.loop-cell.invariant arbitrary plans size of) (c.refused_at-here.ensures (arbitrary x.server) plans size mark) in
    let all : take (i + 1) xs ≡ take i xs ++ x ∷ [] = take_more xs i x c.loop-cell-test.true ∙ ap (λ y. take i xs ++ y ∷ []) (sym c.cell-item.is) in
    subst (λ best. IfRefused arbitrary plans later (take (i + 1) xs) best) (sym c.lesser-best.ensures)
    (subst (λ ys. IfRefused arbitrary plans later ys (lesser_refusal c.loop-cell.best here)) (sym all) h)
