use Rattle.std.proofs.Common.{List, subst, arith}
use Rattle.std.proofs.lemmas.List.{take_all}
use Rattle.gate_growth.specs.declared.ledger.class.ClassPages.{ClassPages}
use Rattle.gate_growth.specs.Classes.{NoneLonger}
use Rattle.gate_growth.proofs.Choosing.{best_none, best_more}
use Rattle.gate_growth.proofs.ledger.refining.class_of.Goals as goal

pub loop-index-init : goal.loop-index-init
loop-index-init c = (c.requires, best_none c.args.classes.now c.args.text.now)

pub loop-index-preserved : goal.loop-index-preserved
loop-index-preserved c =
    best_more c.args.classes.now c.args.text.now c.loop-index.best c.loop-index.index c.better-best.result c.loop-index.invariant.0 (omega arith) c.better-best.ensures c.loop-index.invariant.1

pub returns-clause-best : goal.returns-clause-best
returns-clause-best c = λ class got are.
    let best = c.loop-index.invariant.1 class got are in
    (best.0, subst (λ (l : List ClassPages). NoneLonger l c.args.text.now class) (take_all c.loop-index.index c.args.classes.now (omega arith)) best.1)
