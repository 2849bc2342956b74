use Rattle.std.proofs.Common.{◌++◌, ◌∷◌, [], List, sym, subst}
use Rattle.gate_growth.specs.declared.ledger.class.ClassPages.{ClassPages}
use Rattle.gate_growth.specs.Turning.{TurnsTrees}
use Rattle.gate_growth.proofs.Turnings.{turns_both}
use Rattle.gate_growth.proofs.ledger.turning.add_class.Goals as goal

pub returns-clause-turned : goal.returns-clause-turned
returns-clause-turned c = λ before.
    let known = c.args.known.now in
    let step = c.args.step.now in
    let all = c.args.all.now in
    let class = c.in_ok-more.more.class in
    subst (λ (l : List ClassPages). TurnsTrees known step l c.earlier-all.result) (sym c.in_ok-push.ensures.items)
    (subst (TurnsTrees known step (all.classes.items ++ class ∷ [])) (sym c.earlier-all.ensures) (turns_both known step all.classes.items (class ∷ []) all.gap c.in_ok-more.more.gap before c.in_ok-more.ensures.turned))
