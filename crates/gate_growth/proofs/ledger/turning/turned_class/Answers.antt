use Rattle.std.proofs.Common.{◌++◌, ◌∷◌, ◌+◌, [], ℕ, List, length, ap, sym, subst, ◌∙◌, arith}
use Rattle.std.proofs.lemmas.List.{length_push}
use Rattle.gate_growth.specs.declared.ledger.page.Page.{Page}
use Rattle.gate_growth.specs.Classes.{IsBestAt}
use Rattle.gate_growth.proofs.Coarse.{read_is}
use Rattle.gate_growth.proofs.Turnings.{TurnsBelow, turn_more, turn_class}
use Rattle.gate_growth.proofs.ledger.turning.turned_class.Goals as goal

pub loop-residue-preserved : goal.loop-residue-preserved
loop-residue-preserved c =
    let known = c.args.known.now in
    let step = c.args.step.now in
    let prefix = c.args.prefix.now in
    let i = c.class_of.result in
    let class = c.index-known-class_of.result in
    let pages = c.loop-residue.pages.items in
    let r = c.loop-residue.residue in
    let new = c.in_ok-row.row.page in
    let at = read_is known i class c.class_of.ensures.within c.index-known-class_of.is in
    let best = subst (λ (t : List ℕ). IsBestAt known t i) c.prefix_text.ensures c.class_of.ensures.best in
    let more = turn_more known step prefix class i at best pages r c.loop-residue.gap c.page_of.result.now new c.in_ok-row.row.gap c.loop-residue.invariant.0 c.loop-residue.invariant.1 c.page_of.ensures c.in_ok-row.ensures.page c.in_ok-row.ensures.gap in (
      ap length c.in_ok-push.ensures.items ∙ length_push pages new ∙ ap (λ n. n + 1) c.loop-residue.invariant.0,
      subst (λ (l : List Page). TurnsBelow known step prefix l (r + 1) c.earlier-gap.result) (sym c.in_ok-push.ensures.items) (subst (TurnsBelow known step prefix (pages ++ new ∷ []) (r + 1)) (sym c.earlier-gap.ensures) more),
    )

pub returns-clause-turned : goal.returns-clause-turned
returns-clause-turned c =
    turn_class c.args.known.now c.args.step.now c.args.prefix.now c.loop-residue.pages.items c.loop-residue.gap c.loop-residue.residue (omega arith) c.loop-residue.invariant.0 c.loop-residue.invariant.1
