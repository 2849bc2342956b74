use Rattle.std.proofs.Common.{◌≡◌, ◌++◌, ◌∷◌, ◌+◌, [], ℕ, List, Option, None, Some, map, take, ap, sym, subst, ◌∙◌}
use Rattle.std.proofs.lemmas.List.{take_more, map-append}
use Rattle.gate_growth.specs.declared.ledger.class.ClassPages.{ClassPages}
use Rattle.gate_growth.specs.Classes.{class_prefixes}
use Rattle.gate_growth.specs.Turning.{TurnsTrees}
use Rattle.gate_growth.proofs.Turnings.{turns_none}
use Rattle.gate_growth.proofs.ledger.turning.turned_classes.Goals as goal

pub loop-text-init : goal.loop-text-init
loop-text-init c =
    let known = c.args.known.now in
    let step = c.args.step.now in (
      c.in_ok-add_class.ensures.prefixes ∙ ap (λ (l : List ClassPages). class_prefixes l ++ None ∷ []) c.new.ensures.items,
      c.in_ok-add_class.ensures.turned (subst (λ (l : List ClassPages). TurnsTrees known step l None) (sym c.new.ensures.items) (turns_none known step)),
    )

pub loop-text-preserved : goal.loop-text-preserved
loop-text-preserved c =
    let texts = c.args.texts.now in
    let i = c.loop-text.text-index in
    let x = c.text-item.result in
    let some : List ℕ → Option (List ℕ) = λ t. Some t in
    let all : take (i + 1) texts ≡ take i texts ++ x ∷ [] = take_more texts i x c.loop-text-test.true ∙ ap (λ y. take i texts ++ y ∷ []) (sym c.text-item.is) in
    let one : map some (take i texts) ++ some x ∷ [] ≡ map some (take (i + 1) texts) = sym (map-append some (take i texts) (x ∷ [])) ∙ ap (map some) (sym all) in (
      c.in_ok-add_class-2.ensures.prefixes ∙ ap (λ (l : List (Option (List ℕ))). l ++ Some x ∷ []) c.loop-text.invariant.0 ∙ ap (λ (l : List (Option (List ℕ))). None ∷ l) one,
      c.in_ok-add_class-2.ensures.turned c.loop-text.invariant.1,
    )
