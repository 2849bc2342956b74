use Rattle.std.proofs.Common.{refl, sym, subst}
use Rattle.route_tree.specs.Route.{Route}
use Rattle.route_tree.specs.Place.{tree_at_place}
use Rattle.gate_check.specs.declared.gap.Reason.{Reason}
use Rattle.gate_check.specs.declared.gap.Reason.TheVariants as reasons
use Rattle.gate_check.specs.Gate.{IsJudged}
use Rattle.gate_gaps.specs.Explanations as gaps
use Rattle.mcgate_check.specs.Explaining.{AreWordsFor}
use Rattle.mcgate_check.specs.declared.explaining.Words.TheVariants as words
use Rattle.mcgate_check.proofs.explaining.words_of.Goals as goal

pub gap_explained-requires : goal.gap_explained-requires
gap_explained-requires c = subst (λ (t : Route). IsJudged t (reasons.Uncovered c.in-Uncovered.gap)) (sym c.tree.ensures.tree) (subst (IsJudged c.args.config.now.tree) c.in-Uncovered.is c.requires)

pub returns-in_ok-explanation-in-Uncovered : goal.returns-in_ok-explanation-in-Uncovered
returns-in_ok-explanation-in-Uncovered c =
    let gap = c.in-Uncovered.gap in
    let e = c.in_ok-explanation-in-Uncovered.explanation in
    subst (λ (r : Reason). AreWordsFor c.args.config.now r (words.OfGap gap e)) (sym c.in-Uncovered.is)
    (λ pools found. (e, subst (λ (t : Route). gaps.Explains (tree_at_place t gap.place) gap.op gap.server gap.deleting e) c.tree.ensures.tree c.in_ok-explanation-in-Uncovered.ensures, refl))
