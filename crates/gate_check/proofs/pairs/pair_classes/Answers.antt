use Rattle.std.proofs.Common.{ℕ, below_more, subst, arith}
use Rattle.gate_check.specs.declared.pairs.PairEnd.{PairEnd}
use Rattle.gate_check.specs.declared.pairs.PairEnd.TheVariants as ends
use Rattle.gate_check.specs.Pairs.{IsPairEnd, PairEndsAt}
use Rattle.gate_check.proofs.Two.{pair_ends_at}
use Rattle.gate_check.proofs.pairs.pair_classes.Goals as goal

pub returns-in-Gap : goal.returns-in-Gap
returns-in-Gap c =
    let end : PairEnd = ends.Gap c.in-Gap.residue c.in-Gap.found in
    let at : PairEndsAt c.args.earlier.now c.args.later.now c.args.modulus c.args.classes.now c.loop-index.index end =
    pair_ends_at c.args.earlier.now c.args.later.now c.args.modulus c.args.classes.now c.loop-index.index c.index-classes-index.result end c.index-classes-index.is
    (subst (λ (e : PairEnd). IsPairEnd c.args.earlier.now c.args.later.now c.args.modulus c.index-classes-index.result e) c.in-Gap.is c.in_ok-pair_class.ensures) in
    (omega arith, c.loop-index.invariant, at)

pub loop-index-preserved : goal.loop-index-preserved
loop-index-preserved c =
    below_more (λ (i : ℕ). PairEndsAt c.args.earlier.now c.args.later.now c.args.modulus c.args.classes.now i ends.Covered) c.loop-index.index c.loop-index.invariant
    (pair_ends_at c.args.earlier.now c.args.later.now c.args.modulus c.args.classes.now c.loop-index.index c.index-classes-index.result ends.Covered c.index-classes-index.is
    (subst (λ (e : PairEnd). IsPairEnd c.args.earlier.now c.args.later.now c.args.modulus c.index-classes-index.result e) c.in-Covered.is c.in_ok-pair_class.ensures))

pub returns : goal.returns
returns c = λ i lt. c.loop-index.invariant i (omega arith)
