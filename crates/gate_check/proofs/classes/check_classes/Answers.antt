use Rattle.std.proofs.Common.{ℕ, arith, below_more, subst}
use Rattle.gate_check.specs.declared.classes.ClassEnd.{ClassEnd}
use Rattle.gate_check.specs.declared.classes.ClassEnd.TheVariants as ends
use Rattle.gate_check.specs.Ends.{IsClassEnd, EndsAt}
use Rattle.gate_check.proofs.ClassLooks.{ends_at}
use Rattle.gate_check.proofs.classes.check_classes.Goals as goal

pub returns-in-Gap : goal.returns-in-Gap
returns-in-Gap c =
    let end : ClassEnd = ends.Gap c.in-Gap.residue c.in-Gap.found in
    let at : EndsAt c.args.tree.now c.args.modulus c.args.classes.now c.args.rows.now c.loop-index.index end =
    ends_at c.args.tree.now c.args.modulus c.args.classes.now c.args.rows.now c.loop-index.index c.index-classes-index.result c.index-rows-index.result end c.index-classes-index.is c.index-rows-index.is
    (subst (λ (e : ClassEnd). IsClassEnd c.args.tree.now c.index-classes-index.result.prefix c.args.modulus c.index-rows-index.result e) c.in-Gap.is c.in_ok-check_class.ensures) in
    (omega arith, c.loop-index.invariant, at)

pub returns-in-Bad : goal.returns-in-Bad
returns-in-Bad c =
    let end : ClassEnd = ends.Bad c.in-Bad.residue in
    let at : EndsAt c.args.tree.now c.args.modulus c.args.classes.now c.args.rows.now c.loop-index.index end =
    ends_at c.args.tree.now c.args.modulus c.args.classes.now c.args.rows.now c.loop-index.index c.index-classes-index.result c.index-rows-index.result end c.index-classes-index.is c.index-rows-index.is
    (subst (λ (e : ClassEnd). IsClassEnd c.args.tree.now c.index-classes-index.result.prefix c.args.modulus c.index-rows-index.result e) c.in-Bad.is c.in_ok-check_class.ensures) in
    (omega arith, c.loop-index.invariant, at)

pub loop-index-preserved : goal.loop-index-preserved
loop-index-preserved c =
    below_more (λ (i : ℕ). EndsAt c.args.tree.now c.args.modulus c.args.classes.now c.args.rows.now i ends.Valid) c.loop-index.index c.loop-index.invariant
    (ends_at c.args.tree.now c.args.modulus c.args.classes.now c.args.rows.now c.loop-index.index c.index-classes-index.result c.index-rows-index.result ends.Valid c.index-classes-index.is c.index-rows-index.is
    (subst (λ (e : ClassEnd). IsClassEnd c.args.tree.now c.index-classes-index.result.prefix c.args.modulus c.index-rows-index.result e) c.in-Valid.is c.in_ok-check_class.ensures))

pub returns : goal.returns
returns c = λ i lt. c.loop-index.invariant i (omega arith)
