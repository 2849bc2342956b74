use Rattle.std.proofs.Common.{ℕ, Option, below_more, subst, arith}
use Rattle.route_tree.specs.Place.{tree_at_place}
use Rattle.gate_check.specs.Places.{place_at}
use Rattle.gate_check.specs.declared.finding.Found.{Found}
use Rattle.gate_check.specs.Looking.{IfGap}
use Rattle.gate_check.specs.Pairs.{IsCoveredAt}
use Rattle.gate_check.proofs.pairs.pair_class.Goals as goal

pub loop-residue-preserved : goal.loop-residue-preserved
loop-residue-preserved c =
    let e = c.args.earlier.now in
    let l = c.args.later.now in
    let prefix = c.args.class.now.prefix in
    let m = c.args.modulus in
    let r = c.loop-residue.residue in
    below_more (λ (q : ℕ). IsCoveredAt e l m prefix q) r c.loop-residue.invariant
    (subst (λ (x : Option Found). IfGap (tree_at_place e (place_at prefix r m)) (tree_at_place l (place_at prefix r m)) x) c.in-None.is c.in_ok-gap_at.ensures)

pub returns : goal.returns
returns c = λ r lt. c.loop-residue.invariant r (omega arith)
