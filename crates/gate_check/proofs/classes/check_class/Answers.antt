use Rattle.std.proofs.Common.{◌≡◌, ◌∙◌, ℕ, List, arith, below_more, subst}
use Rattle.gate_check.specs.Valid.{IsValidRow}
use Rattle.gate_check.specs.declared.classes.Look.{Look}
use Rattle.gate_check.specs.Ends.{IsLook, plain_of, row_of}
use Rattle.gate_check.proofs.classes.check_class.Goals as goal

pub loop-residue-preserved : goal.loop-residue-preserved
loop-residue-preserved c =
    let tree = c.args.tree.now in
    let prefix = c.args.class.now.prefix in
    let m = c.args.modulus in
    let rows = c.args.rows.now in
    let r = c.loop-residue.residue in
    let row : c.run_of.result.0.now ≡ row_of rows r = c.run_of.ensures.servers ∙ c.loop-residue.invariant.ahead r (omega arith) in
    record {
      valid = below_more (λ (q : ℕ). IsValidRow (plain_of tree prefix m q) (row_of rows q)) r c.loop-residue.invariant.valid
          (subst (λ (l : List ℕ). IsValidRow (plain_of tree prefix m r) l) row
          (subst (λ (x : Look). IsLook (plain_of tree prefix m r) c.run_of.result.0.now x) c.in-Good.is c.in_ok-look.ensures));
      ahead = λ q le. c.run_of.ensures.later q (omega arith) ∙ c.loop-residue.invariant.ahead q (omega arith);
    }
