use Rattle.std.proofs.Common.{◌≡◌, ◌≤◌, ℕ, []}
use Rattle.gate_check.specs.Valid.{run_at}
use Rattle.gate_check.specs.Ends.{AreValidBelow}
use Rattle.gate_check.proofs.classes.check_class.Given as goal

abbrev pub invariant-loop-residue : goal.invariant-loop-residue
invariant-loop-residue l = record {
  valid : AreValidBelow l.tree l.class.prefix l.modulus l.rows l.residue;
  ahead : (q : ℕ) → l.residue ≤ q → run_at l.servers l.runs q ≡ run_at [] l.rows.runs.items q;
}
