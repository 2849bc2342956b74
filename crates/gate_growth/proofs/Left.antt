-- What is left of a plain tree for an operation stores the same by the operation.
use Rattle.std.proofs.Common.{◌≡◌, ℕ, Bool, refl}
use Rattle.mc_types.specs.declared.ask.Op.{Op}
use Rattle.route_tree.specs.Plan.{Plan}
use Rattle.gate_coverage.specs.Seen.{for_op}
use Rattle.gate_coverage.proofs.Left.{left_same}
use Rattle.gate_growth.specs.PutsComputed.{may_store, stores_policy}

pub left_stores : (op : Op) (s : ℕ) (p : Plan) → may_store op s (for_op op p) ≡ may_store op s p
left_stores op s p = left_same op Bool (may_store op s) (stores_policy op s) (λ ps. refl) (λ q. refl) (λ o q rest. refl) (λ c w e. refl) p
