-- Whether a server is taken by some operation.
use Rattle.std.proofs.Common.{◌≡◌, ◌↔◌, ℕ, ◌≤◌, Bool, false, IsTrue, arith}
use Rattle.mc_types.specs.declared.ask.Op.{Op}
use Rattle.mc_types.specs.declared.ask.Op.TheVariants.{Get, Gat, Set, Add, Replace, Append, Prepend, Cas, Delete, Incr, Decr, Touch}
use Rattle.route_tree.specs.Plan.{Plan}
use Rattle.gate_coverage.specs.Cover.{IsTaking, Takes}
use Rattle.gate_check.specs.Gate.{op_order}
use Rattle.gate_check.specs.Looking.{IsFirstTaken}
use Rattle.gate_growth.specs.Marks.{IsTaken}

pub not_so : (b : Bool) (A : Type 0) → IsTrue b ↔ A → b ≡ false → A → ⊥
not_so b A exact e a = let t = exact.1 a in cc

-- of the four operations that take it is the last, where it is none of the others
pub last_takes : (plain : Plan) (s : ℕ) → (Takes plain Get s → ⊥) → (Takes plain Gat s → ⊥) → (Takes plain Incr s → ⊥) → IsTaken plain s → Takes plain Decr s
last_takes plain s get gat incr (Get, t, h) = absurd (get h)
last_takes plain s get gat incr (Gat, t, h) = absurd (gat h)
last_takes plain s get gat incr (Incr, t, h) = absurd (incr h)
last_takes plain s get gat incr (Decr, t, h) = h
last_takes plain s get gat incr (Set, t, h) = absurd t
last_takes plain s get gat incr (Add, t, h) = absurd t
last_takes plain s get gat incr (Replace, t, h) = absurd t
last_takes plain s get gat incr (Append, t, h) = absurd t
last_takes plain s get gat incr (Prepend, t, h) = absurd t
last_takes plain s get gat incr (Cas, t, h) = absurd t
last_takes plain s get gat incr (Delete, t, h) = absurd t
last_takes plain s get gat incr (Touch, t, h) = absurd t

-- so it is the first
pub last_is_first : (plain : Plan) (s : ℕ) → (Takes plain Get s → ⊥) → (Takes plain Gat s → ⊥) → (Takes plain Incr s → ⊥) → IsTaken plain s → IsFirstTaken plain s Decr
last_is_first plain s get gat incr is = record { taking = tt; taken = last_takes plain s get gat incr is; first = first }
  where
    first : (p : Op) → IsTaking p → Takes plain p s → op_order Decr ≤ op_order p
    first Get t h = absurd (get h)
    first Gat t h = absurd (gat h)
    first Incr t h = absurd (incr h)
    first Decr t h = omega arith
    first Set t h = absurd t
    first Add t h = absurd t
    first Replace t h = absurd t
    first Append t h = absurd t
    first Prepend t h = absurd t
    first Cas t h = absurd t
    first Delete t h = absurd t
    first Touch t h = absurd t
