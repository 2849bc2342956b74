-- Whether a row is valid, as tests.
use Rattle.std.specs.Prelude.{◌≡◌, ℕ, Bool, true, ◌&&◌, List, [], ◌∷◌, nat_lt}
use Rattle.mc_types.specs.declared.ask.Op.{Op}
use Rattle.route_tree.specs.Each.{IsIn}
use Rattle.route_tree.specs.Plan.{Plan}
use Rattle.gate_coverage.specs.Computed.{cleared, is_taken}
use Rattle.gate_coverage.specs.Pools.{has}
use Rattle.gate_coverage.specs.Cover.{IsTaking, Takes}
use Rattle.gate_check.specs.Valid.{IsRising}

-- the numbers rise from above this one: each is greater than the number before it
abbrev pub rises_above : ℕ → List ℕ → Bool
rises_above x [] = true
rises_above x (y ∷ ys) = nat_lt x y && rises_above y ys

abbrev pub rises : List ℕ → Bool
rises [] = true
rises (x ∷ xs) = rises_above x xs

-- each of the servers is in the row
abbrev pub holds_all : List ℕ → List ℕ → Bool
holds_all row [] = true
holds_all row (s ∷ ss) = has row s && holds_all row ss

abbrev pub all_cleared : Plan → List ℕ → Bool
all_cleared plain [] = true
all_cleared plain (s ∷ ss) = cleared plain s && all_cleared plain ss

-- each server that some read takes is in the row
abbrev pub HoldsTaken : Plan → List ℕ → Type 0
HoldsTaken plain row = (op : Op) → IsTaking op → (server : ℕ) → Takes plain op server → IsIn server row

-- the row of exactly the servers that some read takes
pub record IsTakenRow (plain : Plan) (row : List ℕ) : Type 0 where
  pub rising : IsRising row
  pub holds : (s : ℕ) → has row s ≡ is_taken plain s
