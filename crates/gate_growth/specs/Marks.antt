-- What trees may have left on a server at a place, and when another may follow them. Source: mcgate's own.
use Rattle.std.specs.Prelude.{◌≡◌, ◌↔◌, ℕ, suc, ◌<◌, Bool, true, List, length, Some, MatchOption, IsTrue, ◌⊎◌, slice_get}
use Rattle.mc_types.specs.declared.ask.Op.{Op}
use Rattle.route_tree.specs.Plan.{Plan}
use Rattle.gate_coverage.specs.declared.deleting.Deleting.{Deleting}
use Rattle.gate_coverage.specs.Cover.{IsTaking, Takes, Clears}
use Rattle.gate_growth.specs.Puts.{Puts}
use Rattle.gate_growth.specs.declared.ledger.mark.Mark.{Mark}

-- some read takes the server
abbrev pub IsTaken : Plan → ℕ → Type 0
IsTaken plain server = (op : Op) × IsTaking op × Takes plain op server

-- each acknowledged delete clears it, of either kind
abbrev pub IsClear : Plan → ℕ → Type 0
IsClear plain server = (kind : Deleting) → Clears plain kind server

-- The plain trees of generations at a place are a list, the oldest first. An arbitrary server may hold anything before the first of them.
module _ (arbitrary : Bool) where
  -- after the first n of them the server may hold an item
  abbrev pub MayHold : List Plan → ℕ → ℕ → Type 0
  MayHold plans n server = (arbitrary ≡ true) ⊎ ((h : ℕ) × (p : Plan) × (h < n) × (slice_get plans h ≡ Some p) × Puts p server)

  -- deletes by this one may leave an item there
  abbrev pub Leaves : List Plan → ℕ → ℕ → Type 0
  Leaves plans i server = (p : Plan) × (slice_get plans i ≡ Some p) × MayHold plans (suc i) server × (IsClear p server → ⊥)

  -- none of them does
  abbrev pub NoneLeaves : List Plan → ℕ → Type 0
  NoneLeaves plans server = (i : ℕ) → Leaves plans i server → ⊥

  -- this one is the first that does
  abbrev pub IsFirstLeft : List Plan → ℕ → ℕ → Type 0
  IsFirstLeft plans server g = Leaves plans g server × ((i : ℕ) → i < g → Leaves plans i server → ⊥)

  -- a server that the tree takes is cleared by it, and left by none before it
  abbrev pub MayStandAfter : List Plan → Plan → ℕ → Type 0
  MayStandAfter plans later server = IsTaken later server → IsClear later server × NoneLeaves plans server

  -- the tree takes the server, which this one is the first to leave: one before it, or itself
  abbrev pub IsRefusedFor : List Plan → Plan → ℕ → ℕ → Type 0
  IsRefusedFor plans later server g =
      IsTaken later server × (IsFirstLeft plans server g ⊎ (NoneLeaves plans server × (g ≡ length plans) × (IsClear later server → ⊥)))

  -- the marks of the server after these trees
  pub record IsMarkOf (plans : List Plan) (server : ℕ) (mark : Mark) : Type 0 where
    pub holds : IsTrue mark.held ↔ MayHold plans (length plans) server
    pub first : MatchOption mark.left (NoneLeaves plans server) (IsFirstLeft plans server)
