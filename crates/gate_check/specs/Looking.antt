-- What a look at one server of a place finds.
use Rattle.std.specs.Prelude.{ℕ, ◌<◌, ◌≤◌, List, Option, Some, None, MatchOption, nat_lt, if◌then◌else◌}
use Rattle.mc_types.specs.declared.ask.Op.{Op}
use Rattle.route_tree.specs.Each.{Each, IsIn}
use Rattle.route_tree.specs.Plan.{Plan}
use Rattle.gate_coverage.specs.declared.deleting.Deleting.{Deleting}
use Rattle.gate_coverage.specs.Cover.{IsTaking, Takes, Clears, Covers}
use Rattle.gate_check.specs.Gate.{op_order, kind_order, IsFirstAt}
use Rattle.gate_check.specs.declared.finding.Found.{Found}

-- the first delete that doesn't clear the server
pub record IsFirstUncleared (plain : Plan) (server : ℕ) (kind : Deleting) : Type 0 where
  pub uncleared : Clears plain kind server → ⊥
  pub first : (e : Deleting) → (Clears plain e server → ⊥) → kind_order kind ≤ kind_order e

abbrev pub IfUncleared : Plan → ℕ → Option Deleting → Type 0
IfUncleared plain server found = MatchOption found ((kind : Deleting) → Clears plain kind server) (IsFirstUncleared plain server)

-- the first operation that takes the server
pub record IsFirstTaken (plain : Plan) (server : ℕ) (op : Op) : Type 0 where
  pub taking : IsTaking op
  pub taken : Takes plain op server
  pub first : (p : Op) → IsTaking p → Takes plain p server → op_order op ≤ op_order p

abbrev pub IfTaken : Plan → ℕ → Option Op → Type 0
IfTaken plain server found = MatchOption found ((op : Op) → IsTaking op → Takes plain op server → ⊥) (IsFirstTaken plain server)

-- no gap at the server
abbrev pub CoversServer : Plan → Plan → ℕ → Type 0
CoversServer earlier later server = (op : Op) → IsTaking op → Takes later op server → (kind : Deleting) → Clears earlier kind server

-- the first gap at the server
pub record IsFirstAtServer (earlier later : Plan) (server : ℕ) (op : Op) (kind : Deleting) : Type 0 where
  pub taken : IsFirstTaken later server op
  pub uncleared : IsFirstUncleared earlier server kind

-- the first gap among some servers
pub record IsFirstAmong (earlier later : Plan) (among : List ℕ) (found : Found) : Type 0 where
  pub is_in : IsIn found.server among
  pub first : IsFirstAtServer earlier later found.server found.op found.deleting
  pub least : Each (λ s. s < found.server → CoversServer earlier later s) among

abbrev pub IfFound : Plan → Plan → List ℕ → Option Found → Type 0
IfFound earlier later among found = MatchOption found (Each (CoversServer earlier later) among) (IsFirstAmong earlier later among)

-- the first gap at the place, or none
abbrev pub IfGap : Plan → Plan → Option Found → Type 0
IfGap earlier later found = MatchOption found (Covers earlier later) (λ f. IsFirstAt earlier later f.server f.op f.deleting)

-- the one at the smaller server; of equal ones the first
abbrev pub lesser : Option Found → Option Found → Option Found
lesser best None = best
lesser None (Some found) = Some found
lesser (Some other) (Some found) = if nat_lt found.server other.server then Some found else Some other
