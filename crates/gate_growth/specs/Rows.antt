-- The marks of several servers at a place, and the first refusal among them. Source: mcgate's own.
use Rattle.std.specs.Prelude.{◌≡◌, ℕ, ◌<◌, ◌≤◌, Bool, List, map, Option, Some, None, MatchOption, nat_lt, ◌⊎◌, if◌then◌else◌}
use Rattle.route_tree.specs.Each.{Each}
use Rattle.route_tree.specs.Plan.{Plan}
use Rattle.gate_growth.specs.declared.ledger.row.Cell.{Cell}
use Rattle.gate_growth.specs.declared.ledger.row.Refused.{Refused}
use Rattle.gate_growth.specs.Marks.{IsMarkOf, MayStandAfter, IsRefusedFor}

-- whose marks they are
abbrev pub cell_servers : List Cell → List ℕ
cell_servers cells = map (λ (c : Cell). c.server) cells

-- each has the marks of its server after these trees
abbrev pub AreCellsOf : (ℕ → Bool) → List Plan → List Cell → Type 0
AreCellsOf arbitrary plans cells = Each (λ (c : Cell). IsMarkOf (arbitrary c.server) plans c.server c.mark) cells

-- at one server: the tree may follow, or is refused for this generation
abbrev pub IsRefusedAt : Bool → List Plan → Plan → ℕ → Option Refused → Type 0
IsRefusedAt arbitrary plans later server found =
    MatchOption found (MayStandAfter arbitrary plans later server) (λ r. (r.server ≡ server) × IsRefusedFor arbitrary plans later server r.generation)

-- a refusal stands before another, or is it: by generations, then by servers
abbrev pub RefusedNotAfter : Refused → ℕ → ℕ → Type 0
RefusedNotAfter r server generation = (r.generation < generation) ⊎ ((r.generation ≡ generation) × (r.server ≤ server))

-- the first refusal at these servers
pub record IsFirstRefused (arbitrary : ℕ → Bool) (plans : List Plan) (later : Plan) (cells : List Cell) (r : Refused) : Type 0 where
  pub refused : IsRefusedFor (arbitrary r.server) plans later r.server r.generation
  pub first : Each (λ (c : Cell). (g : ℕ) → IsRefusedFor (arbitrary c.server) plans later c.server g → RefusedNotAfter r c.server g) cells

-- the tree may follow at all of them, or is refused
abbrev pub IfRefused : (ℕ → Bool) → List Plan → Plan → List Cell → Option Refused → Type 0
IfRefused arbitrary plans later cells found =
    MatchOption found (Each (λ (c : Cell). MayStandAfter (arbitrary c.server) plans later c.server) cells) (IsFirstRefused arbitrary plans later cells)

-- of equal ones the first
abbrev pub lesser_of : Refused → Refused → Refused
lesser_of other refused =
    if nat_lt refused.generation other.generation then refused
    else if nat_lt other.generation refused.generation then other
    else if nat_lt refused.server other.server then refused
    else other

abbrev pub lesser_refusal : Option Refused → Option Refused → Option Refused
lesser_refusal best None = best
lesser_refusal None (Some refused) = Some refused
lesser_refusal (Some other) (Some refused) = Some (lesser_of other refused)
