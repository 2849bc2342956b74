-- What generations of trees may have left at one place: of the servers that they name there, and of all others. Source: mcgate's own.
use Rattle.std.specs.Prelude.{◌≡◌, ℕ, ◌<◌, ◌≤◌, Bool, true, false, ◌||◌, List, [], ◌∷◌, ◌++◌, Option, Some, None, MatchOption, nat_eq, slice_get, if◌then◌else◌}
use Rattle.route_tree.specs.Each.{Each, IsIn}
use Rattle.route_tree.specs.Plan.{Plan}
use Rattle.route_tree.specs.Servers.{servers}
use Rattle.gate_growth.specs.declared.ledger.mark.Mark.{Mark}
use Rattle.gate_growth.specs.declared.ledger.row.Cell.{Cell}
use Rattle.gate_growth.specs.declared.ledger.row.Refused.{Refused}
use Rattle.gate_growth.specs.declared.ledger.page.Beginning.{Beginning}
use Rattle.gate_growth.specs.declared.ledger.page.Beginning.TheVariants.{Any, Own}
use Rattle.gate_growth.specs.Marks.{IsMarkOf, MayStandAfter, IsRefusedFor}
use Rattle.gate_growth.specs.Rows.{cell_servers, AreCellsOf, RefusedNotAfter}

-- whether it is anything
abbrev pub is_any : Beginning → Bool
is_any Any = true
is_any Own = false

-- servers began so
abbrev pub AreBegun : (ℕ → Bool) → List Beginning → Type 0
AreBegun arbitrary begun = (s : ℕ) (b : Beginning) → slice_get begun s ≡ Some b → arbitrary s ≡ is_any b

-- servers from the one number on, below the other, began so
abbrev pub AreOpened : (ℕ → Bool) → ℕ → ℕ → Beginning → Type 0
AreOpened arbitrary from bound new = (s : ℕ) → from ≤ s → s < bound → arbitrary s ≡ is_any new

-- the mark of a server that no tree so far names
abbrev pub unnamed_mark : Beginning → Option ℕ → Mark
unnamed_mark Any others = record { held = true; left = others }
unnamed_mark Own others = record { held = false; left = None }

-- whether there is a cell of the server
abbrev pub has_cell : List Cell → ℕ → Bool
has_cell [] s = false
has_cell (c ∷ cells) s = nat_eq c.server s || has_cell cells s

-- the cell in its place, unless there is one of its server
abbrev pub with_cell : List Cell → Cell → List Cell
with_cell cells cell = if has_cell cells cell.server then cells else cells ++ cell ∷ []

-- each server that the plain tree names has a cell
abbrev pub HasCells : List Cell → Plan → Type 0
HasCells cells plan = Each (λ s. IsIn s (cell_servers cells)) (servers plan)

-- the page of a place after these trees: the marks of the servers that they name there, all below the bound, and those of an arbitrary server that none of them names
pub record IsPageOf (arbitrary : ℕ → Bool) (plans : List Plan) (bound : ℕ) (cells : List Cell) (left : Option ℕ) : Type 0 where
  pub marks : AreCellsOf arbitrary plans cells
  pub below : Each (λ s. s < bound) (cell_servers cells)
  pub named : Each (HasCells cells) plans
  pub others : (s : ℕ) → (IsIn s (cell_servers cells) → ⊥) → IsMarkOf true plans s (unnamed_mark Any left)

-- more cells on the page, of each of these servers one
pub record IsPageWith (arbitrary : ℕ → Bool) (plans : List Plan) (bound : ℕ) (old : List Cell) (others : Option ℕ) (named : List ℕ) (cells : List Cell) : Type 0 where
  pub page : IsPageOf arbitrary plans bound cells others
  pub kept : (s : ℕ) → IsIn s (cell_servers old) → IsIn s (cell_servers cells)
  pub have : Each (λ s. IsIn s (cell_servers cells)) named

-- of all servers the first refusal
pub record IsFirstOf (arbitrary : ℕ → Bool) (plans : List Plan) (later : Plan) (r : Refused) : Type 0 where
  pub refused : IsRefusedFor (arbitrary r.server) plans later r.server r.generation
  pub first : (s g : ℕ) → IsRefusedFor (arbitrary s) plans later s g → RefusedNotAfter r s g

-- the tree may follow whatever the server, or is refused
abbrev pub IfRefusedOf : (ℕ → Bool) → List Plan → Plan → Option Refused → Type 0
IfRefusedOf arbitrary plans later found = MatchOption found ((s : ℕ) → MayStandAfter (arbitrary s) plans later s) (IsFirstOf arbitrary plans later)
