-- What is known of the places of trees, and of those of one tree more. Source: mcgate's own.
use Rattle.std.specs.Prelude.{◌≡◌, ℕ, ◌≤◌, Bool, List, [], ◌∷◌, ◌++◌, length, Option}
use Rattle.route_tree.specs.Each.{Each}
use Rattle.route_tree.specs.Route.{Route, IsTree}
use Rattle.route_tree.specs.Place.{tree_at_place}
use Rattle.route_tree.specs.declared.place.Place.{Place}
use Rattle.gate_growth.specs.Grown.{plans_at}
use Rattle.gate_growth.specs.Pages.{AreBegun, IsPageOf}
use Rattle.gate_growth.specs.Classes.{class_prefixes, ArePagesOf}
use Rattle.gate_growth.specs.PlaceRows.{place_rows, AreRowsOf}
use Rattle.gate_growth.specs.LeftGaps.{IfLeftBy, IfFirstLeft}
use Rattle.gate_growth.specs.declared.ledger.page.Beginning.{Beginning}
use Rattle.gate_growth.specs.declared.ledger.page.Page.{Page}
use Rattle.gate_growth.specs.declared.ledger.class.ClassPages.{ClassPages}
use Rattle.gate_growth.specs.declared.ledger.turning.LeftGap.{LeftGap}
use Rattle.gate_growth.specs.declared.ledger.turning.Successor.{Successor}

-- so many trees, whose servers began so
pub record AreBefore (arbitrary : ℕ → Bool) (trees : List Route) (number : ℕ) (begun : List Beginning) : Type 0 where
  pub counted : length trees ≡ number
  pub trees_are : Each IsTree trees
  pub began : AreBegun arbitrary begun

-- the classes of the trees' places, each with its pages
pub record AreKnown (arbitrary : ℕ → Bool) (trees : List Route) (modulus bound : ℕ) (classes : List ClassPages) : Type 0 where
  pub rows : AreRowsOf trees (class_prefixes classes) modulus
  pub pages : Each (ArePagesOf arbitrary trees modulus bound) classes

-- the pages of these classes after one tree more, and its first gap at their places
abbrev pub AreTurned : (ℕ → Bool) → List Route → Route → ℕ → ℕ → List ClassPages → Option LeftGap → Type 0
AreTurned arbitrary trees tree modulus bound classes gap =
    Each (ArePagesOf arbitrary (trees ++ tree ∷ []) modulus bound) classes × IfFirstLeft arbitrary trees tree (place_rows (class_prefixes classes) modulus) gap

-- whatever the trees were of whose places these classes tell
abbrev pub TurnsTrees : List ClassPages → Successor → List ClassPages → Option LeftGap → Type 0
TurnsTrees known step classes gap =
    (arbitrary : ℕ → Bool) (trees : List Route) (modulus bound : ℕ) → AreBefore arbitrary trees step.number step.begun.now → bound ≤ length step.begun.now
    → AreKnown arbitrary trees modulus bound known → AreTurned arbitrary trees step.tree.now step.modulus (length step.begun.now) classes gap

-- the page of a place after the tree, whatever those were of which the old one tells
abbrev pub TurnsPage : Successor → Place → Page → Page → Type 0
TurnsPage step place old new =
    (arbitrary : ℕ → Bool) (trees : List Route) → AreBefore arbitrary trees step.number step.begun.now
    → IsPageOf arbitrary (plans_at place trees) (length step.begun.now) old.cells.items old.others
    → IsPageOf arbitrary (plans_at place (trees ++ step.tree.now ∷ [])) (length step.begun.now) new.cells.items new.others

-- the gap there, whatever those were
abbrev pub TurnsGap : Successor → Place → Page → Option LeftGap → Type 0
TurnsGap step place old gap =
    (arbitrary : ℕ → Bool) (trees : List Route) → AreBefore arbitrary trees step.number step.begun.now
    → IsPageOf arbitrary (plans_at place trees) (length step.begun.now) old.cells.items old.others
    → IfLeftBy arbitrary (plans_at place trees) (tree_at_place step.tree.now place) place gap
