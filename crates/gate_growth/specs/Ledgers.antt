-- The ledger of generations, and why a configuration may not follow them. Source: mcgate's own.
use Rattle.std.specs.Prelude.{◌≡◌, ℕ, ◌+◌, ◌≤◌, Bool, List, [], ◌∷◌, ◌++◌, length, Option}
use Rattle.route_tree.specs.Each.{Each}
use Rattle.route_tree.specs.Route.{Route, IsTree}
use Rattle.gate_check.specs.declared.gap.Gap.{Gap}
use Rattle.gate_growth.specs.Pages.{AreBegun}
use Rattle.gate_growth.specs.PlaceRows.{place_rows, AreRowsOf, AreTooManyPlaces}
use Rattle.gate_growth.specs.LeftGaps.{IsFirstGapLeft}
use Rattle.gate_growth.specs.Turning.{AreKnown}
use Rattle.gate_growth.specs.Grown.{AreSoundSince}
use Rattle.gate_growth.specs.declared.ledger.book.Ledger.{Ledger}
use Rattle.gate_growth.specs.declared.ledger.unsound.Unsound.{Unsound}
use Rattle.gate_growth.specs.declared.ledger.unsound.Unsound.TheVariants as reasons

-- so many servers are known to it
abbrev pub count_of_known : Ledger → ℕ
count_of_known ledger = length ledger.begun.items

-- the ledger of these trees, each of which was sound after those before it: it has the page of each place of all of them. An arbitrary server may hold anything before the first of them, or before its first call
pub record IsLedgerOf (arbitrary : ℕ → Bool) (trees : List Route) (ledger : Ledger) : Type 0 where
  pub count : ledger.count ≡ length trees
  pub trees_are : Each IsTree trees
  pub sound : AreSoundSince arbitrary trees
  pub begun : AreBegun arbitrary ledger.begun.items
  pub known : AreKnown arbitrary trees ledger.modulus (count_of_known ledger) ledger.classes.items

-- the most generations that have a number
abbrev pub most_generations : ℕ
most_generations = 4294967295

-- the first gap of the tree, in the order of the rows of all trees' places; so these trees and this one aren't sound
pub record IsFirstLeftGap (arbitrary : ℕ → Bool) (trees : List Route) (tree : Route) (generation : ℕ) (found : Gap) : Type 0 where
  pub g : ℕ
  pub numbered : generation ≡ g + 1
  pub prefixes : List (Option (List ℕ))
  pub modulus : ℕ
  pub are_rows : AreRowsOf (trees ++ tree ∷ []) prefixes modulus
  pub first : IsFirstGapLeft arbitrary trees tree (place_rows prefixes modulus) g found
  pub unsound : AreSoundSince arbitrary (trees ++ tree ∷ []) → ⊥

-- why the tree may not follow
abbrev pub IsUnsoundFor : (ℕ → Bool) → List Route → Route → Unsound → Type 0
IsUnsoundFor arbitrary trees tree reasons.TooManyGenerations = most_generations ≤ length trees
IsUnsoundFor arbitrary trees tree reasons.TooManyPlaces = AreTooManyPlaces (trees ++ tree ∷ [])
IsUnsoundFor arbitrary trees tree (reasons.Left generation gap) = IsFirstLeftGap arbitrary trees tree generation gap
IsUnsoundFor arbitrary trees tree reasons.NoMemory = Unit {0}
