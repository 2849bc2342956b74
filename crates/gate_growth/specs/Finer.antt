-- The rows of the places of trees and of one tree more, and which of two prefixes is longer.
use Rattle.std.specs.Prelude.{ℕ, Bool, ◌&&◌, List, [], ◌∷◌, ◌++◌, map, length, nat_lt, Option, Some, None, MatchOption}
use Rattle.route_tree.specs.Route.{Route}
use Rattle.route_tree.specs.At.{begins}
use Rattle.gate_growth.specs.PlaceRows.{AreRowsOf, AreTooManyPlaces}
use Rattle.gate_growth.specs.declared.ledger.refining.FinerRows.{FinerRows}

-- the rows, unless they are too many
abbrev pub IfFinerRows : List Route → Route → Option FinerRows → Type 0
IfFinerRows trees tree found =
    MatchOption found (AreTooManyPlaces (trees ++ tree ∷ [])) (λ finer. AreRowsOf (trees ++ tree ∷ []) (None ∷ map Some finer.texts.items) finer.modulus)

-- the second begins the text and is longer than the first
abbrev pub begins_longer : List ℕ → List ℕ → List ℕ → Bool
begins_longer other own text = begins own text && nat_lt (length other) (length own)
