-- The places of trees as rows: of no prefix, then of their distinct prefixes in byte order, each with remainders that rise. Source: mcgate's own.
use Rattle.std.specs.Prelude.{◌≡◌, ℕ, zero, suc, ◌*◌, ◌<◌, List, [], ◌∷◌, ◌++◌, map, length, Option, Some, None}
use Rattle.route_tree.specs.declared.place.Place.{Place}
use Rattle.route_tree.specs.Each.{Each, IsIn}
use Rattle.route_tree.specs.Route.{Route}
use Rattle.route_tree.specs.Place.{IsLeastCommonMultiple}
use Rattle.gate_check.specs.Places.{place_at}
use Rattle.gate_check.specs.Valid.{all_sizes, all_prefixes, AreInOrder}
use Rattle.gate_check.specs.Tables.{most_rows}

-- the places of a prefix with remainders below n
abbrev pub rows_below : Option (List ℕ) → ℕ → ℕ → List Place
rows_below prefix modulus zero = []
rows_below prefix modulus (suc n) = rows_below prefix modulus n ++ place_at prefix n modulus ∷ []

-- the places of these prefixes
abbrev pub place_rows : List (Option (List ℕ)) → ℕ → List Place
place_rows [] modulus = []
place_rows (o ∷ os) modulus = rows_below o modulus modulus ++ place_rows os modulus

-- the prefixes and the modulus of these trees' places: those of a table of them
pub record AreRowsOf (trees : List Route) (prefixes : List (Option (List ℕ))) (modulus : ℕ) : Type 0 where
  pub least : IsLeastCommonMultiple (all_sizes trees) modulus
  pub texts : List (List ℕ)
  pub first : prefixes ≡ None ∷ map Some texts
  pub in_order : AreInOrder texts
  pub known : Each (λ p. IsIn p (all_prefixes trees)) texts
  pub whole : Each (λ p. IsIn p texts) (all_prefixes trees)

-- these trees together have too many places
abbrev pub AreTooManyPlaces : List Route → Type 0
AreTooManyPlaces trees = (prefixes : List (Option (List ℕ))) (modulus : ℕ) → AreRowsOf trees prefixes modulus → most_rows < length prefixes * modulus
