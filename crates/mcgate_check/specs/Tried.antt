-- The keys that are tried for a place, and which of them is taken. Source: mcgate's own.
use Rattle.mcgate_check.specs.declared.leaks.keys.TheConstants.{TRIED}
use Rattle.std.specs.Prelude.{◌≡◌, ℕ, ◌<◌, List, ◌∷◌, ◌++◌, Option, MatchOption, decimal}
use Rattle.mc_types.specs.KeyText.{IsKey}
use Rattle.route_tree.specs.declared.place.Place.{Place}
use Rattle.route_tree.specs.Place.{IsPlaceOf, prefix_text}
use Rattle.route_tree.specs.Route.{Route}

-- the prefix, `k`, and the number
abbrev pub tried_text : Option (List ℕ) → ℕ → List ℕ
tried_text prefix n = prefix_text prefix ++ 107 ∷ decimal n

-- the text is a key at the place
pub record IsKeyAt (tree : Route) (place : Place) (key : List ℕ) : Type 0 where
  pub key_is : IsKey key
  pub at : IsPlaceOf tree key place

-- the text of this number is a key at the place, or it is none
abbrev pub IsTried : Route → Place → ℕ → Option (List ℕ) → Type 0
IsTried tree place n found =
    MatchOption found (IsKeyAt tree place (tried_text place.prefix n) → ⊥) (λ key. (key ≡ tried_text place.prefix n) × IsKeyAt tree place key)

-- no text of a smaller number is a key at the place
abbrev pub NoneBefore : Route → Place → ℕ → Type 0
NoneBefore tree place n = (m : ℕ) → m < n → IsKeyAt tree place (tried_text place.prefix m) → ⊥

-- how many texts are tried
abbrev pub tried : ℕ
tried = TRIED

-- the key is the first that is tried and stands at the place
pub record IsFirstKeyTried (tree : Route) (place : Place) (key : List ℕ) : Type 0 where
  pub number : ℕ
  pub below : number < tried
  pub text : key ≡ tried_text place.prefix number
  pub is_key : IsKeyAt tree place key
  pub first : NoneBefore tree place number

-- the first such key, or there is none
abbrev pub IsFirstTried : Route → Place → Option (List ℕ) → Type 0
IsFirstTried tree place found = MatchOption found (NoneBefore tree place tried) (IsFirstKeyTried tree place)
