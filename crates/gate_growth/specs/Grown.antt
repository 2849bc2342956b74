-- Generations in which a tree needn't clear a server on which no tree so far puts items. Source: mcgate's own.
use Rattle.std.specs.Prelude.{◌≡◌, ◌↔◌, ℕ, suc, ◌<◌, ◌≤◌, Bool, false, List, [], ◌∷◌, ◌++◌, Option, Some, None, ◌⊎◌, slice_get, take}
use Rattle.mc_types.specs.declared.ask.Ask.{Ask}
use Rattle.mc_types.specs.Items.{Item}
use Rattle.fresh_runs.specs.Run.{Event, LosesOnly, Run, CopiesBar, AreAlone, IsFresh, IsFreshByNumber}
use Rattle.fresh_runs.specs.Untouched.{IsCoveredOrUntouched}
use Rattle.route_tree.specs.declared.place.Place.{Place}
use Rattle.route_tree.specs.Each.{Each}
use Rattle.route_tree.specs.Plan.{Plan}
use Rattle.route_tree.specs.Route.{Route, IsTree}
use Rattle.route_tree.specs.At.{tree_at}
use Rattle.route_tree.specs.Place.{IsLeastCommonMultiple, tree_at_place}
use Rattle.route_tree.specs.Word.{tree_words}
use Rattle.gate_growth.specs.Puts.{Puts}
use Rattle.gate_growth.specs.Marks.{IsTaken, IsClear, MayStandAfter}
use Rattle.gate_check.specs.Places.{IsClassOf}
use Rattle.gate_check.specs.Valid.{all_sizes, all_prefixes}
use Rattle.gate_check.specs.Sound.{AreSound, AreLoaded}

-- a place of the trees together: no prefix or one of theirs, and a remainder by the least common multiple of their pools' sizes
pub record IsPlaceAmong (trees : List Route) (place : Place) : Type 0 where
  pub modulus : IsLeastCommonMultiple (all_sizes trees) place.modulus
  pub prefix : IsClassOf (all_prefixes trees) place.prefix
  pub below : place.residue < place.modulus

-- no tree of this number or a smaller one puts an item on the server at the place
abbrev pub NonePuts : List Route → ℕ → Place → ℕ → Type 0
NonePuts trees i place server = (h : ℕ) (t : Route) → h ≤ i → slice_get trees h ≡ Some t → Puts (tree_at_place t place) server → ⊥

-- an arbitrary server may hold anything before the run. At each place of the trees up to one: a server that this one takes is cleared by it and by each tree before it; or, by one before it, needn't be, as it isn't arbitrary and no tree up to that one puts items there
abbrev pub AreSoundSince : (ℕ → Bool) → List Route → Type 0
AreSoundSince arbitrary trees =
    (i j : ℕ) (a b : Route) → i ≤ j → slice_get trees i ≡ Some a → slice_get trees j ≡ Some b → (place : Place) → IsPlaceAmong (take (suc j) trees) place
    → (server : ℕ) → IsTaken (tree_at_place b place) server
    → IsClear (tree_at_place a place) server ⊎ ((i < j) × (arbitrary server ≡ false) × NonePuts trees i place server)

-- of a server that isn't arbitrary nothing of a key is held before the run, or what the first tree may have put there
abbrev pub OpensBy : (ℕ → Bool) → List Route → (ℕ → List ℕ → Option Item) → Type 0
OpensBy arbitrary trees opening =
    (server : ℕ) (key : List ℕ) → arbitrary server ≡ false
    → (opening server key ≡ None) ⊎ ((first : Route) × (slice_get trees 0 ≡ Some first) × Puts (tree_at first key) server)

-- where each tree clears all that it and later ones take, it doesn't matter which servers are arbitrary
abbrev pub SoundIsSoundSince : Type 0
SoundIsSoundSince = (arbitrary : ℕ → Bool) (trees : List Route) → Each IsTree trees → AreSound trees → AreSoundSince arbitrary trees

-- what trees are at a place, in their order
abbrev pub plans_at : Place → List Route → List Plan
plans_at place [] = []
plans_at place (tree ∷ trees) = tree_at_place tree place ∷ plans_at place trees

-- one tree more is sound exactly where, at each place of all of them, it clears what it takes, and no tree before it may have left that
abbrev pub ReloadIsSound : Type 0
ReloadIsSound =
    (arbitrary : ℕ → Bool) (trees : List Route) (tree : Route) → Each IsTree (trees ++ tree ∷ [])
    → AreSoundSince arbitrary (trees ++ tree ∷ [])
    ↔ (AreSoundSince arbitrary trees × ((place : Place) → IsPlaceAmong (trees ++ tree ∷ []) place → (server : ℕ) → MayStandAfter (arbitrary server) (plans_at place trees) (tree_at_place tree place) server))

-- then each server that a later command takes is cleared by the delete, or was untouched
abbrev pub SinceIsCovered : Type 0
SinceIsCovered =
    (arbitrary : ℕ → Bool) (trees : List Route) → Each IsTree trees → AreSoundSince arbitrary trees
    → (tree : ℕ → Route) → AreLoaded trees tree → (opening : ℕ → List ℕ → Option Item) → OpensBy arbitrary trees opening
    → IsCoveredOrUntouched (tree_words (λ n key. tree_at (tree n) key)) opening

-- and each run is fresh in which each command runs by the tree that is loaded when it begins, what copies bars deletes of its key, and nobody else writes the servers; where each command has its key alone, that holds by numbers too
abbrev pub GrownGenerationsAreFresh : (ℕ → Ask → ℕ → Ask → Type 0) → Type 0
GrownGenerationsAreFresh Bars =
    (arbitrary : ℕ → Bool) (trees : List Route) → Each IsTree trees → AreSoundSince arbitrary trees
    → (tree : ℕ → Route) → AreLoaded trees tree → (opening : ℕ → List ℕ → Option Item) → OpensBy arbitrary trees opening
    → (events : List Event) → LosesOnly events → Run (tree_words (λ n key. tree_at (tree n) key)) Bars opening events
    → (CopiesBar (tree_words (λ n key. tree_at (tree n) key)) Bars → IsFresh opening events) × (AreAlone Bars → IsFreshByNumber opening events)
