-- The first gap of a tree that follows others. Source: mcgate's own.
use Rattle.std.specs.Prelude.{◌≡◌, ℕ, ◌<◌, ◌≤◌, Bool, List, [], ◌∷◌, ◌++◌, Option, Some, None, MatchOption, nat_lt, slice_get, if◌then◌else◌}
use Rattle.route_tree.specs.declared.place.Place.{Place}
use Rattle.route_tree.specs.Each.{Each}
use Rattle.route_tree.specs.Plan.{Plan}
use Rattle.route_tree.specs.Route.{Route}
use Rattle.route_tree.specs.Place.{tree_at_place}
use Rattle.gate_coverage.specs.declared.deleting.Deleting.TheVariants as kinds
use Rattle.gate_check.specs.Gate.{IsGapAt}
use Rattle.gate_check.specs.Looking.{IsFirstTaken}
use Rattle.gate_check.specs.declared.gap.Gap.{Gap}
use Rattle.gate_growth.specs.Marks.{MayStandAfter, IsRefusedFor}
use Rattle.gate_growth.specs.Rows.{RefusedNotAfter}
use Rattle.gate_growth.specs.Grown.{plans_at}
use Rattle.gate_growth.specs.declared.ledger.turning.LeftGap.{LeftGap}

-- The plain trees of generations at a place are a list, the oldest first, and a later one is to follow them.
-- the gap there for the earliest generation, this one, counted from 0; of that the smallest server, then the first operation. Both kinds of delete leave the server, of which `delete` is named
pub record IsLeftBy (arbitrary : ℕ → Bool) (plans : List Plan) (later : Plan) (g : ℕ) (found : Gap) : Type 0 where
  pub refused : IsRefusedFor (arbitrary found.server) plans later found.server g
  pub first : (server h : ℕ) → IsRefusedFor (arbitrary server) plans later server h → RefusedNotAfter (record { server = found.server; generation = g }) server h
  pub taken : IsFirstTaken later found.server found.op
  pub kind : found.deleting ≡ kinds.Delete
  -- it is a gap of that generation's tree and this one
  pub earlier : Plan
  pub is_earlier : slice_get (plans ++ later ∷ []) g ≡ Some earlier
  pub gap : IsGapAt earlier later found.server found.op found.deleting

-- whatever the server, the tree may follow
abbrev pub MayFollowBy : (ℕ → Bool) → List Plan → Plan → Type 0
MayFollowBy arbitrary plans later = (server : ℕ) → MayStandAfter (arbitrary server) plans later server

-- the tree may follow there, or this is its gap
abbrev pub IfLeftBy : (ℕ → Bool) → List Plan → Plan → Place → Option LeftGap → Type 0
IfLeftBy arbitrary plans later place found =
    MatchOption found (MayFollowBy arbitrary plans later) (λ left. (left.gap.place ≡ place) × IsLeftBy arbitrary plans later left.generation left.gap)

module _ (arbitrary : ℕ → Bool) (trees : List Route) (tree : Route) where
  -- whatever the server, the tree may follow at the place
  abbrev pub MayFollowAt : Place → Type 0
  MayFollowAt place = MayFollowBy arbitrary (plans_at place trees) (tree_at_place tree place)

  -- at the place the tree is refused for this generation
  abbrev pub IsRefusedThere : Place → ℕ → ℕ → Type 0
  IsRefusedThere place server g = IsRefusedFor (arbitrary server) (plans_at place trees) (tree_at_place tree place) server g

  abbrev pub IsLeftAt : ℕ → Gap → Type 0
  IsLeftAt g found = IsLeftBy arbitrary (plans_at found.place trees) (tree_at_place tree found.place) g found

  -- the tree isn't refused there for this generation or an earlier one
  abbrev pub IsRefusedLater : ℕ → Place → Type 0
  IsRefusedLater g place = (server h : ℕ) → IsRefusedThere place server h → g < h

  -- nor for an earlier one
  abbrev pub IsRefusedNotBefore : ℕ → Place → Type 0
  IsRefusedNotBefore g place = (server h : ℕ) → IsRefusedThere place server h → g ≤ h

  -- the gap for the earliest generation, counted from 0; of that at the first of these places, in their order
  pub record IsFirstGapLeft (rows : List Place) (g : ℕ) (found : Gap) : Type 0 where
    pub before : List Place
    pub after : List Place
    pub stands : rows ≡ before ++ found.place ∷ after
    pub here : IsLeftAt g found
    pub none_before : Each (IsRefusedLater g) before
    pub none_after : Each (IsRefusedNotBefore g) after

  -- the tree may follow at all of these places, or this is its first gap
  abbrev pub IfFirstLeft : List Place → Option LeftGap → Type 0
  IfFirstLeft rows found = MatchOption found (Each MayFollowAt rows) (λ left. IsFirstGapLeft rows left.generation left.gap)

-- the one of the earlier generation; of one generation the first
abbrev pub earlier : Option LeftGap → Option LeftGap → Option LeftGap
earlier best None = best
earlier None (Some here) = Some here
earlier (Some other) (Some here) = if nat_lt here.generation other.generation then Some here else Some other
