-- Fleets whose commands run by trees that cover one another. Source: mcgate's own.
use Rattle.std.specs.Prelude.{◌≡◌, ℕ, ◌+◌, ◌<◌, ◌≤◌, Bool, false, List, Option, Some, slice_get}
use Rattle.mc_types.specs.declared.ask.Op.{Op}
use Rattle.mc_types.specs.Items.{Item}
use Rattle.fresh_runs.specs.Calls.{Words}
use Rattle.fresh_runs.specs.Cover.{IsCovered}
use Rattle.fresh_runs.specs.Run as sharing
use Rattle.fresh_runs.specs.Run.{Event}
use Rattle.fresh_runs.specs.Freshness.{nobody_bars}
use Rattle.route_tree.specs.Route.{Route, IsTree}
use Rattle.route_tree.specs.Each.{Each}
use Rattle.route_tree.specs.At.{tree_at}
use Rattle.route_tree.specs.Word.{tree_words}
use Rattle.route_tree.specs.Copies.{may_copy}
use Rattle.gate_check.specs.Places.{CoversAt}
use Rattle.core_accepted.specs.Late.{IsFreshBy}
use Rattle.core_accepted.specs.Pipes.{PipeStep, moments_of, PipeSteps, WasOverOn}
use Rattle.core_accepted.specs.FleetLaws.{NothingCopies}

-- the trees of a fleet, in the order in which they were rolled out: each clears what it and the later ones take, and what those take that were rolled out at most `lag` before it. With 0 each covers itself and the later ones; with 1 two that follow each other cover each other, so that proxies may run by either
abbrev pub AreSoundWithin : ℕ → List Route → Type 0
AreSoundWithin lag trees = (i j : ℕ) (a b : Route) → i ≤ j + lag → slice_get trees i ≡ Some a → slice_get trees j ≡ Some b → CoversAt a b

-- each command, at whatever proxy, has a tree of the list; none runs by a tree that was rolled out more than `lag` before that of a command that began earlier
pub record AreLoadedWithin (lag : ℕ) (trees : List Route) (tree : ℕ → Route) : Type 0 where
  pub generation : ℕ → ℕ
  pub loaded : (n : ℕ) → slice_get trees (generation n) ≡ Some (tree n)
  pub near : (n m : ℕ) → n < m → generation n ≤ generation m + lag

-- no command of any of the trees may copy
abbrev pub TreesCopyNothing : List Route → Type 0
TreesCopyNothing trees = (i : ℕ) (a : Route) → slice_get trees i ≡ Some a → (op : Op) (key : List ℕ) → may_copy op (tree_at a key) ≡ false

-- the trees of a fleet
pub record AreOfFleet (lag : ℕ) (trees : List Route) : Type 0 where
  pub trees_are : Each IsTree trees
  pub sound : AreSoundWithin lag trees
  pub copy_nothing : TreesCopyNothing trees

-- the words of commands, each by its tree
abbrev pub words_by : (ℕ → Route) → Words
words_by tree = tree_words (λ n key. tree_at (tree n) key)

-- over such trees, though no command waits for another: every run of a fleet over connections in order is fresh, but for stores that had failed over another connection than the delete's; and with the premise that a call that failed was applied before or is never, every run is fresh
pub record FleetRunsAreFresh (tree : ℕ → Route) : Type 0 where
  pub covered : IsCovered (words_by tree)
  pub copies : NothingCopies (words_by tree)
  pub late : (line : ℕ → ℕ → ℕ) (opening : ℕ → List ℕ → Option Item) (steps : List PipeStep) → PipeSteps line (words_by tree) nobody_bars opening steps → IsFreshBy opening (WasOverOn line) (moments_of steps)
  pub shared : (opening : ℕ → List ℕ → Option Item) (events : List Event) → sharing.LosesOnly events → sharing.Run (words_by tree) nobody_bars opening events → sharing.IsFresh opening events

-- every run of a fleet on such trees is fresh so, whichever of them commands run by, as long as they are near enough to each other
abbrev pub FleetTreesAreFresh : Type 0
FleetTreesAreFresh = (lag : ℕ) (trees : List Route) → AreOfFleet lag trees → (tree : ℕ → Route) → AreLoadedWithin lag trees tree → FleetRunsAreFresh tree
