-- Commands of trees that cover one another.
use Rattle.std.proofs.Common.{◌≡◌, ℕ, zero, suc, List, [], ◌∷◌, Option, Some, subst, sym, slice_get}
use Rattle.mc_types.specs.declared.call.Origin.{Origin}
use Rattle.mc_types.specs.declared.call.Origin.TheVariants.{Client}
use Rattle.fresh_runs.specs.Calls.{Call}
use Rattle.fresh_runs.specs.Cover.{IsCovered}
use Rattle.fresh_runs.specs.Freshness.{nobody_bars}
use Rattle.route_tree.specs.Route.{Route, IsTree}
use Rattle.route_tree.specs.At.{tree_at}
use Rattle.route_tree.specs.Copies.{AreOf}
use Rattle.route_tree.proofs.Parts.{each_at}
use Rattle.route_tree.proofs.Copies.{own}
use Rattle.gate_check.proofs.Placing.{sound_is_covered}
use Rattle.core_accepted.specs.FleetLaws.{NothingCopies}
use Rattle.core_accepted.proofs.FleetsFresh.{fleet_fresh, shared_fresh}
use Rattle.core_accepted.specs.Rollout.{AreOfFleet, AreLoadedWithin, words_by, FleetRunsAreFresh, FleetTreesAreFresh}

of_at : (origin : Origin) (calls : List Call) (i : ℕ) (call : Call) → AreOf origin calls → slice_get calls i ≡ Some call → call.origin ≡ origin
of_at origin [] i call h e = absurd (cc)
of_at origin (c ∷ calls) zero call h e = subst (λ (d : Call). d.origin ≡ origin) (let is : c ≡ call = cc in is) h.0
of_at origin (c ∷ calls) (suc i) call h e = of_at origin calls i call h.1 e

covered : (lag : ℕ) (trees : List Route) → AreOfFleet lag trees → (tree : ℕ → Route) → AreLoadedWithin lag trees tree → IsCovered (words_by tree)
covered lag trees are tree loaded =
    sound_is_covered tree
    (λ n. each_at IsTree trees (loaded.generation n) (tree n) are.trees_are (loaded.loaded n))
    (λ n m lt. are.sound (loaded.generation n) (loaded.generation m) (tree n) (tree m) (loaded.near n m lt) (loaded.loaded n) (loaded.loaded m))

copies : (lag : ℕ) (trees : List Route) → AreOfFleet lag trees → (tree : ℕ → Route) → AreLoadedWithin lag trees tree → NothingCopies (words_by tree)
copies lag trees are tree loaded number ask calls reply from word j call got =
    of_at Client calls j call (own (tree_at (tree number) ask.key) ask Client 0 calls (record { reply = reply; from = from }) (are.copy_nothing (loaded.generation number) (tree number) (loaded.loaded number) ask.op ask.key) word.1) got

pub fleet_trees : FleetTreesAreFresh
fleet_trees lag trees are tree loaded =
    let cover = covered lag trees are tree loaded in
    let none = copies lag trees are tree loaded in
    record {
      covered = cover;
      copies = none;
      late = λ line opening steps run. fleet_fresh (words_by tree) nobody_bars cover none line opening steps run;
      shared = λ opening events lost run. shared_fresh (words_by tree) nobody_bars cover none opening events lost run;
    }
