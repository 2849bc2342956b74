-- The runs of cores are a fleet's.
use Rattle.std.proofs.Common.{◌≡◌, ℕ, List, Option}
use Rattle.mc_types.specs.Items.{Item}
use Rattle.fresh_runs.specs.Freshness.{nobody_bars}
use Rattle.fresh_runs.specs.Overlap.{run_of}
use Rattle.route_tree.specs.Route.{Route}
use Rattle.core_accepted.specs.declared.served.ServedCore.{ServedCore}
use Rattle.core_accepted.specs.Late.{Moment}
use Rattle.core_accepted.specs.Pipes.{moments_of}
use Rattle.core_accepted.specs.Parts.{ArePartsOf, BarsWithin}
use Rattle.core_accepted.proofs.FleetsFresh.{nothing_bars}
use Rattle.fresh_theory.proofs.FleetsFresh.{sticky_fresh}
use Rattle.fresh_theory.proofs.Parts.{part_laws}
use Rattle.core_accepted.specs.Rollout.{words_by}
use Rattle.core_accepted.proofs.Rollout.{fleet_trees}
use Rattle.fresh_theory.specs.Cores.{AreCoresOf, FleetOfCoresIsFresh, LateFleetOfCoresIsFresh, StickyFleetOfCoresIsFresh}
use Rattle.core_accepted.proofs.Owns.{led_owns}

-- what the cores do are parts
parts_of : (lag : ℕ) (trees : List Route) → (fresh : ℕ → ServedCore) (opening : ℕ → List ℕ → Option Item) (moments : List Moment) → (cores : AreCoresOf lag trees fresh opening moments) → ArePartsOf cores.proxy (words_by cores.tree) nobody_bars opening moments
parts_of lag trees fresh opening moments cores =
    let laws = part_laws (words_by cores.tree) nobody_bars in
    record {
      own = λ p.
          laws.changes _ _ (cores.parts p)
          (laws.renames (cores.name p) (cores.rising p) (run_of (cores.logs p))
          (led_owns (fresh p) (cores.believes p) (cores.logs p) (cores.led p) (cores.name p) cores.tree nobody_bars (λ n. cores.tree (cores.name p n) ≡ (cores.led p).tree n) (λ n is. is) (λ n m ask client mine its b. absurd b) (cores.runs_by p)));
      rise = cores.rise;
      serves = cores.serves;
    }

nobody_within : (proxy : ℕ → ℕ) → BarsWithin proxy nobody_bars
nobody_within proxy number other ask client b = absurd b

pub fleet_of_cores : FleetOfCoresIsFresh
fleet_of_cores lag trees are fresh opening moments cores none =
    let laws = fleet_trees lag trees are cores.tree cores.loaded in
    (part_laws (words_by cores.tree) nobody_bars).fresh laws.covered laws.copies cores.proxy (nobody_within cores.proxy) opening moments (parts_of lag trees fresh opening moments cores) none

pub late_fleet_of_cores : LateFleetOfCoresIsFresh
late_fleet_of_cores lag trees are fresh line opening steps cores order =
    let laws = fleet_trees lag trees are cores.tree cores.loaded in
    (part_laws (words_by cores.tree) nobody_bars).late laws.covered laws.copies cores.proxy (nobody_within cores.proxy) line opening steps
    (record { parts = parts_of lag trees fresh opening (moments_of steps) cores; order = order })

pub sticky_fleet_of_cores : StickyFleetOfCoresIsFresh
sticky_fleet_of_cores lag trees are fresh line at opening steps cores order sticky =
    let laws = fleet_trees lag trees are cores.tree cores.loaded in
    let words = words_by cores.tree in
    sticky_fresh words nobody_bars laws.covered (nothing_bars words nobody_bars laws.copies) line at opening steps
    ((part_laws words nobody_bars).steps cores.proxy (nobody_within cores.proxy) line opening steps (record { parts = parts_of lag trees fresh opening (moments_of steps) cores; order = order }))
    sticky
