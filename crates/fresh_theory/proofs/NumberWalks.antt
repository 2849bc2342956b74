-- What a proxy's walk shows by numbers.
use Rattle.std.proofs.Common.{◌≡◌, List, Some, sym, subst}
use Rattle.fresh_runs.specs.Run.{IsFreshByNumber}
use Rattle.core_accepted.specs.declared.served.ServedCore.{ServedCore}
use Rattle.core_accepted.specs.Known.{Known}
use Rattle.core_accepted.specs.Logs.{TreesAreSound}
use Rattle.core_accepted.specs.Late.{Moment, told}
use Rattle.core_accepted.proofs.LateCores.{late_numbers}
use Rattle.serve_links.specs.Talks.{IsOrderly}
use Rattle.serve_links.specs.InOrder.{as_pipes}
use Rattle.serve_links.proofs.LateWalks.{does_along}
use Rattle.fresh_theory.specs.NumberWalks.{EveryLateWalkIsFreshByNumber}

pub walks_by_number : (last : ServedCore) → TreesAreSound last → (known : Known) → last.accepted ≡ Some known → EveryLateWalkIsFreshByNumber known last
walks_by_number last sound known word alone opening opens steps first tells orderly moves same along =
    let trees = sound known word in
    let does = does_along first last tells opening moves (subst IsOrderly (sym same) orderly) along in
    subst (λ (l : List Moment). IsFreshByNumber opening (told opening l)) does.0 (late_numbers last known word trees.0 trees.1 opening opens alone (as_pipes moves) does.1 does.2)
