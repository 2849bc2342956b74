-- What a core does before servers that were emptied before they were first called.
use Rattle.std.proofs.Common.{◌≡◌, Some}
use Rattle.fresh_theory.specs.Emptied.{emptied_opening}
use Rattle.core_accepted.specs.declared.served.ServedCore.{ServedCore}
use Rattle.core_accepted.specs.Known.{Known}
use Rattle.core_accepted.specs.Logs.{TreesAreSound}
use Rattle.core_accepted.proofs.Keeping as keeping
use Rattle.core_accepted.specs.Pipes.{moments_of}
use Rattle.core_accepted.specs.Late.{WasOver}
use Rattle.core_accepted.specs.LateCores.{DoesAsCore}
use Rattle.core_accepted.proofs.LateCores.{late_runs}
use Rattle.fresh_theory.proofs.LateEmptied.{first_told, fresh_same, had_served, serves_same}
use Rattle.fresh_theory.specs.LateCores.{EveryLateRunFromEmptiedIsFresh}

-- also where some were emptied before they were first called
pub emptied_late_core : (served : ServedCore) → TreesAreSound served → (known : Known) → served.accepted ≡ Some known → EveryLateRunFromEmptiedIsFresh known served
emptied_late_core served sound known word emptied opening opens steps core first order =
    let trees = sound known word in
    let moments = moments_of steps in
    let at = first_told emptied opening moments first in
    let start : DoesAsCore served (emptied_opening emptied opening) moments = record { believes = core.believes; log = core.log; led = core.led; own = core.own; serves = serves_same emptied opening moments core.serves at } in
    fresh_same emptied opening WasOver moments (had_served emptied opening moments core.serves) at
    (late_runs served known word trees.0 trees.1 (emptied_opening emptied opening) opens steps start order)
