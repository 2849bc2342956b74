-- What a proxy's walk shows by numbers. Source: mcgate's own.
use Rattle.std.specs.Prelude.{◌≡◌, ℕ, List, [], Option}
use Rattle.mc_types.specs.Items.{Item}
use Rattle.fresh_runs.specs.Run.{IsFreshByNumber}
use Rattle.gate_check.specs.Sound.{trees_of}
use Rattle.gate_growth.specs.Grown.{OpensBy}
use Rattle.core_commands.specs.declared.sharing.Sharing.TheVariants.{Alone}
use Rattle.core_accepted.specs.declared.served.ServedCore.{ServedCore}
use Rattle.core_accepted.specs.Known.{Known, is_arbitrary}
use Rattle.core_accepted.specs.Late.{told}
use Rattle.serve_links.specs.CoreSteps.{Step}
use Rattle.serve_links.specs.Called.{TellsCallsOut}
use Rattle.serve_links.specs.Talks.{IsOrderly}
use Rattle.serve_links.specs.InOrder.{Move, walk_of, moments_in, HappensAlong}

-- whatever happens at servers that held this at first, in these steps, and however late: a command numbered after an acknowledged delete of its key shows no item whose stamp isn't greater
abbrev pub AreFreshAlongByNumber : (ℕ → List ℕ → Option Item) → List Step → ServedCore → ServedCore → Type 0
AreFreshAlongByNumber opening steps first last = (moves : List Move) → walk_of moves ≡ steps → HappensAlong opening moves first last → IsFreshByNumber opening (told opening (moments_in moves))

-- of all walks that led to the core in order, where each command has its key alone, and servers held at first what is said of them
abbrev pub EveryLateWalkIsFreshByNumber : Known → ServedCore → Type 0
EveryLateWalkIsFreshByNumber known last =
    last.core.limits.sharing ≡ Alone → (opening : ℕ → List ℕ → Option Item) → OpensBy (is_arbitrary known) (trees_of known.configs) opening
    → (steps : List Step) (first : ServedCore) → TellsCallsOut [] first → IsOrderly steps → AreFreshAlongByNumber opening steps first last
