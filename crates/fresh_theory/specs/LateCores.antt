-- What a core does before servers that were emptied before they were first called. Source: mcgate's own.
use Rattle.std.specs.Prelude.{ℕ, Bool, List, Option}
use Rattle.mc_types.specs.Items.{Item}
use Rattle.gate_check.specs.Sound.{trees_of}
use Rattle.fresh_theory.specs.Emptied.{AreEmptiedFirst, emptied_opening}
use Rattle.gate_growth.specs.Grown.{OpensBy}
use Rattle.core_accepted.specs.declared.served.ServedCore.{ServedCore}
use Rattle.core_accepted.specs.Known.{Known, is_arbitrary}
use Rattle.core_accepted.specs.Late.{seen, IsFreshBy, WasOver}
use Rattle.core_accepted.specs.Pipes.{PipeStep, moments_of}
use Rattle.core_accepted.specs.Parts.{PipesInOrder}
use Rattle.core_accepted.specs.LateCores.{only_line, DoesAsCore}

-- also where servers held something at first, and were emptied before they were first called: they count as if they had held nothing
abbrev pub EveryLateRunFromEmptiedIsFresh : Known → ServedCore → Type 0
EveryLateRunFromEmptiedIsFresh known served =
    (emptied : ℕ → Bool) (opening : ℕ → List ℕ → Option Item) → OpensBy (is_arbitrary known) (trees_of known.configs) (emptied_opening emptied opening)
    → (steps : List PipeStep) → DoesAsCore served opening (moments_of steps) → AreEmptiedFirst emptied (seen (moments_of steps)) → PipesInOrder only_line steps → IsFreshBy opening WasOver (moments_of steps)
