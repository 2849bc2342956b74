-- Runs in which servers apply late what had failed, on generations that needn't clear what was never stored. Source: mcgate's own.
use Rattle.std.specs.Prelude.{ℕ, Bool, List, Option}
use Rattle.mc_types.specs.declared.ask.Ask.{Ask}
use Rattle.mc_types.specs.declared.answer.Answer.{Answer}
use Rattle.mc_types.specs.Items.{Item}
use Rattle.fresh_runs.specs.Calls.{Call}
use Rattle.fresh_runs.specs.Untouched.{IsCoveredOrUntouched}
use Rattle.fresh_runs.specs.Run.{CopiesBar, AreAlone, IsFreshByNumber}
use Rattle.route_tree.specs.Route.{Route, IsTree}
use Rattle.route_tree.specs.Each.{Each}
use Rattle.gate_check.specs.Sound.{AreLoaded}
use Rattle.gate_growth.specs.Grown.{AreSoundSince, OpensBy}
use Rattle.core_accepted.specs.Late.{told, IsFreshBy, WasOver}
use Rattle.core_accepted.specs.Pipes.{PipeStep, moments_of, PipeSteps}
use Rattle.core_accepted.specs.Rollout.{words_by}
use Rattle.core_accepted.specs.LateCores.{only_line}

-- over one connection to each server, with no more said of when what had failed is applied: it is fresh; by numbers, where each command has its key alone
abbrev pub GrownPipesAreFresh : (ℕ → Ask → List Call → Answer → Option ℕ → Type 0) → (ℕ → Ask → ℕ → Ask → Type 0) → (ℕ → List ℕ → Option Item) → Type 0
GrownPipesAreFresh words Bars opening =
    IsCoveredOrUntouched words opening → (steps : List PipeStep) → PipeSteps only_line words Bars opening steps
    → (CopiesBar words Bars → IsFreshBy opening WasOver (moments_of steps)) × (AreAlone Bars → IsFreshByNumber opening (told opening (moments_of steps)))

-- so it is over sound generations, where each command runs by the tree that is loaded when it begins, whenever its calls are applied
abbrev pub LateGrownGenerationsAreFresh : (ℕ → Ask → ℕ → Ask → Type 0) → Type 0
LateGrownGenerationsAreFresh Bars =
    (arbitrary : ℕ → Bool) (trees : List Route) → Each IsTree trees → AreSoundSince arbitrary trees
    → (tree : ℕ → Route) → AreLoaded trees tree → (opening : ℕ → List ℕ → Option Item) → OpensBy arbitrary trees opening
    → (steps : List PipeStep) → PipeSteps only_line (words_by tree) Bars opening steps
    → (CopiesBar (words_by tree) Bars → IsFreshBy opening WasOver (moments_of steps)) × (AreAlone Bars → IsFreshByNumber opening (told opening (moments_of steps)))
