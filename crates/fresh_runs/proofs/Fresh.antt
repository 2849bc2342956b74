-- Every run is fresh whose deletes clear what later commands take, and in which what copies has its key alone.
use Rattle.std.proofs.Common.{ℕ, List, Option}
use Rattle.mc_types.specs.declared.ask.Ask.{Ask}
use Rattle.mc_types.specs.declared.answer.Answer.{Answer}
use Rattle.mc_types.specs.Items.{Item}
use Rattle.fresh_runs.specs.Calls.{Call}
use Rattle.fresh_runs.specs.Cover.{IsCovered}
use Rattle.fresh_runs.specs.Run.{Event, LosesOnly, AreAlone, CopiesBar, Run, IsFresh, IsFreshByNumber}
use Rattle.fresh_runs.specs.Freshness.{RunsAreFresh}
use Rattle.fresh_runs.proofs.NoLess.{no_less}
use Rattle.fresh_runs.proofs.UntouchedFresh as grown

module _ (words : ℕ → Ask → List Call → Answer → Option ℕ → Type 0) (Bars : ℕ → Ask → ℕ → Ask → Type 0) (cover : IsCovered words) where
  pub fresh : CopiesBar words Bars → (opening : ℕ → List ℕ → Option Item) (events : List Event) → LosesOnly events → Run words Bars opening events → IsFresh opening events
  fresh copies opening = grown.fresh words Bars opening (no_less words opening cover) copies

  -- where each command has its key alone, what it shows after an acknowledged delete has a stamp greater than the delete's number
  pub fresh_by_number : AreAlone Bars → (opening : ℕ → List ℕ → Option Item) (events : List Event) → LosesOnly events → Run words Bars opening events → IsFreshByNumber opening events
  fresh_by_number all opening = grown.fresh_by_number words Bars opening (no_less words opening cover) all

-- whatever was held before
pub runs_are_fresh : (words : ℕ → Ask → List Call → Answer → Option ℕ → Type 0) → IsCovered words → RunsAreFresh words
runs_are_fresh words cover opening = grown.runs_fresh_from words opening (no_less words opening cover)
