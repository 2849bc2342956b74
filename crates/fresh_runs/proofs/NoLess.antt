-- Where deletes clear what later commands take, nothing need be untouched.
use Rattle.std.proofs.Common.{ℕ, List, Option, inl}
use Rattle.mc_types.specs.declared.ask.Ask.{Ask}
use Rattle.mc_types.specs.declared.answer.Answer.{Answer}
use Rattle.mc_types.specs.Items.{Item}
use Rattle.fresh_runs.specs.Calls.{Call}
use Rattle.fresh_runs.specs.Cover.{IsCovered}
use Rattle.fresh_runs.specs.Untouched.{IsCoveredOrUntouched}

pub no_less : (words : ℕ → Ask → List Call → Answer → Option ℕ → Type 0) (opening : ℕ → List ℕ → Option Item) → IsCovered words → IsCoveredOrUntouched words opening
no_less words opening cover =
    record {
      covered = λ n m delete ask lt op same calls reply from word server takes. inl (cover.covered n m delete ask lt op same calls reply from word server takes);
      deletes = cover.deletes;
    }
