-- That stale replies are counted exactly, and that what a reply shows was held. Source: mcgate's own.
use Rattle.std.specs.Prelude.{◌≡◌, ℕ, false, List, ◌∷◌, Option, Some, MatchOption, slice_get}
use Rattle.mc_types.specs.declared.ask.Ask.{Ask}
use Rattle.mc_types.specs.declared.answer.Answer.{Answer}
use Rattle.mc_types.specs.declared.call.Outcome.TheVariants.{Answered}
use Rattle.mc_types.specs.Agree.{AnswerAgrees}
use Rattle.mc_types.specs.Shows.{shows}
use Rattle.mc_types.specs.Items.{Item}
use Rattle.fresh_runs.specs.Calls.{Call}
use Rattle.fresh_runs.specs.Cover.{ShowsWhatItFound}
use Rattle.fresh_runs.specs.Run.{Event, Calls, Replies, calls_so_far, item_at, Run, AreAlone}
use Rattle.fresh_runs.specs.Stale.{CountsStale}

-- where each command has its key alone, stale replies are counted so
abbrev pub AloneCountsStale : (ℕ → Ask → List Call → Answer → Option ℕ → Type 0) → (ℕ → Ask → ℕ → Ask → Type 0) → Type 0
AloneCountsStale words Bars = AreAlone Bars → (opening : ℕ → List ℕ → Option Item) → CountsStale words Bars opening

-- call i of the command was answered so by a server that held the item, and the answer is of that item
pub record IsFoundAt (opening : ℕ → List ℕ → Option Item) (past : List Event) (number : ℕ) (i : ℕ) (answer : Answer) : Type 0 where
  pub call : Call
  pub made : slice_get (calls_so_far past number) i ≡ Some call
  pub answered : call.outcome ≡ Answered answer
  pub item : Item
  pub there : item_at opening past number i ≡ Some item
  pub matches : AnswerAgrees call.ask answer (Some item)

-- where replies show what they found, each reply of a run shows nothing, or the item that was held at the call that it names
abbrev pub ShownIsHeld : (ℕ → Ask → List Call → Answer → Option ℕ → Type 0) → (ℕ → Ask → ℕ → Ask → Type 0) → Type 0
ShownIsHeld words Bars =
    ShowsWhatItFound words
    → (opening : ℕ → List ℕ → Option Item) (past : List Event) (number : ℕ) (key : List ℕ) (reply : Answer) (from : Option ℕ)
    → Run words Bars opening (Replies number key reply from ∷ past)
    → MatchOption from (shows reply ≡ false) (λ i. IsFoundAt opening past number i reply)
