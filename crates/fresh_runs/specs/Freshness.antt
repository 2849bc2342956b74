-- No deleted value is served: where this holds of every run, and where it doesn't. Source: mcgate's own.
use Rattle.std.specs.Prelude.{◌≡◌, ℕ, List, Option, Some, slice_get}
use Rattle.mc_types.specs.declared.ask.Op.{Op}
use Rattle.mc_types.specs.declared.ask.Op.TheVariants.{Delete}
use Rattle.mc_types.specs.declared.ask.Ask.{Ask}
use Rattle.mc_types.specs.declared.answer.Answer.{Answer}
use Rattle.mc_types.specs.declared.call.Origin.{Origin}
use Rattle.mc_types.specs.declared.call.Origin.TheVariants.{CopyOf}
use Rattle.mc_types.specs.Items.{Item}
use Rattle.fresh_runs.specs.Calls.{Call}
use Rattle.fresh_runs.specs.Run.{Event, LosesOnly, Run, CopiesBar, AreAlone, IsFresh, IsFreshByNumber}
use Rattle.fresh_runs.specs.Cover.{IsCovered, ShowsWhatItFound}
use Rattle.fresh_runs.specs.Single.{server_words}

-- no command bars another
abbrev pub nobody_bars : ℕ → Ask → ℕ → Ask → Type 0
nobody_bars number ask other client = ⊥

-- each bars all others from its key
abbrev pub everybody_bars : ℕ → Ask → ℕ → Ask → Type 0
everybody_bars number ask other client = Unit {0}

-- by these words a command may copy what a call of it was answered
pub record MayCopy (words : ℕ → Ask → List Call → Answer → Option ℕ → Type 0) (number : ℕ) (ask : Ask) : Type 0 where
  pub calls : List Call
  pub reply : Answer
  pub from : Option ℕ
  pub word : words number ask calls reply from
  pub at : ℕ
  pub call : Call
  pub copied : ℕ
  pub made : slice_get calls at ≡ Some call
  pub copies : call.origin ≡ CopyOf copied

-- a command that may copy bars deletes of its key, and nothing else is barred
abbrev pub copying_bars : (ℕ → Ask → List Call → Answer → Option ℕ → Type 0) → ℕ → Ask → ℕ → Ask → Type 0
copying_bars words number ask other client = (client.op ≡ Delete) × MayCopy words number ask

-- from what was held before, each run over these words in which nobody else writes the servers is fresh, where no command that may copy is under way with a delete of its key; and by numbers, where each command has its key alone
abbrev pub RunsAreFreshFrom : (ℕ → Ask → List Call → Answer → Option ℕ → Type 0) → (ℕ → List ℕ → Option Item) → Type 0
RunsAreFreshFrom words opening =
    (events : List Event) → LosesOnly events
    → (Run words (copying_bars words) opening events → IsFresh opening events) × (Run words everybody_bars opening events → IsFreshByNumber opening events)

-- so it is whatever was held before
abbrev pub RunsAreFresh : (ℕ → Ask → List Call → Answer → Option ℕ → Type 0) → Type 0
RunsAreFresh words = (opening : ℕ → List ℕ → Option Item) → RunsAreFreshFrom words opening

-- where deletes clear what later commands take, every run is fresh
abbrev pub CoveredIsFresh : (ℕ → Ask → List Call → Answer → Option ℕ → Type 0) → Type 0
CoveredIsFresh words = IsCovered words → RunsAreFresh words

-- the same with whatever bars others: where deletes clear what later commands take, and what copies bars deletes of its key, every run in which nobody else writes the servers is fresh
abbrev pub SharedIsFresh : (ℕ → Ask → List Call → Answer → Option ℕ → Type 0) → (ℕ → Ask → ℕ → Ask → Type 0) → Type 0
SharedIsFresh words Bars =
    IsCovered words → CopiesBar words Bars → (opening : ℕ → List ℕ → Option Item) (events : List Event) → LosesOnly events → Run words Bars opening events → IsFresh opening events

-- where each command has its key alone, and nobody else writes the servers, later is a greater number
abbrev pub AloneIsFreshByNumber : (ℕ → Ask → List Call → Answer → Option ℕ → Type 0) → (ℕ → Ask → ℕ → Ask → Type 0) → Type 0
AloneIsFreshByNumber words Bars =
    IsCovered words → AreAlone Bars → (opening : ℕ → List ℕ → Option Item) (events : List Event) → LosesOnly events → Run words Bars opening events → IsFreshByNumber opening events

-- a single server for each key: its deletes clear what later commands take, its replies show what they found, and every run is fresh, also where no command waits for another, as nothing copies
pub record SingleServerLaws (server_of : List ℕ → ℕ) : Type 0 where
  pub covered : IsCovered (server_words server_of)
  pub shows : ShowsWhatItFound (server_words server_of)
  pub fresh : RunsAreFresh (server_words server_of)
  pub shares : (opening : ℕ → List ℕ → Option Item) (events : List Event) → LosesOnly events → Run (server_words server_of) nobody_bars opening events → IsFresh opening events

-- whichever server a key has
abbrev pub SingleServerIsCovered : Type 0
SingleServerIsCovered = (server_of : List ℕ → ℕ) → SingleServerLaws server_of
