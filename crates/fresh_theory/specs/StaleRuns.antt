-- Runs that aren't fresh, though nobody else writes the servers. Source: mcgate's own.
use Rattle.std.specs.Prelude.{◌≡◌, ℕ, true, List, [], ◌∷◌, Option, Some, None, ◌⊎◌}
use Rattle.mc_types.specs.declared.ask.Op.{Op}
use Rattle.mc_types.specs.declared.ask.Op.TheVariants.{Get, Add, Delete}
use Rattle.mc_types.specs.declared.ask.Ask.{Ask}
use Rattle.mc_types.specs.declared.answer.Answer.{Answer}
use Rattle.mc_types.specs.declared.answer.Answer.TheVariants.{Stored, Miss, NotFound}
use Rattle.mc_types.specs.declared.call.Origin.{Origin}
use Rattle.mc_types.specs.declared.call.Origin.TheVariants.{Client, CopyOf}
use Rattle.mc_types.specs.declared.call.Outcome.TheVariants.{Answered}
use Rattle.mc_types.specs.Acknowledged.{says_gone}
use Rattle.mc_types.specs.Items.{Item}
use Rattle.fresh_runs.specs.Calls.{Call, OpensAtZero}
use Rattle.fresh_runs.specs.Run.{Event, LosesOnly, Run, CopiesBar, IsFresh}
use Rattle.fresh_runs.specs.Cover.{IsCovered}
use Rattle.fresh_runs.specs.Single.{server_words}
use Rattle.fresh_runs.specs.Freshness.{nobody_bars}

-- what leaks: a delete asks nobody and is answered that nothing is held
abbrev pub leaky_words_of : Op → ℕ → Ask → List Call → Answer → Option ℕ → Type 0
leaky_words_of Delete number ask calls reply from = (calls ≡ []) × (reply ≡ NotFound) × (from ≡ None)
leaky_words_of _ number ask calls reply from = server_words (λ _. 0) number ask calls reply from

-- the words with such deletes, and server 0 for the rest
abbrev pub leaky_words : ℕ → Ask → List Call → Answer → Option ℕ → Type 0
leaky_words number ask calls reply from = leaky_words_of ask.op number ask calls reply from

-- a run that isn't fresh, though nobody else writes the servers
pub record StaleRun (words : ℕ → Ask → List Call → Answer → Option ℕ → Type 0) (Bars : ℕ → Ask → ℕ → Ask → Type 0) : Type 0 where
  pub opening : ℕ → List ℕ → Option Item
  pub events : List Event
  pub opens : OpensAtZero opening
  pub loses : LosesOnly events
  pub run : Run words Bars opening events
  pub stale : IsFresh opening events → ⊥

-- freshness is no law of all words
abbrev pub SomeRunIsStale : Type 0
SomeRunIsStale = StaleRun leaky_words nobody_bars

-- a call that was answered so
abbrev pub answered_call : ℕ → Ask → Origin → Answer → Call
answered_call server ask origin answer = record { server = server; ask = ask; origin = origin; outcome = Answered answer }

-- a get asks server 0, and where that holds nothing server 1, whose item it puts into server 0; a delete clears both
abbrev pub refill_words_of : Op → Ask → List Call → Answer → Option ℕ → Type 0
refill_words_of Get ask calls reply from =
    ((calls ≡ answered_call 0 ask Client reply ∷ []) × (from ≡ Some 0))
    ⊎ ((calls ≡ answered_call 0 ask Client Miss ∷ (answered_call 1 ask Client reply ∷ (answered_call 0 (record ask { op = Add }) (CopyOf 1) Stored ∷ []))) × (from ≡ Some 1))
refill_words_of Delete ask calls reply from =
    (other : Answer) × (calls ≡ answered_call 0 ask Client reply ∷ (answered_call 1 ask Client other ∷ [])) × (says_gone other ≡ true) × (from ≡ None)
refill_words_of _ ask calls reply from = ⊥

abbrev pub refill_words : ℕ → Ask → List Call → Answer → Option ℕ → Type 0
refill_words number ask calls reply from = refill_words_of ask.op ask calls reply from

-- deletes clear what later commands take; yet a get that copies while a delete is under way lets a later one show what was deleted, and where gets and deletes aren't under way together none does
pub record CopiesRace : Type 0 where
  pub covered : IsCovered refill_words
  pub races : StaleRun refill_words nobody_bars
  pub copies : CopiesBar refill_words (λ number ask other client. (ask.op ≡ Get) × (client.op ≡ Delete))
