-- The laws of fleets.
use Rattle.std.proofs.Common.{◌≡◌, ℕ, List, [], ◌∷◌, Option, sym, ◌∙◌}
use Rattle.mc_types.specs.declared.ask.Ask.{Ask}
use Rattle.mc_types.specs.declared.answer.Answer.{Answer}
use Rattle.mc_types.specs.declared.call.Origin.{Origin}
use Rattle.mc_types.specs.declared.call.Origin.TheVariants.{Client, CopyOf}
use Rattle.mc_types.specs.Items.{Item}
use Rattle.fresh_runs.specs.Calls.{Call}
use Rattle.fresh_runs.specs.Run.{Event, Begins, Calls, Replies, Breaks, Turns, Restarts, CopiesBar}
use Rattle.fresh_runs.proofs.Fresh as sharing
use Rattle.core_accepted.specs.Late.{Moment, Does, Lands, told, HasFailed, LateRun}
use Rattle.core_accepted.specs.Pipes.{WasOverOn}
use Rattle.core_accepted.specs.FleetLaws.{NothingCopies, FleetIsFresh, SharedFleetIsFresh}
use Rattle.core_accepted.proofs.LateFresh.{fresh}
use Rattle.core_accepted.proofs.Pipes.{CopiesStay, timely}

no_copy : {A : Type 0} (i : ℕ) → Client ≡ CopyOf i → A
no_copy i e = absurd cc

module _ (words : ℕ → Ask → List Call → Answer → Option ℕ → Type 0) (Bars : ℕ → Ask → ℕ → Ask → Type 0) where
  pub nothing_bars : NothingCopies words → CopiesBar words Bars
  nothing_bars none number ask calls reply from word j call i got o n delete op same = no_copy i (sym (none number ask calls reply from word j call got) ∙ o)

  nothing_stays : (line : ℕ → ℕ → ℕ) → NothingCopies words → CopiesStay line words
  nothing_stays line none number ask calls reply from word j call i got o n s = no_copy i (sym (none number ask calls reply from word j call got) ∙ o)

  pub fleet_fresh : FleetIsFresh words Bars
  fleet_fresh cover none line opening steps h =
      fresh words Bars (WasOverOn line) cover (nothing_bars none) (λ past n s e. e.0) opening _ (timely line words Bars opening (nothing_stays line none) steps h)

  -- what may land by one rule may by another
  pub run_more : (opening : ℕ → List ℕ → Option Item) (One Other : List Event → ℕ → ℕ → Ask → Origin → Type 0) → ((past : List Moment) → LateRun words Bars opening One past → (number server : ℕ) (ask : Ask) (origin : Origin) → HasFailed (told opening past) number server ask origin → One (told opening past) number server ask origin → Other (told opening past) number server ask origin) → (moments : List Moment) → LateRun words Bars opening One moments → LateRun words Bars opening Other moments
  run_more opening One Other more [] run = tt
  run_more opening One Other more (Does (Begins x ask) ∷ past) run = (run.0, run_more opening One Other more past run.1)
  run_more opening One Other more (Does (Calls x server ask origin end) ∷ past) run = (run.0, run_more opening One Other more past run.1)
  run_more opening One Other more (Does (Replies x key r f) ∷ past) run = (run.0, run_more opening One Other more past run.1)
  run_more opening One Other more (Does (Breaks x) ∷ past) run = (run.0, run_more opening One Other more past run.1)
  run_more opening One Other more (Does (Turns server key turned) ∷ past) run = (run.0, run_more opening One Other more past run.1)
  run_more opening One Other more (Does (Restarts server) ∷ past) run = (run.0, run_more opening One Other more past run.1)
  run_more opening One Other more (Lands x server ask origin stamp answer spaces ∷ past) run =
      ((run.0.0, more past run.1 x server ask origin run.0.0 run.0.1, run.0.2, run.0.3), run_more opening One Other more past run.1)

  pub shared_fresh : SharedFleetIsFresh words Bars
  shared_fresh cover none opening events lost run = sharing.fresh words Bars cover (nothing_bars none) opening events lost run
