-- Each log that may have led to a core goes on by each call of a walk.
use Rattle.std.proofs.Common.{◌≡◌, ℕ, true, false, cond, Bool, List, [], ◌∷◌, ◌++◌, Option, ◌⊎◌, inl, inr, refl, sym, ap, ◌∙◌, subst, append_assoc}
use Rattle.std.specs.Prelude.{map as each}
use Rattle.mc_types.specs.Items.{Item}
use Rattle.mc_types.specs.declared.call.Origin.TheVariants.{Client as OfClient}
use Rattle.mc_types.specs.declared.call.Outcome.{Outcome}
use Rattle.mc_types.specs.declared.answer.Answer.{Answer}
use Rattle.fresh_runs.specs.Run.{Event, LosesOnly, after_event}
use Rattle.fresh_runs.specs.Overlap.{Slot, Entry, Starts, Sends, Happens, Ends, Shows, Passes, Gives, Drops, Frees, Resets, run_of}
use Rattle.fresh_runs.specs.Calls.{outcome_of}
use Rattle.route_job.specs.Rest.{ask_under, origin_under}
use Rattle.route_job.specs.Jobs.{server_of_pending}
use Rattle.core_proxy.specs.declared.fault.CoreFault.{CoreFault}
use Rattle.core_proxy.specs.declared.fault.CoreFault.TheVariants as faults
use Rattle.core_proxy.specs.CoreState.{dialect, dropped_by, client_at, Beside}
use Rattle.core_proxy.specs.Polls.{EntriesThen, Perhaps, BeginsOne, EndsOne, CommandIsEnded, IsPolled, AreShown, SoEnded, SoFar}
use Rattle.core_proxy.specs.Settles.{freed}
use Rattle.core_proxy.specs.Steps.{event_of_call}
use Rattle.core_proxy.specs.declared.note.Note.{Note}
use Rattle.core_proxy.specs.declared.note.Poll.{Poll}
use Rattle.core_proxy.specs.declared.note.Poll.TheVariants as polls
use Rattle.core_accepted.specs.declared.served.ServedCore.{ServedCore}
use Rattle.core_accepted.specs.declared.tally.CoreTally.{CoreTally}
use Rattle.core_accepted.specs.Logs.{MayHaveLed, LogsGoCounting, IsFreshLog, BeginSo, fed}
use Rattle.core_accepted.specs.Results.{PollStops, TakesResult, SettleStops}
use Rattle.serve_links.specs.CoreSteps.{Step, Opened, NotOpened, Fed, Polled, Stopped, Settled, Gave, Closed, LeftLine, Broke, Ticked, Loaded, Linked, Asked, Greeted, Spelled, Late, CameLate, Lost, Noted, Does, Walks}
use Rattle.core_accepted.proofs.Keeping.{since_are_fresh}
use Rattle.core_accepted.proofs.Losses.{servers_may_lose}
use Rattle.serve_links.proofs.Walked.{walks_keep_since}
use Rattle.serve_proxy.specs.LogsGoOn.{AreOwn, AreTurns, happened, after_turns, GoesOnSaying, StaysOn, SettlesOnLog, StepGoes, LogGoes, WalksGoOn, WalksAreFresh}

-- ---- what a core does by itself

-- entries that are these
as_own : (entries others : List (Entry dialect)) → entries ≡ others → AreOwn others → AreOwn entries
as_own entries others is own = subst AreOwn (sym is) own

none_own : (entries : List (Entry dialect)) → entries ≡ [] → AreOwn entries
none_own entries is = as_own entries [] is (λ past l. l)

-- one entry
one_own : (entry : Entry dialect) → AreOwn (entry ∷ []) → (entries : List (Entry dialect)) → entries ≡ entry ∷ [] → AreOwn entries
one_own entry own entries is = as_own entries (entry ∷ []) is own

-- some and then others
then_own : (first second : List (Entry dialect)) → AreOwn first → AreOwn second → AreOwn (second ++ first)
then_own first second f s past l = subst (λ (es : List (Entry dialect)). LosesOnly (run_of es)) (sym (append_assoc second first past)) (s (first ++ past) (f past l))

both_own : (entries first second : List (Entry dialect)) → entries ≡ second ++ first → AreOwn first → AreOwn second → AreOwn entries
both_own entries first second is f s = as_own entries (second ++ first) is (then_own first second f s)

shows_own : (client : ℕ) (shown : List (Slot dialect × Answer)) → AreOwn (each (λ (s : Slot dialect × Answer). let e : Entry dialect = Shows client s.0 s.1 in e) shown)
shows_own client [] past l = l
shows_own client (s ∷ shown) past l = shows_own client shown past l

shown_own : (client : ℕ) (entries : List (Entry dialect)) → AreShown client entries → AreOwn entries
shown_own client entries is = as_own entries (each (λ (s : Slot dialect × Answer). let e : Entry dialect = Shows client s.0 s.1 in e) is.0) is.1 (shows_own client is.0)

freed_own : (numbers : List ℕ) → AreOwn (freed numbers)
freed_own [] past l = l
freed_own (n ∷ numbers) past l = freed_own numbers past l

fed_own : (dropped : Bool) (client : ℕ) (piece : List ℕ) → AreOwn (fed dropped client piece)
fed_own true client piece past l = l
fed_own false client piece past l = l

begun_own : (client : ℕ) (entries : List (Entry dialect)) → Perhaps (BeginsOne client) entries → AreOwn entries
begun_own client entries (inl none) = none_own entries none
begun_own client entries (inr some) = one_own (Starts client some.0 some.2.0) (λ past l. l) entries some.2.2

ended_own : (client : ℕ) (note : Note) (entries : List (Entry dialect)) → CommandIsEnded client note entries → AreOwn entries
ended_own client note entries is = one_own (Ends client note.number is.0 is.1 note.from) (λ past l. l) entries is.4

perhaps_ended : (client : ℕ) (entries : List (Entry dialect)) → Perhaps (EndsOne client) entries → AreOwn entries
perhaps_ended client entries (inl none) = none_own entries none
perhaps_ended client entries (inr some) = ended_own client some.0 entries some.1

polled_own : (client : ℕ) (poll : Poll) (entries : List (Entry dialect)) → IsPolled client poll entries → AreOwn entries
polled_own client polls.Idle entries is = none_own entries is
polled_own client polls.Own entries is = one_own (Passes client is.0 is.1) (λ past l. l) entries is.3
polled_own client polls.Refused entries is = one_own (Passes client is.0 is.1) (λ past l. l) entries is.3
polled_own client (polls.Call ticket) entries is = one_own (Sends ticket.number ticket.server ticket.ask ticket.origin) (λ past l. l) entries is
polled_own client polls.Waiting entries is = none_own entries is
polled_own client polls.Queued entries is = none_own entries is
polled_own client polls.Busy entries is = none_own entries is
polled_own client (polls.Did note) entries is = both_own entries is.0 is.1 is.4 (ended_own client note is.0 is.2) (shown_own client is.1 is.3)

poll_own : (client : ℕ) (poll : Poll) (entries : List (Entry dialect)) → EntriesThen (Perhaps (BeginsOne client)) (IsPolled client poll) entries → AreOwn entries
poll_own client poll entries is = both_own entries is.0 is.1 is.4 (begun_own client is.0 is.2) (polled_own client poll is.1 is.3)

so_ended_own : (client : ℕ) (entries : List (Entry dialect)) → SoEnded client entries → AreOwn entries
so_ended_own client entries is = both_own entries is.0 is.1 is.4 (perhaps_ended client is.0 is.2) (shown_own client is.1 is.3)

so_far_own : (client : ℕ) (entries : List (Entry dialect)) → SoFar client entries → AreOwn entries
so_far_own client entries is = both_own entries is.0 is.1 is.4 (begun_own client is.0 is.2) (so_ended_own client is.1 is.3)

stops_own : (client : ℕ) (numbers : List ℕ) (entries : List (Entry dialect)) → EntriesThen (SoFar client) (λ es. es ≡ freed numbers ++ Drops client ∷ []) entries → AreOwn entries
stops_own client numbers entries is =
    both_own entries is.0 is.1 is.4 (so_far_own client is.0 is.2) (both_own is.1 (Drops client ∷ []) (freed numbers) is.3 (λ past l. l) (freed_own numbers))

-- the call that had its result, and what was broken off with it
freed_or_not : (dropped : Bool) (number : ℕ) → AreOwn (cond dropped (Frees number ∷ []) [])
freed_or_not true number past l = l
freed_or_not false number past l = l

-- ---- turns

turned : (opening : ℕ → List ℕ → Option Item) (past : List (Entry dialect)) (served : ServedCore) (led : MayHaveLed opening past served) (turns : List Event) → AreTurns turns
    → (by : MayHaveLed opening (happened turns ++ past) served) × (by.beside ≡ record led.beside { holds = after_turns turns led.beside.holds })
turned opening past served led [] are = (led, refl)
turned opening past served led (event ∷ turns) are =
    let before = turned opening past served led turns are.1 in
    let after = servers_may_lose served opening (happened turns ++ past) before.0 event are.0 in
    (after.0, after.1 ∙ ap (λ (b : Beside). record b { holds = after_event event b.holds }) before.1)

-- ---- one call

module _ (opening : ℕ → List ℕ → Option Item) (past : List (Entry dialect)) (old new : ServedCore) (led : MayHaveLed opening past old)
    (Holds : (later : List (Entry dialect)) → MayHaveLed opening later new → Type 0) (holds : (later : List (Entry dialect)) (by : MayHaveLed opening later new) → Holds later by) where
  by_fresh : {count : CoreTally → CoreTally} (IsKind : List (Entry dialect) → Type 0) → ((entries : List (Entry dialect)) → IsKind entries → AreOwn entries) → LogsGoCounting count old IsKind new → GoesOnSaying opening IsKind past new Holds
  by_fresh IsKind own goes = let g = goes.logs opening past led in (g.0, g.1, own g.0 g.1, g.2, holds (g.0 ++ past) g.2)

  by_none : new ≡ old → StaysOn opening past old new Holds
  by_none same = let by : MayHaveLed opening past new = subst (λ x. MayHaveLed opening past x) (sym same) led in (same, by, holds past by)

  by_nothing : new ≡ old → GoesOnSaying opening (λ entries. Unit {0}) past new Holds
  by_nothing same = let s = by_none same in ([], tt, λ past l. l, s.1, s.2)

  stopped : (client : ℕ) (fault : CoreFault) → PollStops old client fault new → GoesOnSaying opening (λ entries. Unit {0}) past new Holds
  stopped client faults.NoMemory stops = let g = stops.goes.logs opening past led in (g.0, tt, stops_own client stops.stops.numbers g.0 g.1, g.2, holds (g.0 ++ past) g.2)
  stopped client faults.NoClient stops = by_nothing stops
  stopped client faults.Spent stops = by_nothing stops
  stopped client faults.TooManyClients stops = by_nothing stops
  stopped client faults.InputFull stops = by_nothing stops
  stopped client faults.UnderWay stops = by_nothing stops
  stopped client faults.NoTicket stops = by_nothing stops

  settled_on : (number : ℕ) (outcome : Outcome) → TakesResult old number outcome new → SettlesOnLog opening number past old led new Holds (λ end. outcome ≡ outcome_of end)
  settled_on number outcome s =
      let a = s.settles.command in (
        server_of_pending a.job.pending,
        ask_under a.job.frames.items a.job.ask,
        origin_under a.job.frames.items OfClient,
        record { command = a; was = s.settles.was; is = record { out = s.settles.out; server_is = refl; ask_is = refl; origin_is = refl } },
        λ end seen ends.
            let g = s.goes opening past led end seen ends in
            let event = event_of_call number a end in
            let own : AreOwn (g.0 ++ Happens event ∷ []) = then_own (Happens event ∷ []) g.0 (λ past l. l) (as_own g.0 _ g.1 (freed_or_not (dropped_by (client_at old.core a.client)) number)) in
            (g.0 ++ Happens event ∷ [], (g.0, refl), own, g.2, holds _ g.2),
      )

  settle_stops : (number : ℕ) (outcome : Outcome) (fault : CoreFault) → SettleStops old number outcome fault new → StaysOn opening past old new Holds ⊎ SettlesOnLog opening number past old led new Holds (λ end. outcome ≡ outcome_of end)
  settle_stops number outcome faults.NoMemory s =
      let a = s.breaks.command in
      inr (
        server_of_pending a.job.pending,
        ask_under a.job.frames.items a.job.ask,
        origin_under a.job.frames.items OfClient,
        record { command = a; was = s.breaks.was; is = record { out = s.breaks.out; server_is = refl; ask_is = refl; origin_is = refl } },
        λ end seen ends.
            let g = s.goes opening past led end seen ends in
            let event = event_of_call number a end in
            let more : AreOwn g.0 = both_own g.0 (Frees number ∷ (Drops a.client ∷ [])) (freed s.breaks.numbers) g.1 (λ past l. l) (freed_own s.breaks.numbers) in
            (g.0 ++ Happens event ∷ [], (g.0, refl), then_own (Happens event ∷ []) g.0 (λ past l. l) more, g.2, holds _ g.2),
      )
  settle_stops number outcome faults.NoTicket s = inl (by_none s.1)
  settle_stops number outcome faults.TooManyClients s = absurd s
  settle_stops number outcome faults.NoClient s = absurd s
  settle_stops number outcome faults.InputFull s = absurd s
  settle_stops number outcome faults.UnderWay s = absurd s
  settle_stops number outcome faults.Spent s = absurd s

  settles :
      (number : ℕ) (outcome : Outcome) → TakesResult old number outcome new ⊎ ((fault : CoreFault) × SettleStops old number outcome fault new)
      → StaysOn opening past old new Holds ⊎ SettlesOnLog opening number past old led new Holds (λ end. outcome ≡ outcome_of end)
  settles number outcome (inl s) = inr (settled_on number outcome s)
  settles number outcome (inr s) = settle_stops number outcome s.0 s.1

module _ (opening : ℕ → List ℕ → Option Item) (past : List (Entry dialect)) (old new : ServedCore) (led : MayHaveLed opening past old)
    (Holds : (later : List (Entry dialect)) → MayHaveLed opening later new → Type 0) (holds : (later : List (Entry dialect)) (by : MayHaveLed opening later new) → Holds later by) where
  goes_by : {count : CoreTally → CoreTally} (IsKind : List (Entry dialect) → Type 0) → ((entries : List (Entry dialect)) → IsKind entries → AreOwn entries) → LogsGoCounting count old IsKind new → GoesOnSaying opening IsKind past new Holds
  goes_by {count} IsKind own goes = by_fresh opening past old new led Holds holds IsKind own goes

  -- whatever servers lost before a result, and others wrote there
  settles_after : (number : ℕ) (outcome : Outcome) → TakesResult old number outcome new ⊎ ((fault : CoreFault) × SettleStops old number outcome fault new) → StepGoes opening (Settled number outcome) past old led new Holds
  settles_after number outcome does turns are =
      let t = turned opening past old led turns are in
      (t.0, t.1, settles opening (happened turns ++ past) old new t.0 Holds holds number outcome does)

  stays_saying : new ≡ old → GoesOnSaying opening (λ entries. entries ≡ []) past new Holds
  stays_saying same = let s = by_none opening past old new led Holds holds same in ([], refl, λ past l. l, s.1, s.2)

  step_goes : (step : Step) → Does step old new → StepGoes opening step past old led new Holds
  step_goes (Opened client) does = goes_by _ none_own does.2
  step_goes (NotOpened fault) does = goes_by _ none_own does.1
  step_goes (Fed client piece) does = goes_by _ (λ entries is. as_own entries _ is (fed_own (dropped_by (client_at old.core client)) client piece)) does.2
  step_goes (Polled client poll) does = goes_by _ (poll_own client poll) does.1
  step_goes (Stopped client fault) does = stopped opening past old new led Holds holds client fault does.1
  step_goes (Settled number outcome) does = settles_after number outcome does
  step_goes (Gave client bytes) does = goes_by _ (one_own (Gives client bytes) (λ past l. l)) does.1
  step_goes (Closed client) does = goes_by _ (one_own (Resets client) (λ past l. l)) does.2
  step_goes (LeftLine client) does = goes_by _ none_own does.1
  step_goes (Ticked now) does = by_none opening past old new led Holds holds does
  step_goes (Broke client) does = by_none opening past old new led Holds holds does
  step_goes (Loaded configuration generation) does = let t = does.goes opening past led in ([], refl, λ past l. l, t.after, holds past t.after)
  step_goes (Linked at _) does = by_none opening past old new led Holds holds does
  step_goes (Asked at number _ ask since) does = by_none opening past old new led Holds holds does
  step_goes (Greeted at _ bytes) does = by_none opening past old new led Holds holds does
  step_goes (Noted at obstacle) does = stays_saying does
  step_goes (Late at number limit now) does = by_none opening past old new led Holds holds does
  step_goes (CameLate at number ask answer bytes) does = by_none opening past old new led Holds holds does
  step_goes (Spelled at number ask answer bytes) does = by_none opening past old new led Holds holds does.0
  step_goes (Lost at why limit) does = by_none opening past old new led Holds holds does

module _ (opening : ℕ → List ℕ → Option Item) (past : List (Entry dialect)) (old : ServedCore) (led : MayHaveLed opening past old) where
  log_goes :
      (steps : List Step) (new : ServedCore) → Walks steps old new → (Holds : (later : List (Entry dialect)) → MayHaveLed opening later new → Type 0)
      → ((later : List (Entry dialect)) (by : MayHaveLed opening later new) → Holds later by) → LogGoes opening steps past old led new Holds
  log_goes [] new same Holds holds = by_none opening past old new led Holds holds same
  log_goes (step ∷ steps) new walks Holds holds =
      let mid = walks.0 in
      (mid, log_goes steps mid walks.1 (λ later by. StepGoes opening step later mid by new Holds) (λ later by. step_goes opening later mid new by Holds holds step walks.2))

pub walks_go_on : WalksGoOn
walks_go_on steps old new walks opening past led = log_goes opening past old led steps new walks (λ later by. Unit {0}) (λ later by. tt)

pub walks_are_fresh : WalksAreFresh
walks_are_fresh steps old new walks fresh first begun accepted opening past led =
    let since = since_are_fresh first begun new fresh (walks_keep_since steps old new walks first begun accepted) in
    log_goes opening past old led steps new walks (λ later by. BeginSo first begun opening → LosesOnly (run_of later) → IsFreshLog new.core.limits.sharing opening later)
    (λ later by begins loses. since opening later by begins loses)
