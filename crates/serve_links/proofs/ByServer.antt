-- What is counted by server is what a walk tells.
use Rattle.std.proofs.Common.{◌≡◌, ℕ, zero, suc, ◌+◌, ◌<◌, Bool, true, false, List, [], ◌∷◌, ◌++◌, length, replicate, if◌then◌else◌, Option, Some, None, inl, inr, refl, sym, ap, ◌∙◌, subst, arith}
use Rattle.std.proofs.lemmas.Bool.{ltb-true}
use Rattle.std.specs.Prelude.{nat_eq, nat_lt, slice_index, IfSome}
use Rattle.mc_types.specs.declared.ask.Ask.{Ask}
use Rattle.mc_types.specs.declared.call.Outcome.{Outcome}
use Rattle.mc_types.specs.declared.call.Outcome.TheVariants.{Answered, Failed}
use Rattle.route_job.specs.Rest.{ask_under}
use Rattle.route_job.specs.Jobs.{server_of_pending}
use Rattle.core_commands.specs.declared.command.Command.{Command}
use Rattle.core_commands.specs.declared.ticket.Ticket.{Ticket}
use Rattle.core_proxy.specs.declared.fault.CoreFault.{CoreFault}
use Rattle.core_proxy.specs.declared.fault.CoreFault.TheVariants as faults
use Rattle.core_proxy.specs.declared.note.Note.{Note}
use Rattle.core_proxy.specs.declared.note.Poll.{Poll}
use Rattle.core_proxy.specs.declared.note.Poll.TheVariants as polls
use Rattle.core_proxy.specs.declared.proxy.Core.{Core}
use Rattle.core_proxy.specs.CoreState.{command_at, has_call_out}
use Rattle.core_proxy.specs.CallsStay.{called, called_by}
use Rattle.core_proxy.proofs.CallsStay.{none_out}
use Rattle.core_accepted.specs.declared.served.ServedCore.{ServedCore}
use Rattle.core_accepted.specs.declared.tally.CoreTally.{CoreTally}
use Rattle.core_accepted.specs.Results.{CountsResult, SettleStops, IsSettled}
use Rattle.core_accepted.specs.Tallies.{ReplyKind, TellsError, ShowsItem, Acknowledges, TellsOther, reply_kind, one_more, lost_unless, unplaced_at, with_reply, with_note, with_poll, with_call, with_outcome, with_client, with_refusal, AddsPlaces, MakesPlaces, nothing_done}
use Rattle.serve_links.specs.CoreSteps.{Step, Opened, NotOpened, Fed, Polled, Stopped, Settled, Gave, Closed, LeftLine, Loaded, Spelled, Noted, Does, Walks}
use Rattle.serve_links.specs.Called.{call_in, TellsCallsOut}
use Rattle.serve_links.specs.Talks.{MayComeNext, IsOrderly}
use Rattle.serve_links.specs.Counts.{number_of, counted, answers_one, fails_one}
use Rattle.serve_links.specs.ByServer.{calls_server, is_at, settles_at, settled_at, AreCountedByServer, StepsAreCountedByServer}
use Rattle.serve_links.proofs.Called.{walks_tell_calls}
use Rattle.serve_links.proofs.Counts.{at_place, tally_same, stopped_same, not_none}

-- ---- places

-- what is counted at none is counted
never_lost : (n : ℕ) → one_more n ≡ 0 → ⊥
never_lost n e = omega (arith, e)

-- where none was counted at no place, this one has a place, and none was before
has_place : (place : ℕ) (counts : List ℕ) (n : ℕ) → unplaced_at place counts n ≡ 0 → (place < length counts) × (n ≡ 0)
has_place place counts n none = by (nat_lt place (length counts)) refl none
  where
    by : (b : Bool) → nat_lt place (length counts) ≡ b → lost_unless b n ≡ 0 → (place < length counts) × (n ≡ 0)
    by true is e = (ltb-true place (length counts) is, e)
    by false is e = absurd (never_lost n e)

zeros : (n place : ℕ) → slice_index (replicate n 0) place ≡ 0
zeros zero zero = refl
zeros zero (suc place) = refl
zeros (suc n) zero = refl
zeros (suc n) (suc place) = zeros n place

-- new places have no count
count_kept : (counts : List ℕ) (n place : ℕ) → slice_index (counts ++ replicate n 0) place ≡ slice_index counts place
count_kept [] n zero = zeros n zero
count_kept [] n (suc place) = zeros n (suc place)
count_kept (x ∷ counts) n zero = refl
count_kept (x ∷ counts) n (suc place) = count_kept counts n place

added : (old new : List ℕ) (place : ℕ) → AddsPlaces old new → slice_index new place ≡ slice_index old place
added old new place adds = ap (λ l. slice_index l place) adds.1 ∙ count_kept old adds.0 place

-- servers got places
made : (step : Step) (past : List Step) (old new : CoreTally) → ((server : ℕ) → calls_server server step ≡ false) → ((is : Step → Bool) (server : ℕ) → settles_at is server step past ≡ false) → MakesPlaces old new → AreCountedByServer past old → AreCountedByServer (step ∷ past) new
made step past old new none_called none_settled makes was = λ none server.
    let is = was (sym (ap (λ (t : CoreTally). t.unplaced) makes.rest) ∙ none) server in
    record {
      calls = added old.calls_at new.calls_at server makes.calls ∙ is.calls ∙ sym (ap (λ b. counted (if b then number_of (calls_server server) past + 1 else number_of (calls_server server) past)) (none_called server));
      answered = added old.answered_at new.answered_at server makes.answered ∙ is.answered ∙ sym (ap (λ b. counted (if b then settled_at answers_one server past + 1 else settled_at answers_one server past)) (none_settled answers_one server));
      failed = added old.failed_at new.failed_at server makes.failed ∙ is.failed ∙ sym (ap (λ b. counted (if b then settled_at fails_one server past + 1 else settled_at fails_one server past)) (none_settled fails_one server));
    }

-- ---- steps

-- what is counted by server is the same
record IsSameByServer (old new : CoreTally) : Type 0 where
  calls : new.calls_at ≡ old.calls_at
  answered : new.answered_at ≡ old.answered_at
  failed : new.failed_at ≡ old.failed_at
  unplaced : new.unplaced ≡ old.unplaced

same_tally : (old : CoreTally) → IsSameByServer old old
same_tally old = record { calls = refl; answered = refl; failed = refl; unplaced = refl }

-- of a step by which no call is given out or settled
kept :
    (step : Step) (past : List Step) (old new : CoreTally) → ((server : ℕ) → calls_server server step ≡ false) → ((is : Step → Bool) (server : ℕ) → settles_at is server step past ≡ false) → IsSameByServer old new
    → AreCountedByServer past old → AreCountedByServer (step ∷ past) new
kept step past old new none_called none_settled same was = λ none server.
    let is = was (sym same.unplaced ∙ none) server in
    record {
      calls = ap (λ l. slice_index l server) same.calls ∙ is.calls ∙ sym (ap (λ b. counted (if b then number_of (calls_server server) past + 1 else number_of (calls_server server) past)) (none_called server));
      answered = ap (λ l. slice_index l server) same.answered ∙ is.answered ∙ sym (ap (λ b. counted (if b then settled_at answers_one server past + 1 else settled_at answers_one server past)) (none_settled answers_one server));
      failed = ap (λ l. slice_index l server) same.failed ∙ is.failed ∙ sym (ap (λ b. counted (if b then settled_at fails_one server past + 1 else settled_at fails_one server past)) (none_settled fails_one server));
    }

by_count : (old new : CoreTally) (count : CoreTally → CoreTally) → IsSameByServer old (count old) → new ≡ count old → IsSameByServer old new
by_count old new count same is = subst (IsSameByServer old) (sym is) same

unchanged : (old new : CoreTally) → new ≡ old → IsSameByServer old new
unchanged old new is = by_count old new (λ tally. tally) (same_tally old) is

replied : (said : ReplyKind) (note : Note) (old : CoreTally) → IsSameByServer old (with_reply said note.ask.op old)
replied TellsError note old = record { calls = refl; answered = refl; failed = refl; unplaced = refl }
replied ShowsItem note old = record { calls = refl; answered = refl; failed = refl; unplaced = refl }
replied Acknowledges note old = record { calls = refl; answered = refl; failed = refl; unplaced = refl }
replied TellsOther note old = record { calls = refl; answered = refl; failed = refl; unplaced = refl }

-- one more call was given out
called_out : (client : ℕ) (ticket : Ticket) (past : List Step) (old new : CoreTally) → new ≡ with_call ticket.server old → AreCountedByServer past old → AreCountedByServer (Polled client (polls.Call ticket) ∷ past) new
called_out client ticket past old new is was = subst (AreCountedByServer (Polled client (polls.Call ticket) ∷ past)) (sym is) (λ none server.
    let place = has_place ticket.server old.calls_at old.unplaced none in
    let was_at = was place.1 server in
    record {
      calls = at_place old.calls_at ticket.server server (number_of (calls_server server) past) (nat_eq ticket.server server) refl place.0 was_at.calls;
      answered = was_at.answered;
      failed = was_at.failed;
    })

polled : (client : ℕ) (poll : Poll) (past : List Step) (old new : CoreTally) → new ≡ with_poll poll old → AreCountedByServer past old → AreCountedByServer (Polled client poll ∷ past) new
polled client (polls.Call ticket) past old new is was = called_out client ticket past old new is was
polled client (polls.Did note) past old new is was = kept (Polled client (polls.Did note)) past old new (λ server. refl) (λ is server. refl) (by_count old new (with_note note) (replied (reply_kind note) note old) is) was
polled client polls.Refused past old new is was =
    kept (Polled client polls.Refused) past old new (λ server. refl) (λ is server. refl) (by_count old new (with_poll polls.Refused) (record { calls = refl; answered = refl; failed = refl; unplaced = refl }) is) was
polled client polls.Idle past old new is was = kept (Polled client polls.Idle) past old new (λ server. refl) (λ is server. refl) (unchanged old new is) was
polled client polls.Own past old new is was = kept (Polled client polls.Own) past old new (λ server. refl) (λ is server. refl) (unchanged old new is) was
polled client polls.Waiting past old new is was = kept (Polled client polls.Waiting) past old new (λ server. refl) (λ is server. refl) (unchanged old new is) was
polled client polls.Queued past old new is was = kept (Polled client polls.Queued) past old new (λ server. refl) (λ is server. refl) (unchanged old new is) was
polled client polls.Busy past old new is was = kept (Polled client polls.Busy) past old new (λ server. refl) (λ is server. refl) (unchanged old new is) was

-- ---- results

-- a call of this server, which was out, had this outcome
had :
    (number : ℕ) (outcome : Outcome) (at : Option ℕ) (call : ℕ × Ask) (past : List Step) (old new : CoreTally) → call_in past number ≡ Some call → IfSome at (λ server. server ≡ call.0) → new ≡ with_outcome at outcome old
    → AreCountedByServer past old → AreCountedByServer (Settled number outcome ∷ past) new
had number (Answered answer) None call past old new out found is was = subst (AreCountedByServer (Settled number (Answered answer) ∷ past)) (sym is) (λ none. absurd (never_lost old.unplaced none))
had number Failed None call past old new out found is was = subst (AreCountedByServer (Settled number Failed ∷ past)) (sym is) (λ none. absurd (never_lost old.unplaced none))
had number (Answered answer) (Some at) call past old new out found is was = subst (AreCountedByServer (Settled number (Answered answer) ∷ past)) (sym is) (λ none server.
    let place = has_place at old.answered_at old.unplaced none in
    let was_at = was place.1 server in
    let so : nat_eq at server ≡ is_at server (call_in past number) = ap (λ n. nat_eq n server) found ∙ sym (ap (is_at server) out) in
    record {
      calls = was_at.calls;
      answered = at_place old.answered_at at server (settled_at answers_one server past) (nat_eq at server) refl place.0 was_at.answered
          ∙ ap (λ b. counted (if b then settled_at answers_one server past + 1 else settled_at answers_one server past)) so;
      failed = was_at.failed;
    })
had number Failed (Some at) call past old new out found is was = subst (AreCountedByServer (Settled number Failed ∷ past)) (sym is) (λ none server.
    let place = has_place at old.failed_at old.unplaced none in
    let was_at = was place.1 server in
    let so : nat_eq at server ≡ is_at server (call_in past number) = ap (λ n. nat_eq n server) found ∙ sym (ap (is_at server) out) in
    record {
      calls = was_at.calls;
      answered = was_at.answered;
      failed = at_place old.failed_at at server (settled_at fails_one server past) (nat_eq at server) refl place.0 was_at.failed
          ∙ ap (λ b. counted (if b then settled_at fails_one server past + 1 else settled_at fails_one server past)) so;
    })

same_call : {a b : ℕ × Ask} → Some a ≡ Some b → a ≡ b
same_call e = cc

-- the call of this command is the one that is out
server_is : (core : Core) (number : ℕ) (command : Command) (call : ℕ × Ask) → command_at core number ≡ Some command → has_call_out command ≡ true → called core number ≡ Some call → server_of_pending command.job.pending ≡ call.0
server_is core number command call was out is =
    let there : ◌≡◌ {A = ℕ × Ask} (server_of_pending command.job.pending, ask_under command.job.frames.items command.job.ask) call =
    same_call (sym (ap called_by was ∙ ap (λ b. if b then Some (server_of_pending command.job.pending, ask_under command.job.frames.items command.job.ask) else None) out) ∙ is) in
    ap (λ (c : ℕ × Ask). c.0) there

found_at : (at : Option ℕ) (a b : ℕ) → a ≡ b → IfSome at (λ server. server ≡ a) → IfSome at (λ server. server ≡ b)
found_at None a b same found = tt
found_at (Some server) a b same found = found ∙ same

counts_so :
    (number : ℕ) (outcome : Outcome) (command : Command) (call : ℕ × Ask) (past : List Step) (core : Core) (old new : CoreTally) → call_in past number ≡ Some call → called core number ≡ Some call → command_at core number ≡ Some command
    → has_call_out command ≡ true → CountsResult command outcome old new → AreCountedByServer past old → AreCountedByServer (Settled number outcome ∷ past) new
counts_so number outcome command call past core old new told is was out counts =
    had number outcome counts.server call past old new told (found_at counts.server (server_of_pending command.job.pending) call.0 (server_is core number command call was out is) counts.found) counts.tally

stopped :
    (number : ℕ) (outcome : Outcome) (fault : CoreFault) (call : ℕ × Ask) (past : List Step) (a b : ServedCore) → call_in past number ≡ Some call → called a.core number ≡ Some call → SettleStops a number outcome fault b
    → AreCountedByServer past a.tally → AreCountedByServer (Settled number outcome ∷ past) b.tally
stopped number outcome faults.NoMemory call past a b told is stops was =
    counts_so number outcome stops.breaks.command call past a.core a.tally b.tally told is stops.breaks.was stops.breaks.out stops.counts was
stopped number outcome faults.NoClient call past a b told is stops was = absurd stops
stopped number outcome faults.Spent call past a b told is stops was = absurd stops
stopped number outcome faults.TooManyClients call past a b told is stops was = absurd stops
stopped number outcome faults.InputFull call past a b told is stops was = absurd stops
stopped number outcome faults.UnderWay call past a b told is stops was = absurd stops
stopped number outcome faults.NoTicket call past a b told is stops was = absurd (not_none (sym (none_out a.core number stops.0) ∙ is))

settled :
    (number : ℕ) (outcome : Outcome) (call : ℕ × Ask) (past : List Step) (a b : ServedCore) → call_in past number ≡ Some call → called a.core number ≡ Some call → IsSettled a number outcome b
    → AreCountedByServer past a.tally → AreCountedByServer (Settled number outcome ∷ past) b.tally
settled number outcome call past a b told is (inl takes) was =
    counts_so number outcome takes.settles.command call past a.core a.tally b.tally told is takes.settles.was takes.settles.out takes.counts was
settled number outcome call past a b told is (inr stops) was = stopped number outcome stops.0 call past a b told is stops.1 was

-- ---- all of them

-- (of all others the core is as it was)
step_counted : (step : Step) (past : List Step) (a b : ServedCore) → TellsCallsOut past a → MayComeNext step past → Does step a b → AreCountedByServer past a.tally → AreCountedByServer (step ∷ past) b.tally
step_counted (Settled number outcome) past a b tells may does was =
    settled number outcome may.0.call past a b may.0.is_out (tells.calls number may.0.call may.0.is_out) does was
step_counted (Polled client poll) past a b tells may does was = polled client poll past a.tally b.tally does.1.tally was
step_counted (Opened client) past a b tells may does was =
    kept (Opened client) past a.tally b.tally (λ server. refl) (λ is server. refl) (by_count a.tally b.tally with_client (record { calls = refl; answered = refl; failed = refl; unplaced = refl }) does.2.tally) was
step_counted (NotOpened fault) past a b tells may does was =
    kept (NotOpened fault) past a.tally b.tally (λ server. refl) (λ is server. refl) (by_count a.tally b.tally with_refusal (record { calls = refl; answered = refl; failed = refl; unplaced = refl }) does.1.tally) was
step_counted (Loaded configuration generation) past a b tells may does was = made (Loaded configuration generation) past a.tally b.tally (λ server. refl) (λ is server. refl) does.tally was
step_counted (Fed client piece) past a b tells may does was = kept (Fed client piece) past a.tally b.tally (λ server. refl) (λ is server. refl) (unchanged a.tally b.tally does.2.tally) was
step_counted (Stopped client fault) past a b tells may does was = kept (Stopped client fault) past a.tally b.tally (λ server. refl) (λ is server. refl) (unchanged a.tally b.tally (stopped_same client fault a b does.1)) was
step_counted (Gave client bytes) past a b tells may does was = kept (Gave client bytes) past a.tally b.tally (λ server. refl) (λ is server. refl) (unchanged a.tally b.tally does.1.tally) was
step_counted (Closed client) past a b tells may does was = kept (Closed client) past a.tally b.tally (λ server. refl) (λ is server. refl) (unchanged a.tally b.tally does.2.tally) was
step_counted (LeftLine client) past a b tells may does was = kept (LeftLine client) past a.tally b.tally (λ server. refl) (λ is server. refl) (unchanged a.tally b.tally does.1.tally) was
step_counted (Spelled at number ask answer bytes) past a b tells may does was =
    kept (Spelled at number ask answer bytes) past a.tally b.tally (λ server. refl) (λ is server. refl) (unchanged a.tally b.tally (tally_same a b does.0)) was
step_counted (Noted at obstacle) past a b tells may does was = kept (Noted at obstacle) past a.tally b.tally (λ server. refl) (λ is server. refl) (unchanged a.tally b.tally (tally_same a b does)) was
step_counted step past a b tells may does was = kept step past a.tally b.tally (λ server. refl) (λ is server. refl) (unchanged a.tally b.tally (tally_same a b does)) was

walk_counted :
    (steps past : List Step) (old new : ServedCore) → Walks steps old new → TellsCallsOut past old → IsOrderly (steps ++ past) → AreCountedByServer past old.tally → AreCountedByServer (steps ++ past) new.tally
walk_counted [] past old new same tells orderly was = subst (AreCountedByServer past) (sym (tally_same old new same)) was
walk_counted (step ∷ steps) past old new walks tells orderly was =
    step_counted step (steps ++ past) walks.0 new (walks_tell_calls.goes_on steps past old walks.0 tells walks.1).0 orderly.0 walks.2 (walk_counted steps past old walks.0 walks.1 tells orderly.1 was)

-- at first
none_counted : (tally : CoreTally) → MakesPlaces nothing_done tally → AreCountedByServer [] tally
none_counted tally makes = λ none server. record {
  calls = added [] tally.calls_at server makes.calls ∙ nothing server;
  answered = added [] tally.answered_at server makes.answered ∙ nothing server;
  failed = added [] tally.failed_at server makes.failed ∙ nothing server;
}
  where
    nothing : (server : ℕ) → slice_index [] server ≡ 0
    nothing zero = refl
    nothing (suc server) = refl

pub steps_are_counted_by_server : StepsAreCountedByServer
steps_are_counted_by_server = record { begins = none_counted; goes_on = walk_counted }
