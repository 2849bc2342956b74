-- What is counted is what a walk tells.
use Rattle.std.proofs.Common.{◌≡◌, ℕ, ◌+◌, ◌<◌, Bool, true, false, List, [], ◌∷◌, ◌++◌, length, replicate, if◌then◌else◌, Option, Some, None, inl, inr, refl, sym, ap, ◌∙◌, subst, arith}
use Rattle.std.proofs.lemmas.Bool.{eqb-true, eqb-false}
use Rattle.std.proofs.lemmas.List.{length-set, get_or-set_same, get_or-set_other}
use Rattle.std.specs.Prelude.{nat_eq, slice_index, ◌&&◌}
use Rattle.mc_types.specs.declared.ask.Op.{Op}
use Rattle.mc_types.specs.declared.ask.Op.TheVariants as ops
use Rattle.mc_types.specs.declared.ask.Ask.{Ask}
use Rattle.mc_types.specs.declared.call.Outcome.{Outcome}
use Rattle.mc_types.specs.declared.call.Outcome.TheVariants.{Answered, Failed}
use Rattle.route_json.specs.Configuration.{Configuration}
use Rattle.route_tree.specs.Operation.{op_number, same_op}
use Rattle.core_proxy.specs.declared.fault.CoreFault.{CoreFault}
use Rattle.core_proxy.specs.declared.fault.CoreFault.TheVariants as faults
use Rattle.core_proxy.specs.declared.note.Note.{Note}
use Rattle.core_proxy.specs.declared.note.Poll.{Poll}
use Rattle.core_proxy.specs.declared.note.Poll.TheVariants as polls
use Rattle.core_proxy.specs.CallsStay.{called}
use Rattle.core_proxy.proofs.CallsStay.{none_out}
use Rattle.core_commands.specs.declared.ticket.Ticket.{Ticket}
use Rattle.core_accepted.specs.declared.served.ServedCore.{ServedCore}
use Rattle.core_accepted.specs.declared.tally.CoreTally.{CoreTally}
use Rattle.core_accepted.specs.Results.{PollStops, SettleStops, IsSettled}
use Rattle.core_accepted.specs.Tallies.{ReplyKind, TellsError, ShowsItem, Acknowledges, TellsOther, reply_kind, one_more, more_at, with_reply, with_note, with_poll, with_call, with_bad_message, with_outcome, with_client, with_refusal, nothing_done, of_op, MakesPlaces}
use Rattle.serve_links.specs.CoreSteps.{Step, Opened, NotOpened, Fed, Polled, Stopped, Settled, Gave, Closed, LeftLine, Loaded, Spelled, Noted, Does, Walks}
use Rattle.serve_links.specs.Called.{TellsCallsOut}
use Rattle.serve_links.specs.Talks.{MayComeNext, IsOrderly}
use Rattle.serve_links.specs.Counts.{number_of, counted, same_kind, opens_one, refuses_one, refuses_message, ends_one, ends_so, calls_one, answers_one, fails_one, count_of, AreCounted, ResultsAreCounted, StepsAreCounted}
use Rattle.serve_links.proofs.Called.{walks_tell_calls}

-- ---- one more

pub one_more_counted : (n count : ℕ) → count ≡ counted n → one_more count ≡ counted (n + 1)
one_more_counted n count is = omega (arith, is)

place_within : (op : Op) → op_number op < 12
place_within ops.Get = omega arith
place_within ops.Gat = omega arith
place_within ops.Set = omega arith
place_within ops.Add = omega arith
place_within ops.Replace = omega arith
place_within ops.Append = omega arith
place_within ops.Prepend = omega arith
place_within ops.Cas = omega arith
place_within ops.Delete = omega arith
place_within ops.Incr = omega arith
place_within ops.Decr = omega arith
place_within ops.Touch = omega arith

-- the count at a place after one more at another, or at the same
pub at_place : (counts : List ℕ) (i j n : ℕ) (b : Bool) → nat_eq i j ≡ b → i < length counts → slice_index counts j ≡ counted n → slice_index (more_at i counts) j ≡ counted (if b then n + 1 else n)
at_place counts i j n true same within was =
    let e : i ≡ j = eqb-true i j same in
    subst (λ k. slice_index (more_at i counts) k ≡ counted (n + 1)) e
    (get_or-set_same counts i (one_more (slice_index counts i)) 0 within ∙ one_more_counted n (slice_index counts i) (ap (slice_index counts) e ∙ was))
at_place counts i j n false other within was = get_or-set_other counts i j (one_more (slice_index counts i)) 0 (λ e. eqb-false i j other (sym e)) ∙ was

-- one more reply
reply_counted :
    (said kind : ReplyKind) (done op : Op) (n : ℕ) (tally : CoreTally) → (length tally.items ≡ 12) × (length tally.acknowledged ≡ 12) × (length tally.others ≡ 12) × (length tally.errors ≡ 12)
    → count_of kind (of_op tally op) ≡ counted n → count_of kind (of_op (with_reply said done tally) op) ≡ counted (if same_kind said kind && same_op done op then n + 1 else n)
reply_counted TellsError TellsError done op n tally places was = at_place tally.errors (op_number done) (op_number op) n (same_op done op) refl (let within = place_within done in let len = places.3 in omega (arith, within, len)) was
reply_counted ShowsItem ShowsItem done op n tally places was = at_place tally.items (op_number done) (op_number op) n (same_op done op) refl (let within = place_within done in let len = places.0 in omega (arith, within, len)) was
reply_counted Acknowledges Acknowledges done op n tally places was = at_place tally.acknowledged (op_number done) (op_number op) n (same_op done op) refl (let within = place_within done in let len = places.1 in omega (arith, within, len)) was
reply_counted TellsOther TellsOther done op n tally places was = at_place tally.others (op_number done) (op_number op) n (same_op done op) refl (let within = place_within done in let len = places.2 in omega (arith, within, len)) was
reply_counted TellsError ShowsItem done op n tally places was = was
reply_counted TellsError Acknowledges done op n tally places was = was
reply_counted TellsError TellsOther done op n tally places was = was
reply_counted ShowsItem TellsError done op n tally places was = was
reply_counted ShowsItem Acknowledges done op n tally places was = was
reply_counted ShowsItem TellsOther done op n tally places was = was
reply_counted Acknowledges TellsError done op n tally places was = was
reply_counted Acknowledges ShowsItem done op n tally places was = was
reply_counted Acknowledges TellsOther done op n tally places was = was
reply_counted TellsOther TellsError done op n tally places was = was
reply_counted TellsOther ShowsItem done op n tally places was = was
reply_counted TellsOther Acknowledges done op n tally places was = was

places_kept :
    (said : ReplyKind) (done : Op) (tally : CoreTally) → (length tally.items ≡ 12) × (length tally.acknowledged ≡ 12) × (length tally.others ≡ 12) × (length tally.errors ≡ 12)
    → (length (with_reply said done tally).items ≡ 12) × (length (with_reply said done tally).acknowledged ≡ 12) × (length (with_reply said done tally).others ≡ 12) × (length (with_reply said done tally).errors ≡ 12)
places_kept TellsError done tally places = (places.0, places.1, places.2, length-set tally.errors (op_number done) (one_more (slice_index tally.errors (op_number done))) ∙ places.3)
places_kept ShowsItem done tally places = (length-set tally.items (op_number done) (one_more (slice_index tally.items (op_number done))) ∙ places.0, places.1, places.2, places.3)
places_kept Acknowledges done tally places = (places.0, length-set tally.acknowledged (op_number done) (one_more (slice_index tally.acknowledged (op_number done))) ∙ places.1, places.2, places.3)
places_kept TellsOther done tally places = (places.0, places.1, length-set tally.others (op_number done) (one_more (slice_index tally.others (op_number done))) ∙ places.2, places.3)

ended_counted : (said : ReplyKind) (done : Op) (n : ℕ) (tally : CoreTally) → tally.ended ≡ counted n → (with_reply said done tally).ended ≡ counted (n + 1)
ended_counted TellsError done n tally was = one_more_counted n tally.ended was
ended_counted ShowsItem done n tally was = one_more_counted n tally.ended was
ended_counted Acknowledges done n tally was = one_more_counted n tally.ended was
ended_counted TellsOther done n tally was = one_more_counted n tally.ended was

-- all others are as they were
pub others_kept :
    (said : ReplyKind) (done : Op) (tally : CoreTally)
    → ((with_reply said done tally).opened ≡ tally.opened) × ((with_reply said done tally).refused ≡ tally.refused) × ((with_reply said done tally).calls ≡ tally.calls)
    × ((with_reply said done tally).answered ≡ tally.answered) × ((with_reply said done tally).failed ≡ tally.failed) × ((with_reply said done tally).bad_messages ≡ tally.bad_messages)
others_kept TellsError done tally = (refl, refl, refl, refl, refl, refl)
others_kept ShowsItem done tally = (refl, refl, refl, refl, refl, refl)
others_kept Acknowledges done tally = (refl, refl, refl, refl, refl, refl)
others_kept TellsOther done tally = (refl, refl, refl, refl, refl, refl)

-- ---- one step

-- one that isn't so
not_so : (is : Step → Bool) (step : Step) (past : List Step) → is step ≡ false → counted (number_of is past) ≡ counted (number_of is (step ∷ past))
not_so is step past e = sym (ap (λ b. counted (if b then number_of is past + 1 else number_of is past)) e)

-- of a step by which nothing is counted
kept :
    (step : Step) (past : List Step) (old new : CoreTally) → opens_one step ≡ false → refuses_one step ≡ false → refuses_message step ≡ false → ends_one step ≡ false → calls_one step ≡ false → ((op : Op) (kind : ReplyKind) → ends_so op kind step ≡ false) → new ≡ old
    → AreCounted past old → AreCounted (step ∷ past) new
kept step past old new none_opened none_refused none_bad none_ended none_called none_so same was = subst (AreCounted (step ∷ past)) (sym same) (record {
  opened = was.opened ∙ not_so opens_one step past none_opened;
  refused = was.refused ∙ not_so refuses_one step past none_refused;
  bad_messages = was.bad_messages ∙ not_so refuses_message step past none_bad;
  ended = was.ended ∙ not_so ends_one step past none_ended;
  calls = was.calls ∙ not_so calls_one step past none_called;
  replies = λ op kind. was.replies op kind ∙ not_so (ends_so op kind) step past (none_so op kind);
  places = was.places;
})

opened : (client : ℕ) (past : List Step) (old new : CoreTally) → new ≡ with_client old → AreCounted past old → AreCounted (Opened client ∷ past) new
opened client past old new is was = subst (AreCounted (Opened client ∷ past)) (sym is) (record {
  opened = one_more_counted (number_of opens_one past) old.opened was.opened;
  refused = was.refused;
  bad_messages = was.bad_messages;
  ended = was.ended;
  calls = was.calls;
  replies = λ op kind. was.replies op kind;
  places = was.places;
})

not_opened : (fault : CoreFault) (past : List Step) (old new : CoreTally) → new ≡ with_refusal old → AreCounted past old → AreCounted (NotOpened fault ∷ past) new
not_opened fault past old new is was = subst (AreCounted (NotOpened fault ∷ past)) (sym is) (record {
  opened = was.opened;
  refused = one_more_counted (number_of refuses_one past) old.refused was.refused;
  bad_messages = was.bad_messages;
  ended = was.ended;
  calls = was.calls;
  replies = λ op kind. was.replies op kind;
  places = was.places;
})

did : (client : ℕ) (note : Note) (past : List Step) (old new : CoreTally) → new ≡ with_note note old → AreCounted past old → AreCounted (Polled client (polls.Did note) ∷ past) new
did client note past old new is was = subst (AreCounted (Polled client (polls.Did note) ∷ past)) (sym is) (record {
  opened = (others_kept (reply_kind note) note.ask.op old).0 ∙ was.opened;
  refused = (others_kept (reply_kind note) note.ask.op old).1 ∙ was.refused;
  bad_messages = (others_kept (reply_kind note) note.ask.op old).5 ∙ was.bad_messages;
  ended = ended_counted (reply_kind note) note.ask.op (number_of ends_one past) old was.ended;
  calls = (others_kept (reply_kind note) note.ask.op old).2 ∙ was.calls;
  replies = λ op kind. reply_counted (reply_kind note) kind note.ask.op op (number_of (ends_so op kind) past) old was.places (was.replies op kind);
  places = places_kept (reply_kind note) note.ask.op old was.places;
})

pub tally_same : (a b : ServedCore) → b ≡ a → b.tally ≡ a.tally
tally_same a b same = ap (λ (x : ServedCore). x.tally) same

pub stopped_same : (client : ℕ) (fault : CoreFault) (a b : ServedCore) → PollStops a client fault b → b.tally ≡ a.tally
stopped_same client faults.NoMemory a b stops = stops.goes.tally
stopped_same client faults.NoClient a b stops = tally_same a b stops
stopped_same client faults.Spent a b stops = tally_same a b stops
stopped_same client faults.TooManyClients a b stops = tally_same a b stops
stopped_same client faults.InputFull a b stops = tally_same a b stops
stopped_same client faults.UnderWay a b stops = tally_same a b stops
stopped_same client faults.NoTicket a b stops = tally_same a b stops

called_out : (client : ℕ) (ticket : Ticket) (past : List Step) (old new : CoreTally) → new ≡ with_call ticket.server old → AreCounted past old → AreCounted (Polled client (polls.Call ticket) ∷ past) new
called_out client ticket past old new is was = subst (AreCounted (Polled client (polls.Call ticket) ∷ past)) (sym is) (record {
  opened = was.opened;
  refused = was.refused;
  bad_messages = was.bad_messages;
  ended = was.ended;
  calls = one_more_counted (number_of calls_one past) old.calls was.calls;
  replies = λ op kind. was.replies op kind;
  places = was.places;
})

refused_message : (client : ℕ) (past : List Step) (old new : CoreTally) → new ≡ with_bad_message old → AreCounted past old → AreCounted (Polled client polls.Refused ∷ past) new
refused_message client past old new is was = subst (AreCounted (Polled client polls.Refused ∷ past)) (sym is) (record {
  opened = was.opened;
  refused = was.refused;
  bad_messages = one_more_counted (number_of refuses_message past) old.bad_messages was.bad_messages;
  ended = was.ended;
  calls = was.calls;
  replies = λ op kind. was.replies op kind;
  places = was.places;
})

-- by a result nothing else is counted
had : (number : ℕ) (outcome : Outcome) (server : Option ℕ) (past : List Step) (old new : CoreTally) → new ≡ with_outcome server outcome old → AreCounted past old → AreCounted (Settled number outcome ∷ past) new
had number (Answered answer) None past old new is was =
    subst (AreCounted (Settled number (Answered answer) ∷ past)) (sym is)
    (record { opened = was.opened; refused = was.refused; bad_messages = was.bad_messages; ended = was.ended; calls = was.calls; replies = λ op kind. was.replies op kind; places = was.places })
had number (Answered answer) (Some server) past old new is was =
    subst (AreCounted (Settled number (Answered answer) ∷ past)) (sym is)
    (record { opened = was.opened; refused = was.refused; bad_messages = was.bad_messages; ended = was.ended; calls = was.calls; replies = λ op kind. was.replies op kind; places = was.places })
had number Failed None past old new is was =
    subst (AreCounted (Settled number Failed ∷ past)) (sym is)
    (record { opened = was.opened; refused = was.refused; bad_messages = was.bad_messages; ended = was.ended; calls = was.calls; replies = λ op kind. was.replies op kind; places = was.places })
had number Failed (Some server) past old new is was =
    subst (AreCounted (Settled number Failed ∷ past)) (sym is)
    (record { opened = was.opened; refused = was.refused; bad_messages = was.bad_messages; ended = was.ended; calls = was.calls; replies = λ op kind. was.replies op kind; places = was.places })

-- by a load places come alone
loaded : (configuration : Configuration) (generation : ℕ) (past : List Step) (old new : CoreTally) → MakesPlaces old new → AreCounted past old → AreCounted (Loaded configuration generation ∷ past) new
loaded configuration generation past old new makes was =
    subst (AreCounted (Loaded configuration generation ∷ past)) (sym makes.rest)
    (record { opened = was.opened; refused = was.refused; bad_messages = was.bad_messages; ended = was.ended; calls = was.calls; replies = λ op kind. was.replies op kind; places = was.places })

settle_stopped :
    (number : ℕ) (outcome : Outcome) (fault : CoreFault) (past : List Step) (a b : ServedCore) → SettleStops a number outcome fault b → AreCounted past a.tally → AreCounted (Settled number outcome ∷ past) b.tally
settle_stopped number outcome faults.NoMemory past a b stops was = had number outcome stops.counts.server past a.tally b.tally stops.counts.tally was
settle_stopped number outcome faults.NoClient past a b stops was = absurd stops
settle_stopped number outcome faults.Spent past a b stops was = absurd stops
settle_stopped number outcome faults.TooManyClients past a b stops was = absurd stops
settle_stopped number outcome faults.InputFull past a b stops was = absurd stops
settle_stopped number outcome faults.UnderWay past a b stops was = absurd stops
settle_stopped number outcome faults.NoTicket past a b stops was = kept (Settled number outcome) past a.tally b.tally refl refl refl refl refl (λ op kind. refl) (tally_same a b stops.1) was

settled : (number : ℕ) (outcome : Outcome) (past : List Step) (a b : ServedCore) → IsSettled a number outcome b → AreCounted past a.tally → AreCounted (Settled number outcome ∷ past) b.tally
settled number outcome past a b (inl takes) was = had number outcome takes.counts.server past a.tally b.tally takes.counts.tally was
settled number outcome past a b (inr stops) was = settle_stopped number outcome stops.0 past a b stops.1 was

polled : (client : ℕ) (poll : Poll) (past : List Step) (a b : ServedCore) → Does (Polled client poll) a b → AreCounted past a.tally → AreCounted (Polled client poll ∷ past) b.tally
polled client (polls.Did note) past a b does was = did client note past a.tally b.tally does.1.tally was
polled client polls.Idle past a b does was = kept (Polled client polls.Idle) past a.tally b.tally refl refl refl refl refl (λ op kind. refl) does.1.tally was
polled client polls.Own past a b does was = kept (Polled client polls.Own) past a.tally b.tally refl refl refl refl refl (λ op kind. refl) does.1.tally was
polled client polls.Refused past a b does was = refused_message client past a.tally b.tally does.1.tally was
polled client (polls.Call ticket) past a b does was = called_out client ticket past a.tally b.tally does.1.tally was
polled client polls.Waiting past a b does was = kept (Polled client polls.Waiting) past a.tally b.tally refl refl refl refl refl (λ op kind. refl) does.1.tally was
polled client polls.Queued past a b does was = kept (Polled client polls.Queued) past a.tally b.tally refl refl refl refl refl (λ op kind. refl) does.1.tally was
polled client polls.Busy past a b does was = kept (Polled client polls.Busy) past a.tally b.tally refl refl refl refl refl (λ op kind. refl) does.1.tally was

-- (of all others the core is as it was)
step_counted : (step : Step) (past : List Step) (a b : ServedCore) → Does step a b → AreCounted past a.tally → AreCounted (step ∷ past) b.tally
step_counted (Opened client) past a b does was = opened client past a.tally b.tally does.2.tally was
step_counted (NotOpened fault) past a b does was = not_opened fault past a.tally b.tally does.1.tally was
step_counted (Fed client piece) past a b does was = kept (Fed client piece) past a.tally b.tally refl refl refl refl refl (λ op kind. refl) does.2.tally was
step_counted (Polled client poll) past a b does was = polled client poll past a b does was
step_counted (Stopped client fault) past a b does was = kept (Stopped client fault) past a.tally b.tally refl refl refl refl refl (λ op kind. refl) (stopped_same client fault a b does.1) was
step_counted (Settled number outcome) past a b does was = settled number outcome past a b does was
step_counted (Gave client bytes) past a b does was = kept (Gave client bytes) past a.tally b.tally refl refl refl refl refl (λ op kind. refl) does.1.tally was
step_counted (Closed client) past a b does was = kept (Closed client) past a.tally b.tally refl refl refl refl refl (λ op kind. refl) does.2.tally was
step_counted (LeftLine client) past a b does was = kept (LeftLine client) past a.tally b.tally refl refl refl refl refl (λ op kind. refl) does.1.tally was
step_counted (Loaded configuration generation) past a b does was = loaded configuration generation past a.tally b.tally does.tally was
step_counted (Spelled at number ask answer bytes) past a b does was = kept (Spelled at number ask answer bytes) past a.tally b.tally refl refl refl refl refl (λ op kind. refl) (tally_same a b does.0) was
step_counted (Noted at obstacle) past a b does was = kept (Noted at obstacle) past a.tally b.tally refl refl refl refl refl (λ op kind. refl) (tally_same a b does) was
step_counted step past a b does was = kept step past a.tally b.tally refl refl refl refl refl (λ op kind. refl) (tally_same a b does) was

-- ---- all of them

walk_counted : (steps past : List Step) (old new : ServedCore) → Walks steps old new → AreCounted past old.tally → AreCounted (steps ++ past) new.tally
walk_counted [] past old new same was = subst (AreCounted past) (sym (tally_same old new same)) was
walk_counted (step ∷ steps) past old new walks was = step_counted step (steps ++ past) walks.0 new walks.2 (walk_counted steps past old walks.0 walks.1 was)

-- ---- results

-- of a step by which no result is counted
by_count :
    (step : Step) (past : List Step) (count : CoreTally → CoreTally) (old new : CoreTally) → answers_one step ≡ false → fails_one step ≡ false
    → ((count old).answered ≡ old.answered) × ((count old).failed ≡ old.failed) → new ≡ count old → ResultsAreCounted past old → ResultsAreCounted (step ∷ past) new
by_count step past count old new none_answered none_failed same is was = subst (ResultsAreCounted (step ∷ past)) (sym is) (record {
  answered = same.0 ∙ was.answered ∙ not_so answers_one step past none_answered;
  failed = same.1 ∙ was.failed ∙ not_so fails_one step past none_failed;
})

by_none : (step : Step) (past : List Step) (old new : CoreTally) → answers_one step ≡ false → fails_one step ≡ false → new ≡ old → ResultsAreCounted past old → ResultsAreCounted (step ∷ past) new
by_none step past old new none_answered none_failed same was = by_count step past (λ tally. tally) old new none_answered none_failed (refl, refl) same was

poll_kept : (poll : Poll) (tally : CoreTally) → ((with_poll poll tally).answered ≡ tally.answered) × ((with_poll poll tally).failed ≡ tally.failed)
poll_kept (polls.Did note) tally = let kept = others_kept (reply_kind note) note.ask.op tally in (kept.3, kept.4)
poll_kept polls.Idle tally = (refl, refl)
poll_kept polls.Own tally = (refl, refl)
poll_kept polls.Refused tally = (refl, refl)
poll_kept (polls.Call ticket) tally = (refl, refl)
poll_kept polls.Waiting tally = (refl, refl)
poll_kept polls.Queued tally = (refl, refl)
poll_kept polls.Busy tally = (refl, refl)

-- a call had this outcome
had_result : (number : ℕ) (outcome : Outcome) (server : Option ℕ) (past : List Step) (old new : CoreTally) → new ≡ with_outcome server outcome old → ResultsAreCounted past old → ResultsAreCounted (Settled number outcome ∷ past) new
had_result number (Answered answer) None past old new is was =
    subst (ResultsAreCounted (Settled number (Answered answer) ∷ past)) (sym is) (record { answered = one_more_counted (number_of answers_one past) old.answered was.answered; failed = was.failed })
had_result number (Answered answer) (Some server) past old new is was =
    subst (ResultsAreCounted (Settled number (Answered answer) ∷ past)) (sym is) (record { answered = one_more_counted (number_of answers_one past) old.answered was.answered; failed = was.failed })
had_result number Failed None past old new is was =
    subst (ResultsAreCounted (Settled number Failed ∷ past)) (sym is) (record { answered = was.answered; failed = one_more_counted (number_of fails_one past) old.failed was.failed })
had_result number Failed (Some server) past old new is was =
    subst (ResultsAreCounted (Settled number Failed ∷ past)) (sym is) (record { answered = was.answered; failed = one_more_counted (number_of fails_one past) old.failed was.failed })

result_loaded : (configuration : Configuration) (generation : ℕ) (past : List Step) (old new : CoreTally) → MakesPlaces old new → ResultsAreCounted past old → ResultsAreCounted (Loaded configuration generation ∷ past) new
result_loaded configuration generation past old new makes was = subst (ResultsAreCounted (Loaded configuration generation ∷ past)) (sym makes.rest) (record { answered = was.answered; failed = was.failed })

pub not_none : {call : ℕ × Ask} → ◌≡◌ {A = Option (ℕ × Ask)} None (Some call) → ⊥
not_none e = cc

result_stopped :
    (number : ℕ) (outcome : Outcome) (fault : CoreFault) (past : List Step) (a b : ServedCore) (call : ℕ × Ask) → called a.core number ≡ Some call → SettleStops a number outcome fault b → ResultsAreCounted past a.tally
    → ResultsAreCounted (Settled number outcome ∷ past) b.tally
result_stopped number outcome faults.NoMemory past a b call is stops was = had_result number outcome stops.counts.server past a.tally b.tally stops.counts.tally was
result_stopped number outcome faults.NoClient past a b call is stops was = absurd stops
result_stopped number outcome faults.Spent past a b call is stops was = absurd stops
result_stopped number outcome faults.TooManyClients past a b call is stops was = absurd stops
result_stopped number outcome faults.InputFull past a b call is stops was = absurd stops
result_stopped number outcome faults.UnderWay past a b call is stops was = absurd stops
result_stopped number outcome faults.NoTicket past a b call is stops was = absurd (not_none (sym (none_out a.core number stops.0) ∙ is))

-- a call that was out was settled
result_settled :
    (number : ℕ) (outcome : Outcome) (past : List Step) (a b : ServedCore) (call : ℕ × Ask) → called a.core number ≡ Some call → IsSettled a number outcome b → ResultsAreCounted past a.tally
    → ResultsAreCounted (Settled number outcome ∷ past) b.tally
result_settled number outcome past a b call is (inl takes) was = had_result number outcome takes.counts.server past a.tally b.tally takes.counts.tally was
result_settled number outcome past a b call is (inr stops) was = result_stopped number outcome stops.0 past a b call is stops.1 was

result_counted : (step : Step) (past : List Step) (a b : ServedCore) → TellsCallsOut past a → MayComeNext step past → Does step a b → ResultsAreCounted past a.tally → ResultsAreCounted (step ∷ past) b.tally
result_counted (Settled number outcome) past a b tells may does was = result_settled number outcome past a b may.0.call (tells.calls number may.0.call may.0.is_out) does was
result_counted (Opened client) past a b tells may does was = by_count (Opened client) past with_client a.tally b.tally refl refl (refl, refl) does.2.tally was
result_counted (NotOpened fault) past a b tells may does was = by_count (NotOpened fault) past with_refusal a.tally b.tally refl refl (refl, refl) does.1.tally was
result_counted (Polled client poll) past a b tells may does was = by_count (Polled client poll) past (with_poll poll) a.tally b.tally refl refl (poll_kept poll a.tally) does.1.tally was
result_counted (Fed client piece) past a b tells may does was = by_none (Fed client piece) past a.tally b.tally refl refl does.2.tally was
result_counted (Stopped client fault) past a b tells may does was = by_none (Stopped client fault) past a.tally b.tally refl refl (stopped_same client fault a b does.1) was
result_counted (Gave client bytes) past a b tells may does was = by_none (Gave client bytes) past a.tally b.tally refl refl does.1.tally was
result_counted (Closed client) past a b tells may does was = by_none (Closed client) past a.tally b.tally refl refl does.2.tally was
result_counted (LeftLine client) past a b tells may does was = by_none (LeftLine client) past a.tally b.tally refl refl does.1.tally was
result_counted (Loaded configuration generation) past a b tells may does was = result_loaded configuration generation past a.tally b.tally does.tally was
result_counted (Spelled at number ask answer bytes) past a b tells may does was = by_none (Spelled at number ask answer bytes) past a.tally b.tally refl refl (tally_same a b does.0) was
result_counted (Noted at obstacle) past a b tells may does was = by_none (Noted at obstacle) past a.tally b.tally refl refl (tally_same a b does) was
result_counted step past a b tells may does was = by_none step past a.tally b.tally refl refl (tally_same a b does) was

walk_results :
    (steps past : List Step) (old new : ServedCore) → Walks steps old new → TellsCallsOut past old → IsOrderly (steps ++ past) → ResultsAreCounted past old.tally → ResultsAreCounted (steps ++ past) new.tally
walk_results [] past old new same tells orderly was = subst (ResultsAreCounted past) (sym (tally_same old new same)) was
walk_results (step ∷ steps) past old new walks tells orderly was =
    result_counted step (steps ++ past) walks.0 new (walks_tell_calls.goes_on steps past old walks.0 tells walks.1).0 orderly.0 walks.2 (walk_results steps past old walks.0 walks.1 tells orderly.1 was)

-- ---- at first

-- no place has any
none_at : (op : Op) → slice_index (replicate 12 0) (op_number op) ≡ 0
none_at ops.Get = refl
none_at ops.Gat = refl
none_at ops.Set = refl
none_at ops.Add = refl
none_at ops.Replace = refl
none_at ops.Append = refl
none_at ops.Prepend = refl
none_at ops.Cas = refl
none_at ops.Delete = refl
none_at ops.Incr = refl
none_at ops.Decr = refl
none_at ops.Touch = refl

none_counted : (op : Op) (kind : ReplyKind) → count_of kind (of_op nothing_done op) ≡ counted 0
none_counted op TellsError = none_at op
none_counted op ShowsItem = none_at op
none_counted op Acknowledges = none_at op
none_counted op TellsOther = none_at op

begins_counted : (tally : CoreTally) → MakesPlaces nothing_done tally → AreCounted [] tally
begins_counted tally makes = subst (AreCounted []) (sym makes.rest) (record { opened = refl; refused = refl; bad_messages = refl; ended = refl; calls = refl; replies = none_counted; places = (refl, refl, refl, refl) })

begins_results : (tally : CoreTally) → MakesPlaces nothing_done tally → ResultsAreCounted [] tally
begins_results tally makes = subst (ResultsAreCounted []) (sym makes.rest) (record { answered = refl; failed = refl })

pub steps_are_counted : StepsAreCounted
steps_are_counted = record { begins = begins_counted; goes_on = walk_counted; results_begin = begins_results; results_go_on = walk_results }
