-- What is counted of calls that were settled. Source: mcgate's own.
use Rattle.std.specs.Prelude.{ℕ, Bool, true, false, ◌+◌, ◌-◌, ◌^◌, List, [], ◌∷◌, if◌then◌else◌, nat_lt, min, slice_index, slice_set}
use Rattle.mc_types.specs.Fits.{is_error}
use Rattle.mc_types.specs.declared.call.Outcome.{Outcome}
use Rattle.mc_types.specs.declared.call.Outcome.TheVariants.{Answered, Failed}
use Rattle.core_accepted.specs.Tallies.{one_more}
use Rattle.serve_links.specs.declared.tally.CallTally.{CallTally}
use Rattle.serve_links.specs.declared.calls.times.CallTimes.{CallTimes}
use Rattle.serve_links.specs.declared.calls.calls.SentCall.{SentCall}
use Rattle.serve_links.specs.declared.calls.calls.Next.{Next}
use Rattle.serve_links.specs.declared.calls.calls.Next.TheVariants as nexts

-- a count goes on by so many; at the greatest number it stays
abbrev pub more_by : ℕ → ℕ → ℕ
more_by more count = min (count + more) (2 ^ 64 - 1)

-- the place of the first of these limits that a time doesn't pass, or the one after them all
abbrev pub place_among : List ℕ → ℕ → ℕ
place_among [] micros = 0
place_among (most ∷ limits) micros = if nat_lt most micros then place_among limits micros + 1 else 0

-- the place of a time among those that are told apart, in microseconds; the last is of all longer ones
abbrev pub span_of : ℕ → ℕ
span_of = place_among (100 ∷ 250 ∷ 500 ∷ 1000 ∷ 2500 ∷ 5000 ∷ 10000 ∷ 50000 ∷ 250000 ∷ 1000000 ∷ [])

-- one more call was answered, after so many microseconds
abbrev pub with_answer : ℕ → CallTally → CallTally
with_answer micros tally = record tally {
  answered = one_more tally.answered;
  micros = min (tally.micros + micros) (2 ^ 64 - 1);
  spans = slice_set tally.spans (span_of micros) (one_more (slice_index tally.spans (span_of micros)));
}

-- one more has failed that was out
abbrev pub with_failure : CallTally → CallTally
with_failure tally = record tally { failed = one_more tally.failed }

-- how long the first of the calls that are out has taken, which went out at these times, where it is answered by bytes that came then
abbrev pub took : List ℕ → ℕ → ℕ
took [] came = 0
took (went ∷ later) came = came - went

-- the first of them had this outcome
abbrev pub with_call_outcome : Outcome → CallTimes → CallTally
with_call_outcome (Answered answer) times = with_answer (took times.went.items times.came) times.tally
with_call_outcome Failed times = with_failure times.tally

-- the first of these calls had this outcome, if there is one
abbrev pub with_first : List SentCall → Outcome → CallTimes → CallTally
with_first [] outcome times = times.tally
with_first (call ∷ sent) outcome times = with_call_outcome outcome times

-- one more answer was an error, or wasn't
abbrev pub with_error : Bool → ℕ → ℕ
with_error true errors = one_more errors
with_error false errors = errors

-- a call had this outcome: one more answer was an error, or none was
abbrev pub with_outcome_error : Outcome → ℕ → ℕ
with_outcome_error (Answered answer) errors = with_error (is_error answer) errors
with_outcome_error Failed errors = errors

-- the first of these calls, if there is one, had this outcome: one more answer was an error, or none was
abbrev pub with_first_error : List SentCall → Outcome → ℕ → ℕ
with_first_error [] outcome errors = errors
with_first_error (call ∷ sent) outcome errors = with_outcome_error outcome errors

-- it was answered, if that was done
abbrev pub with_next : Next → CallTimes → CallTally
with_next (nexts.Settled client used) times = with_answer (took times.went.items times.came) times.tally
with_next (nexts.Left left) times = times.tally
