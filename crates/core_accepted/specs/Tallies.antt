-- What a core counts: clients, messages that it refused, commands that ended, and calls. Source: mcgate's own.
use Rattle.std.specs.Prelude.{◌≡◌, ℕ, ◌+◌, ◌-◌, ◌^◌, Option, Some, None, Result, Ok, Err, Bool, true, false, List, [], ◌++◌, length, replicate, min, nat_lt, slice_index, slice_set}
use Rattle.mc_types.specs.declared.ask.Op.{Op}
use Rattle.mc_types.specs.declared.call.Outcome.{Outcome}
use Rattle.mc_types.specs.declared.call.Outcome.TheVariants.{Answered, Failed}
use Rattle.route_tree.specs.Operation.{op_number}
use Rattle.core_proxy.specs.declared.fault.CoreFault.{CoreFault}
use Rattle.core_proxy.specs.declared.fault.CoreFault.TheVariants as faults
use Rattle.core_proxy.specs.declared.note.Note.{Note}
use Rattle.core_proxy.specs.declared.note.Poll.{Poll}
use Rattle.core_proxy.specs.declared.note.Poll.TheVariants as polls
use Rattle.core_accepted.specs.declared.tally.CoreTally.{CoreTally}
use Rattle.core_accepted.specs.declared.tally.OpTally.{OpTally}
use Rattle.core_accepted.specs.declared.tally.ServerTally.{ServerTally}

-- the replies that are told apart: an error, one that shows an item, that to a delete that was acknowledged, and any other
pub data ReplyKind : Type 0 where
  TellsError : ReplyKind
  ShowsItem : ReplyKind
  Acknowledges : ReplyKind
  TellsOther : ReplyKind

-- by whether it is an error, or acknowledges a delete, and the call whose item it shows, if it shows one
abbrev pub kind_by : (is_error acknowledged : Bool) → Option ℕ → ReplyKind
kind_by true acknowledged from = TellsError
kind_by false true from = Acknowledges
kind_by false false (Some call) = ShowsItem
kind_by false false None = TellsOther

-- the reply of a command that ended so
abbrev pub reply_kind : Note → ReplyKind
reply_kind note = kind_by note.is_error note.acknowledged note.from

-- one more, as far as it is counted
abbrev pub one_more : ℕ → ℕ
one_more count = min (count + 1) (2 ^ 64 - 1)

-- one more at this place
abbrev pub more_at : ℕ → List ℕ → List ℕ
more_at place counts = slice_set counts place (one_more (slice_index counts place))

-- one more that is counted at no place, unless there is one
abbrev pub lost_unless : Bool → ℕ → ℕ
lost_unless true unplaced = unplaced
lost_unless false unplaced = one_more unplaced

-- one more at this place, if it is among them; else one more is counted at none
abbrev pub unplaced_at : ℕ → List ℕ → ℕ → ℕ
unplaced_at place counts unplaced = lost_unless (nat_lt place (length counts)) unplaced

-- one more command of this operation has ended, with such a reply
abbrev pub with_reply : ReplyKind → Op → CoreTally → CoreTally
with_reply TellsError op tally = record tally { ended = one_more tally.ended; errors = more_at (op_number op) tally.errors }
with_reply ShowsItem op tally = record tally { ended = one_more tally.ended; items = more_at (op_number op) tally.items }
with_reply Acknowledges op tally = record tally { ended = one_more tally.ended; acknowledged = more_at (op_number op) tally.acknowledged }
with_reply TellsOther op tally = record tally { ended = one_more tally.ended; others = more_at (op_number op) tally.others }

abbrev pub with_note : Note → CoreTally → CoreTally
with_note note tally = with_reply (reply_kind note) note.ask.op tally

-- one more call was given out, of this server
abbrev pub with_call : ℕ → CoreTally → CoreTally
with_call server tally = record tally { calls = one_more tally.calls; calls_at = more_at server tally.calls_at; unplaced = unplaced_at server tally.calls_at tally.unplaced }

-- one more message was refused
abbrev pub with_bad_message : CoreTally → CoreTally
with_bad_message tally = record tally { bad_messages = one_more tally.bad_messages }

-- the command that a poll tells to have ended is counted, the call that it gives out, and the message that it refuses
abbrev pub with_poll : Poll → CoreTally → CoreTally
with_poll (polls.Did note) tally = with_note note tally
with_poll polls.Idle tally = tally
with_poll polls.Own tally = tally
with_poll polls.Refused tally = with_bad_message tally
with_poll (polls.Call ticket) tally = with_call ticket.server tally
with_poll polls.Waiting tally = tally
with_poll polls.Queued tally = tally
with_poll polls.Busy tally = tally

-- whether a call was answered
abbrev pub is_answer : Outcome → Bool
is_answer (Answered answer) = true
is_answer Failed = false

-- one more call was answered, or has failed, of this server, if that was found
abbrev pub with_end : (answered : Bool) → (server : Option ℕ) → CoreTally → CoreTally
with_end true (Some server) tally = record tally { answered = one_more tally.answered; answered_at = more_at server tally.answered_at; unplaced = unplaced_at server tally.answered_at tally.unplaced }
with_end false (Some server) tally = record tally { failed = one_more tally.failed; failed_at = more_at server tally.failed_at; unplaced = unplaced_at server tally.failed_at tally.unplaced }
with_end true None tally = record tally { answered = one_more tally.answered; unplaced = one_more tally.unplaced }
with_end false None tally = record tally { failed = one_more tally.failed; unplaced = one_more tally.unplaced }

-- one more call had this outcome, of this server, if that was found
abbrev pub with_outcome : (server : Option ℕ) → Outcome → CoreTally → CoreTally
with_outcome server outcome tally = with_end (is_answer outcome) server tally

-- the call that was settled is counted, also where memory was refused for what comes of it. Where none was out nothing is
abbrev pub with_settling : (answered : Bool) → (server : Option ℕ) → Result (Unit {0}) CoreFault → CoreTally → CoreTally
with_settling answered server (Ok done) tally = with_end answered server tally
with_settling answered server (Err faults.NoMemory) tally = with_end answered server tally
with_settling answered server (Err faults.NoTicket) tally = tally
with_settling answered server (Err faults.TooManyClients) tally = tally
with_settling answered server (Err faults.NoClient) tally = tally
with_settling answered server (Err faults.InputFull) tally = tally
with_settling answered server (Err faults.UnderWay) tally = tally
with_settling answered server (Err faults.Spent) tally = tally

-- one more client was opened
abbrev pub with_client : CoreTally → CoreTally
with_client tally = record tally { opened = one_more tally.opened }

-- one more was turned away
abbrev pub with_refusal : CoreTally → CoreTally
with_refusal tally = record tally { refused = one_more tally.refused }

abbrev pub with_opening : Result ℕ CoreFault → CoreTally → CoreTally
with_opening (Ok client) tally = with_client tally
with_opening (Err fault) tally = with_refusal tally

-- nothing was done yet, and no server has a place
abbrev pub nothing_done : CoreTally
nothing_done = record { opened = 0; refused = 0; bad_messages = 0; ended = 0; calls = 0; answered = 0; failed = 0; errors = replicate 12 0; items = replicate 12 0; acknowledged = replicate 12 0; others = replicate 12 0; calls_at = []; answered_at = []; failed_at = []; unplaced = 0 }

-- some places were added, with no count
abbrev pub AddsPlaces : List ℕ → List ℕ → Type 0
AddsPlaces old new = (places : ℕ) × (new ≡ old ++ replicate places 0)

-- servers were given places, and no count has changed
pub record MakesPlaces (old new : CoreTally) : Type 0 where
  pub calls : AddsPlaces old.calls_at new.calls_at
  pub answered : AddsPlaces old.answered_at new.answered_at
  pub failed : AddsPlaces old.failed_at new.failed_at
  pub rest : new ≡ record old { calls_at = new.calls_at; answered_at = new.answered_at; failed_at = new.failed_at }

-- of one operation
abbrev pub of_op : CoreTally → Op → OpTally
of_op tally op = record {
  errors = slice_index tally.errors (op_number op);
  items = slice_index tally.items (op_number op);
  acknowledged = slice_index tally.acknowledged (op_number op);
  others = slice_index tally.others (op_number op);
}

-- of one server
abbrev pub of_server : CoreTally → ℕ → ServerTally
of_server tally server = record { calls = slice_index tally.calls_at server; answered = slice_index tally.answered_at server; failed = slice_index tally.failed_at server }
