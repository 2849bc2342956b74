-- The bytes of a client in a log of overlapping commands, and the messages that were done of them. Source: mcgate's own.
use Rattle.std.specs.Prelude.{◌≡◌, ℕ, Bool, true, false, List, [], ◌∷◌, ◌++◌, Option, Some, None, if◌then◌else◌, nat_eq, ◌⊎◌}
use Rattle.mc_types.specs.declared.answer.Answer.{Answer}
use Rattle.fresh_runs.specs.Run.{Event, Begins, Calls, Replies, Breaks, Turns, Restarts}
use Rattle.fresh_runs.specs.Protocol.{Protocol}
use Rattle.fresh_runs.specs.Log.{Part}
use Rattle.fresh_runs.specs.Stream.{Done}
use Rattle.fresh_runs.specs.Overlap.{Slot, Entry, Feeds, Starts, Sends, Happens, Ends, Shows, Passes, Gives, Drops, Frees, Resets, is_last, is_last_slot}

-- whether a message is over with a command: with its last key's, or with a reply that ends it
abbrev pub ends_by : Bool → Option Answer → (Answer → Bool) → Bool
ends_by true reply ends = true
ends_by false None ends = false
ends_by false (Some reply) ends = ends reply

-- a protocol's messages end with the reply to their last key, at the latest
abbrev pub EndsWithLast : Protocol → Type 0
EndsWithLast P = (slot : Slot P) (reply : Answer) → is_last_slot slot ≡ true → P.ends slot.message slot.index reply ≡ true

-- the event is the reply of this command
abbrev pub RepliesBy : Event → ℕ → List ℕ → Answer → Type 0
RepliesBy (Replies number key reply from) n k r = (number ≡ n) × (key ≡ k) × (reply ≡ r)
RepliesBy (Begins number ask) n k r = ⊥
RepliesBy (Breaks number) n k r = ⊥
RepliesBy (Calls number server ask origin end) n k r = ⊥
RepliesBy (Turns server key turned) n k r = ⊥
RepliesBy (Restarts server) n k r = ⊥

-- the command of this number on this key had this reply
abbrev pub IsReplied : List Event → ℕ → List ℕ → Answer → Type 0
IsReplied [] n k r = ⊥
IsReplied (event ∷ past) n k r = RepliesBy event n k r ⊎ IsReplied past n k r

module _ {P : Protocol} where
  -- the message, where the start of this key's command is all that it asks
  abbrev pub started_by : Part P → List P.Message
  started_by part = if is_last part then part.message ∷ [] else []

  -- the message, where this reply ends it and a further key could have been asked
  abbrev pub ended_by : Part P → Answer → List P.Message
  ended_by part reply = if is_last part then [] else if P.ends part.message part.index reply then part.message ∷ [] else []

  -- the message of this command asks nothing more
  abbrev pub asks_no_more : Slot P → Bool
  asks_no_more slot = ends_by (is_last_slot slot) slot.reply (P.ends slot.message slot.index)

  -- the messages that end within a queue
  abbrev pub over_in : List (Slot P) → List P.Message
  over_in [] = []
  over_in (slot ∷ slots) = (if asks_no_more slot then slot.message ∷ [] else []) ++ over_in slots

  -- the shown replies of the message at the front of what is shown, after one more; none where that ended it
  abbrev pub replies_after : List Answer → Slot P → Answer → List Answer
  replies_after replies slot reply = if P.ends slot.message slot.index reply then [] else replies ++ reply ∷ []

  -- the messages that were shown to their ends, after one more reply
  abbrev pub done_after : List (Done P) → List Answer → Slot P → Answer → List (Done P)
  done_after done replies slot reply =
      if P.ends slot.message slot.index reply then done ++ record { message = slot.message; replies = replies ++ reply ∷ [] } ∷ [] else done

  -- all bytes of a client, joined
  abbrev pub stream_of : List (Entry P) → ℕ → List ℕ
  stream_of [] c = []
  stream_of (Feeds client bytes ∷ log) c = if nat_eq client c then stream_of log c ++ bytes else stream_of log c
  stream_of (Starts client number part ∷ log) c = stream_of log c
  stream_of (Sends number server ask origin ∷ log) c = stream_of log c
  stream_of (Happens event ∷ log) c = stream_of log c
  stream_of (Ends client number part reply from ∷ log) c = stream_of log c
  stream_of (Shows client slot reply ∷ log) c = stream_of log c
  stream_of (Passes client message next ∷ log) c = stream_of log c
  stream_of (Gives client bytes ∷ log) c = stream_of log c
  stream_of (Drops client ∷ log) c = stream_of log c
  stream_of (Frees number ∷ log) c = stream_of log c
  stream_of (Resets client ∷ log) c = if nat_eq client c then [] else stream_of log c

  -- the messages of a client that ask nothing more, in order
  abbrev pub messages_of : List (Entry P) → ℕ → List P.Message
  messages_of [] c = []
  messages_of (Feeds client bytes ∷ log) c = messages_of log c
  messages_of (Starts client number part ∷ log) c = if nat_eq client c then messages_of log c ++ started_by part else messages_of log c
  messages_of (Sends number server ask origin ∷ log) c = messages_of log c
  messages_of (Happens event ∷ log) c = messages_of log c
  messages_of (Ends client number part reply from ∷ log) c = if nat_eq client c then messages_of log c ++ ended_by part reply else messages_of log c
  messages_of (Shows client slot reply ∷ log) c = messages_of log c
  messages_of (Passes client message next ∷ log) c = if nat_eq client c then messages_of log c ++ message ∷ [] else messages_of log c
  messages_of (Gives client bytes ∷ log) c = messages_of log c
  messages_of (Drops client ∷ log) c = messages_of log c
  messages_of (Frees number ∷ log) c = messages_of log c
  messages_of (Resets client ∷ log) c = if nat_eq client c then [] else messages_of log c

  -- the replies shown so far of the message that is being shown, in order
  abbrev pub replies_of : List (Entry P) → ℕ → List Answer
  replies_of [] c = []
  replies_of (Feeds client bytes ∷ log) c = replies_of log c
  replies_of (Starts client number part ∷ log) c = replies_of log c
  replies_of (Sends number server ask origin ∷ log) c = replies_of log c
  replies_of (Happens event ∷ log) c = replies_of log c
  replies_of (Ends client number part reply from ∷ log) c = replies_of log c
  replies_of (Shows client slot reply ∷ log) c = if nat_eq client c then replies_after (replies_of log c) slot reply else replies_of log c
  replies_of (Passes client message next ∷ log) c = replies_of log c
  replies_of (Gives client bytes ∷ log) c = replies_of log c
  replies_of (Drops client ∷ log) c = replies_of log c
  replies_of (Frees number ∷ log) c = replies_of log c
  replies_of (Resets client ∷ log) c = if nat_eq client c then [] else replies_of log c

  -- a client's messages that were shown to their ends, with their replies, in order
  abbrev pub done_of : List (Entry P) → ℕ → List (Done P)
  done_of [] c = []
  done_of (Feeds client bytes ∷ log) c = done_of log c
  done_of (Starts client number part ∷ log) c = done_of log c
  done_of (Sends number server ask origin ∷ log) c = done_of log c
  done_of (Happens event ∷ log) c = done_of log c
  done_of (Ends client number part reply from ∷ log) c = done_of log c
  done_of (Shows client slot reply ∷ log) c = if nat_eq client c then done_after (done_of log c) (replies_of log c) slot reply else done_of log c
  done_of (Passes client message next ∷ log) c = if nat_eq client c then done_of log c ++ record { message = message; replies = [] } ∷ [] else done_of log c
  done_of (Gives client bytes ∷ log) c = done_of log c
  done_of (Drops client ∷ log) c = done_of log c
  done_of (Frees number ∷ log) c = done_of log c
  done_of (Resets client ∷ log) c = if nat_eq client c then [] else done_of log c

  -- the numbers of a client's commands, in the order in which it asked them
  abbrev pub begun_by : List (Entry P) → ℕ → List ℕ
  begun_by [] c = []
  begun_by (Feeds client bytes ∷ log) c = begun_by log c
  begun_by (Starts client number part ∷ log) c = if nat_eq client c then begun_by log c ++ number ∷ [] else begun_by log c
  begun_by (Sends number server ask origin ∷ log) c = begun_by log c
  begun_by (Happens event ∷ log) c = begun_by log c
  begun_by (Ends client number part reply from ∷ log) c = begun_by log c
  begun_by (Shows client slot reply ∷ log) c = begun_by log c
  begun_by (Passes client message next ∷ log) c = begun_by log c
  begun_by (Gives client bytes ∷ log) c = begun_by log c
  begun_by (Drops client ∷ log) c = begun_by log c
  begun_by (Frees number ∷ log) c = begun_by log c
  begun_by (Resets client ∷ log) c = if nat_eq client c then [] else begun_by log c

  -- the commands whose replies it was shown, in order
  abbrev pub shown_slots : List (Entry P) → ℕ → List (Slot P)
  shown_slots [] c = []
  shown_slots (Feeds client bytes ∷ log) c = shown_slots log c
  shown_slots (Starts client number part ∷ log) c = shown_slots log c
  shown_slots (Sends number server ask origin ∷ log) c = shown_slots log c
  shown_slots (Happens event ∷ log) c = shown_slots log c
  shown_slots (Ends client number part reply from ∷ log) c = shown_slots log c
  shown_slots (Shows client slot reply ∷ log) c = if nat_eq client c then shown_slots log c ++ slot ∷ [] else shown_slots log c
  shown_slots (Passes client message next ∷ log) c = shown_slots log c
  shown_slots (Gives client bytes ∷ log) c = shown_slots log c
  shown_slots (Drops client ∷ log) c = shown_slots log c
  shown_slots (Frees number ∷ log) c = shown_slots log c
  shown_slots (Resets client ∷ log) c = if nat_eq client c then [] else shown_slots log c

  -- the replies of messages, in order
  abbrev pub all_replies : List (Done P) → List Answer
  all_replies [] = []
  all_replies (done ∷ more) = done.replies ++ all_replies more

  -- these are the replies of the run to these commands, one for each
  abbrev pub AreReplies : List Event → List (Slot P) → List Answer → Type 0
  AreReplies past [] [] = Unit {0}
  AreReplies past [] (reply ∷ replies) = ⊥
  AreReplies past (slot ∷ slots) [] = ⊥
  AreReplies past (slot ∷ slots) (reply ∷ replies) = IsReplied past slot.number slot.ask.key reply × AreReplies past slots replies
