-- What stands at the head of a client's commands, and what is changed of one client where it is shown. Source: mcgate's own.
use Rattle.std.specs.Prelude.{◌≡◌, ℕ, Bool, true, false, List, [], ◌∷◌, ◌++◌, Some, None, if◌then◌else◌, nat_eq}
use Rattle.wire_parts.specs.Sending.{bytes_of}
use Rattle.mc_types.specs.declared.answer.Answer.{Answer}
use Rattle.wire_stream.specs.Replies.{shown_text}
use Rattle.core_client.specs.declared.client.Client.{Client}
use Rattle.core_client.specs.declared.client.Pending.{Pending}
use Rattle.core_client.specs.declared.replying.ReplyPlace.{ReplyPlace}
use Rattle.core_client.specs.Replying.{AnswersAt, IsPlace}

-- whether the command has a reply, and the output after it
abbrev pub WritesReply : Pending → List ℕ → Bool → List ℕ → Type 0
WritesReply pending output true output' = (reply : Answer) × (pending.reply ≡ Some reply) × (output' ≡ output ++ shown_text pending.quiet pending.last pending.ask reply)
WritesReply pending output false output' = (pending.reply ≡ None) × (output' ≡ output)

-- the head of the client's commands was shown
pub record ShowsHead (x : Client) (pending : Pending) (reply : Answer) (y : Client) : Type 0 where
  pub rest : List Pending
  pub head : x.queue.items ≡ pending ∷ rest
  pub replied : pending.reply ≡ Some reply
  pub served : x.dropped ≡ false
  pub queue : y.queue.items ≡ rest
  pub output : bytes_of y.output ≡ bytes_of x.output ++ shown_text pending.quiet pending.last pending.ask reply
  pub stream : y.stream ≡ x.stream
  pub index : y.index ≡ x.index
  pub waits : y.waits ≡ x.waits
  pub dropped : y.dropped ≡ x.dropped

-- nothing is at the head, or what has no reply yet
abbrev pub HasNoReply : List Pending → Type 0
HasNoReply [] = Unit {0}
HasNoReply (pending ∷ rest) = pending.reply ≡ None

-- whether the head had a reply, which was shown then
abbrev pub ShowsOne : Client → Bool → Client → Type 0
ShowsOne x true y = (pending : Pending) × (reply : Answer) × ShowsHead x pending reply y
ShowsOne x false y = HasNoReply x.queue.items × (y ≡ x)

-- the command is of this number, and asks the last key of its message
abbrev pub is_next_of : ℕ → Pending → Bool
is_next_of number pending = if nat_eq pending.number number then pending.last else false

-- the command at the head is of this number, and asks the last key of its message
abbrev pub is_next_reply : ℕ → List Pending → Bool
is_next_reply number [] = false
is_next_reply number (pending ∷ rest) = is_next_of number pending

-- this reply came to the command of this number, and then the head of the client's commands was shown
pub record AnswersHead (x : Client) (number : ℕ) (reply : Answer) (y : Client) : Type 0 where
  pub between : Client
  pub place : ReplyPlace
  pub is : IsPlace x number place
  pub answers : AnswersAt x place.at is.pending.last reply between
  pub shows : ShowsOne between true y

-- whether this reply came to the command of this number and the head was shown then; where not, nothing changed
abbrev pub ShowsAtOnce : Client → ℕ → Answer → Bool → Client → Type 0
ShowsAtOnce x number reply true y = AnswersHead x number reply y
ShowsAtOnce x number reply false y = y ≡ x
