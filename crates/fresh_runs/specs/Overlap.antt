-- What happened between clients, the core and its servers, the latest first, where commands of many clients and several of one client are under way at once. Source: mcgate's own.
use Rattle.std.specs.Prelude.{◌≡◌, ℕ, ◌+◌, Bool, true, false, List, [], ◌∷◌, ◌++◌, length, Option, Some, None, if◌then◌else◌, nat_eq, slice_get}
use Rattle.mc_types.specs.declared.ask.Ask.{Ask}
use Rattle.mc_types.specs.declared.answer.Answer.{Answer}
use Rattle.mc_types.specs.declared.call.Origin.{Origin}
use Rattle.mc_types.specs.Items.{Item}
use Rattle.fresh_runs.specs.Calls.{Words}
use Rattle.fresh_runs.specs.Log.{Part}
use Rattle.fresh_runs.specs.Run.{Event, Begins, Calls, Replies, Breaks, Turns, Restarts, commands_in, MayCome}
use Rattle.fresh_runs.specs.Protocol.{Protocol, IsStuck}

-- where the starting of a client's commands stands: its reader stands before the message at the front, this key of it is next, and whether the key before it has no reply yet
pub record Front (P : Protocol) : Type 0 where
  pub place : P.Place
  pub index : ℕ
  pub waits : Bool

-- a command whose reply the client was not shown yet: its number, which key of which message it is, and its reply where that has come
pub record Slot (P : Protocol) : Type 0 where
  pub number : ℕ
  pub message : P.Message
  pub index : ℕ
  pub ask : Ask
  pub reply : Option Answer

-- whose a command is that has begun and isn't over, and what it asks
pub record Owner : Type 0 where
  pub client : ℕ
  pub ask : Ask

-- no command of the client on this key is under way: a client sees its own commands on a key in order
abbrev pub IsFirst : (ℕ → Option Owner) → ℕ → List ℕ → Type 0
IsFirst owner client key = (n : ℕ) (o : Owner) → owner n ≡ Some o → o.client ≡ client → o.ask.key ≡ key → ⊥

-- a call that is out at a server: of which command, and what it asks
pub record Ticket : Type 0 where
  pub number : ℕ
  pub ask : Ask
  pub origin : Origin

-- the first ticket of a command
abbrev pub ticket_in : List Ticket → ℕ → Option Ticket
ticket_in [] n = None
ticket_in (ticket ∷ tickets) n = if nat_eq ticket.number n then Some ticket else ticket_in tickets n

-- the tickets without the first of a command
abbrev pub without_ticket : ℕ → List Ticket → List Ticket
without_ticket n [] = []
without_ticket n (ticket ∷ tickets) = if nat_eq ticket.number n then tickets else ticket ∷ without_ticket n tickets

-- the calls that are out at a server after an event
abbrev pub out_after : Event → ℕ → List Ticket → List Ticket
out_after (Calls number server ask origin end) s tickets = if nat_eq server s then without_ticket number tickets else tickets
out_after (Begins number ask) s tickets = tickets
out_after (Replies number key reply from) s tickets = tickets
out_after (Breaks number) s tickets = tickets
out_after (Turns server key turned) s tickets = tickets
out_after (Restarts server) s tickets = tickets

pub data Entry (P : Protocol) : Type 0 where
  -- these bytes come from a client
  Feeds : (client : ℕ) (bytes : List ℕ) → Entry P
  -- the next key of the message at a client's front is a command: it has its number
  Starts : (client number : ℕ) (part : Part P) → Entry P
  -- the next call of a command is out at a server
  Sends : (number server : ℕ) (ask : Ask) (origin : Origin) → Entry P
  -- a call that was out has its result, or something was lost
  Happens : Event → Entry P
  -- the command has its reply, and the call whose item that shows
  Ends : (client number : ℕ) (part : Part P) (reply : Answer) (from : Option ℕ) → Entry P
  -- the reply at the head of a client's queue is shown
  Shows : (client : ℕ) (slot : Slot P) (reply : Answer) → Entry P
  -- a message that asks no server
  Passes : (client : ℕ) (message : P.Message) (next : P.Place) → Entry P
  -- the client is given its new output
  Gives : (client : ℕ) (bytes : List ℕ) → Entry P
  -- nothing is done for the client any more, as where memory ran out
  Drops : (client : ℕ) → Entry P
  -- a command of such a client is broken off
  Frees : (number : ℕ) → Entry P
  -- the client's number is that of a new client
  Resets : (client : ℕ) → Entry P

module _ {P : Protocol} where
  -- the key is the last one of its message
  abbrev pub is_last : Part P → Bool
  is_last part = nat_eq (part.index + 1) (length (P.asks_of part.message))

  abbrev pub is_last_slot : Slot P → Bool
  is_last_slot slot = nat_eq (slot.index + 1) (length (P.asks_of slot.message))

  abbrev pub start_front : Front P
  start_front = record { place = P.start; index = 0; waits = false }

  abbrev pub fed_front : Front P → List ℕ → Front P
  fed_front front bytes = record { place = P.fed front.place bytes; index = front.index; waits = front.waits }

  -- after the start of a command: after the message where its key is the last, else it waits for the reply
  abbrev pub after_start : Front P → Part P → Front P
  after_start front part =
      if is_last part then record { place = part.next; index = 0; waits = false } else record { place = front.place; index = front.index; waits = true }

  -- after the reply that was waited for: after the message where it is done, else before its next key
  abbrev pub after_end : Front P → Part P → Answer → Front P
  after_end front part reply =
      if is_last part
      then front
      else if P.ends part.message part.index reply
      then record { place = part.next; index = 0; waits = false }
      else record { place = front.place; index = part.index + 1; waits = false }

  abbrev pub part_slot : ℕ → Part P → Slot P
  part_slot number part = record { number = number; message = part.message; index = part.index; ask = part.ask; reply = None }

  -- the first command of this number in a queue
  abbrev pub slot_in : List (Slot P) → ℕ → Option (Slot P)
  slot_in [] n = None
  slot_in (slot ∷ slots) n = if nat_eq slot.number n then Some slot else slot_in slots n

  -- it has its reply
  abbrev pub answered_in : ℕ → Answer → List (Slot P) → List (Slot P)
  answered_in n reply [] = []
  answered_in n reply (slot ∷ slots) =
      if nat_eq slot.number n
      then record { number = slot.number; message = slot.message; index = slot.index; ask = slot.ask; reply = Some reply } ∷ slots
      else slot ∷ answered_in n reply slots

  abbrev pub behind_head : List (Slot P) → List (Slot P)
  behind_head [] = []
  behind_head (slot ∷ slots) = slots

  -- the run
  abbrev pub run_of : List (Entry P) → List Event
  run_of [] = []
  run_of (Feeds client bytes ∷ log) = run_of log
  run_of (Starts client number part ∷ log) = Begins number part.ask ∷ run_of log
  run_of (Sends number server ask origin ∷ log) = run_of log
  run_of (Happens event ∷ log) = event ∷ run_of log
  run_of (Ends client number part reply from ∷ log) = Replies number part.ask.key reply from ∷ run_of log
  run_of (Shows client slot reply ∷ log) = run_of log
  run_of (Passes client message next ∷ log) = run_of log
  run_of (Gives client bytes ∷ log) = run_of log
  run_of (Drops client ∷ log) = run_of log
  run_of (Frees number ∷ log) = Breaks number ∷ run_of log
  run_of (Resets client ∷ log) = run_of log

  -- where the starting of a client's commands stands
  abbrev pub front_of : List (Entry P) → ℕ → Front P
  front_of [] c = start_front
  front_of (Feeds client bytes ∷ log) c = if nat_eq client c then fed_front (front_of log c) bytes else front_of log c
  front_of (Starts client number part ∷ log) c = if nat_eq client c then after_start (front_of log c) part else front_of log c
  front_of (Sends number server ask origin ∷ log) c = front_of log c
  front_of (Happens event ∷ log) c = front_of log c
  front_of (Ends client number part reply from ∷ log) c = if nat_eq client c then after_end (front_of log c) part reply else front_of log c
  front_of (Shows client slot reply ∷ log) c = front_of log c
  front_of (Passes client message next ∷ log) c = if nat_eq client c then record { place = next; index = 0; waits = false } else front_of log c
  front_of (Gives client bytes ∷ log) c = front_of log c
  front_of (Drops client ∷ log) c = front_of log c
  front_of (Frees number ∷ log) c = front_of log c
  front_of (Resets client ∷ log) c = if nat_eq client c then start_front else front_of log c

  -- its commands whose replies were not shown yet, in order
  abbrev pub queue_of : List (Entry P) → ℕ → List (Slot P)
  queue_of [] c = []
  queue_of (Feeds client bytes ∷ log) c = queue_of log c
  queue_of (Starts client number part ∷ log) c = if nat_eq client c then queue_of log c ++ part_slot number part ∷ [] else queue_of log c
  queue_of (Sends number server ask origin ∷ log) c = queue_of log c
  queue_of (Happens event ∷ log) c = queue_of log c
  queue_of (Ends client number part reply from ∷ log) c = if nat_eq client c then answered_in number reply (queue_of log c) else queue_of log c
  queue_of (Shows client slot reply ∷ log) c = if nat_eq client c then behind_head (queue_of log c) else queue_of log c
  queue_of (Passes client message next ∷ log) c = queue_of log c
  queue_of (Gives client bytes ∷ log) c = queue_of log c
  queue_of (Drops client ∷ log) c = queue_of log c
  queue_of (Frees number ∷ log) c = queue_of log c
  queue_of (Resets client ∷ log) c = if nat_eq client c then [] else queue_of log c

  -- its output, where the proxy's version is this text
  abbrev pub output_of : List ℕ → List (Entry P) → ℕ → List ℕ
  output_of version [] c = []
  output_of version (Feeds client bytes ∷ log) c = output_of version log c
  output_of version (Starts client number part ∷ log) c = output_of version log c
  output_of version (Sends number server ask origin ∷ log) c = output_of version log c
  output_of version (Happens event ∷ log) c = output_of version log c
  output_of version (Ends client number part reply from ∷ log) c = output_of version log c
  output_of version (Shows client slot reply ∷ log) c = if nat_eq client c then output_of version log c ++ P.shown slot.message slot.index reply else output_of version log c
  output_of version (Passes client message next ∷ log) c = if nat_eq client c then output_of version log c ++ P.passed version message else output_of version log c
  output_of version (Gives client bytes ∷ log) c = output_of version log c
  output_of version (Drops client ∷ log) c = output_of version log c
  output_of version (Frees number ∷ log) c = output_of version log c
  output_of version (Resets client ∷ log) c = if nat_eq client c then [] else output_of version log c

  -- what it was given
  abbrev pub given_of : List (Entry P) → ℕ → List ℕ
  given_of [] c = []
  given_of (Feeds client bytes ∷ log) c = given_of log c
  given_of (Starts client number part ∷ log) c = given_of log c
  given_of (Sends number server ask origin ∷ log) c = given_of log c
  given_of (Happens event ∷ log) c = given_of log c
  given_of (Ends client number part reply from ∷ log) c = given_of log c
  given_of (Shows client slot reply ∷ log) c = given_of log c
  given_of (Passes client message next ∷ log) c = given_of log c
  given_of (Gives client bytes ∷ log) c = if nat_eq client c then given_of log c ++ bytes else given_of log c
  given_of (Drops client ∷ log) c = given_of log c
  given_of (Frees number ∷ log) c = given_of log c
  given_of (Resets client ∷ log) c = if nat_eq client c then [] else given_of log c

  -- whether nothing is done for it any more
  abbrev pub is_dropped : List (Entry P) → ℕ → Bool
  is_dropped [] c = false
  is_dropped (Feeds client bytes ∷ log) c = is_dropped log c
  is_dropped (Starts client number part ∷ log) c = is_dropped log c
  is_dropped (Sends number server ask origin ∷ log) c = is_dropped log c
  is_dropped (Happens event ∷ log) c = is_dropped log c
  is_dropped (Ends client number part reply from ∷ log) c = is_dropped log c
  is_dropped (Shows client slot reply ∷ log) c = is_dropped log c
  is_dropped (Passes client message next ∷ log) c = is_dropped log c
  is_dropped (Gives client bytes ∷ log) c = is_dropped log c
  is_dropped (Drops client ∷ log) c = if nat_eq client c then true else is_dropped log c
  is_dropped (Frees number ∷ log) c = is_dropped log c
  is_dropped (Resets client ∷ log) c = if nat_eq client c then false else is_dropped log c

  -- whose a command is that has begun and isn't over
  abbrev pub owner_of : List (Entry P) → ℕ → Option Owner
  owner_of [] n = None
  owner_of (Feeds client bytes ∷ log) n = owner_of log n
  owner_of (Starts client number part ∷ log) n = if nat_eq number n then Some (record { client = client; ask = part.ask }) else owner_of log n
  owner_of (Sends number server ask origin ∷ log) n = owner_of log n
  owner_of (Happens event ∷ log) n = owner_of log n
  owner_of (Ends client number part reply from ∷ log) n = if nat_eq number n then None else owner_of log n
  owner_of (Shows client slot reply ∷ log) n = owner_of log n
  owner_of (Passes client message next ∷ log) n = owner_of log n
  owner_of (Gives client bytes ∷ log) n = owner_of log n
  owner_of (Drops client ∷ log) n = owner_of log n
  owner_of (Frees number ∷ log) n = if nat_eq number n then None else owner_of log n
  owner_of (Resets client ∷ log) n = owner_of log n

  -- the calls that are out at a server, in order
  abbrev pub out_of : List (Entry P) → ℕ → List Ticket
  out_of [] s = []
  out_of (Feeds client bytes ∷ log) s = out_of log s
  out_of (Starts client number part ∷ log) s = out_of log s
  out_of (Sends number server ask origin ∷ log) s = if nat_eq server s then out_of log s ++ record { number = number; ask = ask; origin = origin } ∷ [] else out_of log s
  out_of (Happens event ∷ log) s = out_after event s (out_of log s)
  out_of (Ends client number part reply from ∷ log) s = out_of log s
  out_of (Shows client slot reply ∷ log) s = out_of log s
  out_of (Passes client message next ∷ log) s = out_of log s
  out_of (Gives client bytes ∷ log) s = out_of log s
  out_of (Drops client ∷ log) s = out_of log s
  out_of (Frees number ∷ log) s = out_of log s
  out_of (Resets client ∷ log) s = out_of log s

  -- no call of this command is out
  abbrev pub HasNoneOut : List (Entry P) → ℕ → Type 0
  HasNoneOut log number = (s : ℕ) → ticket_in (out_of log s) number ≡ None

  -- the part is the next key of the message at the front
  pub record IsNext (front : Front P) (part : Part P) : Type 0 where
    pub reads : P.Reads front.place part.message part.next
    pub index : part.index ≡ front.index
    pub asks : slice_get (P.asks_of part.message) part.index ≡ Some part.ask
    pub ready : front.waits ≡ false

  module _ (words : Words) (Bars : ℕ → Ask → ℕ → Ask → Type 0) (opening : ℕ → List ℕ → Option Item) where
    -- a call that has its result was out
    abbrev pub MayHappen : List (Entry P) → Event → Type 0
    MayHappen log (Calls number server ask origin end) =
        MayCome words Bars opening (run_of log) (Calls number server ask origin end)
        × (ticket_in (out_of log server) number ≡ Some (record { number = number; ask = ask; origin = origin }))
    MayHappen log (Turns server key turned) = Unit {0}
    MayHappen log (Restarts server) = Unit {0}
    MayHappen log (Begins number ask) = ⊥
    MayHappen log (Replies number key reply from) = ⊥
    MayHappen log (Breaks number) = ⊥

  module _ (words : Words) (Bars : ℕ → Ask → ℕ → Ask → Type 0) (opening : ℕ → List ℕ → Option Item) (version : List ℕ) where
    -- the entry may come after the log
    abbrev pub MayFollow : List (Entry P) → Entry P → Type 0
    MayFollow log (Feeds client bytes) = is_dropped log client ≡ false
    -- the client's next key begins where it has no command on that key under way, and where none there bars it or is barred; it has the next number
    MayFollow log (Starts client number part) =
        MayCome words Bars opening (run_of log) (Begins number part.ask)
        × IsNext (front_of log client) part
        × IsFirst (owner_of log) client part.ask.key
        × (number ≡ commands_in (run_of log) + 1)
        × (is_dropped log client ≡ false)
    -- a command has one call out at a time
    MayFollow log (Sends number server ask origin) =
        ((owner : Owner) × (owner_of log number ≡ Some owner) × (ask.key ≡ owner.ask.key)) × HasNoneOut log number
    MayFollow log (Happens event) = MayHappen words Bars opening log event
    -- the reply is the run's, and comes after the last call
    MayFollow log (Ends client number part reply from) =
        MayCome words Bars opening (run_of log) (Replies number part.ask.key reply from)
        × (owner_of log number ≡ Some (record { client = client; ask = part.ask }))
        × (slot_in (queue_of log client) number ≡ Some (part_slot number part))
        × (is_last part ≡ false → P.Reads (front_of log client).place part.message part.next)
        × HasNoneOut log number
        × (is_dropped log client ≡ false)
    -- in the client's order
    MayFollow log (Shows client slot reply) =
        ((slots : List (Slot P)) × (queue_of log client ≡ slot ∷ slots)) × (slot.reply ≡ Some reply) × (is_dropped log client ≡ false)
    MayFollow log (Passes client message next) =
        P.Reads (front_of log client).place message next × (P.asks_of message ≡ []) × (queue_of log client ≡ []) × (is_dropped log client ≡ false)
    -- all new output
    MayFollow log (Gives client bytes) = given_of log client ++ bytes ≡ output_of version log client
    MayFollow log (Drops client) = Unit {0}
    -- a command isn't broken off while its call is out
    MayFollow log (Frees number) =
        MayCome words Bars opening (run_of log) (Breaks number)
        × ((owner : Owner) × (owner_of log number ≡ Some owner) × (is_dropped log owner.client ≡ true)) × HasNoneOut log number
    -- none of its commands is under way
    MayFollow log (Resets client) = (n : ℕ) (o : Owner) → owner_of log n ≡ Some o → nat_eq client o.client ≡ false

    -- one entry after another
    abbrev pub Follows : List (Entry P) → Type 0
    Follows [] = Unit {0}
    Follows (entry ∷ log) = MayFollow log entry × Follows log

  -- nothing is left to do: no whole message, no command under way, no reply not shown, no output that wasn't given
  pub record NothingIsLeft (version : List ℕ) (log : List (Entry P)) : Type 0 where
    pub stuck : (c : ℕ) → IsStuck P (front_of log c).place
    pub shown : (c : ℕ) → queue_of log c ≡ []
    pub given : (c : ℕ) → given_of log c ≡ output_of version log c
    pub free : (n : ℕ) → owner_of log n ≡ None
