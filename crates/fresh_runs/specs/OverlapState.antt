-- When clients, keys and servers stand as a log of overlapping commands says, and how each entry changes that. Source: mcgate's own.
use Rattle.std.specs.Prelude.{◌≡◌, ℕ, ◌+◌, Bool, true, false, List, [], ◌∷◌, ◌++◌, length, Option, Some, None, if◌then◌else◌, nat_eq, slice_get}
use Rattle.mc_types.specs.declared.ask.Ask.{Ask}
use Rattle.mc_types.specs.declared.answer.Answer.{Answer}
use Rattle.mc_types.specs.declared.call.Origin.{Origin}
use Rattle.mc_types.specs.Items.{Item}
use Rattle.fresh_runs.specs.Calls.{Words, Call, End, outcome_of}
use Rattle.fresh_runs.specs.Fleet.{EndsIn}
use Rattle.fresh_runs.specs.Run.{Event, Begins, Calls, Replies, Breaks, Turns, Restarts, held, calls_so_far, item_at, IsNewNumber, after_event, calls_in, commands_in}
use Rattle.fresh_runs.specs.Protocol.{Protocol}
use Rattle.fresh_runs.specs.Overlap.{Front, Slot, Owner, Ticket, ticket_in, out_after, Entry, Feeds, Starts, Sends, Happens, Ends, Shows, Passes, Gives, Drops, Frees, Resets, is_last, start_front, fed_front, after_start, after_end, part_slot, slot_in, answered_in, behind_head, run_of, front_of, queue_of, output_of, given_of, is_dropped, owner_of, out_of, IsNext, IsFirst, Follows}

-- what calls, reply and shown call may still come of a command
abbrev pub Rest : Type 1
Rest = List Call → Answer → Option ℕ → Type 0

-- clients, keys and servers at one moment
pub record OverlapState (P : Protocol) : Type 1 where
  -- where the starting of a client's commands stands, those whose replies were not shown yet, its output not yet taken, and whether nothing is done for it any more
  pub front : ℕ → Front P
  pub queue : ℕ → List (Slot P)
  pub output : ℕ → List ℕ
  pub dropped : ℕ → Bool
  -- the last number given out, whose a command is that isn't over, and what may still come of it
  pub number : ℕ
  pub owner : ℕ → Option Owner
  pub to_come : ℕ → Rest
  -- the calls that are out at a server, in order
  pub out : ℕ → List Ticket
  -- what servers hold, what the calls of a command found, and how many calls had their result
  pub holds : ℕ → List ℕ → Option Item
  pub found : ℕ → List (Option Item)
  pub turn : ℕ
  -- the text of the proxy's version, which stays
  pub version : List ℕ

-- one of two, by a test
abbrev pub Either : Bool → Type 0 → Type 0 → Type 0
Either true A B = A
Either false A B = B

-- after an event: what may still come, what was found, and how many calls had their result
abbrev pub to_come_after : Event → (ℕ → Rest) → ℕ → Rest
to_come_after (Calls number server ask origin end) to_come n calls reply from =
    Either (nat_eq number n) (to_come n (record { server = server; ask = ask; origin = origin; outcome = outcome_of end } ∷ calls) reply from) (to_come n calls reply from)
to_come_after (Begins number ask) to_come n calls reply from = to_come n calls reply from
to_come_after (Replies number key r f) to_come n calls reply from = to_come n calls reply from
to_come_after (Breaks number) to_come n calls reply from = to_come n calls reply from
to_come_after (Turns server key turned) to_come n calls reply from = to_come n calls reply from
to_come_after (Restarts server) to_come n calls reply from = to_come n calls reply from

abbrev pub found_after : Event → (ℕ → List ℕ → Option Item) → (ℕ → List (Option Item)) → ℕ → List (Option Item)
found_after (Calls number server ask origin end) holds found n = if nat_eq number n then found n ++ holds server ask.key ∷ [] else found n
found_after (Begins number ask) holds found n = found n
found_after (Replies number key r f) holds found n = found n
found_after (Breaks number) holds found n = found n
found_after (Turns server key turned) holds found n = found n
found_after (Restarts server) holds found n = found n

abbrev pub turn_after : Event → ℕ → ℕ
turn_after (Calls number server ask origin end) turn = turn + 1
turn_after (Begins number ask) turn = turn
turn_after (Breaks number) turn = turn
turn_after (Replies number key r f) turn = turn
turn_after (Turns server key turned) turn = turn
turn_after (Restarts server) turn = turn

module _ {P : Protocol} where
  -- what an entry changes
  abbrev pub after : Words → Entry P → OverlapState P → OverlapState P
  after words (Feeds client bytes) now = record now { front = λ c. if nat_eq client c then fed_front (now.front c) bytes else now.front c }
  after words (Starts client number part) now =
      record now {
        front = λ c. if nat_eq client c then after_start (now.front c) part else now.front c;
        queue = λ c. if nat_eq client c then now.queue c ++ part_slot number part ∷ [] else now.queue c;
        number = number;
        owner = λ n. if nat_eq number n then Some (record { client = client; ask = part.ask }) else now.owner n;
        to_come = λ n calls reply from. Either (nat_eq number n) (words number part.ask calls reply from) (now.to_come n calls reply from);
        found = λ n. if nat_eq number n then [] else now.found n;
      }
  after words (Sends number server ask origin) now =
      record now { out = λ s. if nat_eq server s then now.out s ++ record { number = number; ask = ask; origin = origin } ∷ [] else now.out s }
  after words (Happens event) now =
      record now {
        to_come = to_come_after event now.to_come;
        out = λ s. out_after event s (now.out s);
        holds = after_event event now.holds;
        found = found_after event now.holds now.found;
        turn = turn_after event now.turn;
      }
  after words (Ends client number part reply from) now =
      record now {
        front = λ c. if nat_eq client c then after_end (now.front c) part reply else now.front c;
        queue = λ c. if nat_eq client c then answered_in number reply (now.queue c) else now.queue c;
        owner = λ n. if nat_eq number n then None else now.owner n;
      }
  after words (Shows client slot reply) now =
      record now {
        queue = λ c. if nat_eq client c then behind_head (now.queue c) else now.queue c;
        output = λ c. if nat_eq client c then now.output c ++ P.shown slot.message slot.index reply else now.output c;
      }
  after words (Passes client message next) now =
      record now {
        front = λ c. if nat_eq client c then record { place = next; index = 0; waits = false } else now.front c;
        output = λ c. if nat_eq client c then now.output c ++ P.passed now.version message else now.output c;
      }
  after words (Gives client bytes) now = record now { output = λ c. if nat_eq client c then [] else now.output c }
  after words (Drops client) now = record now { dropped = λ c. if nat_eq client c then true else now.dropped c }
  after words (Frees number) now = record now { owner = λ n. if nat_eq number n then None else now.owner n }
  after words (Resets client) now =
      record now {
        front = λ c. if nat_eq client c then start_front else now.front c;
        queue = λ c. if nat_eq client c then [] else now.queue c;
        output = λ c. if nat_eq client c then [] else now.output c;
        dropped = λ c. if nat_eq client c then false else now.dropped c;
      }

  -- no call of this command is out
  abbrev pub HasNoCall : OverlapState P → ℕ → Type 0
  HasNoCall now number = (s : ℕ) → ticket_in (now.out s) number ≡ None

  -- a call that was out has this result: it is the next of what may still come, and agrees with what its server holds
  pub record HasResult (now : OverlapState P) (number server : ℕ) (ask : Ask) (origin : Origin) (end : End) : Type 0 where
    pub owner : Owner
    pub held : now.owner number ≡ Some owner
    pub key : ask.key ≡ owner.ask.key
    pub out : ticket_in (now.out server) number ≡ Some (record { number = number; ask = ask; origin = origin })
    pub more : List Call
    pub reply : Answer
    pub from : Option ℕ
    pub to_come : now.to_come number (record { server = server; ask = ask; origin = origin; outcome = outcome_of end } ∷ more) reply from
    pub ends : EndsIn (now.holds server ask.key) (now.found number) number ask origin end

  abbrev pub MayHappenNow : OverlapState P → Event → Type 0
  MayHappenNow now (Calls number server ask origin end) = HasResult now number server ask origin end
  MayHappenNow now (Turns server key turned) = Unit {0}
  MayHappenNow now (Restarts server) = Unit {0}
  MayHappenNow now (Begins number ask) = ⊥
  MayHappenNow now (Breaks number) = ⊥
  MayHappenNow now (Replies number key reply from) = ⊥

  -- a command that begins bars none that is under way on its key, and none of those bars it
  abbrev pub IsApartNow : (ℕ → Ask → ℕ → Ask → Type 0) → OverlapState P → ℕ → Ask → Type 0
  IsApartNow Bars now number ask =
      (other : ℕ) (owner : Owner) → now.owner other ≡ Some owner → owner.ask.key ≡ ask.key → (Bars number ask other owner.ask → ⊥) × (Bars other owner.ask number ask → ⊥)

  -- the entry may come now
  abbrev pub MayStep : (ℕ → Ask → ℕ → Ask → Type 0) → OverlapState P → Entry P → Type 0
  MayStep Bars now (Feeds client bytes) = now.dropped client ≡ false
  MayStep Bars now (Starts client number part) =
      IsNext (now.front client) part × IsFirst now.owner client part.ask.key × IsApartNow Bars now number part.ask × (number ≡ now.number + 1) × (now.dropped client ≡ false)
  MayStep Bars now (Sends number server ask origin) =
      ((owner : Owner) × (now.owner number ≡ Some owner) × (ask.key ≡ owner.ask.key)) × HasNoCall now number
  MayStep Bars now (Happens event) = MayHappenNow now event
  MayStep Bars now (Ends client number part reply from) =
      (now.owner number ≡ Some (record { client = client; ask = part.ask }))
      × now.to_come number [] reply from
      × (slot_in (now.queue client) number ≡ Some (part_slot number part))
      × (is_last part ≡ false → P.Reads (now.front client).place part.message part.next)
      × HasNoCall now number
      × (now.dropped client ≡ false)
  MayStep Bars now (Shows client slot reply) =
      ((slots : List (Slot P)) × (now.queue client ≡ slot ∷ slots)) × (slot.reply ≡ Some reply) × (now.dropped client ≡ false)
  MayStep Bars now (Passes client message next) =
      P.Reads (now.front client).place message next × (P.asks_of message ≡ []) × (now.queue client ≡ []) × (now.dropped client ≡ false)
  MayStep Bars now (Gives client bytes) = bytes ≡ now.output client
  MayStep Bars now (Drops client) = Unit {0}
  MayStep Bars now (Frees number) =
      ((owner : Owner) × (now.owner number ≡ Some owner) × (now.dropped owner.client ≡ true)) × HasNoCall now number
  MayStep Bars now (Resets client) = (n : ℕ) (owner : Owner) → now.owner n ≡ Some owner → nat_eq client owner.client ≡ false

  -- all is the same, but that less may still come
  pub record IsLike (new old : OverlapState P) : Type 0 where
    pub front : (c : ℕ) → new.front c ≡ old.front c
    pub queue : (c : ℕ) → new.queue c ≡ old.queue c
    pub output : (c : ℕ) → new.output c ≡ old.output c
    pub dropped : (c : ℕ) → new.dropped c ≡ old.dropped c
    pub number : new.number ≡ old.number
    pub owner : (n : ℕ) → new.owner n ≡ old.owner n
    pub to_come : (n : ℕ) (o : Owner) → new.owner n ≡ Some o → (calls : List Call) (reply : Answer) (from : Option ℕ) → new.to_come n calls reply from → old.to_come n calls reply from
    pub out : (s : ℕ) → new.out s ≡ old.out s
    pub holds : (s : ℕ) (k : List ℕ) → new.holds s k ≡ old.holds s k
    pub found : (n : ℕ) (o : Owner) → new.owner n ≡ Some o → new.found n ≡ old.found n
    pub turn : new.turn ≡ old.turn
    pub version : new.version ≡ old.version

  -- these entries come one after another, the latest first, and lead there
  abbrev pub walked : Words → OverlapState P → List (Entry P) → OverlapState P
  walked words old [] = old
  walked words old (entry ∷ entries) = after words entry (walked words old entries)

  abbrev pub MayWalk : Words → (ℕ → Ask → ℕ → Ask → Type 0) → OverlapState P → List (Entry P) → Type 0
  MayWalk words Bars old [] = Unit {0}
  MayWalk words Bars old (entry ∷ entries) = MayStep Bars (walked words old entries) entry × MayWalk words Bars old entries

  pub record WalksTo (words : Words) (Bars : ℕ → Ask → ℕ → Ask → Type 0) (old : OverlapState P) (entries : List (Entry P)) (new : OverlapState P) : Type 0 where
    pub may : MayWalk words Bars old entries
    pub like : IsLike new (walked words old entries)

  module _ (words : Words) (Bars : ℕ → Ask → ℕ → Ask → Type 0) (opening : ℕ → List ℕ → Option Item) where
    -- this log leads there
    pub record LeadsTo (log : List (Entry P)) (now : OverlapState P) : Type 0 where
      pub follows : Follows words Bars opening now.version log
      pub front : (c : ℕ) → now.front c ≡ front_of log c
      pub queue : (c : ℕ) → now.queue c ≡ queue_of log c
      pub output : (c : ℕ) → given_of log c ++ now.output c ≡ output_of now.version log c
      pub dropped : (c : ℕ) → now.dropped c ≡ is_dropped log c
      pub new : IsNewNumber (now.number + 1) (run_of log)
      pub count : now.number ≡ commands_in (run_of log)
      pub owner : (n : ℕ) → now.owner n ≡ owner_of log n
      pub to_come : (n : ℕ) (o : Owner) → now.owner n ≡ Some o → (calls : List Call) (reply : Answer) (from : Option ℕ) → now.to_come n calls reply from → words n o.ask (calls_so_far (run_of log) n ++ calls) reply from
      pub out : (s : ℕ) → now.out s ≡ out_of log s
      pub holds : (s : ℕ) (k : List ℕ) → now.holds s k ≡ held opening (run_of log) s k
      pub counted : (n : ℕ) (o : Owner) → now.owner n ≡ Some o → length (now.found n) ≡ length (calls_so_far (run_of log) n)
      pub found : (n : ℕ) (o : Owner) → now.owner n ≡ Some o → (i : ℕ) (item : Item) → slice_get (now.found n) i ≡ Some (Some item) → item_at opening (run_of log) n i ≡ Some item
      pub turn : now.turn ≡ calls_in (run_of log)

-- by these entries, the latest first, each log that leads to the old state goes on, and leads to the new one
module _ {P : Protocol} where
  abbrev pub Leads : Words → (ℕ → Ask → ℕ → Ask → Type 0) → OverlapState P → List (Entry P) → OverlapState P → Type 0
  Leads words Bars old entries new =
      (opening : ℕ → List ℕ → Option Item) (log : List (Entry P)) → LeadsTo words Bars opening log old → LeadsTo words Bars opening (entries ++ log) new
