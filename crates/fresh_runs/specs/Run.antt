-- Runs in which commands on one key may overlap. Commands are found by their numbers; 'before' and 'later' are by real time. Source: mcgate's own.
use Rattle.std.specs.Prelude.{◌≡◌, ℕ, ◌+◌, ◌<◌, ◌≤◌, List, [], ◌∷◌, ◌++◌, Option, Some, None, if◌then◌else◌, nat_eq, bytes_eq, length, ◌⊎◌, slice_get}
use Rattle.mc_types.specs.declared.ask.Op.TheVariants.{Delete}
use Rattle.mc_types.specs.declared.ask.Ask.{Ask}
use Rattle.mc_types.specs.declared.answer.Answer.{Answer}
use Rattle.mc_types.specs.declared.call.Origin.{Origin}
use Rattle.mc_types.specs.declared.call.Origin.TheVariants.{Client, CopyOf}
use Rattle.mc_types.specs.Acknowledged.{Acknowledges}
use Rattle.mc_types.specs.Items.{Item}
use Rattle.mc_types.specs.Agree.{AnswerAgrees}
use Rattle.fresh_runs.specs.Life.{Mark, Turned, Restarted, held_in}
use Rattle.fresh_runs.specs.Calls.{Call, End, Read, Unread, Never, outcome_of, marks_of, left_after_end}

-- one event. A command ends with its reply, or is broken off: no call and no reply comes after that
pub data Event : Type 0 where
  Begins : (number : ℕ) (ask : Ask) → Event
  Calls : (number server : ℕ) (ask : Ask) (origin : Origin) (end : End) → Event
  Replies : (number : ℕ) (key : List ℕ) (reply : Answer) (from : Option ℕ) → Event
  Breaks : (number : ℕ) → Event
  -- a server holds this of a key from now on: nothing where it lost it, an item where somebody else wrote it
  Turns : (server : ℕ) (key : List ℕ) (turned : Option Item) → Event
  Restarts : (server : ℕ) → Event

-- The past is a list of events, the latest first.

-- a server's life
abbrev pub life_of : List Event → ℕ → List Mark
life_of [] s = []
life_of (Begins number ask ∷ past) s = life_of past s
life_of (Calls number server ask origin end ∷ past) s = if nat_eq server s then marks_of ask end ++ life_of past s else life_of past s
life_of (Replies number key reply from ∷ past) s = life_of past s
life_of (Breaks number ∷ past) s = life_of past s
life_of (Turns server key turned ∷ past) s = if nat_eq server s then Turned key turned ∷ life_of past s else life_of past s
life_of (Restarts server ∷ past) s = if nat_eq server s then Restarted ∷ life_of past s else life_of past s

-- what the command of this number asks, where it has begun and isn't over
abbrev pub under_way : List Event → ℕ → Option Ask
under_way [] n = None
under_way (Begins number ask ∷ past) n = if nat_eq number n then Some ask else under_way past n
under_way (Calls number server ask origin end ∷ past) n = under_way past n
under_way (Replies number key reply from ∷ past) n = if nat_eq number n then None else under_way past n
under_way (Breaks number ∷ past) n = if nat_eq number n then None else under_way past n
under_way (Turns server key turned ∷ past) n = under_way past n
under_way (Restarts server ∷ past) n = under_way past n

-- the calls that it has made, in order
abbrev pub calls_so_far : List Event → ℕ → List Call
calls_so_far [] n = []
calls_so_far (Begins number ask ∷ past) n = calls_so_far past n
calls_so_far (Calls number server ask origin end ∷ past) n =
    if nat_eq number n
    then calls_so_far past n ++ record { server = server; ask = ask; origin = origin; outcome = outcome_of end } ∷ []
    else calls_so_far past n
calls_so_far (Replies number key reply from ∷ past) n = calls_so_far past n
calls_so_far (Breaks number ∷ past) n = calls_so_far past n
calls_so_far (Turns server key turned ∷ past) n = calls_so_far past n
calls_so_far (Restarts server ∷ past) n = calls_so_far past n

-- what had happened when the command of this number began
abbrev pub before : List Event → ℕ → List Event
before [] n = []
before (Begins number ask ∷ past) n = if nat_eq number n then past else before past n
before (Calls number server ask origin end ∷ past) n = before past n
before (Replies number key reply from ∷ past) n = before past n
before (Breaks number ∷ past) n = before past n
before (Turns server key turned ∷ past) n = before past n
before (Restarts server ∷ past) n = before past n

-- the command of this number was over; 0 stands for what was there before the run
abbrev pub HasEnded : List Event → ℕ → Type 0
HasEnded [] n = n ≡ 0
HasEnded (Begins number ask ∷ past) n = HasEnded past n
HasEnded (Calls number server ask origin end ∷ past) n = HasEnded past n
HasEnded (Replies number key reply from ∷ past) n = (number ≡ n) ⊎ HasEnded past n
HasEnded (Breaks number ∷ past) n = (number ≡ n) ⊎ HasEnded past n
HasEnded (Turns server key turned ∷ past) n = HasEnded past n
HasEnded (Restarts server ∷ past) n = HasEnded past n

-- no command of this or a greater number has begun; numbers count from 1
abbrev pub IsNewNumber : ℕ → List Event → Type 0
IsNewNumber number [] = 1 ≤ number
IsNewNumber number (Begins m ask ∷ past) = (m < number) × IsNewNumber number past
IsNewNumber number (Calls m server ask origin end ∷ past) = (m < number) × IsNewNumber number past
IsNewNumber number (Replies m key reply from ∷ past) = (m < number) × IsNewNumber number past
IsNewNumber number (Breaks m ∷ past) = (m < number) × IsNewNumber number past
IsNewNumber number (Turns server key turned ∷ past) = IsNewNumber number past
IsNewNumber number (Restarts server ∷ past) = IsNewNumber number past

module _ (opening : ℕ → List ℕ → Option Item) where
  -- what a server holds of a key
  abbrev pub held : List Event → ℕ → List ℕ → Option Item
  held past s key = held_in (opening s key) (life_of past s) key

  -- what the server of call i of this command held of its key, just before that call
  abbrev pub item_at : List Event → ℕ → ℕ → Option Item
  item_at [] n i = None
  item_at (Begins number ask ∷ past) n i = item_at past n i
  item_at (Calls number server ask origin end ∷ past) n i =
      if nat_eq number n
      then (if nat_eq (length (calls_so_far past n)) i then held past server ask.key else item_at past n i)
      else item_at past n i
  item_at (Replies number key reply from ∷ past) n i = item_at past n i
  item_at (Breaks number ∷ past) n i = item_at past n i
  item_at (Turns server key turned ∷ past) n i = item_at past n i
  item_at (Restarts server ∷ past) n i = item_at past n i

  -- the stamp that a call of this origin gives to what it stores
  abbrev pub GivesStamp : List Event → ℕ → Origin → ℕ → Type 0
  GivesStamp past number Client stamp = stamp ≡ number
  GivesStamp past number (CopyOf i) stamp = (item : Item) × (item_at past number i ≡ Some item) × (stamp ≡ item.stamp)

  -- a call that was applied agrees with what its server holds just before, and gives the stamp of its origin
  abbrev pub EndsWell : List Event → ℕ → ℕ → Ask → Origin → End → Type 0
  EndsWell past number server ask origin (Read stamp answer spaces) = AnswerAgrees ask answer (held past server ask.key) × GivesStamp past number origin stamp
  EndsWell past number server ask origin (Unread stamp answer spaces) = AnswerAgrees ask answer (held past server ask.key) × GivesStamp past number origin stamp
  EndsWell past number server ask origin Never = Unit {0}

-- `Bars number ask other client`: the first command doesn't let the second one be under way with it on their key.
-- a command on a key begins where it bars none that is under way there, and none of those bars it
abbrev pub IsApart : (ℕ → Ask → ℕ → Ask → Type 0) → List Event → ℕ → Ask → Type 0
IsApart Bars past number ask =
    (other : ℕ) (client : Ask) → under_way past other ≡ Some client → client.key ≡ ask.key → (Bars number ask other client → ⊥) × (Bars other client number ask → ⊥)

module _ (words : ℕ → Ask → List Call → Answer → Option ℕ → Type 0) where
  -- the calls are the first of a word
  abbrev pub IsFront : ℕ → Ask → List Call → Type 0
  IsFront number ask calls = (rest : List Call) × (reply : Answer) × (from : Option ℕ) × words number ask (calls ++ rest) reply from

  -- a word with a copy is one of a command that bars deletes of its key
  abbrev pub CopiesBar : (ℕ → Ask → ℕ → Ask → Type 0) → Type 0
  CopiesBar Bars =
      (number : ℕ) (ask : Ask) (calls : List Call) (reply : Answer) (from : Option ℕ) → words number ask calls reply from
      → (j : ℕ) (call : Call) (i : ℕ) → slice_get calls j ≡ Some call → call.origin ≡ CopyOf i
      → (n : ℕ) (delete : Ask) → delete.op ≡ Delete → ask.key ≡ delete.key → Bars number ask n delete

  module _ (Bars : ℕ → Ask → ℕ → Ask → Type 0) (opening : ℕ → List ℕ → Option Item) where
    -- the event may come after the past
    abbrev pub MayCome : List Event → Event → Type 0
    -- numbers rise, with gaps
    MayCome past (Begins number ask) = IsNewNumber number past × IsApart Bars past number ask
    -- a call is the next of a command under way, on its key
    MayCome past (Calls number server ask origin end) =
        (client : Ask)
        × (under_way past number ≡ Some client)
        × (ask.key ≡ client.key)
        × IsFront number client (calls_so_far past number ++ record { server = server; ask = ask; origin = origin; outcome = outcome_of end } ∷ [])
        × EndsWell opening past number server ask origin end
    -- a reply comes with the last call
    MayCome past (Replies number key reply from) =
        (client : Ask) × (under_way past number ≡ Some client) × (key ≡ client.key) × words number client (calls_so_far past number) reply from
    MayCome past (Breaks number) = (client : Ask) × (under_way past number ≡ Some client)
    -- anything may be lost at any moment, and others may write what they like
    MayCome past (Turns server key turned) = Unit {0}
    MayCome past (Restarts server) = Unit {0}

    -- one event after another
    abbrev pub Run : List Event → Type 0
    Run [] = Unit {0}
    Run (event ∷ past) = MayCome past event × Run past

-- nobody else writes the servers: what isn't from these commands is only lost
abbrev pub LosesOnly : List Event → Type 0
LosesOnly [] = Unit {0}
LosesOnly (Begins number ask ∷ past) = LosesOnly past
LosesOnly (Calls number server ask origin end ∷ past) = LosesOnly past
LosesOnly (Replies number key reply from ∷ past) = LosesOnly past
LosesOnly (Breaks number ∷ past) = LosesOnly past
LosesOnly (Turns server key turned ∷ past) = (turned ≡ None) × LosesOnly past
LosesOnly (Restarts server ∷ past) = LosesOnly past

-- the event, after this past, is the reply by which the delete of this number was acknowledged
abbrev pub AcknowledgedBy : List Event → Event → ℕ → Ask → Type 0
AcknowledgedBy past (Replies m key reply from) number delete = (m ≡ number) × (under_way past m ≡ Some delete) × Acknowledges delete reply
AcknowledgedBy past (Begins m ask) number delete = ⊥
AcknowledgedBy past (Calls m server ask origin end) number delete = ⊥
AcknowledgedBy past (Breaks m) number delete = ⊥
AcknowledgedBy past (Turns server key turned) number delete = ⊥
AcknowledgedBy past (Restarts server) number delete = ⊥

-- a delete of this number and ask was acknowledged
abbrev pub IsAcknowledged : List Event → ℕ → Ask → Type 0
IsAcknowledged [] number delete = ⊥
IsAcknowledged (event ∷ past) number delete = AcknowledgedBy past event number delete ⊎ IsAcknowledged past number delete

module _ (opening : ℕ → List ℕ → Option Item) where
  -- the event, after this past, is the reply of this command, with the item found at the call that it names
  abbrev pub ShownBy : List Event → Event → ℕ → List ℕ → Item → Type 0
  ShownBy past (Replies m k reply from) number key item = (m ≡ number) × (k ≡ key) × (i : ℕ) × (from ≡ Some i) × (item_at opening past m i ≡ Some item)
  ShownBy past (Begins m ask) number key item = ⊥
  ShownBy past (Calls m server ask origin end) number key item = ⊥
  ShownBy past (Breaks m) number key item = ⊥
  ShownBy past (Turns server k turned) number key item = ⊥
  ShownBy past (Restarts server) number key item = ⊥

  -- the command of this number on the key showed the item
  abbrev pub IsShown : List Event → ℕ → List ℕ → Item → Type 0
  IsShown [] number key item = ⊥
  IsShown (event ∷ past) number key item = ShownBy past event number key item ⊎ IsShown past number key item

  -- a command that begins after a delete of its key was acknowledged shows no item of a store that was over when the delete began
  abbrev pub IsFresh : List Event → Type 0
  IsFresh events =
      (n m : ℕ) (delete : Ask) (item : Item) → IsAcknowledged (before events m) n delete → IsShown events m delete.key item → HasEnded (before events n) item.stamp → ⊥

  -- fresh by numbers: a command numbered after an acknowledged delete of its key shows no item whose stamp isn't greater
  abbrev pub IsFreshByNumber : List Event → Type 0
  IsFreshByNumber events =
      (n m : ℕ) (delete : Ask) (item : Item) → n < m → IsAcknowledged events n delete → IsShown events m delete.key item → n < item.stamp

-- how many calls were made
abbrev pub calls_in : List Event → ℕ
calls_in [] = 0
calls_in (Calls number server ask origin end ∷ past) = calls_in past + 1
calls_in (Begins number ask ∷ past) = calls_in past
calls_in (Replies number key reply from ∷ past) = calls_in past
calls_in (Breaks number ∷ past) = calls_in past
calls_in (Turns server key turned ∷ past) = calls_in past
calls_in (Restarts server ∷ past) = calls_in past

-- how many commands have begun
abbrev pub commands_in : List Event → ℕ
commands_in [] = 0
commands_in (Begins number ask ∷ past) = commands_in past + 1
commands_in (Calls number server ask origin end ∷ past) = commands_in past
commands_in (Replies number key reply from ∷ past) = commands_in past
commands_in (Breaks number ∷ past) = commands_in past
commands_in (Turns server key turned ∷ past) = commands_in past
commands_in (Restarts server ∷ past) = commands_in past

-- what an event leaves on every server
abbrev pub after_event : Event → (ℕ → List ℕ → Option Item) → ℕ → List ℕ → Option Item
after_event (Begins number ask) h s k = h s k
after_event (Replies number key reply from) h s k = h s k
after_event (Breaks number) h s k = h s k
after_event (Calls number server ask origin end) h s k = if nat_eq server s then (if bytes_eq ask.key k then left_after_end ask end (h s k) else h s k) else h s k
after_event (Turns server key turned) h s k = if nat_eq server s then (if bytes_eq key k then turned else h s k) else h s k
after_event (Restarts server) h s k = if nat_eq server s then None else h s k

-- each command has its key alone
abbrev pub AreAlone : (ℕ → Ask → ℕ → Ask → Type 0) → Type 0
AreAlone Bars = (number other : ℕ) (ask client : Ask) → ask.key ≡ client.key → Bars number ask other client
