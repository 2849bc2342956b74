-- What a script brings about, the latest first: over the log of overlapping commands, with the failures, losses and trees that the script names. Source: mcgate's own.
use Rattle.std.specs.Prelude.{◌≡◌, ℕ, ◌+◌, ◌<◌, ◌≤◌, List, [], ◌∷◌, ◌++◌, length, Option, Some, None, if◌then◌else◌, nat_eq, nat_lt, ◌⊎◌}
use Rattle.mc_types.specs.declared.ask.Ask.{Ask}
use Rattle.mc_types.specs.declared.answer.Answer.{Answer}
use Rattle.mc_types.specs.declared.call.Origin.{Origin}
use Rattle.mc_types.specs.Items.{Item}
use Rattle.fresh_runs.specs.Calls.{Words, Call, End, Read, Unread, Never}
use Rattle.fresh_runs.specs.Run.{Event, Calls, Turns, Restarts, calls_so_far, commands_in, IsApart}
use Rattle.fresh_runs.specs.Log.{Manner, Before, After, Junk, Cut, Loss, Lose, Restart, Scripted, Piece, Add, Result, Fail, Hold, At, Now, Moment, Part}
use Rattle.fresh_runs.specs.Protocol.{Protocol}
use Rattle.fresh_runs.specs.Overlap.{Slot, Owner, Ticket, ticket_in, Entry, Feeds, Starts, Sends, Happens, Ends, Shows, Passes, Gives, Drops, Frees, Resets, run_of, front_of, queue_of, output_of, given_of, owner_of, out_of, IsNext, IsFirst, MayFollow}

-- what a script says next: an event, or a new tree
pub data Cue (T : Type 0) : Type 0 where
  Plays : Scripted → Cue T
  Reload : T → Cue T

-- what a cue makes of something: what its event makes of it; a new tree changes nothing
abbrev pub by_cue : {A T : Type 0} → (Scripted → A → A) → Cue T → A → A
by_cue change (Plays event) before = change event before
by_cue change (Reload tree) before = before

pub data Line (P : Protocol) (T : Type 0) : Type 0 where
  -- the script's next cue is taken up
  Takes : Cue T → Line P T
  -- a call that was out has its result, after what the script says is lost just before it
  Results : (number server : ℕ) (ask : Ask) (origin : Origin) (end : End) → Line P T
  -- a server drops a key by itself: it expired, or there was no room
  Spills : (server : ℕ) (key : List ℕ) → Line P T
  -- the tree for commands that begin from now on
  Loads : T → Line P T
  -- anything else of clients and the core
  Does : Entry P → Line P T

abbrev pub lost_by : Loss → Event
lost_by (Lose server key) = Turns server key None
lost_by (Restart server) = Restarts server

-- the entries of losses, the latest first
abbrev pub entries_by : {P : Protocol} → List Loss → List (Entry P) → List (Entry P)
entries_by [] log = log
entries_by (loss ∷ losses) log = entries_by losses (Happens (lost_by loss) ∷ log)

-- how the call of this turn is to fail after an event, at which so many calls had their results
abbrev pub named_by : Scripted → ℕ → ℕ → Option Manner → Option Manner
named_by (Fail turn manner) made t before = if nat_eq (made + turn) t then Some manner else before
named_by (Piece client bytes) made t before = before
named_by (Add client bytes) made t before = before
named_by (Result server) made t before = before
named_by (Hold server key content) made t before = before
named_by (At turn loss) made t before = before
named_by (Now loss) made t before = before
named_by (Moment moment) made t before = before

-- what is to be lost just before the call of this turn
abbrev pub lost_at : Scripted → ℕ → ℕ → List Loss → List Loss
lost_at (At turn loss) made t before = if nat_eq (made + turn) t then before ++ loss ∷ [] else before
lost_at (Piece client bytes) made t before = before
lost_at (Add client bytes) made t before = before
lost_at (Result server) made t before = before
lost_at (Fail turn manner) made t before = before
lost_at (Hold server key content) made t before = before
lost_at (Now loss) made t before = before
lost_at (Moment moment) made t before = before

-- what an event loses by itself
abbrev pub losses_now : Scripted → List Loss
losses_now (Now loss) = loss ∷ []
losses_now (Piece client bytes) = []
losses_now (Add client bytes) = []
losses_now (Result server) = []
losses_now (Fail turn manner) = []
losses_now (Hold server key content) = []
losses_now (At turn loss) = []
losses_now (Moment moment) = []

-- the bytes that an event says for a client
abbrev pub event_bytes : Scripted → ℕ → List ℕ
event_bytes (Piece client bytes) c = if nat_eq client c then bytes else []
event_bytes (Add client bytes) c = if nat_eq client c then bytes else []
event_bytes (Result server) c = []
event_bytes (Fail turn manner) c = []
event_bytes (Hold server key content) c = []
event_bytes (At turn loss) c = []
event_bytes (Now loss) c = []
event_bytes (Moment moment) c = []

-- an entry that is no event, and gives no client's number away
abbrev pub IsPlain : {P : Protocol} → Entry P → Type 0
IsPlain (Feeds client bytes) = Unit {0}
IsPlain (Starts client number part) = Unit {0}
IsPlain (Sends number server ask origin) = Unit {0}
IsPlain (Ends client number part reply from) = Unit {0}
IsPlain (Shows client slot reply) = Unit {0}
IsPlain (Passes client message next) = Unit {0}
IsPlain (Gives client bytes) = Unit {0}
IsPlain (Drops client) = Unit {0}
IsPlain (Frees number) = Unit {0}
IsPlain (Happens event) = ⊥
IsPlain (Resets client) = ⊥

-- the bytes of a client that an entry feeds
abbrev pub fed_by : {P : Protocol} → Entry P → ℕ → List ℕ
fed_by (Feeds client bytes) c = if nat_eq client c then bytes else []
fed_by (Starts client number part) c = []
fed_by (Sends number server ask origin) c = []
fed_by (Happens event) c = []
fed_by (Ends client number part reply from) c = []
fed_by (Shows client slot reply) c = []
fed_by (Passes client message next) c = []
fed_by (Gives client bytes) c = []
fed_by (Drops client) c = []
fed_by (Frees number) c = []
fed_by (Resets client) c = []

module _ {P : Protocol} {T : Type 0} where
  -- how many calls had their results
  abbrev pub made_in : List (Line P T) → ℕ
  made_in [] = 0
  made_in (Takes cue ∷ log) = made_in log
  made_in (Results number server ask origin end ∷ log) = made_in log + 1
  made_in (Spills server key ∷ log) = made_in log
  made_in (Loads tree ∷ log) = made_in log
  made_in (Does entry ∷ log) = made_in log

  -- what is to be lost just before the call of a turn, in order
  abbrev pub losses_of : List (Line P T) → ℕ → List Loss
  losses_of [] t = []
  losses_of (Takes cue ∷ log) t = by_cue (λ event. lost_at event (made_in log) t) cue (losses_of log t)
  losses_of (Results number server ask origin end ∷ log) t = losses_of log t
  losses_of (Spills server key ∷ log) t = losses_of log t
  losses_of (Loads tree ∷ log) t = losses_of log t
  losses_of (Does entry ∷ log) t = losses_of log t

  -- the log of the core
  abbrev pub core_of : List (Line P T) → List (Entry P)
  core_of [] = []
  core_of (Takes cue ∷ log) = by_cue (λ event. entries_by (losses_now event)) cue (core_of log)
  core_of (Results number server ask origin end ∷ log) = Happens (Calls number server ask origin end) ∷ entries_by (losses_of log (made_in log + 1)) (core_of log)
  core_of (Spills server key ∷ log) = Happens (Turns server key None) ∷ core_of log
  core_of (Loads tree ∷ log) = core_of log
  core_of (Does entry ∷ log) = entry ∷ core_of log

  -- how the call of a turn is to fail; of two events that name it the later counts
  abbrev pub named_in : List (Line P T) → ℕ → Option Manner
  named_in [] t = None
  named_in (Takes cue ∷ log) t = by_cue (λ event. named_by event (made_in log) t) cue (named_in log t)
  named_in (Results number server ask origin end ∷ log) t = named_in log t
  named_in (Spills server key ∷ log) t = named_in log t
  named_in (Loads tree ∷ log) t = named_in log t
  named_in (Does entry ∷ log) t = named_in log t

  -- the script's cues, in order
  abbrev pub script_of : List (Line P T) → List (Cue T)
  script_of [] = []
  script_of (Takes cue ∷ log) = script_of log ++ cue ∷ []
  script_of (Results number server ask origin end ∷ log) = script_of log
  script_of (Spills server key ∷ log) = script_of log
  script_of (Loads tree ∷ log) = script_of log
  script_of (Does entry ∷ log) = script_of log

  -- what a client said by the script, and what of it was fed
  abbrev pub said_of : List (Line P T) → ℕ → List ℕ
  said_of [] c = []
  said_of (Takes cue ∷ log) c = by_cue (λ event before. before ++ event_bytes event c) cue (said_of log c)
  said_of (Results number server ask origin end ∷ log) c = said_of log c
  said_of (Spills server key ∷ log) c = said_of log c
  said_of (Loads tree ∷ log) c = said_of log c
  said_of (Does entry ∷ log) c = said_of log c

  abbrev pub fed_of : List (Line P T) → ℕ → List ℕ
  fed_of [] c = []
  fed_of (Takes cue ∷ log) c = fed_of log c
  fed_of (Results number server ask origin end ∷ log) c = fed_of log c
  fed_of (Spills server key ∷ log) c = fed_of log c
  fed_of (Loads tree ∷ log) c = fed_of log c
  fed_of (Does entry ∷ log) c = fed_of log c ++ fed_by entry c

  -- the latest cue of the script, where no call had its result since
  abbrev pub current : List (Line P T) → Option (Cue T)
  current [] = None
  current (Takes cue ∷ log) = Some cue
  current (Results number server ask origin end ∷ log) = None
  current (Spills server key ∷ log) = current log
  current (Loads tree ∷ log) = current log
  current (Does entry ∷ log) = current log

  -- the latest cue of the script
  abbrev pub latest : List (Line P T) → Option (Cue T)
  latest [] = None
  latest (Takes cue ∷ log) = Some cue
  latest (Results number server ask origin end ∷ log) = latest log
  latest (Spills server key ∷ log) = latest log
  latest (Loads tree ∷ log) = latest log
  latest (Does entry ∷ log) = latest log

  module _ (first : T) where
    -- the tree of a command, by its number: that which was loaded when it began
    abbrev pub tree_loaded_at : List (Line P T) → ℕ → T
    tree_loaded_at [] n = first
    tree_loaded_at (Takes cue ∷ log) n = tree_loaded_at log n
    tree_loaded_at (Results number server ask origin end ∷ log) n = tree_loaded_at log n
    tree_loaded_at (Spills server key ∷ log) n = tree_loaded_at log n
    tree_loaded_at (Loads tree ∷ log) n = if nat_lt (commands_in (run_of (core_of log))) n then tree else tree_loaded_at log n
    tree_loaded_at (Does entry ∷ log) n = tree_loaded_at log n

    module _ (words_of : T → Words) where
      -- the words of commands by their numbers
      abbrev pub words_in : List (Line P T) → Words
      words_in log number = words_of (tree_loaded_at log number) number

module _ {P : Protocol} {T : Type 0} (first : T) (words_of : T → Words) (Bars : ℕ → Ask → ℕ → Ask → Type 0) (opening : ℕ → List ℕ → Option Item) (version : List ℕ) (depth window : ℕ) (text_of : Ask → Answer → List ℕ) (MaySpill : List (Line P T) → ℕ → List ℕ → Type 0) where
  -- a call ends as it was named, and is answered where it wasn't; an answer that isn't cut short is read
  abbrev pub EndsAs : Ask → Option Manner → End → Type 0
  EndsAs ask None (Read stamp answer spaces) = Unit {0}
  EndsAs ask (Some Before) Never = Unit {0}
  EndsAs ask (Some After) (Unread stamp answer spaces) = Unit {0}
  EndsAs ask (Some Junk) (Unread stamp answer spaces) = Unit {0}
  EndsAs ask (Some (Cut count)) (Read stamp answer spaces) = length (text_of ask answer) ≤ count
  EndsAs ask (Some (Cut count)) (Unread stamp answer spaces) = count < length (text_of ask answer)
  EndsAs ask None (Unread stamp answer spaces) = ⊥
  EndsAs ask None Never = ⊥
  EndsAs ask (Some Before) (Read stamp answer spaces) = ⊥
  EndsAs ask (Some Before) (Unread stamp answer spaces) = ⊥
  EndsAs ask (Some After) (Read stamp answer spaces) = ⊥
  EndsAs ask (Some After) Never = ⊥
  EndsAs ask (Some Junk) (Read stamp answer spaces) = ⊥
  EndsAs ask (Some Junk) Never = ⊥
  EndsAs ask (Some (Cut count)) Never = ⊥

  -- whose result comes: after `result` the first call of that server, once; after `>` the first of the least server that has one out; after others none
  abbrev pub IsAwaited : Option (Cue T) → Option (Cue T) → List (Entry P) → ℕ → Type 0
  IsAwaited (Some (Plays (Result s))) late log server = s ≡ server
  IsAwaited now (Some (Plays (Piece client bytes))) log server = (s : ℕ) → s < server → out_of log s ≡ []
  IsAwaited now late log server = ⊥

  -- the next call of a command is one of this server
  abbrev pub IsNextAt : Words → List (Entry P) → ℕ → Owner → ℕ → Type 0
  IsNextAt words log n o server = (call : Call) × (rest : List Call) × (reply : Answer) × (from : Option ℕ) × words n o.ask (calls_so_far (run_of log) n ++ call ∷ rest) reply from × (call.server ≡ server)

  -- nothing more can be done without a result
  pub record IsStill (words : Words) (log : List (Entry P)) : Type 0 where
    -- no reply waits to be shown
    pub shown : (c : ℕ) (slot : Slot P) (slots : List (Slot P)) → queue_of log c ≡ slot ∷ slots → slot.reply ≡ None
    -- a client that could start one more command has one on that key under way, or one there bars it or is barred
    pub started : (c : ℕ) (part : Part P) → IsNext (front_of log c) part → length (queue_of log c) < depth → IsFirst (owner_of log) c part.ask.key → IsApart Bars (run_of log) (commands_in (run_of log) + 1) part.ask → ⊥
    -- a message that asks no server stands after a command
    pub passed : (c : ℕ) (message : P.Message) (next : P.Place) → P.Reads (front_of log c).place message next → P.asks_of message ≡ [] → queue_of log c ≡ [] → ⊥
    -- no command has all its calls
    pub ended : (n : ℕ) (o : Owner) (reply : Answer) (from : Option ℕ) → owner_of log n ≡ Some o → words n o.ask (calls_so_far (run_of log) n) reply from → ⊥
    -- each command has its call out, or waits for its server
    pub sent : (n : ℕ) (o : Owner) → owner_of log n ≡ Some o → ((s : ℕ) × (ticket : Ticket) × (ticket_in (out_of log s) n ≡ Some ticket)) ⊎ ((s : ℕ) × IsNextAt words log n o s × (window ≤ length (out_of log s)))

  -- nothing can go on by itself any more, and each client was given its output
  abbrev pub IsQuiet : Words → List (Entry P) → Type 0
  IsQuiet words log = IsStill words log × ((c : ℕ) → given_of log c ≡ output_of version log c)

  -- after `>` no call stays out
  abbrev pub IsOver : Option (Cue T) → List (Entry P) → Type 0
  IsOver (Some (Plays (Piece client bytes))) log = (s : ℕ) → out_of log s ≡ []
  IsOver late log = Unit {0}

  -- after `result` no call is out at that server, where none had its result
  abbrev pub IsMade : Option (Cue T) → List (Entry P) → Type 0
  IsMade (Some (Plays (Result server))) log = out_of log server ≡ []
  IsMade now log = Unit {0}

  -- an entry feeds no more than was said
  abbrev pub IsSaid : List (Line P T) → Entry P → Type 0
  IsSaid log (Feeds client bytes) = (rest : List ℕ) × (fed_of log client ++ (bytes ++ rest) ≡ said_of log client)
  IsSaid log entry = Unit {0}

  -- the line may come after the log
  abbrev pub MayBe : List (Line P T) → Line P T → Type 0
  MayBe log (Takes cue) = IsQuiet (words_in first words_of log) (core_of log) × IsOver (latest log) (core_of log) × IsMade (current log) (core_of log) × ((c : ℕ) → fed_of log c ≡ said_of log c)
  MayBe log (Results number server ask origin end) =
      MayFollow (words_in first words_of log) Bars opening version (entries_by (losses_of log (made_in log + 1)) (core_of log)) (Happens (Calls number server ask origin end))
      × EndsAs ask (named_in log (made_in log + 1)) end
      × IsAwaited (current log) (latest log) (core_of log) server
      × IsStill (words_in first words_of log) (core_of log)
      × ((rest : List Ticket) × (out_of (core_of log) server ≡ record { number = number; ask = ask; origin = origin } ∷ rest))
  MayBe log (Spills server key) = MaySpill log server key
  MayBe log (Loads tree) = current log ≡ Some (Reload tree)
  MayBe log (Does entry) = IsPlain entry × IsSaid log entry × MayFollow (words_in first words_of log) Bars opening version (core_of log) entry

  abbrev pub IsScript : List (Line P T) → Type 0
  IsScript [] = Unit {0}
  IsScript (line ∷ log) = MayBe log line × IsScript log
