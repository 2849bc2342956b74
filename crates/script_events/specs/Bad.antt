-- The first event of a script that can't be. Source: mcgate's own.
use Rattle.mc_types.specs.declared.limits.TheConstants.{SCRIPT_CLIENTS}
use Rattle.script_events.specs.declared.bad.TheConstants.{PIECE_LIMIT, ADD_LIMIT}
use Rattle.std.specs.Prelude.{◌≡◌, ℕ, ◌+◌, ◌-◌, ◌<◌, pos, int_lt, Bool, true, false, ◌||◌, List, [], ◌∷◌, ◌++◌, length, map, sum_by, Option, Some, None, nat_lt, nat_le, nat_eq, ◌==◌, slice_get, ◌≤◌, if◌then◌else◌}
use Rattle.std.specs.List.{list_any}
use Rattle.mc_types.specs.Asks.{data_limit}
use Rattle.script_events.specs.declared.bad.Before.{Before}
use Rattle.script_events.specs.declared.script.Script.{Script}
use Rattle.script_events.specs.declared.script.DriveFault.{DriveFault}
use Rattle.script_events.specs.declared.script.DriveFault.TheVariants.{BadEvent, NoMemory, Spent}
use Rattle.script_events.specs.Scripted.{Scripted, Piece, Add, Result, Fail, Hold, At, Now, Moment, Loss, Lose, Restart, scripted_of}

-- the greatest number of a client
abbrev pub last_client : ℕ
last_client = SCRIPT_CLIENTS - 1

-- the most bytes of all pieces together
abbrev pub piece_limit : ℕ
piece_limit = PIECE_LIMIT

-- the most bytes that a client adds between two pieces
abbrev pub add_limit : ℕ
add_limit = ADD_LIMIT

-- how many bytes of a piece an event brings
abbrev pub len_of : Scripted → ℕ
len_of (Piece client bytes) = length bytes
len_of (Add client bytes) = length bytes
len_of (Result server) = 0
len_of (Fail turn manner) = 0
len_of (Hold server key content) = 0
len_of (At turn loss) = 0
len_of (Now loss) = 0
len_of (Moment moment) = 0

-- how many bytes a client added since the last piece, after one more event
abbrev pub added_by : ℕ → ℕ → Scripted → ℕ
added_by client sum (Piece c bytes) = 0
added_by client sum (Add c bytes) = if nat_eq c client then sum + length bytes else sum
added_by client sum (Result server) = sum
added_by client sum (Fail turn manner) = sum
added_by client sum (Hold server key content) = sum
added_by client sum (At turn loss) = sum
added_by client sum (Now loss) = sum
added_by client sum (Moment moment) = sum

-- how many bytes a client added since the last piece, after events in order
abbrev pub added_after : ℕ → ℕ → List Scripted → ℕ
added_after client sum [] = sum
added_after client sum (event ∷ events) = added_after client (added_by client sum event) events

abbrev pub added : ℕ → List Scripted → ℕ
added client events = added_after client 0 events

-- with a piece or a loss the run begins
abbrev pub begins_run : Scripted → Bool
begins_run (Piece client bytes) = true
begins_run (Add client bytes) = true
begins_run (Result server) = false
begins_run (Fail turn manner) = false
begins_run (Hold server key content) = false
begins_run (At turn loss) = false
begins_run (Now loss) = true
begins_run (Moment moment) = false

-- the run has begun with one of these events
abbrev pub has_begun : List Scripted → Bool
has_begun events = list_any begins_run events

abbrev pub loser_of : Loss → ℕ
loser_of (Lose server key) = server
loser_of (Restart server) = server

-- after these events the event can't be: an unknown client or server, too many bytes, a turn counted 0, a moment below 0, data held that are too long, or once the run has begun
abbrev pub bad_in : ℕ → List Scripted → Scripted → Bool
bad_in servers before (Piece client bytes) = nat_lt last_client client || nat_lt piece_limit (sum_by len_of before + length bytes)
bad_in servers before (Add client bytes) = nat_lt last_client client || nat_lt piece_limit (sum_by len_of before + length bytes) || nat_lt add_limit (added client before + length bytes)
bad_in servers before (Result server) = nat_le servers server
bad_in servers before (Fail turn manner) = turn == 0
bad_in servers before (Hold server key content) = nat_le servers server || nat_lt data_limit (length content) || has_begun before
bad_in servers before (At turn loss) = turn == 0 || nat_le servers (loser_of loss)
bad_in servers before (Now loss) = nat_le servers (loser_of loss)
bad_in servers before (Moment moment) = int_lt moment (pos 0)

-- the place of the first event that can't be, after the events before
abbrev pub first_from : ℕ → List Scripted → List Scripted → Option ℕ
first_from servers before [] = None
first_from servers before (event ∷ events) =
    if bad_in servers before event then Some (length before) else first_from servers (before ++ event ∷ []) events

-- the place of the first event that can't be
abbrev pub first_bad : ℕ → List Scripted → Option ℕ
first_bad servers events = first_from servers [] events

-- what is counted of the events before one: their bytes, those that each client added since the last piece, and whether the run has begun; the limits are kept
pub record IsBefore (events : List Scripted) (b : Before) : Type 0 where
  pub bytes_are : b.bytes ≡ sum_by len_of events
  pub within : b.bytes ≤ piece_limit
  pub added_are : (c : ℕ) → c < SCRIPT_CLIENTS → slice_get b.added c ≡ Some (added c events)
  pub few : (c : ℕ) → c < SCRIPT_CLIENTS → added c events ≤ add_limit
  pub begun_is : b.begun ≡ has_begun events

-- the counts have room for one more event
abbrev pub HasRoom : Before → Scripted → Type 0
HasRoom b (Piece client bytes) = b.bytes + length bytes ≤ piece_limit
HasRoom b (Add client bytes) = (client < SCRIPT_CLIENTS) × (b.bytes + length bytes ≤ piece_limit) × ((n : ℕ) → slice_get b.added client ≡ Some n → n + length bytes ≤ add_limit)
HasRoom b (Result server) = Unit {0}
HasRoom b (Fail turn manner) = Unit {0}
HasRoom b (Hold server key content) = Unit {0}
HasRoom b (At turn loss) = Unit {0}
HasRoom b (Now loss) = Unit {0}
HasRoom b (Moment moment) = Unit {0}

-- the counts are those with one more event
pub record IsOneMore (old : Before) (event : Scripted) (new : Before) : Type 0 where
  pub bytes_are : new.bytes ≡ old.bytes + len_of event
  pub begun_is : new.begun ≡ (old.begun || begins_run event)
  pub added_are : (c n : ℕ) → c < SCRIPT_CLIENTS → slice_get old.added c ≡ Some n → slice_get new.added c ≡ Some (added_by c n event)

-- the fault tells the first event that can't be; nothing is said where memory was refused or numbers were spent
abbrev pub Refuses : ℕ → Script → DriveFault → Type 0
Refuses servers script (BadEvent at) = (at < length script.events.items) × (first_bad servers (map scripted_of script.events.items) ≡ Some at)
Refuses servers script NoMemory = Unit {0}
Refuses servers script Spent = Unit {0}
