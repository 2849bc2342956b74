-- Runs in which a server may apply a call after it had failed for its command, even after the command's reply. Source: mcgate's own.
use Rattle.std.specs.Prelude.{◌≡◌, ℕ, Bool, true, false, List, [], ◌∷◌, Option, Some, None, if◌then◌else◌, nat_eq, slice_get}
use Rattle.mc_types.specs.declared.ask.Op.{Op}
use Rattle.mc_types.specs.declared.ask.Op.TheVariants.{Set, Add, Replace, Cas, Delete}
use Rattle.mc_types.specs.declared.ask.Ask.{Ask}
use Rattle.mc_types.specs.declared.answer.Answer.{Answer}
use Rattle.mc_types.specs.declared.call.Origin.{Origin}
use Rattle.mc_types.specs.declared.call.Origin.TheVariants.{Client, CopyOf}
use Rattle.mc_types.specs.declared.call.Outcome.TheVariants.{Failed}
use Rattle.mc_types.specs.Items.{Item, after_call}
use Rattle.mc_types.specs.Agree.{AnswerAgrees}
use Rattle.fresh_runs.specs.Calls.{Call}
use Rattle.fresh_runs.specs.Cover.{ClearsIn}
use Rattle.fresh_runs.specs.Run as sharing
use Rattle.fresh_runs.specs.Run.{Event, Begins, Calls, Replies, Breaks, Turns, Restarts, calls_so_far, before, held, GivesStamp, HasEnded, IsAcknowledged, IsShown}

-- an event of a run; or a server applies a call that had failed for its command, with the stamp to give, the server's true answer, which nobody reads, and the count of spaces put after a number
pub data Moment : Type 0 where
  Does : Event → Moment
  Lands : (number server : ℕ) (ask : Ask) (origin : Origin) (stamp : ℕ) (answer : Answer) (spaces : ℕ) → Moment

-- The past is a list of moments, the latest first.

-- what commands see of it
abbrev pub seen : List Moment → List Event
seen [] = []
seen (Does event ∷ past) = event ∷ seen past
seen (Lands number server ask origin stamp answer spaces ∷ past) = seen past

-- what the command of this number asks, where it has begun, also where it is over
abbrev pub begun_late : List Event → ℕ → Option Ask
begun_late [] n = None
begun_late (Begins number ask ∷ past) n = if nat_eq number n then Some ask else begun_late past n
begun_late (Calls number server ask origin end ∷ past) n = begun_late past n
begun_late (Replies number key reply from ∷ past) n = begun_late past n
begun_late (Breaks number ∷ past) n = begun_late past n
begun_late (Turns server key turned ∷ past) n = begun_late past n
begun_late (Restarts server ∷ past) n = begun_late past n

-- a call of the command has failed
abbrev pub HasFailed : List Event → ℕ → ℕ → Ask → Origin → Type 0
HasFailed past number server ask origin = (j : ℕ) × (slice_get (calls_so_far past number) j ≡ Some (record { server = server; ask = ask; origin = origin; outcome = Failed }))

module _ (opening : ℕ → List ℕ → Option Item) where
  -- as events of a run in which others write the servers: from when a call lands, its server holds what that leaves
  abbrev pub told : List Moment → List Event
  told [] = []
  told (Does event ∷ past) = event ∷ told past
  told (Lands number server ask origin stamp answer spaces ∷ past) = Turns server ask.key (after_call ask stamp answer spaces (held opening (told past) server ask.key)) ∷ told past

  -- `Over past n s`: where delete n begins after this past, a store of command s counts as made before it.
  -- a command that begins after a delete of its key was acknowledged shows no item of a store that counts as made before the delete
  abbrev pub IsFreshBy : (List Event → ℕ → ℕ → Type 0) → List Moment → Type 0
  IsFreshBy Over moments =
      (n m : ℕ) (delete : Ask) (item : Item) → IsAcknowledged (before (told moments) m) n delete → IsShown opening (told moments) m delete.key item → Over (before (told moments) n) n item.stamp → ⊥

module _ (words : ℕ → Ask → List Call → Answer → Option ℕ → Type 0) (Bars : ℕ → Ask → ℕ → Ask → Type 0) (opening : ℕ → List ℕ → Option Item) (MayLand : List Event → ℕ → ℕ → Ask → Origin → Type 0) where
  -- `MayLand past number server ask origin`: a failed call of this command may still be applied.
  -- the moment may come after the past
  abbrev pub MayComeLate : List Moment → Moment → Type 0
  -- anything may be lost at any moment; and nobody writes the servers but these commands
  MayComeLate past (Does (Turns server key turned)) = turned ≡ None
  -- else an event comes as in any run
  MayComeLate past (Does event) = sharing.MayCome words Bars opening (told opening past) event
  -- a call that had failed is applied, as long as it may: it agrees with what its server holds just before, and gives the stamp of its origin
  MayComeLate past (Lands number server ask origin stamp answer spaces) =
      HasFailed (told opening past) number server ask origin
      × MayLand (told opening past) number server ask origin
      × AnswerAgrees ask answer (held opening (told opening past) server ask.key)
      × GivesStamp opening (told opening past) number origin stamp

  -- one moment after another
  abbrev pub LateRun : List Moment → Type 0
  LateRun [] = Unit {0}
  LateRun (moment ∷ past) = MayComeLate past moment × LateRun past

-- the command of the store was over
abbrev pub WasOver : List Event → ℕ → ℕ → Type 0
WasOver past n s = HasEnded past s

-- what begins an item with a stamp of its own
abbrev pub begins_stamp : Op → Bool
begins_stamp Set = true
begins_stamp Add = true
begins_stamp Replace = true
begins_stamp Cas = true
begins_stamp _ = false

-- no delete of the key that begins when the store counts as made before it has yet an answer of the server that the key is gone
abbrev pub IsTimely : (List Event → ℕ → ℕ → Type 0) → List Event → ℕ → ℕ → List ℕ → Type 0
IsTimely Over past number server key =
    (n : ℕ) (delete : Ask) → begun_late past n ≡ Some delete → delete.op ≡ Delete → delete.key ≡ key → Over (before past n) n number → ClearsIn (calls_so_far past n) server → ⊥

-- in time: a store, before each such answer; a copy, before each such answer of a delete that began when its command was over
abbrev pub LandsInTime : (List Event → ℕ → ℕ → Type 0) → List Event → ℕ → ℕ → Ask → Origin → Type 0
LandsInTime Over past number server ask Client = begins_stamp ask.op ≡ true → IsTimely Over past number server ask.key
LandsInTime Over past number server ask (CopyOf i) = begins_stamp ask.op ≡ true → IsTimely WasOver past number server ask.key

-- at any time
abbrev pub LandsEver : List Event → ℕ → ℕ → Ask → Origin → Type 0
LandsEver past number server ask origin = Unit {0}
