-- One proxy's connections, over which it also writes deletes that are of no command, for calls that servers owe. Source: mcgate's own.
use Rattle.std.specs.Prelude.{◌≡◌, ℕ, false, List, [], ◌∷◌, ◌++◌, Option, Some, if◌then◌else◌, nat_eq}
use Rattle.mc_types.specs.declared.ask.Ask.{Ask}
use Rattle.mc_types.specs.declared.answer.Answer.{Answer}
use Rattle.mc_types.specs.declared.call.Origin.{Origin}
use Rattle.mc_types.specs.Items.{Item}
use Rattle.fresh_runs.specs.Calls.{Call, End, Read, Unread, Never}
use Rattle.fresh_runs.specs.Untouched.{IsCoveredOrUntouched}
use Rattle.fresh_runs.specs.Run.{Begins, Calls, Replies, Breaks, Turns, Restarts, under_way, CopiesBar, IsFresh}
use Rattle.fresh_runs.specs.Overlap.{Ticket}
use Rattle.core_accepted.specs.Late.{Does, Lands, LandsEver}
use Rattle.core_accepted.specs.Owed.{OwedMoment, Sees, Owes, Repays, Empties, owed, told_owed, MayComeOwed}

-- what stands in the connection to a server until that applies it: a call of a command, or a delete of this key of nobody
pub data Slot : Type 0 where
  Asking : Ticket → Slot
  Owing : (key : List ℕ) → Slot

-- the next call of a command goes into the connection to its server; a delete of nobody does; something happens; or what stands in the connection is gone, since it was closed
pub data OwedStep : Type 0 where
  Sends : (number server : ℕ) (ask : Ask) (origin : Origin) → OwedStep
  Writes : (server : ℕ) (key : List ℕ) → OwedStep
  Moves : OwedMoment → OwedStep
  Closes : (server : ℕ) → OwedStep

-- what happens
abbrev pub owed_moments : List OwedStep → List OwedMoment
owed_moments [] = []
owed_moments (Sends number server ask origin ∷ past) = owed_moments past
owed_moments (Writes server key ∷ past) = owed_moments past
owed_moments (Moves moment ∷ past) = moment ∷ owed_moments past
owed_moments (Closes server ∷ past) = owed_moments past

abbrev pub behind_slot : List Slot → List Slot
behind_slot [] = []
behind_slot (slot ∷ slots) = slots

-- what a call leaves there: one that was applied is gone, one that was given up stays
abbrev pub slots_after : End → List Slot → List Slot
slots_after (Read stamp answer spaces) slots = behind_slot slots
slots_after (Unread stamp answer spaces) slots = behind_slot slots
slots_after Never slots = slots

abbrev pub slots_moved : OwedMoment → ℕ → List Slot → List Slot
slots_moved (Sees (Does (Calls number server ask origin end))) s slots = if nat_eq server s then slots_after end slots else slots
slots_moved (Sees (Lands number server ask origin stamp answer spaces)) s slots = if nat_eq server s then behind_slot slots else slots
slots_moved (Repays server key) s slots = if nat_eq server s then behind_slot slots else slots
slots_moved (Owes number server ask answer) s slots = slots
slots_moved (Empties server) s slots = slots
slots_moved (Sees (Does (Begins number ask))) s slots = slots
slots_moved (Sees (Does (Replies number key reply from))) s slots = slots
slots_moved (Sees (Does (Breaks number))) s slots = slots
slots_moved (Sees (Does (Turns server key turned))) s slots = slots
slots_moved (Sees (Does (Restarts server))) s slots = slots

-- what stands in the connection to a server, in order
abbrev pub slots_of : List OwedStep → ℕ → List Slot
slots_of [] s = []
slots_of (Sends number server ask origin ∷ past) s = if nat_eq server s then slots_of past s ++ Asking (record { number = number; ask = ask; origin = origin }) ∷ [] else slots_of past s
slots_of (Writes server key ∷ past) s = if nat_eq server s then slots_of past s ++ Owing key ∷ [] else slots_of past s
slots_of (Moves moment ∷ past) s = slots_moved moment s (slots_of past s)
slots_of (Closes server ∷ past) s = if nat_eq server s then [] else slots_of past s

abbrev pub IsFirstSlot : List Slot → Slot → Type 0
IsFirstSlot slots slot = (rest : List Slot) × (slots ≡ slot ∷ rest)

-- a call that is applied is the first
abbrev pub IsSlotInTurn : List Slot → ℕ → Ask → Origin → End → Type 0
IsSlotInTurn slots number ask origin (Read stamp answer spaces) = IsFirstSlot slots (Asking (record { number = number; ask = ask; origin = origin }))
IsSlotInTurn slots number ask origin (Unread stamp answer spaces) = IsFirstSlot slots (Asking (record { number = number; ask = ask; origin = origin }))
IsSlotInTurn slots number ask origin Never = Unit {0}

-- no delete of this key that is of nobody stands there
abbrev pub HasNoOwing : List ℕ → List Slot → Type 0
HasNoOwing key [] = Unit {0}
HasNoOwing key (Asking ticket ∷ slots) = HasNoOwing key slots
HasNoOwing key (Owing k ∷ slots) = (k ≡ key → ⊥) × HasNoOwing key slots

-- what is applied is the first of its connection; a server empties itself before anything else is sent to it
abbrev pub ObeysOwed : List OwedStep → OwedMoment → Type 0
ObeysOwed past (Sees (Does (Calls number server ask origin end))) = IsSlotInTurn (slots_of past server) number ask origin end
ObeysOwed past (Sees (Lands number server ask origin stamp answer spaces)) = IsFirstSlot (slots_of past server) (Asking (record { number = number; ask = ask; origin = origin }))
ObeysOwed past (Repays server key) = IsFirstSlot (slots_of past server) (Owing key)
ObeysOwed past (Empties server) = slots_of past server ≡ []
ObeysOwed past (Owes number server ask answer) = Unit {0}
ObeysOwed past (Sees (Does (Begins number ask))) = Unit {0}
ObeysOwed past (Sees (Does (Replies number key reply from))) = Unit {0}
ObeysOwed past (Sees (Does (Breaks number))) = Unit {0}
ObeysOwed past (Sees (Does (Turns server key turned))) = Unit {0}
ObeysOwed past (Sees (Does (Restarts server))) = Unit {0}

module _ (words : ℕ → Ask → List Call → Answer → Option ℕ → Type 0) (Bars : ℕ → Ask → ℕ → Ask → Type 0) (opening : ℕ → List ℕ → Option Item) where
  abbrev pub MayStepOwed : List OwedStep → OwedStep → Type 0
  -- a call is sent for a command under way, on its key, of which the server owes nothing, nor stands a delete of nobody there
  MayStepOwed past (Sends number server ask origin) =
      ((client : Ask) × (under_way (told_owed opening (owed_moments past)) number ≡ Some client) × (ask.key ≡ client.key))
      × (owed (owed_moments past) server ask.key ≡ false)
      × HasNoOwing ask.key (slots_of past server)
  MayStepOwed past (Writes server key) = Unit {0}
  -- a call that had failed may land at any time, but in its turn
  MayStepOwed past (Moves moment) = MayComeOwed words Bars opening LandsEver (owed_moments past) moment × ObeysOwed past moment
  MayStepOwed past (Closes server) = Unit {0}

  -- one step after another
  abbrev pub OwedSteps : List OwedStep → Type 0
  OwedSteps [] = Unit {0}
  OwedSteps (step ∷ past) = MayStepOwed past step × OwedSteps past

-- over one connection in order to each server, where nothing is sent of a key that a server owes before a delete of it, or a flush: every run is fresh, whenever servers apply what was given up
abbrev pub OwedPipesAreFresh : (ℕ → Ask → List Call → Answer → Option ℕ → Type 0) → (ℕ → Ask → ℕ → Ask → Type 0) → Type 0
OwedPipesAreFresh words Bars =
    (opening : ℕ → List ℕ → Option Item) → IsCoveredOrUntouched words opening → CopiesBar words Bars → (steps : List OwedStep) → OwedSteps words Bars opening steps → IsFresh opening (told_owed opening (owed_moments steps))
