-- What servers hold and what commands found there, changed forward, and the law of one call. No life is kept. Source: mcgate's own.
use Rattle.std.specs.Prelude.{◌≡◌, ℕ, List, [], ◌∷◌, ◌++◌, Option, Some, None, if◌then◌else◌, nat_eq, slice_get}
use Rattle.mc_types.specs.declared.ask.Ask.{Ask}
use Rattle.mc_types.specs.declared.call.Origin.{Origin}
use Rattle.mc_types.specs.declared.call.Origin.TheVariants.{Client, CopyOf}
use Rattle.mc_types.specs.Items.{Item}
use Rattle.mc_types.specs.Agree.{AnswerAgrees}
use Rattle.fresh_runs.specs.Calls.{Call, End, Read, Unread, Never, outcome_of}
use Rattle.fresh_runs.specs.Run.{Event, Begins, Calls, Replies, Breaks, Turns, Restarts, held, after_event}

-- what losses and restarts leave, the latest first
abbrev pub after_losses : List Event → (ℕ → List ℕ → Option Item) → ℕ → List ℕ → Option Item
after_losses [] h s k = h s k
after_losses (e ∷ es) h s k = after_event e (after_losses es h) s k

-- lost keys and restarts alone
abbrev pub AreLosses : List Event → Type 0
AreLosses [] = Unit {0}
AreLosses (Turns server key turned ∷ es) = (turned ≡ None) × AreLosses es
AreLosses (Restarts server ∷ es) = AreLosses es
AreLosses (Begins number ask ∷ es) = ⊥
AreLosses (Calls number server ask origin end ∷ es) = ⊥
AreLosses (Replies number key reply from ∷ es) = ⊥
AreLosses (Breaks number ∷ es) = ⊥

-- the stamp that a call of this origin gives to what it stores
abbrev pub StampIn : List (Option Item) → ℕ → Origin → ℕ → Type 0
StampIn found number Client stamp = stamp ≡ number
StampIn found number (CopyOf i) stamp = (item : Item) × (slice_get found i ≡ Some (Some item)) × (stamp ≡ item.stamp)

-- a call that was applied agrees with what was held before it, and gives the stamp of its origin
abbrev pub EndsIn : Option Item → List (Option Item) → ℕ → Ask → Origin → End → Type 0
EndsIn before found number ask origin (Read stamp answer spaces) = AnswerAgrees ask answer before × StampIn found number origin stamp
EndsIn before found number ask origin (Unread stamp answer spaces) = AnswerAgrees ask answer before × StampIn found number origin stamp
EndsIn before found number ask origin Never = Unit {0}

-- each call is on this key
abbrev pub AreOn : List ℕ → List Call → Type 0
AreOn key [] = Unit {0}
AreOn key (call ∷ calls) = (call.ask.key ≡ key) × AreOn key calls

-- a fleet: what its servers hold, and what the calls of each command found there
pub record Fleet : Type 0 where
  pub holds : ℕ → List ℕ → Option Item
  pub found : ℕ → List (Option Item)

-- one call of the command of this number, with the losses before it
pub record MakesCall (number : ℕ) (old : Fleet) (call : Call) (new : Fleet) : Type 0 where
  pub lost : List Event
  pub losses : AreLosses lost
  pub end : End
  pub outcome : call.outcome ≡ outcome_of end
  pub ends : EndsIn (after_losses lost old.holds call.server call.ask.key) (old.found number) number call.ask call.origin end
  pub holds : (s : ℕ) (k : List ℕ) → new.holds s k ≡ after_event (Calls number call.server call.ask call.origin end) (after_losses lost old.holds) s k
  pub found : (n : ℕ) → new.found n ≡ (if nat_eq number n then old.found n ++ after_losses lost old.holds call.server call.ask.key ∷ [] else old.found n)
