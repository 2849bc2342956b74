-- Runs in which the proxy answers a call itself that had failed at its server: the server owes what the call would have left. Source: mcgate's own.
use Rattle.std.specs.Prelude.{◌≡◌, ℕ, Bool, true, false, List, [], ◌∷◌, ◌++◌, Option, Some, None, if◌then◌else◌, nat_eq, bytes_eq}
use Rattle.mc_types.specs.declared.ask.Ask.{Ask}
use Rattle.mc_types.specs.declared.answer.Answer.{Answer}
use Rattle.mc_types.specs.declared.call.Origin.{Origin}
use Rattle.mc_types.specs.declared.call.Origin.TheVariants.{Client}
use Rattle.mc_types.specs.declared.call.Outcome.TheVariants.{Answered}
use Rattle.mc_types.specs.Items.{Item, after_call}
use Rattle.mc_types.specs.Agree.{AnswerAgrees}
use Rattle.fresh_runs.specs.Calls.{Call, End, Read, Unread, Never, left_after_end}
use Rattle.fresh_runs.specs.Untouched.{IsCoveredOrUntouched}
use Rattle.fresh_runs.specs.Run as sharing
use Rattle.fresh_runs.specs.Run.{Event, Begins, Calls, Replies, Breaks, Turns, Restarts, under_way, calls_so_far, held, GivesStamp, IsFront, CopiesBar, IsFresh}
use Rattle.core_accepted.specs.Late.{Moment, Does, Lands, HasFailed, LandsInTime, WasOver}

-- a moment of a run in which calls may land late; or the proxy answers the next call of a command itself, so, and the server owes what it would have left of its key
pub data OwedMoment : Type 0 where
  Sees : Moment → OwedMoment
  Owes : (number server : ℕ) (ask : Ask) (answer : Answer) → OwedMoment
  -- the server applies a delete of this key that is of no command; or a flush
  Repays : (server : ℕ) (key : List ℕ) → OwedMoment
  Empties : (server : ℕ) → OwedMoment

-- The past is a list of moments, the latest first.

-- the server owes a call on this key: it has applied no such delete of it since, and no flush. That it lost the key, or restarted, counts for nothing: what had been sent before may still land
abbrev pub owed : List OwedMoment → ℕ → List ℕ → Bool
owed [] s k = false
owed (Owes number server ask answer ∷ past) s k = if nat_eq server s then (if bytes_eq ask.key k then true else owed past s k) else owed past s k
owed (Repays server key ∷ past) s k = if nat_eq server s then (if bytes_eq key k then false else owed past s k) else owed past s k
owed (Empties server ∷ past) s k = if nat_eq server s then false else owed past s k
owed (Sees (Does (Turns server key turned)) ∷ past) s k = owed past s k
owed (Sees (Does (Restarts server)) ∷ past) s k = owed past s k
owed (Sees (Does (Begins number ask)) ∷ past) s k = owed past s k
owed (Sees (Does (Calls number server ask origin end)) ∷ past) s k = owed past s k
owed (Sees (Does (Replies number key reply from)) ∷ past) s k = owed past s k
owed (Sees (Does (Breaks number)) ∷ past) s k = owed past s k
owed (Sees (Lands number server ask origin stamp answer spaces) ∷ past) s k = owed past s k

-- What was: each server holds what it holds. A call that the proxy answers, and one that isn't answered while its key is owed, found nothing that anybody was told of.

abbrev pub called_events : Bool → (number server : ℕ) → Ask → Origin → End → Option Item → List Event → List Event
called_events true number server ask origin (Read stamp answer spaces) before past = Calls number server ask origin (Read stamp answer spaces) ∷ past
called_events true number server ask origin (Unread stamp answer spaces) before past =
    Turns server ask.key (left_after_end ask (Unread stamp answer spaces) before) ∷ (Calls number server ask origin Never ∷ (Turns server ask.key None ∷ past))
called_events true number server ask origin Never before past = Turns server ask.key before ∷ (Calls number server ask origin Never ∷ (Turns server ask.key None ∷ past))
called_events false number server ask origin end before past = Calls number server ask origin end ∷ past

module _ (opening : ℕ → List ℕ → Option Item) where
  abbrev pub told_owed : List OwedMoment → List Event
  told_owed [] = []
  told_owed (Owes number server ask answer ∷ past) =
      Turns server ask.key (held opening (told_owed past) server ask.key) ∷ (Calls number server ask Client (Read number answer 0) ∷ (Turns server ask.key None ∷ told_owed past))
  told_owed (Repays server key ∷ past) = Turns server key None ∷ told_owed past
  told_owed (Empties server ∷ past) = Restarts server ∷ told_owed past
  told_owed (Sees (Does (Calls number server ask origin end)) ∷ past) =
      called_events (owed past server ask.key) number server ask origin end (held opening (told_owed past) server ask.key) (told_owed past)
  told_owed (Sees (Lands number server ask origin stamp answer spaces) ∷ past) =
      Turns server ask.key (after_call ask stamp answer spaces (held opening (told_owed past) server ask.key)) ∷ told_owed past
  told_owed (Sees (Does (Begins number ask)) ∷ past) = Begins number ask ∷ told_owed past
  told_owed (Sees (Does (Replies number key reply from)) ∷ past) = Replies number key reply from ∷ told_owed past
  told_owed (Sees (Does (Breaks number)) ∷ past) = Breaks number ∷ told_owed past
  told_owed (Sees (Does (Turns server key turned)) ∷ past) = Turns server key turned ∷ told_owed past
  told_owed (Sees (Does (Restarts server)) ∷ past) = Restarts server ∷ told_owed past

-- As it may be taken to have been: the server lost the key, answered the call so, and lost the key; what is owed was never applied, and nothing lands there.

abbrev pub called_moments : Bool → (number server : ℕ) → Ask → Origin → End → List Moment → List Moment
called_moments true number server ask origin end past = Does (Calls number server ask origin Never) ∷ past
called_moments false number server ask origin end past = Does (Calls number server ask origin end) ∷ past

abbrev pub landed_moments : Bool → (number server : ℕ) → Ask → Origin → (stamp : ℕ) → Answer → (spaces : ℕ) → List Moment → List Moment
landed_moments true number server ask origin stamp answer spaces past = past
landed_moments false number server ask origin stamp answer spaces past = Lands number server ask origin stamp answer spaces ∷ past

abbrev pub as_lost : List OwedMoment → List Moment
as_lost [] = []
as_lost (Owes number server ask answer ∷ past) =
    Does (Turns server ask.key None) ∷ (Does (Calls number server ask Client (Read number answer 0)) ∷ (Does (Turns server ask.key None) ∷ as_lost past))
as_lost (Repays server key ∷ past) = Does (Turns server key None) ∷ as_lost past
as_lost (Empties server ∷ past) = Does (Restarts server) ∷ as_lost past
as_lost (Sees (Does (Calls number server ask origin end)) ∷ past) = called_moments (owed past server ask.key) number server ask origin end (as_lost past)
as_lost (Sees (Lands number server ask origin stamp answer spaces) ∷ past) = landed_moments (owed past server ask.key) number server ask origin stamp answer spaces (as_lost past)
as_lost (Sees (Does (Begins number ask)) ∷ past) = Does (Begins number ask) ∷ as_lost past
as_lost (Sees (Does (Replies number key reply from)) ∷ past) = Does (Replies number key reply from) ∷ as_lost past
as_lost (Sees (Does (Breaks number)) ∷ past) = Does (Breaks number) ∷ as_lost past
as_lost (Sees (Does (Turns server key turned)) ∷ past) = Does (Turns server key turned) ∷ as_lost past
as_lost (Sees (Does (Restarts server)) ∷ past) = Does (Restarts server) ∷ as_lost past

-- nobody reads its answer
abbrev pub IsUnanswered : End → Type 0
IsUnanswered (Read stamp answer spaces) = ⊥
IsUnanswered (Unread stamp answer spaces) = Unit {0}
IsUnanswered Never = Unit {0}

module _ (words : ℕ → Ask → List Call → Answer → Option ℕ → Type 0) (Bars : ℕ → Ask → ℕ → Ask → Type 0) (opening : ℕ → List ℕ → Option Item) (MayLand : List Event → ℕ → ℕ → Ask → Origin → Type 0) where
  -- a call comes as in any run; while its key is owed it isn't answered, whatever the server makes of it
  abbrev pub MayCall : Bool → List Event → (number server : ℕ) → Ask → Origin → End → Type 0
  MayCall true past number server ask origin end = sharing.MayCome words Bars opening past (Calls number server ask origin Never) × IsUnanswered end
  MayCall false past number server ask origin end = sharing.MayCome words Bars opening past (Calls number server ask origin end)

  -- `MayLand past number server ask origin`: a failed call of this command may still be applied. While its key is owed it may in any case
  abbrev pub MayLandThen : Bool → List Event → (number server : ℕ) → Ask → Origin → (stamp : ℕ) → Answer → Type 0
  MayLandThen true past number server ask origin stamp answer = Unit {0}
  MayLandThen false past number server ask origin stamp answer =
      HasFailed past number server ask origin
      × MayLand past number server ask origin
      × AnswerAgrees ask answer (held opening past server ask.key)
      × GivesStamp opening past number origin stamp

  abbrev pub MayComeOwed : List OwedMoment → OwedMoment → Type 0
  -- the proxy answers the next call of a command itself, by which its client's own ask is passed on, as a server would that holds nothing of the key
  MayComeOwed past (Owes number server ask answer) =
      (client : Ask)
      × (under_way (told_owed opening past) number ≡ Some client)
      × (ask.key ≡ client.key)
      × IsFront words number client (calls_so_far (told_owed opening past) number ++ record { server = server; ask = ask; origin = Client; outcome = Answered answer } ∷ [])
      × AnswerAgrees ask answer None
  MayComeOwed past (Repays server key) = Unit {0}
  MayComeOwed past (Empties server) = Unit {0}
  MayComeOwed past (Sees (Does (Calls number server ask origin end))) = MayCall (owed past server ask.key) (told_owed opening past) number server ask origin end
  MayComeOwed past (Sees (Lands number server ask origin stamp answer spaces)) = MayLandThen (owed past server ask.key) (told_owed opening past) number server ask origin stamp answer
  MayComeOwed past (Sees (Does (Turns server key turned))) = turned ≡ None
  MayComeOwed past (Sees (Does (Begins number ask))) = sharing.MayCome words Bars opening (told_owed opening past) (Begins number ask)
  MayComeOwed past (Sees (Does (Replies number key reply from))) = sharing.MayCome words Bars opening (told_owed opening past) (Replies number key reply from)
  MayComeOwed past (Sees (Does (Breaks number))) = sharing.MayCome words Bars opening (told_owed opening past) (Breaks number)
  MayComeOwed past (Sees (Does (Restarts server))) = Unit {0}

  -- one moment after another
  abbrev pub OwedRun : List OwedMoment → Type 0
  OwedRun [] = Unit {0}
  OwedRun (moment ∷ past) = MayComeOwed past moment × OwedRun past

-- where deletes clear what later commands take, what copies bars deletes of its key, what had failed is applied in time or never, and of a key that a server owes nothing is answered there until it has applied a delete or a flush: every run is fresh, by what servers held
abbrev pub OwedIsFresh : (ℕ → Ask → List Call → Answer → Option ℕ → Type 0) → (ℕ → Ask → ℕ → Ask → Type 0) → Type 0
OwedIsFresh words Bars =
    (opening : ℕ → List ℕ → Option Item) → IsCoveredOrUntouched words opening → CopiesBar words Bars → (moments : List OwedMoment) → OwedRun words Bars opening (LandsInTime WasOver) moments → IsFresh opening (told_owed opening moments)
