-- What is done with the calls of one server that are out. Source: mcgate's own.
use Rattle.std.specs.Prelude.{◌≡◌, ℕ, Bool, false, List, [], ◌∷◌, ◌++◌, drop, Option, Some, None, Result, Ok, Err}
use Rattle.std.specs.List.{All}
use Rattle.mc_types.specs.Fits.{Fits}
use Rattle.mc_types.specs.declared.ask.Ask.{Ask}
use Rattle.mc_types.specs.declared.ask.Dialect.{Dialect}
use Rattle.mc_types.specs.declared.answer.Answer.{Answer}
use Rattle.mc_types.specs.declared.call.Outcome.{Outcome}
use Rattle.mc_types.specs.declared.call.Outcome.TheVariants.{Answered}
use Rattle.wire_answers.specs.declared.reader.AnswerRead.{AnswerRead}
use Rattle.wire_answers.specs.declared.reader.AnswerRead.TheVariants as reads
use Rattle.core_proxy.specs.declared.proxy.Core.{Core}
use Rattle.core_proxy.specs.Settles.{FitsCall, asked}
use Rattle.core_accepted.specs.declared.served.ServedCore.{ServedCore}
use Rattle.core_accepted.specs.Results.{IsSettled}
use Rattle.serve_links.specs.Dialects.{SpellsIn, IsForeignIn, IsCutIn}
use Rattle.serve_links.specs.Stores.{changes_data}
use Rattle.serve_links.specs.declared.calls.calls.SentCall.{SentCall}
use Rattle.serve_links.specs.declared.calls.late_call.LateCall.{LateCall}
use Rattle.serve_links.specs.declared.calls.calls.Left.{Left}
use Rattle.serve_links.specs.declared.calls.calls.Left.TheVariants as lefts
use Rattle.serve_links.specs.declared.calls.calls.Next.{Next}
use Rattle.serve_links.specs.declared.calls.calls.Next.TheVariants as nexts

-- what was read is the answer to the ask, as it was asked in this dialect; or the bytes are cut before its end, or no answer begins so
abbrev pub IsReadFor : Dialect → Ask → List ℕ → AnswerRead → Type 0
IsReadFor dialect ask bytes (reads.Answer answer used) = SpellsIn dialect ask bytes answer used × Fits ask answer
IsReadFor dialect ask bytes reads.More = IsCutIn dialect ask bytes
IsReadFor dialect ask bytes reads.Foreign = IsForeignIn dialect ask bytes

-- what was read is the answer to what the core's call of this number asks, as it was asked in this dialect, and fits the call; or the bytes are cut before its end, or no answer begins so
abbrev pub IsReadNext : Dialect → Core → ℕ → List ℕ → AnswerRead → Type 0
IsReadNext dialect core number bytes (reads.Answer answer used) = (ask : Ask) × (asked core number ≡ Some ask) × SpellsIn dialect ask bytes answer used × FitsCall core number (Answered answer)
IsReadNext dialect core number bytes reads.More = (ask : Ask) × (asked core number ≡ Some ask) × IsCutIn dialect ask bytes
IsReadNext dialect core number bytes reads.Foreign = (ask : Ask) → asked core number ≡ Some ask → IsForeignIn dialect ask bytes

-- the number of the call that went out first, and the dialect in which it was asked
abbrev pub first_asked : List SentCall → Option (ℕ × Dialect)
first_asked [] = None
first_asked (call ∷ sent) = Some (call.ticket.number, call.dialect)

-- whether the call that went out first is a store: one that may put an item, or change the data of one
abbrev pub stores_first : List SentCall → Bool
stores_first [] = false
stores_first (call ∷ sent) = changes_data call.ticket.ask.op

-- of these calls the first ones are out no more, and none of those is a store
abbrev pub SparesStores : List SentCall → List SentCall → Type 0
SparesStores calls left = (gone : List SentCall) × (calls ≡ gone ++ left) × All (λ call. changes_data call.ticket.ask.op ≡ false) gone

-- the outcome fits what the first call asks
abbrev pub FitsFirst : List SentCall → Core → Outcome → Type 0
FitsFirst [] core outcome = Unit {0}
FitsFirst (call ∷ sent) core outcome = FitsCall core call.ticket.number outcome

-- the first call had this outcome and is out no more, and the core went on by that alone; it was this client's
abbrev pub SettlesFirst : List SentCall → ServedCore → Outcome → Option ℕ → List SentCall → ServedCore → Type 0
SettlesFirst [] core outcome client sent core' = (client ≡ None) × (sent ≡ []) × (core' ≡ core)
SettlesFirst (call ∷ rest) core outcome client sent core' = (client ≡ Some call.client) × (sent ≡ rest) × IsSettled core call.ticket.number outcome core'

-- the bytes begin with this answer to the first call
pub record AnswersFirst (sent : List SentCall) (bytes : List ℕ) (core : Core) (answer : Answer) (used : ℕ) : Type 0 where
  pub number : ℕ
  pub dialect : Dialect
  pub is_first : first_asked sent ≡ Some (number, dialect)
  pub ask : Ask
  pub asks : asked core number ≡ Some ask
  pub spells : SpellsIn dialect ask bytes answer used

-- the bytes are cut before the end of the first call's answer
pub record AwaitsFirst (sent : List SentCall) (bytes : List ℕ) (core : Core) : Type 0 where
  pub number : ℕ
  pub dialect : Dialect
  pub is_first : first_asked sent ≡ Some (number, dialect)
  pub ask : Ask
  pub asks : asked core number ≡ Some ask
  pub cut : IsCutIn dialect ask bytes

-- no answer to the first call begins with the bytes, if one is out
abbrev pub IsForeignToFirst : List SentCall → List ℕ → Core → Type 0
IsForeignToFirst sent bytes core = (number : ℕ) (dialect : Dialect) (ask : Ask) → first_asked sent ≡ Some (number, dialect) → asked core number ≡ Some ask → IsForeignIn dialect ask bytes

-- of the bytes this is left: they are cut before the end of the first call's answer, or no answer to it begins so; where memory was refused nothing is said of them
abbrev pub IsLeft : Left → List SentCall → List ℕ → Core → Type 0
IsLeft lefts.Begun sent bytes core = AwaitsFirst sent bytes core
IsLeft lefts.NoAnswer sent bytes core = IsForeignToFirst sent bytes core
IsLeft lefts.NoMemory sent bytes core = Unit {0}

-- the first call is settled by its answer, which the bytes begin with, or nothing is done
abbrev pub SettlesNext : List SentCall → List ℕ → ServedCore → Next → List SentCall → ServedCore → Type 0
SettlesNext sent bytes core (nexts.Settled client used) sent' core' =
    (answer : Answer) × AnswersFirst sent bytes core.core answer used × SettlesFirst sent core (Answered answer) (Some client) sent' core'
SettlesNext sent bytes core (nexts.Left left) sent' core' = IsLeft left sent bytes core.core × (sent' ≡ sent) × (core' ≡ core)

-- the call as one that is late
abbrev pub as_late : SentCall → LateCall
as_late call = record { number = call.ticket.number; dialect = call.dialect; since = call.since; ask = call.ticket.ask; formed = call.ticket.formed }

-- it is the first of those that are out, if there is one
abbrev pub IsFirstLate : List SentCall → Option LateCall → Type 0
IsFirstLate [] late = late ≡ None
IsFirstLate (call ∷ sent) late = late ≡ Some (as_late call)

-- so many bytes are the answer to a late call, or none are, or no answer to it begins so
abbrev pub IsReadLate : LateCall → List ℕ → Result ℕ Left → Type 0
IsReadLate call bytes (Ok used) = (answer : Answer) × SpellsIn call.dialect call.ask bytes answer used
IsReadLate call bytes (Err left) = left ≡ lefts.NoAnswer → IsForeignIn call.dialect call.ask bytes

-- no answer to the first of these late calls begins with the bytes
abbrev pub IsForeignToLate : List LateCall → List ℕ → Type 0
IsForeignToLate [] bytes = ⊥
IsForeignToLate (call ∷ late) bytes = IsForeignIn call.dialect call.ask bytes

-- the bytes begin with the answer to the first of these late calls: both are gone; or nothing has changed
abbrev pub PassesOver : List LateCall → List ℕ → Result ℕ Left → List LateCall → List ℕ → Type 0
PassesOver late bytes (Ok used) late' bytes' = (call : LateCall) × (late ≡ call ∷ late') × (bytes' ≡ drop used bytes) × ((answer : Answer) × SpellsIn call.dialect call.ask bytes answer used)
PassesOver late bytes (Err left) late' bytes' = (late' ≡ late) × (bytes' ≡ bytes) × (left ≡ lefts.NoAnswer → IsForeignToLate late bytes)
