-- What a walk tells of what was said over each server's connection. Source: mcgate's own.
use Rattle.std.specs.Prelude.{Option, None, Some, ◌≡◌, ◌≢◌, ◌⊎◌, ℕ, suc, ◌+◌, ◌<◌, ◌≤◌, true, false, List, [], ◌∷◌, ◌++◌, nat_eq, length, if◌then◌else◌}
use Rattle.mc_types.specs.declared.ask.Ask.{Ask}
use Rattle.mc_types.specs.declared.ask.Dialect.{Dialect}
use Rattle.mc_types.specs.declared.ask.Dialect.TheVariants.{Classic}
use Rattle.mc_types.specs.declared.answer.Answer.{Answer}
use Rattle.mc_types.specs.declared.call.Outcome.{Outcome}
use Rattle.mc_types.specs.declared.call.Outcome.TheVariants.{Answered, Failed}
use Rattle.wire_stream.specs.Spelling.{spelling_of}
use Rattle.core_commands.specs.declared.ticket.Ticket.{Ticket}
use Rattle.core_proxy.specs.declared.note.Poll.TheVariants as polls
use Rattle.serve_links.specs.declared.news.Cause.{Cause}
use Rattle.serve_links.specs.declared.news.Cause.TheVariants as causes
use Rattle.serve_links.specs.Dialects.{asked_in, SpellsIn, GreetsAwaited, awaits_flush}
use Rattle.serve_links.specs.Stores.{changes_data}
use Rattle.serve_links.specs.declared.settings.Greeting.{Greeting}
use Rattle.serve_links.specs.Lines.{first_asked_of, awaits_first, first_dialect}
use Rattle.serve_links.specs.CoreSteps.{Obstacle, WaitedLong, StoreLate, ForeignCame, LeftAlone, ManyWait, Step, Opened, NotOpened, Fed, Polled, Stopped, Settled, Gave, Closed, LeftLine, Broke, Ticked, Loaded, Linked, Asked, Greeted, Spelled, Late, CameLate, Lost, Noted}
use Rattle.serve_links.specs.Links.{least_waiting}
use Rattle.serve_links.specs.Called.{call_in, due_in, clock_in, given_in, IsGivenOnce}

-- a call that a server was asked: its number, in which dialect it was asked, its ask, and since when its time counts
abbrev pub SaidAsk : Type 0
SaidAsk = ℕ × Dialect × Ask × ℕ

-- how a server's connection stands: none is there; one is in use; or one was given up that can't be kept, and its end is awaited
pub data Standing : Type 0 where
  Apart : Standing
  InUse : Standing
  Ending : Standing

-- how it stands once it was given up for a cause, or as that was wanted: what is no answer came, or there was no room for what came, or reads were in vain; otherwise it was closed
abbrev pub standing_after : Option Cause → Standing
standing_after None = Apart
standing_after (Some causes.Unreachable) = Apart
standing_after (Some causes.ConnectLate) = Apart
standing_after (Some causes.AnswerLate) = Apart
standing_after (Some causes.Closed) = Apart
standing_after (Some causes.Broken) = Apart
standing_after (Some causes.ForeignAnswer) = Ending
standing_after (Some causes.NoRoom) = Ending
standing_after (Some causes.VainReads) = Ending

-- of a server's connection: how it stands, what was to be sent over it, which bytes that came over it told something, the calls that are out there, the one that was asked first in front, before them those that were late, which have
-- failed, and whose answers are still to come first; what the server was asked first, if it is still to say all that it says to that, before it answers any call, in which dialect calls are asked there from now on; and
-- how many of the server's connections in a row were given up since a call of it was answered that was out there
pub record Talk : Type 0 where
  pub stands : Standing
  pub sent : List ℕ
  pub told : List ℕ
  pub out : List SaidAsk
  pub late : List SaidAsk
  pub awaits : Option Greeting
  pub dialect : Dialect
  pub failed : ℕ

-- without the first
abbrev pub behind : List SaidAsk → List SaidAsk
behind [] = []
behind (ask ∷ asks) = asks

-- the first, if there is one
abbrev pub first_of_asks : List SaidAsk → List SaidAsk
first_of_asks [] = []
first_of_asks (ask ∷ asks) = ask ∷ []

-- where there was no connection yet
abbrev pub no_talk : Talk
no_talk = record { stands = Apart; sent = []; told = []; out = []; late = []; awaits = None; dialect = Classic; failed = 0 }

-- a new connection, to a server that is asked this first, and of which so many in a row were given up
abbrev pub first_talk : Greeting → (failed : ℕ) → Talk
first_talk greeting failed = record { stands = InUse; sent = first_asked_of greeting; told = []; out = []; late = []; awaits = awaits_first greeting; dialect = first_dialect greeting.dialect; failed = failed }

-- one more call is asked in its dialect
abbrev pub with_ask : ℕ → Dialect → Ask → (since : ℕ) → Talk → Talk
with_ask number dialect ask since talk = record talk { sent = talk.sent ++ spelling_of (asked_in dialect ask); out = talk.out ++ (number, dialect, ask, since) ∷ [] }

-- the server told this dialect
abbrev pub greeted : Dialect → List ℕ → Talk → Talk
greeted dialect bytes talk = record talk { told = talk.told ++ bytes; awaits = None; dialect = dialect }

-- the first call is out no more: its server answers
abbrev pub with_first_answer : List ℕ → Talk → Talk
with_first_answer bytes talk = record talk { told = talk.told ++ bytes; out = behind talk.out; failed = 0 }

-- the first call is late: it keeps its place
abbrev pub turned_late : Talk → Talk
turned_late talk = record talk { out = behind talk.out; late = talk.late ++ first_of_asks talk.out }

-- the answer to the first late call came
abbrev pub with_late : List ℕ → Talk → Talk
with_late bytes talk = record talk { told = talk.told ++ bytes; late = behind talk.late }

-- how many in a row were given up once one is: one more, but where it was given up before, and its end was awaited
abbrev pub failed_after : Standing → ℕ → ℕ
failed_after Apart failed = failed
failed_after InUse failed = suc failed
failed_after Ending failed = failed

-- it was given up: no call is out there any more, no answer is awaited, and that is one more in a row
abbrev pub given_up : Option Cause → Talk → Talk
given_up why talk = record talk { stands = standing_after why; out = []; late = []; awaits = None; failed = failed_after talk.stands talk.failed }

-- what a step adds to what was said over the connection of the server of this number
abbrev pub talk_after : Step → ℕ → Talk → Talk
talk_after (Linked at dialect) i talk = if nat_eq at i then first_talk dialect talk.failed else talk
talk_after (Asked at number dialect ask since) i talk = if nat_eq at i then with_ask number dialect ask since talk else talk
talk_after (Greeted at dialect bytes) i talk = if nat_eq at i then greeted dialect bytes talk else talk
talk_after (Noted at obstacle) i talk = talk
talk_after (Late at number limit now) i talk = if nat_eq at i then turned_late talk else talk
talk_after (CameLate at number ask answer bytes) i talk = if nat_eq at i then with_late bytes talk else talk
talk_after (Spelled at number ask answer bytes) i talk = if nat_eq at i then with_first_answer bytes talk else talk
talk_after (Lost at why limit) i talk = if nat_eq at i then given_up why talk else talk
talk_after (Opened client) i talk = talk
talk_after (NotOpened fault) i talk = talk
talk_after (Fed client piece) i talk = talk
talk_after (Polled client poll) i talk = talk
talk_after (Stopped client fault) i talk = talk
talk_after (Settled number outcome) i talk = talk
talk_after (Gave client bytes) i talk = talk
talk_after (Closed client) i talk = talk
talk_after (LeftLine client) i talk = talk
talk_after (Ticked now) i talk = talk
talk_after (Broke client) i talk = talk
talk_after (Loaded configuration generation) i talk = talk

-- what was said over it by these steps, the latest first
abbrev pub talk_in : List Step → ℕ → Talk
talk_in [] i = no_talk
talk_in (step ∷ steps) i = talk_after step i (talk_in steps i)

-- in one of these steps the core gave out this call: its number, its server, and its ask
pub record IsCalledIn (steps : List Step) (number at : ℕ) (ask : Ask) : Type 0 where
  pub client : ℕ
  pub ticket : Ticket
  pub number_is : ticket.number ≡ number
  pub server_is : ticket.server ≡ at
  pub ask_is : ticket.ask ≡ ask
  pub later : List Step
  pub earlier : List Step
  pub was : steps ≡ later ++ Polled client (polls.Call ticket) ∷ earlier

-- the core gave out this call, and then, or later, this was the dialect in which calls were to be asked over the connection of its server
pub record MayBeAsked (steps : List Step) (number at : ℕ) (dialect : Dialect) (ask : Ask) : Type 0 where
  pub later : List Step
  pub earlier : List Step
  pub parts : steps ≡ later ++ earlier
  pub called : IsCalledIn earlier number at ask
  pub speaks : (talk_in earlier at).dialect ≡ dialect

-- none of these calls has this number
abbrev pub IsNotAmong : ℕ → List SaidAsk → Type 0
IsNotAmong n [] = Unit {0}
IsNotAmong n (said ∷ others) = (said.0 ≢ n) × IsNotAmong n others

-- each of these calls is still to be asked of this server: the core gave it out for it, no later than its time counts from, and since then it was neither asked nor settled. No two have one number
abbrev pub AreDue : List Step → ℕ → List SaidAsk → Type 0
AreDue steps at [] = Unit {0}
AreDue steps at (said ∷ others) = (due_in steps said.0 ≡ Some (at, said.2)) × IsNotAmong said.0 others × AreDue steps at others × (given_in steps said.0 ≤ said.3)

-- each of these was asked, and the core has it out for this server still, where it asks just this. No two have one number
abbrev pub AreCalled : List Step → ℕ → List SaidAsk → Type 0
AreCalled steps at [] = Unit {0}
AreCalled steps at (said ∷ others) = (call_in steps said.0 ≡ Some (at, said.2)) × (due_in steps said.0 ≡ None) × IsNotAmong said.0 others × AreCalled steps at others

-- the call that was asked first of those that are out has this number and asked this, nothing else is told before its answer, and these bytes, whatever follows them, spell this answer to it, in the dialect in which it was asked
pub record IsNextAnswer (number : ℕ) (ask : Ask) (answer : Answer) (bytes : List ℕ) (talk : Talk) : Type 0 where
  pub dialect : Dialect
  pub since : ℕ
  pub others : List SaidAsk
  pub is_first : talk.out ≡ (number, dialect, ask, since) ∷ others
  pub none_before : talk.awaits ≡ None
  pub none_late : talk.late ≡ []
  pub more : List ℕ
  pub spells : SpellsIn dialect ask (bytes ++ more) answer (length bytes)

-- the call of this number was asked first of those that are out
pub record IsFirstOut (number : ℕ) (talk : Talk) : Type 0 where
  pub dialect : Dialect
  pub ask : Ask
  pub since : ℕ
  pub others : List SaidAsk
  pub is_first : talk.out ≡ (number, dialect, ask, since) ∷ others

-- one of these calls has waited for longer than so many milliseconds at this time
abbrev pub HasWaited : (limit now : ℕ) → List SaidAsk → Type 0
HasWaited limit now [] = ⊥
HasWaited limit now (said ∷ others) = (said.3 + limit < now) ⊎ HasWaited limit now others

-- the call that was asked first of those that are out is a store
abbrev pub IsStoreFirst : List SaidAsk → Type 0
IsStoreFirst [] = ⊥
IsStoreFirst (said ∷ others) = changes_data said.2.op ≡ true

-- the call of this number, which asks this, is the first of those that were late, nothing else is told before its answer, and these bytes, whatever follows them, spell this one to it, in the dialect in which it was asked
pub record IsNextLate (number : ℕ) (ask : Ask) (answer : Answer) (bytes : List ℕ) (talk : Talk) : Type 0 where
  pub dialect : Dialect
  pub since : ℕ
  pub others : List SaidAsk
  pub is_first : talk.late ≡ (number, dialect, ask, since) ∷ others
  pub none_before : talk.awaits ≡ None
  pub more : List ℕ
  pub spells : SpellsIn dialect ask (bytes ++ more) answer (length bytes)

-- the last step was that the bytes of some server spelled this answer to the call
pub record IsJustSpelled (number : ℕ) (answer : Answer) (steps : List Step) : Type 0 where
  pub at : ℕ
  pub ask : Ask
  pub bytes : List ℕ
  pub earlier : List Step
  pub last : steps ≡ Spelled at number ask answer bytes ∷ earlier

-- one of these calls has this number
abbrev pub IsAmong : ℕ → List SaidAsk → Type 0
IsAmong n [] = ⊥
IsAmong n (said ∷ others) = (said.0 ≡ n) ⊎ IsAmong n others

-- the connection over which the call of this number was asked was given up while it was out there
pub record WasGivenUp (number : ℕ) (steps : List Step) : Type 0 where
  pub at : ℕ
  pub why : Option Cause
  pub limit : ℕ
  pub later : List Step
  pub earlier : List Step
  pub was : steps ≡ later ++ Lost at why limit ∷ earlier
  pub out : IsAmong number (talk_in earlier at).out

-- the call of this number was late
pub record WasLate (number : ℕ) (steps : List Step) : Type 0 where
  pub at : ℕ
  pub limit : ℕ
  pub now : ℕ
  pub later : List Step
  pub earlier : List Step
  pub was : steps ≡ later ++ Late at number limit now ∷ earlier

-- the connection of each of these calls was given up while it was out there
abbrev pub AreGivenUp : List Step → List SaidAsk → Type 0
AreGivenUp steps [] = Unit {0}
AreGivenUp steps (said ∷ others) = WasGivenUp said.0 steps × AreGivenUp steps others

-- an obstacle keeps the call of this number from being sent
abbrev pub IsFor : ℕ → Obstacle → Type 0
IsFor n (WaitedLong number limit) = number ≡ n
IsFor n (StoreLate limit) = Unit {0}
IsFor n ForeignCame = Unit {0}
IsFor n (LeftAlone limit) = Unit {0}
IsFor n ManyWait = Unit {0}

-- in the last step an obstacle was noted of this server that keeps the call of this number from being sent
pub record IsKeptBack (number at : ℕ) (steps : List Step) : Type 0 where
  pub obstacle : Obstacle
  pub earlier : List Step
  pub last : steps ≡ Noted at obstacle ∷ earlier
  pub is_for : IsFor number obstacle

-- why the call of this number isn't sent to this server: no connection to it is in use, answers are to come first of calls that were late, it is still to empty itself, or an obstacle was just noted
abbrev pub CanNotGo : (number at : ℕ) → List Step → Type 0
CanNotGo number at steps = ((talk_in steps at).stands ≢ InUse) ⊎ ((talk_in steps at).late ≢ []) ⊎ (awaits_flush (talk_in steps at).awaits ≡ true) ⊎ IsKeptBack number at steps

-- the call of this number is still to be asked of a server, so that none was sent any of it, and isn't sent for a reason
pub record IsUnsent (number : ℕ) (steps : List Step) : Type 0 where
  pub at : ℕ
  pub ask : Ask
  pub due : due_in steps number ≡ Some (at, ask)
  pub why : CanNotGo number at steps

-- why the call of this number fails: it isn't sent, for a reason; or its connection was given up while it was out there; or it was late. None fails whose answer came
abbrev pub FailsFor : ℕ → List Step → Type 0
FailsFor number steps = IsUnsent number steps ⊎ WasGivenUp number steps ⊎ WasLate number steps

-- as many calls are still to be asked of this server as there is always room for
abbrev pub HaveManyDue : (at : ℕ) → List Step → Type 0
HaveManyDue at past = (calls : List SaidAsk) × AreDue past at calls × (least_waiting ≤ length calls)

-- an obstacle may be noted of this server: the call is still to be asked and was given out longer before than it may wait; a store is the first of the calls that are out there, and one of them has taken longer than it may; and a server is left alone that had as many connections in a row given up as are allowed since it answered a call, while another call tries it; and as many calls wait for one as there is always room for
abbrev pub IsTold : Obstacle → (at : ℕ) → List Step → Type 0
IsTold (WaitedLong number limit) at past = given_in past number + limit < clock_in past
IsTold (StoreLate limit) at past = IsStoreFirst (talk_in past at).out × HasWaited limit (clock_in past) (talk_in past at).out
IsTold ForeignCame at past = Unit {0}
IsTold (LeftAlone limit) at past = (limit ≤ (talk_in past at).failed) × ((talk_in past at).out ≢ [])
IsTold ManyWait at past = HaveManyDue at past

-- the core has a call of this number out, and no server has it, or has it any more
pub record MaySettle (number : ℕ) (steps : List Step) : Type 0 where
  pub call : ℕ × Ask
  pub is_out : call_in steps number ≡ Some call
  pub nowhere : (at : ℕ) → IsNotAmong number (talk_in steps at).out

-- no call is answered but by what its server's bytes spell, and none fails but for a reason that the steps before it tell
abbrev pub ComesBy : ℕ → Outcome → List Step → Type 0
ComesBy number (Answered answer) past = IsJustSpelled number answer past
ComesBy number Failed past = FailsFor number past

-- after these steps this one may come: a connection is begun where none is there, also none whose end is awaited; over one that is in use a server is asked what the core gave out for it last under that number, once, in a dialect that it speaks, its time counting from then or later, and neither while late answers are still to come nor before it said that it emptied itself where it is to do that first; tells of its dialects where it is asked for that, and then answers its calls in
-- their order, those that are late too, whose answers settle nothing; the first of those that are out is late once one of them, or of those that were late before it, has waited too long; a call is settled that no server has, by its answer, or as it failed for a reason; an obstacle is noted that is there; and none is given out while one of its number is out
abbrev pub MayComeNext : Step → List Step → Type 0
MayComeNext (Asked at number dialect ask since) past = MayBeAsked past number at dialect ask × (due_in past number ≡ Some (at, ask)) × ((talk_in past at).late ≡ []) × (awaits_flush (talk_in past at).awaits ≡ false) × (given_in past number ≤ since) × ((talk_in past at).stands ≡ InUse)
MayComeNext (Greeted at dialect bytes) past = GreetsAwaited (talk_in past at).awaits dialect bytes
MayComeNext (Noted at obstacle) past = IsTold obstacle at past
MayComeNext (Late at number limit now) past = IsFirstOut number (talk_in past at) × HasWaited limit now ((talk_in past at).late ++ (talk_in past at).out)
MayComeNext (CameLate at number ask answer bytes) past = IsNextLate number ask answer bytes (talk_in past at)
MayComeNext (Spelled at number ask answer bytes) past = IsNextAnswer number ask answer bytes (talk_in past at)
MayComeNext (Settled number outcome) past = MaySettle number past × ComesBy number outcome past
MayComeNext (Linked at dialect) past = (talk_in past at).stands ≡ Apart
MayComeNext (Lost at why limit) past = Unit {0}
MayComeNext (Opened client) past = Unit {0}
MayComeNext (NotOpened fault) past = Unit {0}
MayComeNext (Fed client piece) past = Unit {0}
MayComeNext (Polled client poll) past = IsGivenOnce poll past
MayComeNext (Stopped client fault) past = Unit {0}
MayComeNext (Gave client bytes) past = Unit {0}
MayComeNext (Closed client) past = Unit {0}
MayComeNext (LeftLine client) past = Unit {0}
MayComeNext (Ticked now) past = Unit {0}
MayComeNext (Broke client) past = Unit {0}
MayComeNext (Loaded configuration generation) past = Unit {0}

-- each of these steps may come next after those before it
abbrev pub IsOrderly : List Step → Type 0
IsOrderly [] = Unit {0}
IsOrderly (step ∷ steps) = MayComeNext step steps × IsOrderly steps

-- a step tells nothing of servers
abbrev pub IsOfClients : Step → Type 0
IsOfClients (Opened client) = Unit {0}
IsOfClients (NotOpened fault) = Unit {0}
IsOfClients (Fed client piece) = Unit {0}
IsOfClients (Polled client poll) = Unit {0}
IsOfClients (Stopped client fault) = Unit {0}
IsOfClients (Gave client bytes) = Unit {0}
IsOfClients (Closed client) = Unit {0}
IsOfClients (LeftLine client) = Unit {0}
IsOfClients (Ticked now) = ⊥
IsOfClients (Broke client) = Unit {0}
IsOfClients (Loaded configuration generation) = Unit {0}
IsOfClients (Settled number outcome) = ⊥
IsOfClients (Linked at dialect) = ⊥
IsOfClients (Asked at number dialect ask since) = ⊥
IsOfClients (Greeted at dialect bytes) = ⊥
IsOfClients (Noted at obstacle) = ⊥
IsOfClients (Late at number limit now) = ⊥
IsOfClients (CameLate at number ask answer bytes) = ⊥
IsOfClients (Spelled at number ask answer bytes) = ⊥
IsOfClients (Lost at why limit) = ⊥

-- a step tells of this server, or settles a call
abbrev pub IsOfServer : ℕ → Step → Type 0
IsOfServer i (Settled number outcome) = Unit {0}
IsOfServer i (Linked at dialect) = at ≡ i
IsOfServer i (Asked at number dialect ask since) = at ≡ i
IsOfServer i (Greeted at dialect bytes) = at ≡ i
IsOfServer i (Noted at obstacle) = at ≡ i
IsOfServer i (Late at number limit now) = at ≡ i
IsOfServer i (CameLate at number ask answer bytes) = at ≡ i
IsOfServer i (Spelled at number ask answer bytes) = at ≡ i
IsOfServer i (Lost at why limit) = at ≡ i
IsOfServer i (Opened client) = ⊥
IsOfServer i (NotOpened fault) = ⊥
IsOfServer i (Fed client piece) = ⊥
IsOfServer i (Polled client poll) = ⊥
IsOfServer i (Stopped client fault) = ⊥
IsOfServer i (Gave client bytes) = ⊥
IsOfServer i (Closed client) = ⊥
IsOfServer i (LeftLine client) = ⊥
IsOfServer i (Ticked now) = ⊥
IsOfServer i (Broke client) = ⊥
IsOfServer i (Loaded configuration generation) = ⊥
