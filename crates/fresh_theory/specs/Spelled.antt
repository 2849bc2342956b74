-- That what bytes spelled to calls is what servers answered to them. Source: mcgate's own.
use Rattle.std.specs.Prelude.{◌≡◌, ℕ, List, [], ◌∷◌, ◌++◌, Option, Some, None, ◌⊎◌, if◌then◌else◌, nat_eq}
use Rattle.mc_types.specs.declared.answer.Answer.{Answer}
use Rattle.mc_types.specs.declared.call.Outcome.{Outcome}
use Rattle.mc_types.specs.declared.call.Outcome.TheVariants.{Answered, Failed}
use Rattle.mc_types.specs.Items.{Item}
use Rattle.fresh_runs.specs.Calls.{Call, Read, Unread, Never}
use Rattle.fresh_runs.specs.Run.{Begins, Calls, Replies, Breaks, Turns, Restarts, calls_so_far}
use Rattle.fresh_runs.specs.Overlap.{Entry, run_of}
use Rattle.core_proxy.specs.CoreState.{dialect}
use Rattle.core_accepted.specs.declared.served.ServedCore.{ServedCore}
use Rattle.core_accepted.specs.Late as at_servers
use Rattle.core_accepted.specs.Late.{Moment, Lands, seen}
use Rattle.core_accepted.specs.Parts.{ServesPipes}
use Rattle.serve_links.specs.CoreSteps.{Step, Settled, Linked, Spelled, CameLate}
use Rattle.serve_links.specs.Called.{TellsCallsOut, call_in, due_in}
use Rattle.serve_links.specs.Talks.{IsOrderly}
use Rattle.serve_links.specs.InOrder.{Move, OfProxy, OfServer, walk_of, log_of, moments_in, AreApplied, LeadAlong, CallIsAwaited, TellAlways, HappensAlong}

-- ---- what servers answer

-- an answer, and the number of the call to which a server gave it
abbrev pub GivenAnswer : Type 0
GivenAnswer = ℕ × Answer

-- without the first
abbrev pub behind_answer : List GivenAnswer → List GivenAnswer
behind_answer [] = []
behind_answer (given ∷ others) = others

-- a server answers each call that it applies
abbrev pub with_given : Moment → ℕ → List GivenAnswer → List GivenAnswer
with_given (at_servers.Does (Calls number server ask origin (Read stamp answer spaces))) s given = if nat_eq server s then given ++ (number, answer) ∷ [] else given
with_given (at_servers.Does (Calls number server ask origin (Unread stamp answer spaces))) s given = if nat_eq server s then given ++ (number, answer) ∷ [] else given
with_given (at_servers.Does (Calls number server ask origin Never)) s given = given
with_given (Lands number server ask origin stamp answer spaces) s given = if nat_eq server s then given ++ (number, answer) ∷ [] else given
with_given (at_servers.Does (Begins number ask)) s given = given
with_given (at_servers.Does (Replies number key reply from)) s given = given
with_given (at_servers.Does (Breaks number)) s given = given
with_given (at_servers.Does (Turns server key turned)) s given = given
with_given (at_servers.Does (Restarts server)) s given = given

-- the proxy reads an answer, to a call that is out or one that was late; over a new connection there is none yet
abbrev pub after_read : Step → ℕ → List GivenAnswer → List GivenAnswer
after_read (Spelled at number ask answer bytes) s given = if nat_eq at s then behind_answer given else given
after_read (CameLate at number ask answer bytes) s given = if nat_eq at s then behind_answer given else given
after_read (Linked at greeting) s given = if nat_eq at s then [] else given
after_read _ s given = given

-- what the server answered over its connection that the proxy hasn't read yet, in the order in which the server applied what came there
abbrev pub unread : List Move → ℕ → List GivenAnswer
unread [] s = []
unread (OfProxy step entries ∷ past) s = after_read step s (unread past s)
unread (OfServer place moment ∷ past) s = with_given moment s (unread past s)

-- this answer is the first of these
abbrev pub IsFirstGiven : Answer → List GivenAnswer → Type 0
IsFirstGiven answer given = (number : ℕ) × (others : List GivenAnswer) × (given ≡ (number, answer) ∷ others)

-- what the bytes of a server spell is the first of what it answered
abbrev pub SpellsGiven : Step → List Move → Type 0
SpellsGiven (Spelled at number ask answer bytes) past = IsFirstGiven answer (unread past at)
SpellsGiven (CameLate at number ask answer bytes) past = IsFirstGiven answer (unread past at)
SpellsGiven _ past = Unit {0}

-- the answers that come over connections are the servers', in the order in which each applied what came there. Of which call each is isn't said
abbrev pub AnswersCome : List Move → Type 0
AnswersCome [] = Unit {0}
AnswersCome (OfProxy step entries ∷ past) = SpellsGiven step past × AnswersCome past
AnswersCome (OfServer place moment ∷ past) = AnswersCome past

-- ---- how what happened is written down

-- both were answered, or both have failed
abbrev pub SameKind : Outcome → Outcome → Type 0
SameKind (Answered one) (Answered other) = Unit {0}
SameKind Failed Failed = Unit {0}
SameKind (Answered one) Failed = ⊥
SameKind Failed (Answered other) = ⊥

-- the same calls of the same servers, with outcomes of the same kind
abbrev pub AreSameCalls : List Call → List Call → Type 0
AreSameCalls [] [] = Unit {0}
AreSameCalls (one ∷ ones) (other ∷ others) = (one.server ≡ other.server) × (one.ask ≡ other.ask) × (one.origin ≡ other.origin) × SameKind one.outcome other.outcome × AreSameCalls ones others
AreSameCalls [] (other ∷ others) = ⊥
AreSameCalls (one ∷ ones) [] = ⊥

-- of each command, what happened and the log tell the same calls, answered or failed alike, whatever the answers; but for one that is out, which has ended, and whose result the log doesn't have yet
abbrev pub TellKinds : List Move → Type 0
TellKinds past =
    (n : ℕ) → AreSameCalls (calls_so_far (seen (moments_in past)) n) (calls_so_far (run_of (log_of past)) n)
    ⊎ ((first : List Call) × (call : Call) × (calls_so_far (seen (moments_in past)) n ≡ first ++ call ∷ []) × AreSameCalls first (calls_so_far (run_of (log_of past)) n) × CallIsAwaited (log_of past) n call)

-- the call that a step settles, and its outcome
abbrev pub settled_by : Step → Option (ℕ × Outcome)
settled_by (Settled number outcome) = Some (number, outcome)
settled_by _ = None

-- by its entries the log has one call more of this number, with this outcome; or of no command a call more
abbrev pub HasMore : Option (ℕ × Outcome) → List (Entry dialect) → List (Entry dialect) → Type 0
HasMore None entries log = (n : ℕ) → calls_so_far (run_of (entries ++ log)) n ≡ calls_so_far (run_of log) n
HasMore (Some settled) entries log =
    (call : Call) × (call.outcome ≡ settled.1)
    × ((n : ℕ) → calls_so_far (run_of (entries ++ log)) n ≡ (if nat_eq settled.0 n then calls_so_far (run_of log) n ++ call ∷ [] else calls_so_far (run_of log) n))

-- a call that is told to have been answered is out, and was asked of its server
abbrev pub WasAsked : Moment → List Step → Type 0
WasAsked (at_servers.Does (Calls number server ask origin (Read stamp answer spaces))) past = (call_in past number ≡ Some (server, ask)) × (due_in past number ≡ None)
WasAsked _ past = Unit {0}

-- at each time it is told so; and the log has each outcome once the step has settled it
abbrev pub AreTold : List Move → Type 0
AreTold [] = Unit {0}
AreTold (OfProxy step entries ∷ past) = TellKinds (OfProxy step entries ∷ past) × HasMore (settled_by step) entries (log_of past) × AreTold past
AreTold (OfServer place moment ∷ past) = TellKinds (OfServer place moment ∷ past) × WasAsked moment (walk_of past) × AreTold past

-- a law of all walks in which all happens in order: if the answers that come over connections are the servers', in order, each call has by the log the answer that its server gave to just that call
abbrev pub SpelledTellAlways : Type 0
SpelledTellAlways =
    (first last : ServedCore) (believes : ℕ → List ℕ → Option Item) (moves : List Move)
    → TellsCallsOut [] first → LeadAlong believes moves first last → IsOrderly (walk_of moves) → AreApplied moves → AreTold moves → AnswersCome moves → TellAlways moves

-- what happens at servers while the core goes from one state to the other, where of answers is said only that they come in order
pub record HappensInOrder (opening : ℕ → List ℕ → Option Item) (moves : List Move) (first last : ServedCore) : Type 0 where
  -- what the log says that servers held at first
  pub believes : ℕ → List ℕ → Option Item
  pub leads : LeadAlong believes moves first last
  pub told : AreTold moves
  pub answers : AnswersCome moves
  pub serves : ServesPipes opening (moments_in moves)
  pub applied : AreApplied moves

-- so all that is proved of what happens along a walk holds of this
abbrev pub InOrderHappensAlong : Type 0
InOrderHappensAlong =
    (opening : ℕ → List ℕ → Option Item) (moves : List Move) (first last : ServedCore) → TellsCallsOut [] first → IsOrderly (walk_of moves)
    → HappensInOrder opening moves first last → HappensAlong opening moves first last
