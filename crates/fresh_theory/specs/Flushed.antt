-- What a core does, and its walk shows, where servers were flushed before they applied a call. Source: mcgate's own.
use Rattle.std.specs.Prelude.{◌≡◌, ℕ, Bool, true, List, [], ◌∷◌, Option, Some, slice_get}
use Rattle.mc_types.specs.declared.ask.Ask.{Ask}
use Rattle.mc_types.specs.declared.answer.Answer.{Answer}
use Rattle.mc_types.specs.declared.call.Origin.TheVariants.{CopyOf}
use Rattle.mc_types.specs.declared.call.Outcome.TheVariants.{Answered}
use Rattle.mc_types.specs.Items.{Item}
use Rattle.fresh_runs.specs.Calls.{Call, End, Read, Unread, Never}
use Rattle.fresh_runs.specs.Overlap.{Entry, run_of}
use Rattle.fresh_runs.specs.Run.{Event, Begins, Calls, Replies, Breaks, Turns, Restarts, LosesOnly}
use Rattle.route_json.specs.Configuration.{Configuration}
use Rattle.gate_check.specs.Sound.{trees_of}
use Rattle.gate_growth.specs.Grown.{OpensBy}
use Rattle.core_proxy.specs.CoreState.{dialect}
use Rattle.core_accepted.specs.declared.beginnings.Beginnings.{Beginnings}
use Rattle.core_accepted.specs.declared.served.ServedCore.{ServedCore}
use Rattle.core_accepted.specs.Known.{Known, is_arbitrary}
use Rattle.core_accepted.specs.Logs.{MayHaveLed, IsFreshLog, BeginSo}
use Rattle.core_accepted.specs.Late.{Moment, Does, Lands, seen, IsFreshBy, WasOver}
use Rattle.core_accepted.specs.Pipes.{PipeStep, moments_of}
use Rattle.core_accepted.specs.Parts.{PipesInOrder}
use Rattle.core_accepted.specs.LateCores.{only_line, DoesAsCore, LateRunsAreFreshFrom}
use Rattle.serve_links.specs.CoreSteps.{Step}
use Rattle.serve_links.specs.Called.{TellsCallsOut}
use Rattle.serve_links.specs.Talks.{IsOrderly}
use Rattle.serve_links.specs.InOrder.{Move, walk_of, moments_in, HappensAlong, AreFreshAlong}
use Rattle.fresh_theory.specs.Emptied.{WasEmptied, emptied_opening}

-- each call of a word that copies names one that was answered
abbrev pub NamesAnswered : (ℕ → Ask → List Call → Answer → Option ℕ → Type 0) → Type 0
NamesAnswered words =
    (number : ℕ) (ask : Ask) (calls : List Call) (reply : Answer) (from : Option ℕ) → words number ask calls reply from
    → (j : ℕ) (call : Call) (i : ℕ) → slice_get calls j ≡ Some call → call.origin ≡ CopyOf i → (named : Call) × (slice_get calls i ≡ Some named) × (answer : Answer) × (named.outcome ≡ Answered answer)

-- `flushed s`: server s was flushed before it applied a call
module _ (flushed : ℕ → Bool) where
  abbrev pub IsFlushed : List Moment → ℕ → Type 0
  IsFlushed past server = flushed server ≡ true → WasEmptied (seen past) server

  abbrev pub EndsFlushed : List Moment → ℕ → End → Type 0
  EndsFlushed past server (Read stamp answer spaces) = IsFlushed past server
  EndsFlushed past server (Unread stamp answer spaces) = IsFlushed past server
  EndsFlushed past server Never = Unit {0}

  -- no call is applied by such a server before it was flushed; calls may have failed unsent
  abbrev pub AreFlushedFirst : List Moment → Type 0
  AreFlushedFirst [] = Unit {0}
  AreFlushedFirst (Does (Calls number server ask origin end) ∷ past) = EndsFlushed past server end × AreFlushedFirst past
  AreFlushedFirst (Lands number server ask origin stamp answer spaces ∷ past) = IsFlushed past server × AreFlushedFirst past
  AreFlushedFirst (Does (Begins number ask) ∷ past) = AreFlushedFirst past
  AreFlushedFirst (Does (Replies number key reply from) ∷ past) = AreFlushedFirst past
  AreFlushedFirst (Does (Breaks number) ∷ past) = AreFlushedFirst past
  AreFlushedFirst (Does (Turns server key turned) ∷ past) = AreFlushedFirst past
  AreFlushedFirst (Does (Restarts server) ∷ past) = AreFlushedFirst past

-- where servers held something at first, and were flushed before they applied a call, a core is fresh as if they had held nothing
abbrev pub EveryRunFromFlushedIsFresh : Known → ServedCore → Type 0
EveryRunFromFlushedIsFresh known served =
    (flushed : ℕ → Bool) (opening : ℕ → List ℕ → Option Item) → OpensBy (is_arbitrary known) (trees_of known.configs) (emptied_opening flushed opening)
    → (steps : List PipeStep) → DoesAsCore served opening (moments_of steps) → AreFlushedFirst flushed (moments_of steps) → PipesInOrder only_line steps → IsFreshBy opening WasOver (moments_of steps)

-- events alone: nothing is applied late
abbrev pub in_time : List Event → List Moment
in_time [] = []
in_time (event ∷ past) = Does event ∷ in_time past

-- each log that may have led to the core is fresh so, too
abbrev pub EveryLogFromFlushedIsFresh : Known → ServedCore → Type 0
EveryLogFromFlushedIsFresh known served =
    (flushed : ℕ → Bool) (opening : ℕ → List ℕ → Option Item) → OpensBy (is_arbitrary known) (trees_of known.configs) (emptied_opening flushed opening)
    → (past : List (Entry dialect)) → MayHaveLed opening past served → AreFlushedFirst flushed (in_time (run_of past)) → LosesOnly (run_of past) → IsFreshLog served.core.limits.sharing opening past

-- whatever happens in these steps at servers that held this at first, some of which were flushed before they applied a call, and however late: a command that begins after a delete of its key was acknowledged shows no item of a store that was over when the delete began
abbrev pub FlushedAreFreshAlong : (ℕ → Bool) → (ℕ → List ℕ → Option Item) → List Step → ServedCore → ServedCore → Type 0
FlushedAreFreshAlong flushed opening steps first last =
    (moves : List Move) → walk_of moves ≡ steps → HappensAlong opening moves first last → AreFlushedFirst flushed (moments_in moves) → IsFreshBy opening WasOver (moments_in moves)

-- a law of all walks: where all happens in order, and the core to which they lead is fresh over connections in order to servers that held nothing of what they were flushed of, it is fresh over its own, whatever these held before
abbrev pub FlushedWalksAreFreshLate : Type 0
FlushedWalksAreFreshLate =
    (steps : List Step) (first last : ServedCore) → TellsCallsOut [] first → IsOrderly steps
    → (flushed : ℕ → Bool) (opening : ℕ → List ℕ → Option Item) → LateRunsAreFreshFrom (emptied_opening flushed opening) last → FlushedAreFreshAlong flushed opening steps first last

-- a law of all walks in which all happens in order: where all is fresh along one if servers began as is said of a configuration, it is so if those that began otherwise were flushed before they applied a call
abbrev pub FlushedBeginSo : Type 0
FlushedBeginSo =
    (configuration : Configuration) (begun : Beginnings) (steps : List Step) (first last : ServedCore) → TellsCallsOut [] first → IsOrderly steps
    → ((opening : ℕ → List ℕ → Option Item) → BeginSo configuration begun opening → AreFreshAlong opening steps first last)
    → (flushed : ℕ → Bool) (opening : ℕ → List ℕ → Option Item) → BeginSo configuration begun (emptied_opening flushed opening) → FlushedAreFreshAlong flushed opening steps first last
