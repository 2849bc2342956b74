-- Several runs of a program, one after another before the same servers, which may apply late what a run sent, also after it ended. Source: mcgate's own.
use Rattle.std.specs.Prelude.{◌≡◌, ℕ, ◌<◌, Bool, true, false, List, [], ◌∷◌, Option, Some}
use Rattle.mc_types.specs.declared.ask.Ask.{Ask}
use Rattle.mc_types.specs.Items.{Item}
use Rattle.fresh_runs.specs.Overlap.{Entry}
use Rattle.fresh_runs.specs.Run.{Event, Begins, Calls, Replies, Breaks, Turns, Restarts, IsFreshByNumber}
use Rattle.route_tree.specs.Each.{Each}
use Rattle.route_tree.specs.Route.{Route, IsTree}
use Rattle.route_tree.specs.At.{tree_at}
use Rattle.gate_check.specs.Sound.{AreLoaded, trees_of}
use Rattle.gate_growth.specs.Grown.{AreSoundSince, OpensBy}
use Rattle.core_commands.specs.declared.sharing.Sharing.TheVariants.{Alone}
use Rattle.core_proxy.specs.Claims.{bars_by}
use Rattle.core_proxy.specs.CoreState.{dialect}
use Rattle.core_accepted.specs.declared.served.ServedCore.{ServedCore}
use Rattle.core_accepted.specs.Known.{Known, is_arbitrary}
use Rattle.core_accepted.specs.Logs.{MayHaveLed}
use Rattle.core_accepted.specs.Late.{Does, Lands, told, begun_late, IsFreshBy, WasOver}
use Rattle.core_accepted.specs.Pipes.{PipeStep, Sends, Moves, Closes, moments_of, pipe_of}
use Rattle.core_accepted.specs.Parts.{Own, AreChanges, part, NumbersRise, ServesPipes, PipesInOrder}
use Rattle.core_accepted.specs.Rollout.{words_by}
use Rattle.fresh_theory.specs.Parts.{renamed}
use Rattle.fresh_theory.specs.InTurn.{AreInTurn}

-- `run n`: in which run of the program command n began. Each run has a connection of its own to each server
module _ (run : ℕ → ℕ) where
  abbrev pub line_of : ℕ → ℕ → ℕ
  line_of number server = run number

  -- nothing that another run sent to this server may still be applied there
  abbrev pub OthersAreDone : List PipeStep → (own server : ℕ) → Type 0
  OthersAreDone past own server = (other : ℕ) → (other ≡ own → ⊥) → pipe_of line_of past other server ≡ []

  -- `clean p`: the runs before run p are known to have ended with nothing in flight
  module _ (clean : ℕ → Bool) where
    -- where that is known, nothing that another run sent may still be applied when a command of the run begins
    abbrev pub EndedClean : List PipeStep → Type 0
    EndedClean [] = Unit {0}
    EndedClean (Sends number server ask origin ∷ past) = EndedClean past
    EndedClean (Moves (Does (Begins number ask)) ∷ past) = (clean (run number) ≡ true → (server : ℕ) → OthersAreDone past (run number) server) × EndedClean past
    EndedClean (Moves (Does (Calls number server ask origin end)) ∷ past) = EndedClean past
    EndedClean (Moves (Does (Replies number key reply from)) ∷ past) = EndedClean past
    EndedClean (Moves (Does (Breaks number)) ∷ past) = EndedClean past
    EndedClean (Moves (Does (Turns server key turned)) ∷ past) = EndedClean past
    EndedClean (Moves (Does (Restarts server)) ∷ past) = EndedClean past
    EndedClean (Moves (Lands number server ask origin stamp answer spaces) ∷ past) = EndedClean past
    EndedClean (Closes line server ∷ past) = EndedClean past

    -- where it isn't, a server is asked for nothing before what others sent to it was applied, or never is
    abbrev pub WaitToSettle : List PipeStep → Type 0
    WaitToSettle [] = Unit {0}
    WaitToSettle (Sends number server ask origin ∷ past) = (clean (run number) ≡ false → OthersAreDone past (run number) server) × WaitToSettle past
    WaitToSettle (Moves moment ∷ past) = WaitToSettle past
    WaitToSettle (Closes line server ∷ past) = WaitToSettle past

-- the core of each run of the program, a log that may have led to it, what its commands do, also with calls whose results the log doesn't have, as where the run was killed; and how that stands in what happened at the servers and connections
pub record AreLateRunsInTurn (trees : List Route) (served : ℕ → ServedCore) (opening : ℕ → List ℕ → Option Item) (steps : List PipeStep) : Type 0 where
  -- in which run of the program a command began
  pub run : ℕ → ℕ
  -- the number among all commands of a command of a run
  pub name : ℕ → ℕ → ℕ
  pub rising : (p n m : ℕ) → n < m → name p n < name p m
  -- what each core's log says that servers held when its run began
  pub believes : ℕ → ℕ → List ℕ → Option Item
  pub logs : ℕ → List (Entry dialect)
  pub led : (p : ℕ) → MayHaveLed (believes p) (logs p) (served p)
  pub does : ℕ → List Event
  pub own : (p : ℕ) → Own (words_by (led p).tree) (bars_by (served p).core.limits.sharing (λ n key. tree_at ((led p).tree n) key)) (does p)
  -- the tree of a command, which is that which its run had loaded when it began
  pub tree : ℕ → Route
  pub runs_by : (p n : ℕ) (ask : Ask) → begun_late (does p) n ≡ Some ask → (run (name p n) ≡ p) × (tree (name p n) ≡ (led p).tree n)
  -- a run begins with the last tree of the history that the one before wrote, or with one that follows it
  pub loaded : AreLoaded trees tree
  pub parts : (p : ℕ) → AreChanges (renamed (name p) (does p)) (part run p (told opening (moments_of steps)))
  pub rise : NumbersRise (told opening (moments_of steps))
  pub serves : ServesPipes opening (moments_of steps)
  pub order : PipesInOrder (line_of run) steps
  pub in_turn : AreInTurn run (told opening (moments_of steps))
  -- whether a run knows that those before it ended with nothing in flight
  pub clean : ℕ → Bool
  pub ended : EndedClean run clean steps
  pub waits : WaitToSettle run clean steps

-- with one history, whose configurations the gate accepted one after another: a command that begins in any run of the program after a delete of its key was acknowledged in any shows no item of a store that was over when the delete began; where each command has its key alone, that holds by numbers too
abbrev pub LateRunsInTurnAreFresh : Type 0
LateRunsInTurnAreFresh =
    (known : Known) → Each IsTree (trees_of known.configs) → AreSoundSince (is_arbitrary known) (trees_of known.configs)
    → (served : ℕ → ServedCore) (opening : ℕ → List ℕ → Option Item) (steps : List PipeStep) → AreLateRunsInTurn (trees_of known.configs) served opening steps
    → OpensBy (is_arbitrary known) (trees_of known.configs) opening
    → IsFreshBy opening WasOver (moments_of steps) × (((p : ℕ) → (served p).core.limits.sharing ≡ Alone) → IsFreshByNumber opening (told opening (moments_of steps)))
