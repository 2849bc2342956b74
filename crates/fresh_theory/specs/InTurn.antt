-- Several runs of a program, one after another before the same servers. Source: mcgate's own.
use Rattle.std.specs.Prelude.{◌≡◌, ℕ, ◌<◌, List, [], ◌∷◌, Option, Some, None}
use Rattle.mc_types.specs.declared.ask.Ask.{Ask}
use Rattle.mc_types.specs.Items.{Item}
use Rattle.fresh_runs.specs.Overlap.{Entry, run_of}
use Rattle.fresh_runs.specs.Run.{Event, Begins, Calls, Replies, Breaks, Turns, Restarts, under_way, EndsWell, IsFresh}
use Rattle.route_tree.specs.Each.{Each}
use Rattle.route_tree.specs.Route.{Route, IsTree}
use Rattle.gate_check.specs.Sound.{AreLoaded, trees_of}
use Rattle.gate_growth.specs.Grown.{AreSoundSince, OpensBy}
use Rattle.core_proxy.specs.CoreState.{dialect}
use Rattle.core_accepted.specs.declared.served.ServedCore.{ServedCore}
use Rattle.core_accepted.specs.Known.{Known, is_arbitrary}
use Rattle.core_accepted.specs.Logs.{MayHaveLed}
use Rattle.core_accepted.specs.Late.{begun_late}
use Rattle.core_accepted.specs.Parts.{AreChanges, part, NumbersRise}
use Rattle.fresh_theory.specs.Parts.{renamed}

-- no command begins while one of another run of the program is under way: what a run leaves under way when it ends is broken off, and its calls were applied before the next run begins, or never are
abbrev pub AreInTurn : (ℕ → ℕ) → List Event → Type 0
AreInTurn run [] = Unit {0}
AreInTurn run (Begins number ask ∷ past) = ((other : ℕ) (client : Ask) → under_way past other ≡ Some client → run other ≡ run number) × AreInTurn run past
AreInTurn run (Calls number server ask origin end ∷ past) = AreInTurn run past
AreInTurn run (Replies number key reply from ∷ past) = AreInTurn run past
AreInTurn run (Breaks number ∷ past) = AreInTurn run past
AreInTurn run (Turns server key turned ∷ past) = AreInTurn run past
AreInTurn run (Restarts server ∷ past) = AreInTurn run past

-- servers answer by what they hold, may lose it, and nobody else writes them
abbrev pub AreServed : (ℕ → List ℕ → Option Item) → List Event → Type 0
AreServed opening [] = Unit {0}
AreServed opening (Begins number ask ∷ past) = AreServed opening past
AreServed opening (Calls number server ask origin end ∷ past) = EndsWell opening past number server ask origin end × AreServed opening past
AreServed opening (Replies number key reply from ∷ past) = AreServed opening past
AreServed opening (Breaks number ∷ past) = AreServed opening past
AreServed opening (Turns server key turned ∷ past) = (turned ≡ None) × AreServed opening past
AreServed opening (Restarts server ∷ past) = AreServed opening past

-- the core of each run of the program, a log that may have led to it, and how these logs stand in what happened at the servers
pub record AreRunsInTurn (trees : List Route) (served : ℕ → ServedCore) (opening : ℕ → List ℕ → Option Item) (events : List Event) : Type 0 where
  -- in which run of the program a command began
  pub run : ℕ → ℕ
  -- the number among all commands of a command of a run
  pub name : ℕ → ℕ → ℕ
  pub rising : (p n m : ℕ) → n < m → name p n < name p m
  -- what each core's log says that servers held when its run began
  pub believes : ℕ → ℕ → List ℕ → Option Item
  pub logs : ℕ → List (Entry dialect)
  pub led : (p : ℕ) → MayHaveLed (believes p) (logs p) (served p)
  -- the tree of a command, which is that which its run had loaded when it began
  pub tree : ℕ → Route
  pub runs_by : (p n : ℕ) (ask : Ask) → begun_late (run_of (logs p)) n ≡ Some ask → (run (name p n) ≡ p) × (tree (name p n) ≡ (led p).tree n)
  -- a run begins with the last tree of the history that the one before wrote, or with one that follows it
  pub loaded : AreLoaded trees tree
  pub parts : (p : ℕ) → AreChanges (renamed (name p) (run_of (logs p))) (part run p events)
  pub rise : NumbersRise events
  pub serves : AreServed opening events
  pub in_turn : AreInTurn run events

-- with one history, whose configurations the gate accepted one after another: a command that begins in any run of the program after a delete of its key was acknowledged in any shows no item of a store that was over when the delete began
abbrev pub RunsInTurnAreFresh : Type 0
RunsInTurnAreFresh =
    (known : Known) → Each IsTree (trees_of known.configs) → AreSoundSince (is_arbitrary known) (trees_of known.configs)
    → (served : ℕ → ServedCore) (opening : ℕ → List ℕ → Option Item) (events : List Event) → AreRunsInTurn (trees_of known.configs) served opening events
    → OpensBy (is_arbitrary known) (trees_of known.configs) opening → IsFresh opening events
