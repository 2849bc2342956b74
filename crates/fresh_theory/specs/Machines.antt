-- Servers that are one machine: an address that came back, or whose name led elsewhere, has another number each time. Source: mcgate's own.
use Rattle.std.specs.Prelude.{◌≡◌, ℕ, Bool, true, List, [], ◌∷◌, Option, None, if◌then◌else◌, nat_eq}
use Rattle.mc_types.specs.declared.ask.Ask.{Ask}
use Rattle.mc_types.specs.declared.call.Origin.{Origin}
use Rattle.mc_types.specs.Items.{Item}
use Rattle.mc_types.specs.Agree.{AnswerAgrees}
use Rattle.fresh_runs.specs.Calls.{End, Read, Unread, Never}
use Rattle.fresh_runs.specs.Overlap.{Entry}
use Rattle.fresh_runs.specs.Run.{Event, Begins, Calls, Replies, Breaks, Turns, Restarts, held, GivesStamp}
use Rattle.route_tree.specs.At.{tree_at}
use Rattle.gate_check.specs.Sound.{trees_of}
use Rattle.gate_growth.specs.Grown.{OpensBy}
use Rattle.core_proxy.specs.Claims.{bars_by}
use Rattle.core_proxy.specs.CoreState.{dialect}
use Rattle.core_accepted.specs.declared.served.ServedCore.{ServedCore}
use Rattle.core_accepted.specs.Known.{Known, is_arbitrary}
use Rattle.core_accepted.specs.Logs.{MayHaveLed}
use Rattle.core_accepted.specs.Late.{Moment, Does, Lands, seen, told, HasFailed, IsFreshBy, WasOver}
use Rattle.core_accepted.specs.Pipes.{PipeStep, Sends, Moves, Closes, moments_of, pipe_of}
use Rattle.core_accepted.specs.Parts.{Own, part, PipesInOrder}
use Rattle.core_accepted.specs.Rollout.{words_by}
use Rattle.core_accepted.specs.LateCores.{only_proxy, only_line}
use Rattle.fresh_theory.specs.Emptied.{emptied_opening}
use Rattle.fresh_theory.specs.Flushed.{AreFlushedFirst}

-- `machine s`: which machine server s is
module _ (machine : ℕ → ℕ) where
  -- the same, told of machines
  abbrev pub on_machine : Event → Event
  on_machine (Begins number ask) = Begins number ask
  on_machine (Calls number server ask origin end) = Calls number (machine server) ask origin end
  on_machine (Replies number key reply from) = Replies number key reply from
  on_machine (Breaks number) = Breaks number
  on_machine (Turns server key turned) = Turns (machine server) key turned
  on_machine (Restarts server) = Restarts (machine server)

  abbrev pub at_machines : List Moment → List Moment
  at_machines [] = []
  at_machines (Does event ∷ past) = Does (on_machine event) ∷ at_machines past
  at_machines (Lands number server ask origin stamp answer spaces ∷ past) = Lands number (machine server) ask origin stamp answer spaces ∷ at_machines past

  -- `first m`: the number that machine m had at first.
  -- the number that a machine has: the last one under which it was emptied
  abbrev pub number_of : (ℕ → ℕ) → List Event → ℕ → ℕ
  number_of first [] m = first m
  number_of first (Restarts server ∷ past) m = if nat_eq (machine server) m then server else number_of first past m
  number_of first (Begins number ask ∷ past) m = number_of first past m
  number_of first (Calls number server ask origin end ∷ past) m = number_of first past m
  number_of first (Replies number key reply from ∷ past) m = number_of first past m
  number_of first (Breaks number ∷ past) m = number_of first past m
  number_of first (Turns server key turned ∷ past) m = number_of first past m

  -- those servers, and each number that its machine had later
  abbrev pub or_later : (ℕ → ℕ) → (ℕ → Bool) → ℕ → Bool
  or_later first flushed server = if nat_eq (first (machine server)) server then flushed server else true

  -- a machine is asked under the number that it has, and told under it of what it lost; it is emptied under a number only once nothing that was sent under others may still be applied
  abbrev pub NumbersInTurn : (ℕ → ℕ) → List PipeStep → Type 0
  NumbersInTurn first [] = Unit {0}
  NumbersInTurn first (Sends number server ask origin ∷ past) = (number_of first (seen (moments_of past)) (machine server) ≡ server) × NumbersInTurn first past
  NumbersInTurn first (Moves (Does (Restarts server)) ∷ past) =
      ((other : ℕ) → machine other ≡ machine server → (other ≡ server → ⊥) → pipe_of only_line past 0 other ≡ []) × NumbersInTurn first past
  NumbersInTurn first (Moves (Does (Turns server key turned)) ∷ past) = (number_of first (seen (moments_of past)) (machine server) ≡ server) × NumbersInTurn first past
  NumbersInTurn first (Moves (Does (Begins number ask)) ∷ past) = NumbersInTurn first past
  NumbersInTurn first (Moves (Does (Calls number server ask origin end)) ∷ past) = NumbersInTurn first past
  NumbersInTurn first (Moves (Does (Replies number key reply from)) ∷ past) = NumbersInTurn first past
  NumbersInTurn first (Moves (Does (Breaks number)) ∷ past) = NumbersInTurn first past
  NumbersInTurn first (Moves (Lands number server ask origin stamp answer spaces) ∷ past) = NumbersInTurn first past
  NumbersInTurn first (Closes line server ∷ past) = NumbersInTurn first past

  -- `base m`: what machine m held at first
  module _ (base : ℕ → List ℕ → Option Item) where
    abbrev pub by_number : ℕ → List ℕ → Option Item
    by_number server key = base (machine server) key

    -- what the machine of a server holds
    abbrev pub held_there : List Moment → ℕ → List ℕ → Option Item
    held_there past server key = held base (told base (at_machines past)) (machine server) key

    -- a call that is applied agrees with what its machine holds just before, and gives the stamp of its origin
    abbrev pub EndsThere : List Moment → ℕ → ℕ → Ask → Origin → End → Type 0
    EndsThere past number server ask origin (Read stamp answer spaces) = AnswerAgrees ask answer (held_there past server ask.key) × GivesStamp by_number (told by_number past) number origin stamp
    EndsThere past number server ask origin (Unread stamp answer spaces) = AnswerAgrees ask answer (held_there past server ask.key) × GivesStamp by_number (told by_number past) number origin stamp
    EndsThere past number server ask origin Never = Unit {0}

    abbrev pub MayServeThere : List Moment → Moment → Type 0
    MayServeThere past (Does (Calls number server ask origin end)) = EndsThere past number server ask origin end
    MayServeThere past (Lands number server ask origin stamp answer spaces) =
        HasFailed (told by_number past) number server ask origin × AnswerAgrees ask answer (held_there past server ask.key) × GivesStamp by_number (told by_number past) number origin stamp
    MayServeThere past (Does (Begins number ask)) = Unit {0}
    MayServeThere past (Does (Replies number key reply from)) = Unit {0}
    MayServeThere past (Does (Breaks number)) = Unit {0}
    MayServeThere past (Does (Turns server key turned)) = turned ≡ None
    MayServeThere past (Does (Restarts server)) = Unit {0}

    -- machines do as memcached does, and nobody else writes them
    abbrev pub MachinesServe : List Moment → Type 0
    MachinesServe [] = Unit {0}
    MachinesServe (moment ∷ past) = MayServeThere past moment × MachinesServe past

    -- what is told of a number where a call is applied is what its machine holds
    abbrev pub IsHeldThere : List Moment → ℕ → Ask → End → Type 0
    IsHeldThere past server ask (Read stamp answer spaces) = held by_number (told by_number past) server ask.key ≡ held_there past server ask.key
    IsHeldThere past server ask (Unread stamp answer spaces) = held by_number (told by_number past) server ask.key ≡ held_there past server ask.key
    IsHeldThere past server ask Never = Unit {0}

    abbrev pub AreHeldThere : List Moment → Type 0
    AreHeldThere [] = Unit {0}
    AreHeldThere (Does (Calls number server ask origin end) ∷ past) = IsHeldThere past server ask end × AreHeldThere past
    AreHeldThere (Lands number server ask origin stamp answer spaces ∷ past) = (held by_number (told by_number past) server ask.key ≡ held_there past server ask.key) × AreHeldThere past
    AreHeldThere (Does (Begins number ask) ∷ past) = AreHeldThere past
    AreHeldThere (Does (Replies number key reply from) ∷ past) = AreHeldThere past
    AreHeldThere (Does (Breaks number) ∷ past) = AreHeldThere past
    AreHeldThere (Does (Turns server key turned) ∷ past) = AreHeldThere past
    AreHeldThere (Does (Restarts server) ∷ past) = AreHeldThere past

    -- a log that may have led to the core, and what its commands do by what happened at the machines
    pub record DoesAtMachines (served : ServedCore) (moments : List Moment) : Type 0 where
      -- what the log says that servers held at first
      pub believes : ℕ → List ℕ → Option Item
      pub log : List (Entry dialect)
      pub led : MayHaveLed believes log served
      pub own : Own (words_by led.tree) (bars_by served.core.limits.sharing (λ n key. tree_at (led.tree n) key)) (part only_proxy 0 (seen moments))
      pub serves : MachinesServe moments

-- where numbers of machines are taken in turn, and servers that held something at first were flushed before they applied a call, as is a machine under each later number: what is told of a number where a call is applied is what its machine holds; and a command that begins after a delete of its key was acknowledged shows no item of a store that was over when the delete began
abbrev pub EveryRunAtMachinesIsFresh : Known → ServedCore → Type 0
EveryRunAtMachinesIsFresh known served =
    (machine first : ℕ → ℕ) (base : ℕ → List ℕ → Option Item) (flushed : ℕ → Bool)
    → OpensBy (is_arbitrary known) (trees_of known.configs) (emptied_opening (or_later machine first flushed) (by_number machine base))
    → (steps : List PipeStep) → DoesAtMachines machine base served (moments_of steps) → PipesInOrder only_line steps → NumbersInTurn machine first steps → AreFlushedFirst flushed (moments_of steps)
    → AreHeldThere machine base (moments_of steps) × IsFreshBy (by_number machine base) WasOver (moments_of steps)
