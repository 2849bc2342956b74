-- One proxy's core on accepted trees, before servers that owe calls which the proxy answered. Source: mcgate's own.
use Rattle.std.specs.Prelude.{◌≡◌, ℕ, Bool, true, false, List, [], ◌∷◌, Option, Some, None}
use Rattle.mc_types.specs.declared.ask.Ask.{Ask}
use Rattle.mc_types.specs.declared.answer.Answer.{Answer}
use Rattle.mc_types.specs.declared.call.Origin.{Origin}
use Rattle.mc_types.specs.Items.{Item}
use Rattle.mc_types.specs.Agree.{AnswerAgrees}
use Rattle.fresh_runs.specs.Calls.{End}
use Rattle.fresh_runs.specs.Run.{Event, Begins, Calls, Replies, Breaks, Turns, Restarts, under_way, held, GivesStamp, EndsWell, IsFresh}
use Rattle.fresh_runs.specs.Overlap.{Entry}
use Rattle.route_tree.specs.At.{tree_at}
use Rattle.core_proxy.specs.Claims.{bars_by}
use Rattle.core_proxy.specs.CoreState.{dialect}
use Rattle.core_accepted.specs.declared.served.ServedCore.{ServedCore}
use Rattle.core_accepted.specs.Logs.{MayHaveLed}
use Rattle.core_accepted.specs.Late.{Does, Lands, HasFailed}
use Rattle.core_accepted.specs.Parts.{Own, part}
use Rattle.core_accepted.specs.Rollout.{words_by}
use Rattle.gate_check.specs.Sound.{trees_of}
use Rattle.gate_growth.specs.Grown.{OpensBy}
use Rattle.core_accepted.specs.Known.{Known, is_arbitrary}
use Rattle.core_accepted.specs.LateCores.{only_proxy}
use Rattle.core_accepted.specs.Owed.{OwedMoment, Sees, Owes, Repays, Empties, owed, told_owed, IsUnanswered}
use Rattle.core_accepted.specs.OwedPipes.{OwedStep, Sends, Writes, Moves, Closes, owed_moments, slots_of, HasNoOwing, ObeysOwed}

module _ (opening : ℕ → List ℕ → Option Item) where
  -- what a server makes of a call; while its key is owed, that it isn't answered
  abbrev pub ServesCall : Bool → List Event → (number server : ℕ) → Ask → Origin → End → Type 0
  ServesCall true past number server ask origin end = IsUnanswered end
  ServesCall false past number server ask origin end = EndsWell opening past number server ask origin end

  abbrev pub ServesLanding : Bool → List Event → (number server : ℕ) → Ask → Origin → (stamp : ℕ) → Answer → Type 0
  ServesLanding true past number server ask origin stamp answer = Unit {0}
  ServesLanding false past number server ask origin stamp answer =
      HasFailed past number server ask origin × AnswerAgrees ask answer (held opening past server ask.key) × GivesStamp opening past number origin stamp

  -- what servers do, and that nobody else writes them; and a call is answered by the proxy as by a server that holds nothing
  abbrev pub MayServeOwed : List OwedMoment → OwedMoment → Type 0
  MayServeOwed past (Owes number server ask answer) = AnswerAgrees ask answer None
  MayServeOwed past (Sees (Does (Calls number server ask origin end))) = ServesCall (owed past server ask.key) (told_owed opening past) number server ask origin end
  MayServeOwed past (Sees (Lands number server ask origin stamp answer spaces)) = ServesLanding (owed past server ask.key) (told_owed opening past) number server ask origin stamp answer
  MayServeOwed past (Sees (Does (Turns server key turned))) = turned ≡ None
  MayServeOwed past (Sees (Does (Begins number ask))) = Unit {0}
  MayServeOwed past (Sees (Does (Replies number key reply from))) = Unit {0}
  MayServeOwed past (Sees (Does (Breaks number))) = Unit {0}
  MayServeOwed past (Sees (Does (Restarts server))) = Unit {0}
  MayServeOwed past (Repays server key) = Unit {0}
  MayServeOwed past (Empties server) = Unit {0}

  abbrev pub ServesOwed : List OwedMoment → Type 0
  ServesOwed [] = Unit {0}
  ServesOwed (moment ∷ past) = MayServeOwed past moment × ServesOwed past

  -- what is sent is of a command under way, on its key, of which its server owes nothing; and what is applied is the first of its connection
  abbrev pub OwedInOrder : List OwedStep → Type 0
  OwedInOrder [] = Unit {0}
  OwedInOrder (Sends number server ask origin ∷ past) =
      (((client : Ask) × (under_way (told_owed opening (owed_moments past)) number ≡ Some client) × (ask.key ≡ client.key))
      × (owed (owed_moments past) server ask.key ≡ false)
      × HasNoOwing ask.key (slots_of past server))
      × OwedInOrder past
  OwedInOrder (Writes server key ∷ past) = OwedInOrder past
  OwedInOrder (Moves moment ∷ past) = ObeysOwed past moment × OwedInOrder past
  OwedInOrder (Closes server ∷ past) = OwedInOrder past

-- a log that may have led to the core, and what its commands do by what happened: as the trees by which they run allow by the log, and the rule of sharing; servers do as memcached does, and nobody else writes them; and over one connection to each, all is in order
pub record DoesOwing (served : ServedCore) (opening : ℕ → List ℕ → Option Item) (steps : List OwedStep) : Type 0 where
  -- what the log says that servers held at first
  pub believes : ℕ → List ℕ → Option Item
  pub log : List (Entry dialect)
  pub led : MayHaveLed believes log served
  pub own : Own (words_by led.tree) (bars_by served.core.limits.sharing (λ n key. tree_at (led.tree n) key)) (part only_proxy 0 (told_owed opening (owed_moments steps)))
  pub serves : ServesOwed opening (owed_moments steps)
  pub order : OwedInOrder opening steps

-- of all that happens so, a command that begins after a delete of its key was acknowledged, also by the proxy itself, shows no item of a store that was over when the delete began
abbrev pub EveryOwedRunIsFresh : ServedCore → Type 0
EveryOwedRunIsFresh served = (opening : ℕ → List ℕ → Option Item) (steps : List OwedStep) → DoesOwing served opening steps → IsFresh opening (told_owed opening (owed_moments steps))

-- the same where servers held at first what is said of them
abbrev pub EveryOwedRunFromIsFresh : Known → ServedCore → Type 0
EveryOwedRunFromIsFresh known served =
    (opening : ℕ → List ℕ → Option Item) → OpensBy (is_arbitrary known) (trees_of known.configs) opening
    → (steps : List OwedStep) → DoesOwing served opening steps → IsFresh opening (told_owed opening (owed_moments steps))
