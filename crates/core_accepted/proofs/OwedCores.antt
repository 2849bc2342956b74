-- What a core does on accepted trees before servers that owe calls is fresh.
use Rattle.std.proofs.Common.{◌≡◌, ℕ, Bool, true, false, List, [], ◌∷◌, ◌++◌, Option, Some, sym, ◌∙◌, subst}
use Rattle.mc_types.specs.declared.ask.Ask.{Ask}
use Rattle.mc_types.specs.declared.answer.Answer.{Answer}
use Rattle.mc_types.specs.declared.call.Origin.{Origin}
use Rattle.mc_types.specs.Items.{Item}
use Rattle.fresh_runs.specs.Calls.{Call, End, Read, Unread, Never, outcome_of}
use Rattle.fresh_runs.specs.Run.{Event, Begins, Calls, Replies, Breaks, Turns, Restarts, IsFront, held}
use Rattle.route_tree.specs.Route.{IsTree}
use Rattle.route_tree.specs.Each.{Each}
use Rattle.route_tree.specs.Plan.{Plan}
use Rattle.route_tree.specs.At.{tree_at}
use Rattle.gate_check.specs.Sound.{AreLoaded, trees_of}
use Rattle.gate_growth.specs.Grown.{AreSoundSince, OpensBy}
use Rattle.gate_growth.proofs.Since.{since_is_covered}
use Rattle.core_proxy.specs.Claims.{bars_by}
use Rattle.core_accepted.specs.declared.served.ServedCore.{ServedCore}
use Rattle.core_accepted.specs.Known.{Known, is_arbitrary}
use Rattle.core_accepted.specs.Logs.{MayBeLoaded, TreesAreSound}
use Rattle.core_accepted.proofs.Keeping as keeping
use Rattle.core_accepted.specs.Late.{Does, Lands, LandsEver}
use Rattle.core_accepted.specs.Parts.{Own, part}
use Rattle.core_accepted.specs.Rollout.{words_by}
use Rattle.core_accepted.specs.LateCores.{only_proxy}
use Rattle.core_accepted.specs.Owed as owed_specs
use Rattle.core_accepted.specs.Owed.{OwedMoment, Sees, Owes, Repays, Empties, owed, told_owed, OwedRun}
use Rattle.core_accepted.specs.OwedPipes.{OwedStep, Sends, Writes, Moves, Closes, owed_moments, OwedSteps}
use Rattle.core_accepted.specs.OwedCores as cores
use Rattle.core_accepted.specs.OwedCores.{ServesOwed, OwedInOrder, EveryOwedRunFromIsFresh}
use Rattle.core_accepted.proofs.OwedPipes.{owed_pipes_fresh}
use Rattle.core_accepted.proofs.LateCores.{new_in, way_part, calls_part}

own_whole : (words : ℕ → Ask → List Call → Answer → Option ℕ → Type 0) (Bars : ℕ → Ask → ℕ → Ask → Type 0) (events : List Event) → Own words Bars (part only_proxy 0 events) → Own words Bars events
own_whole words Bars [] own = tt
own_whole words Bars (Begins n ask ∷ past) own = ((new_in n past own.0.0, λ other client is key. own.0.1 other client (way_part past other ∙ is) key), own_whole words Bars past own.1)
own_whole words Bars (Calls n server ask origin end ∷ past) own = (
  (
    own.0.0,
    sym (way_part past n) ∙ own.0.1,
    own.0.2,
    subst (λ calls. IsFront words n own.0.0 (calls ++ record { server = server; ask = ask; origin = origin; outcome = outcome_of end } ∷ [])) (calls_part past n) own.0.3,
  ),
  own_whole words Bars past own.1,
)
own_whole words Bars (Replies n key reply from ∷ past) own =
    ((own.0.0, sym (way_part past n) ∙ own.0.1, own.0.2, subst (λ calls. words n own.0.0 calls reply from) (calls_part past n) own.0.3), own_whole words Bars past own.1)
own_whole words Bars (Breaks n ∷ past) own = ((own.0.0, sym (way_part past n) ∙ own.0.1), own_whole words Bars past own.1)
own_whole words Bars (Turns server key turned ∷ past) own = (tt, own_whole words Bars past own)
own_whole words Bars (Restarts server ∷ past) own = (tt, own_whole words Bars past own)

module _ (words : ℕ → Ask → List Call → Answer → Option ℕ → Type 0) (Bars : ℕ → Ask → ℕ → Ask → Type 0) (opening : ℕ → List ℕ → Option Item) where
  record Called (past : List Event) (number server : ℕ) (ask : Ask) (origin : Origin) (end : End) (o : Bool) : Type 0 where
    may : owed_specs.MayCall words Bars opening LandsEver o past number server ask origin end
    before : Own words Bars past

  called : (past : List Event) (number server : ℕ) (ask : Ask) (origin : Origin) (end : End) (o : Bool) (left : Option Item) → Own words Bars (owed_specs.called_events o number server ask origin end left past) → cores.ServesCall opening o past number server ask origin end → Called past number server ask origin end o
  called past number server ask origin (Read stamp answer spaces) true left own serves = absurd serves
  called past number server ask origin (Unread stamp answer spaces) true left own serves = record { may = ((own.1.0.0, own.1.0.1, own.1.0.2, own.1.0.3, tt), serves); before = own.1.1.1 }
  called past number server ask origin Never true left own serves = record { may = ((own.1.0.0, own.1.0.1, own.1.0.2, own.1.0.3, tt), serves); before = own.1.1.1 }
  called past number server ask origin (Read stamp answer spaces) false left own serves = record { may = (own.0.0, own.0.1, own.0.2, own.0.3, serves); before = own.1 }
  called past number server ask origin (Unread stamp answer spaces) false left own serves = record { may = (own.0.0, own.0.1, own.0.2, own.0.3, serves); before = own.1 }
  called past number server ask origin Never false left own serves = record { may = (own.0.0, own.0.1, own.0.2, own.0.3, serves); before = own.1 }

  landed : (past : List Event) (number server : ℕ) (ask : Ask) (origin : Origin) (stamp : ℕ) (answer : Answer) (o : Bool) → cores.ServesLanding opening o past number server ask origin stamp answer → owed_specs.MayLandThen words Bars opening LandsEver o past number server ask origin stamp answer
  landed past number server ask origin stamp answer true serves = tt
  landed past number server ask origin stamp answer false serves = (serves.0, tt, serves.1, serves.2)

  run_of : (past : List OwedMoment) → Own words Bars (told_owed opening past) → ServesOwed opening past → OwedRun words Bars opening LandsEver past
  run_of [] own serves = tt
  run_of (Owes number server ask answer ∷ past) own serves = ((own.1.0.0, own.1.0.1, own.1.0.2, own.1.0.3, serves.0), run_of past own.1.1.1 serves.1)
  run_of (Repays server key ∷ past) own serves = (tt, run_of past own.1 serves.1)
  run_of (Empties server ∷ past) own serves = (tt, run_of past own.1 serves.1)
  run_of (Sees (Does (Calls number server ask origin end)) ∷ past) own serves =
      let h = called (told_owed opening past) number server ask origin end (owed past server ask.key) (held opening (told_owed opening past) server ask.key) own serves.0 in
      (h.may, run_of past h.before serves.1)
  run_of (Sees (Lands number server ask origin stamp answer spaces) ∷ past) own serves = (landed (told_owed opening past) number server ask origin stamp answer (owed past server ask.key) serves.0, run_of past own.1 serves.1)
  run_of (Sees (Does (Begins number ask)) ∷ past) own serves = (own.0, run_of past own.1 serves.1)
  run_of (Sees (Does (Replies number key reply from)) ∷ past) own serves = (own.0, run_of past own.1 serves.1)
  run_of (Sees (Does (Breaks number)) ∷ past) own serves = (own.0, run_of past own.1 serves.1)
  run_of (Sees (Does (Turns server key turned)) ∷ past) own serves = (serves.0, run_of past own.1 serves.1)
  run_of (Sees (Does (Restarts server)) ∷ past) own serves = (tt, run_of past own.1 serves.1)

  steps_of : (steps : List OwedStep) → OwedRun words Bars opening LandsEver (owed_moments steps) → OwedInOrder opening steps → OwedSteps words Bars opening steps
  steps_of [] run order = tt
  steps_of (Sends number server ask origin ∷ past) run order = (order.0, steps_of past run order.1)
  steps_of (Writes server key ∷ past) run order = (tt, steps_of past run order)
  steps_of (Moves moment ∷ past) run order = ((run.0, order.0), steps_of past run.1 order.1)
  steps_of (Closes server ∷ past) run order = (tt, steps_of past run order)

owed_runs : (served : ServedCore) (known : Known) → served.accepted ≡ Some known → Each IsTree (trees_of known.configs) → AreSoundSince (is_arbitrary known) (trees_of known.configs) → EveryOwedRunFromIsFresh known served
owed_runs served known word are since opening opens steps core =
    let tree = core.led.tree in
    let at : ℕ → List ℕ → Plan = λ n key. tree_at (tree n) key in
    let rule = served.core.limits.sharing in
    let words = words_by tree in
    let Bars : ℕ → Ask → ℕ → Ask → Type 0 = bars_by rule at in
    let loaded : AreLoaded (trees_of known.configs) tree = subst (λ (w : Option Known). MayBeLoaded w tree) word core.led.loaded in
    let run = run_of words Bars opening (owed_moments steps) (own_whole words Bars (told_owed opening (owed_moments steps)) core.own) core.serves in
    owed_pipes_fresh words Bars opening (since_is_covered (is_arbitrary known) (trees_of known.configs) are since tree loaded opening opens) (keeping.copies rule at) steps (steps_of words Bars opening steps run core.order)

pub begun_owed_core : (served : ServedCore) → TreesAreSound served → (known : Known) → served.accepted ≡ Some known → EveryOwedRunFromIsFresh known served
begun_owed_core served sound known word = (let trees = sound known word in owed_runs served known word trees.0 trees.1)
