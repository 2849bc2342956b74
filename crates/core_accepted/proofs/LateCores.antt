-- The log of a core is a run of one proxy, whose calls servers may apply late.
use Rattle.std.proofs.Common.{◌≡◌, ℕ, Bool, true, false, cond, if◌then◌else◌, List, [], ◌∷◌, ◌++◌, Option, Some, None, refl, sym, ap, ◌∙◌, subst, nat_eq}
use Rattle.std.proofs.lemmas.Bool.{eqb-true}
use Rattle.mc_types.specs.declared.ask.Ask.{Ask}
use Rattle.mc_types.specs.declared.answer.Answer.{Answer}
use Rattle.mc_types.specs.Items.{Item}
use Rattle.fresh_runs.specs.Calls.{Call, outcome_of}
use Rattle.fresh_runs.specs.Run.{Event, Begins, Calls, Replies, Breaks, Turns, Restarts, under_way, calls_so_far, IsNewNumber, IsFront, CopiesBar, AreAlone, IsFreshByNumber}
use Rattle.route_tree.specs.Route.{IsTree}
use Rattle.route_tree.specs.Each.{Each}
use Rattle.route_tree.specs.Plan.{Plan}
use Rattle.route_tree.specs.At.{tree_at}
use Rattle.route_json.specs.Configuration.{Configuration}
use Rattle.gate_check.specs.Sound.{AreLoaded, trees_of}
use Rattle.gate_growth.specs.Grown.{AreSoundSince, OpensBy}
use Rattle.core_commands.specs.declared.sharing.Sharing.TheVariants.{Alone}
use Rattle.core_proxy.specs.Claims.{bars_by}
use Rattle.core_accepted.specs.declared.served.ServedCore.{ServedCore}
use Rattle.core_accepted.specs.declared.beginnings.Beginnings.{Beginnings}
use Rattle.core_accepted.specs.Known.{Known, is_arbitrary, first_of}
use Rattle.core_accepted.specs.Logs.{MayBeLoaded, TreesAreSound, IsAccepted, IsAcceptedSince}
use Rattle.core_accepted.proofs.Keeping as keeping
use Rattle.core_accepted.specs.Pipes.{PipeStep, moments_of}
use Rattle.core_accepted.specs.Late.{Moment, Does, Lands, seen, told, IsFreshBy, WasOver}
use Rattle.core_accepted.specs.Parts.{Own, part, NumbersRise, PipesInOrder}
use Rattle.core_accepted.specs.Rollout.{words_by}
use Rattle.core_accepted.specs.LateCores.{only_proxy, only_line, DoesAsCore, LateLogsAreFreshFrom, LateRunsAreFreshFrom, EveryLateLogIsFresh, EveryLateRunIsFresh, EveryLateLogFromIsFresh, EveryLateRunFromIsFresh, EveryLateRunFromIsFreshByNumber, EveryLateLogSinceIsFresh, EveryLateRunSinceIsFresh}
use Rattle.core_accepted.proofs.Parts.{part_laws}
use Rattle.core_accepted.proofs.LateGrown.{late_generations}
use Rattle.core_accepted.proofs.Owns.{led_owns}

-- no other proxy does anything
none_else : (p : ℕ) → nat_eq 0 p ≡ false → (events : List Event) → part only_proxy p events ≡ []
none_else p other [] = refl
none_else p other (Begins number ask ∷ past) = ap (λ b. cond b (Begins number ask ∷ part only_proxy p past) (part only_proxy p past)) other ∙ none_else p other past
none_else p other (Calls number server ask origin end ∷ past) = ap (λ b. cond b (Calls number server ask origin end ∷ part only_proxy p past) (part only_proxy p past)) other ∙ none_else p other past
none_else p other (Replies number key reply from ∷ past) = ap (λ b. cond b (Replies number key reply from ∷ part only_proxy p past) (part only_proxy p past)) other ∙ none_else p other past
none_else p other (Breaks number ∷ past) = ap (λ b. cond b (Breaks number ∷ part only_proxy p past) (part only_proxy p past)) other ∙ none_else p other past
none_else p other (Turns server key turned ∷ past) = none_else p other past
none_else p other (Restarts server ∷ past) = none_else p other past

one_does : (words : ℕ → Ask → List Call → Answer → Option ℕ → Type 0) (Bars : ℕ → Ask → ℕ → Ask → Type 0) (events : List Event) → Own words Bars (part only_proxy 0 events) → (p : ℕ) (b : Bool) → nat_eq 0 p ≡ b → Own words Bars (part only_proxy p events)
one_does words Bars events mine p true same = subst (λ q. Own words Bars (part only_proxy q events)) (eqb-true 0 p same) mine
one_does words Bars events mine p false other = subst (Own words Bars) (sym (none_else p other events)) tt

-- numbers are given as commands begin
pub new_in : (number : ℕ) (events : List Event) → IsNewNumber number (part only_proxy 0 events) → IsNewNumber number events
new_in number [] new = new
new_in number (Begins n ask ∷ past) new = (new.0, new_in number past new.1)
new_in number (Calls n server ask origin end ∷ past) new = (new.0, new_in number past new.1)
new_in number (Replies n key reply from ∷ past) new = (new.0, new_in number past new.1)
new_in number (Breaks n ∷ past) new = (new.0, new_in number past new.1)
new_in number (Turns server key turned ∷ past) new = new_in number past new
new_in number (Restarts server ∷ past) new = new_in number past new

own_rise : (words : ℕ → Ask → List Call → Answer → Option ℕ → Type 0) (Bars : ℕ → Ask → ℕ → Ask → Type 0) (events : List Event) → Own words Bars (part only_proxy 0 events) → NumbersRise events
own_rise words Bars [] own = tt
own_rise words Bars (Begins n ask ∷ past) own = (new_in n past own.0.0, own_rise words Bars past own.1)
own_rise words Bars (Calls n server ask origin end ∷ past) own = own_rise words Bars past own.1
own_rise words Bars (Replies n key reply from ∷ past) own = own_rise words Bars past own.1
own_rise words Bars (Breaks n ∷ past) own = own_rise words Bars past own.1
own_rise words Bars (Turns server key turned ∷ past) own = own_rise words Bars past own
own_rise words Bars (Restarts server ∷ past) own = own_rise words Bars past own

-- what a proxy does, servers' losses aside
new_part : (number : ℕ) (events : List Event) → IsNewNumber number events → IsNewNumber number (part only_proxy 0 events)
new_part number [] new = new
new_part number (Begins n ask ∷ past) new = (new.0, new_part number past new.1)
new_part number (Calls n server ask origin end ∷ past) new = (new.0, new_part number past new.1)
new_part number (Replies n key reply from ∷ past) new = (new.0, new_part number past new.1)
new_part number (Breaks n ∷ past) new = (new.0, new_part number past new.1)
new_part number (Turns server key turned ∷ past) new = new_part number past new
new_part number (Restarts server ∷ past) new = new_part number past new

pub way_part : (events : List Event) (n : ℕ) → under_way (part only_proxy 0 events) n ≡ under_way events n
way_part [] n = refl
way_part (Begins m ask ∷ past) n = ap (λ x. if nat_eq m n then Some ask else x) (way_part past n)
way_part (Calls m server ask origin end ∷ past) n = way_part past n
way_part (Replies m key reply from ∷ past) n = ap (λ x. if nat_eq m n then None else x) (way_part past n)
way_part (Breaks m ∷ past) n = ap (λ x. if nat_eq m n then None else x) (way_part past n)
way_part (Turns server key turned ∷ past) n = way_part past n
way_part (Restarts server ∷ past) n = way_part past n

pub calls_part : (events : List Event) (n : ℕ) → calls_so_far (part only_proxy 0 events) n ≡ calls_so_far events n
calls_part [] n = refl
calls_part (Begins m ask ∷ past) n = calls_part past n
calls_part (Calls m server ask origin end ∷ past) n =
    ap (λ calls. if nat_eq m n then calls ++ record { server = server; ask = ask; origin = origin; outcome = outcome_of end } ∷ [] else calls) (calls_part past n)
calls_part (Replies m key reply from ∷ past) n = calls_part past n
calls_part (Breaks m ∷ past) n = calls_part past n
calls_part (Turns server key turned ∷ past) n = calls_part past n
calls_part (Restarts server ∷ past) n = calls_part past n

pub own_part : (words : ℕ → Ask → List Call → Answer → Option ℕ → Type 0) (Bars : ℕ → Ask → ℕ → Ask → Type 0) (events : List Event) → Own words Bars events → Own words Bars (part only_proxy 0 events)
own_part words Bars [] own = tt
own_part words Bars (Begins n ask ∷ past) own = ((new_part n past own.0.0, λ other client is key. own.0.1 other client (sym (way_part past other) ∙ is) key), own_part words Bars past own.1)
own_part words Bars (Calls n server ask origin end ∷ past) own = (
  (
    own.0.0,
    way_part past n ∙ own.0.1,
    own.0.2,
    subst (λ calls. IsFront words n own.0.0 (calls ++ record { server = server; ask = ask; origin = origin; outcome = outcome_of end } ∷ [])) (sym (calls_part past n)) own.0.3,
  ),
  own_part words Bars past own.1,
)
own_part words Bars (Replies n key reply from ∷ past) own =
    ((own.0.0, way_part past n ∙ own.0.1, own.0.2, subst (λ calls. words n own.0.0 calls reply from) (sym (calls_part past n)) own.0.3), own_part words Bars past own.1)
own_part words Bars (Breaks n ∷ past) own = ((own.0.0, way_part past n ∙ own.0.1), own_part words Bars past own.1)
own_part words Bars (Turns server key turned ∷ past) own = own_part words Bars past own.1
own_part words Bars (Restarts server ∷ past) own = own_part words Bars past own.1

-- it sees nothing of what lands
part_told : (opening : ℕ → List ℕ → Option Item) (past : List Moment) → part only_proxy 0 (seen past) ≡ part only_proxy 0 (told opening past)
part_told opening [] = refl
part_told opening (Does (Begins n ask) ∷ past) = ap (λ l. Begins n ask ∷ l) (part_told opening past)
part_told opening (Does (Calls n server ask origin end) ∷ past) = ap (λ l. Calls n server ask origin end ∷ l) (part_told opening past)
part_told opening (Does (Replies n key reply from) ∷ past) = ap (λ l. Replies n key reply from ∷ l) (part_told opening past)
part_told opening (Does (Breaks n) ∷ past) = ap (λ l. Breaks n ∷ l) (part_told opening past)
part_told opening (Does (Turns server key turned) ∷ past) = part_told opening past
part_told opening (Does (Restarts server) ∷ past) = part_told opening past
part_told opening (Lands n server ask origin stamp answer spaces ∷ past) = part_told opening past

module _ (served : ServedCore) (known : Known) (word : served.accepted ≡ Some known) (are : Each IsTree (trees_of known.configs)) (since : AreSoundSince (is_arbitrary known) (trees_of known.configs)) (opening : ℕ → List ℕ → Option Item) (opens : OpensBy (is_arbitrary known) (trees_of known.configs) opening) where
  module _ (steps : List PipeStep) (core : DoesAsCore served opening (moments_of steps)) (order : PipesInOrder only_line steps) where
    abbrev words : ℕ → Ask → List Call → Answer → Option ℕ → Type 0
    words = words_by core.led.tree

    abbrev Bars : ℕ → Ask → ℕ → Ask → Type 0
    Bars = bars_by served.core.limits.sharing (λ n key. tree_at (core.led.tree n) key)

    -- by its trees and its rule
    by_trees : (CopiesBar words Bars → IsFreshBy opening WasOver (moments_of steps)) × (AreAlone Bars → IsFreshByNumber opening (told opening (moments_of steps)))
    by_trees =
        let tree = core.led.tree in
        let loaded : AreLoaded (trees_of known.configs) tree = subst (λ (w : Option Known). MayBeLoaded w tree) word core.led.loaded in
        let happened = told opening (moments_of steps) in
        let mine : Own words Bars (part only_proxy 0 happened) = subst (Own words Bars) (part_told opening (moments_of steps)) core.own in
        let own : (p : ℕ) → Own words Bars (part only_proxy p happened) = λ p. one_does words Bars happened mine p (nat_eq 0 p) refl in
        late_generations Bars (is_arbitrary known) (trees_of known.configs) are since tree loaded opening opens steps
        ((part_laws words Bars).steps only_proxy (λ number other ask client b. refl) only_line opening steps
        (record { parts = record { own = own; rise = own_rise words Bars happened mine; serves = core.serves }; order = order }))

  pub late_runs : LateRunsAreFreshFrom opening served
  late_runs steps core order = (by_trees steps core order).0 (keeping.copies served.core.limits.sharing (λ n key. tree_at (core.led.tree n) key))

  pub late_numbers : served.core.limits.sharing ≡ Alone → (steps : List PipeStep) → DoesAsCore served opening (moments_of steps) → PipesInOrder only_line steps → IsFreshByNumber opening (told opening (moments_of steps))
  late_numbers alone steps core order = (by_trees steps core order).1 (keeping.alone served.core.limits.sharing (λ n key. tree_at (core.led.tree n) key) alone)

  -- a log that is the same by the order in which servers applied its calls
  pub late_logs : LateLogsAreFreshFrom opening served
  late_logs steps core order =
      let tree = core.led.tree in
      let at : ℕ → List ℕ → Plan = λ n key. tree_at (tree n) key in
      let Bars : ℕ → Ask → ℕ → Ask → Type 0 = bars_by served.core.limits.sharing at in
      let mine : Own (words_by tree) Bars (part only_proxy 0 (seen (moments_of steps))) =
      (part_laws (words_by tree) Bars).changes _ _ core.changes
      (led_owns served core.believes core.log core.led (λ n. n) tree Bars (λ n. ◌≡◌ {A = ℕ} n n) (λ n is. refl)
      (λ n m ask client one other b. subst (λ (a : ℕ → List ℕ → Plan). bars_by served.core.limits.sharing a n ask m client) (sym core.led.plain) b) (λ n ask e. refl)) in
      late_runs steps (record { believes = core.believes; log = core.log; led = core.led; own = mine; serves = core.serves }) order

-- where servers held at first what is said of them
pub begun_late_core : (served : ServedCore) → TreesAreSound served → (known : Known) → served.accepted ≡ Some known → EveryLateLogFromIsFresh known served × (EveryLateRunFromIsFresh known served × EveryLateRunFromIsFreshByNumber known served)
begun_late_core served sound known word =
    let trees = sound known word in (
      (λ opening opens. late_logs served known word trees.0 trees.1 opening opens),
      (
        (λ opening opens. late_runs served known word trees.0 trees.1 opening opens),
        (λ alone opening opens. late_numbers served known word trees.0 trees.1 opening opens alone),
      ),
    )

-- by the first configuration alone
pub late_since :
    (first : Configuration) (begun : Beginnings) (served : ServedCore) → TreesAreSound served → IsAcceptedSince first begun served → EveryLateLogSinceIsFresh first begun served × EveryLateRunSinceIsFresh first begun served
late_since first begun served sound is =
    let fresh = begun_late_core served sound (record (first_of first begun) { configs = first ∷ is.0 }) is.1 in
    ((λ opening begins. fresh.0 opening begins), (λ opening begins. fresh.1.0 opening begins))

-- whatever they held
pub late_core : (served : ServedCore) → TreesAreSound served → IsAccepted served → EveryLateLogIsFresh served × EveryLateRunIsFresh served
late_core served sound is =
    let fresh = begun_late_core served sound is.0 is.1 in
    ((λ opening. fresh.0 opening (keeping.opens_anyhow is.0 is.2 opening)), (λ opening. fresh.1.0 opening (keeping.opens_anyhow is.0 is.2 opening)))
