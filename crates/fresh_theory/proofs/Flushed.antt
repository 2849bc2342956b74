-- What a core does, and its walk shows, where servers were flushed before they applied a call.
use Rattle.std.proofs.Common.{◌≡◌, ℕ, Bool, true, false, cond, List, [], ◌∷◌, ◌++◌, length, Option, Some, None, MatchOption, inl, inr, ⊎_elim, refl, sym, ap, ◌∙◌, subst, arith, nat_eq, slice_get, append_assoc}
use Rattle.std.proofs.lemmas.Bool.{eqb-true, eq-eqb}
use Rattle.mc_types.specs.declared.ask.Ask.{Ask}
use Rattle.mc_types.specs.declared.answer.Answer.{Answer}
use Rattle.mc_types.specs.declared.call.Origin.{Origin}
use Rattle.mc_types.specs.declared.call.Origin.TheVariants.{Client, CopyOf}
use Rattle.mc_types.specs.declared.call.Outcome.TheVariants.{Answered, Failed}
use Rattle.mc_types.specs.Items.{Item, after_call}
use Rattle.mc_types.specs.Agree.{AnswerAgrees}
use Rattle.mc_types.specs.Shows.{shows}
use Rattle.fresh_runs.specs.Calls.{Call, End, Read, Unread, Never, outcome_of}
use Rattle.fresh_runs.specs.Cover.{ShowsWhatItFound, IsAnswerOf}
use Rattle.fresh_runs.specs.Run.{Event, Begins, Calls, Replies, Breaks, Turns, Restarts, calls_so_far, before, held, item_at, GivesStamp, EndsWell, IsFront, IsAcknowledged, IsShown}
use Rattle.fresh_runs.proofs.Lists.{get_last}
use Rattle.fresh_runs.proofs.Runs.{differs}
use Rattle.fresh_runs.proofs.Stamps.{get_left, get_seam}
use Rattle.route_tree.specs.Plan.{Plan}
use Rattle.route_tree.specs.At.{tree_at}
use Rattle.route_tree.proofs.Showing.{replies_show_what_was_found}
use Rattle.core_proxy.specs.Claims.{bars_by}
use Rattle.core_accepted.specs.declared.served.ServedCore.{ServedCore}
use Rattle.core_accepted.specs.Known.{Known}
use Rattle.core_accepted.specs.Logs.{TreesAreSound}
use Rattle.core_accepted.specs.Late.{Moment, Does, Lands, seen, told, HasFailed, LateRun, LandsEver, IsFreshBy, WasOver}
use Rattle.core_accepted.specs.Pipes.{moments_of}
use Rattle.core_accepted.specs.Parts.{Own, part, ServesPipes}
use Rattle.core_accepted.specs.Rollout.{words_by}
use Rattle.core_accepted.specs.LateCores.{only_proxy, DoesAsCore}
use Rattle.core_accepted.proofs.Late.{made, as_run}
use Rattle.core_accepted.proofs.LateCores.{new_in, way_part, calls_part, late_runs}
use Rattle.serve_links.specs.CoreSteps.{Step}
use Rattle.serve_links.specs.Called.{TellsCallsOut}
use Rattle.serve_links.specs.Talks.{IsOrderly}
use Rattle.serve_links.specs.InOrder.{Move, walk_of, moments_in, HappensAlong, AreFreshAlong}
use Rattle.serve_links.proofs.LateWalks.{does_along, walks_are_fresh_late}
use Rattle.fresh_theory.specs.Emptied.{emptied_opening}
use Rattle.fresh_theory.specs.Flushed.{NamesAnswered, IsFlushed, EndsFlushed, AreFlushedFirst, EveryRunFromFlushedIsFresh, FlushedAreFreshAlong, FlushedWalksAreFreshLate, FlushedBeginSo}
use Rattle.fresh_theory.proofs.Emptied.{held_same}
use Rattle.fresh_theory.proofs.LateEmptied.{was_told}
use Rattle.fresh_theory.proofs.LateInTurn.{late_of}
use Rattle.fresh_theory.proofs.Named.{names_answered}

not_answered : {A : Type 0} (a : Answer) → Failed ≡ Answered a → A
not_answered a e = absurd (let f = e in cc)

some_call : (a b : Call) → Some a ≡ Some b → a ≡ b
some_call a b e = cc

some_index : (i j : ℕ) → Some i ≡ Some j → i ≡ j
some_index i j e = cc

copy_index : (i j : ℕ) → CopyOf i ≡ CopyOf j → i ≡ j
copy_index i j e = cc

no_item : {A : Type 0} (item : Item) → None ≡ Some item → A
no_item item e = absurd (let f = e in cc)

-- what a call found was found by a call that was made
item_made : (opening : ℕ → List ℕ → Option Item) (events : List Event) (n i : ℕ) (item : Item) → item_at opening events n i ≡ Some item → (call : Call) × (slice_get (calls_so_far events n) i ≡ Some call)
item_made opening [] n i item e = no_item item e
item_made opening (Begins m ask ∷ past) n i item e = item_made opening past n i item e
item_made opening (Calls m server ask origin end ∷ past) n i item e =
    let calls = calls_so_far past n in
    let made : Call = record { server = server; ask = ask; origin = origin; outcome = outcome_of end } in
    let found = held opening past server ask.key in
    (elim (nat_eq m n) as (λ b. cond b (cond (nat_eq (length calls) i) found (item_at opening past n i)) (item_at opening past n i) ≡ Some item → (call : Call) × (slice_get (cond b (calls ++ made ∷ []) calls) i ≡ Some call)) [
      | true ↦ λ f. (elim (nat_eq (length calls) i) as (λ b. nat_eq (length calls) i ≡ b → cond b found (item_at opening past n i) ≡ Some item → (call : Call) × (slice_get (calls ++ made ∷ []) i ≡ Some call)) [
        | true ↦ λ is _. (made, subst (λ k. slice_get (calls ++ made ∷ []) k ≡ Some made) (eqb-true (length calls) i is) (get_seam calls made []))
        | false ↦ λ _ g. let old = item_made opening past n i item g in (old.0, get_left calls (made ∷ []) i old.0 old.1)
      ]) refl f
      | false ↦ λ f. item_made opening past n i item f
    ]) e
item_made opening (Replies m k reply from ∷ past) n i item e = item_made opening past n i item e
item_made opening (Breaks m ∷ past) n i item e = item_made opening past n i item e
item_made opening (Turns server k turned ∷ past) n i item e = item_made opening past n i item e
item_made opening (Restarts server ∷ past) n i item e = item_made opening past n i item e

module _ (flushed : ℕ → Bool) (opening : ℕ → List ℕ → Option Item) where
  abbrev new : ℕ → List ℕ → Option Item
  new = emptied_opening flushed opening

  -- where a server was flushed it holds what it would have held
  there_same : (past : List Moment) (server : ℕ) (key : List ℕ) → IsFlushed flushed past server → held opening (told opening past) server key ≡ held new (told opening past) server key
  there_same past server key is = held_same flushed opening (told opening past) server key (λ e. was_told flushed opening past server (is e))

  ends_answered : (past : List Moment) (server : ℕ) (end : End) (a : Answer) → EndsFlushed flushed past server end → outcome_of end ≡ Answered a → IsFlushed flushed past server
  ends_answered past server (Read stamp answer spaces) a is e = is
  ends_answered past server (Unread stamp answer spaces) a is e = not_answered a e
  ends_answered past server Never a is e = not_answered a e

  -- what an answered call found is the same
  found_same : (past : List Moment) → AreFlushedFirst flushed past → (n i : ℕ) (call : Call) (a : Answer) → slice_get (calls_so_far (told opening past) n) i ≡ Some call → call.outcome ≡ Answered a → item_at opening (told opening past) n i ≡ item_at new (told opening past) n i
  found_same [] first n i call a got is = refl
  found_same (Does (Begins m ask) ∷ past) first n i call a got is = found_same past first n i call a got is
  found_same (Does (Calls m server ask origin end) ∷ past) first n i call a got is =
      let events = told opening past in
      let calls = calls_so_far events n in
      let made : Call = record { server = server; ask = ask; origin = origin; outcome = outcome_of end } in
      let old = held opening events server ask.key in
      let now = held new events server ask.key in
      let x = item_at opening events n i in
      let y = item_at new events n i in
      (elim (nat_eq m n) as (λ b. slice_get (cond b (calls ++ made ∷ []) calls) i ≡ Some call → cond b (cond (nat_eq (length calls) i) old x) x ≡ cond b (cond (nat_eq (length calls) i) now y) y) [
        | true ↦ λ g. ⊎_elim
            (λ l.
            let other : nat_eq (length calls) i ≡ false = differs (length calls) i (λ e. (let lt = l.1 in omega (arith, lt, e))) in
            subst (λ b. cond b old x ≡ cond b now y) (sym other) (found_same past first.1 n i call a l.0 is))
            (λ r.
            let here : nat_eq (length calls) i ≡ true = eq-eqb (length calls) i (sym r.0) in
            subst (λ b. cond b old x ≡ cond b now y) (sym here) (there_same past server ask.key (ends_answered past server end a first.0 (ap (λ (c : Call). c.outcome) r.1 ∙ is))))
            (get_last calls made call i g)
        | false ↦ λ g. found_same past first.1 n i call a g is
      ]) got
  found_same (Does (Replies m k reply from) ∷ past) first n i call a got is = found_same past first n i call a got is
  found_same (Does (Breaks m) ∷ past) first n i call a got is = found_same past first n i call a got is
  found_same (Does (Turns server k turned) ∷ past) first n i call a got is = found_same past first n i call a got is
  found_same (Does (Restarts server) ∷ past) first n i call a got is = found_same past first n i call a got is
  found_same (Lands m server ask origin stamp answer spaces ∷ past) first n i call a got is = found_same past first.1 n i call a got is

  -- a copy gives the same stamp, where it is a call of a word
  module _ (words : ℕ → Ask → List Call → Answer → Option ℕ → Type 0) (names : NamesAnswered words) where
    gives_same :
        (past : List Moment) → AreFlushedFirst flushed past → (number : ℕ) (client : Ask) (origin : Origin) (stamp j : ℕ) (call : Call) (rest : List Call) (reply : Answer) (from : Option ℕ)
        → words number client (calls_so_far (told opening past) number ++ rest) reply from → slice_get (calls_so_far (told opening past) number ++ rest) j ≡ Some call → call.origin ≡ origin
        → GivesStamp opening (told opening past) number origin stamp → GivesStamp new (told opening past) number origin stamp
    gives_same past first number client Client stamp j call rest reply from word got is g = g
    gives_same past first number client (CopyOf i) stamp j call rest reply from word got is g =
        let calls = calls_so_far (told opening past) number in
        let named = names number client (calls ++ rest) reply from word j call i got is in
        let found = item_made opening (told opening past) number i g.0 g.1 in
        let same : found.0 ≡ named.0 = some_call found.0 named.0 (sym (get_left calls rest i found.0 found.1) ∙ named.1) in
        (g.0, sym (found_same past first number i found.0 named.2 found.1 (ap (λ (c : Call). c.outcome) same ∙ named.3)) ∙ g.1, g.2)

    -- what happens is told alike
    told_same : (past : List Moment) → AreFlushedFirst flushed past → told opening past ≡ told new past
    told_same [] first = refl
    told_same (Does (Begins n ask) ∷ past) first = ap (λ l. Begins n ask ∷ l) (told_same past first)
    told_same (Does (Calls n server ask origin end) ∷ past) first = ap (λ l. Calls n server ask origin end ∷ l) (told_same past first.1)
    told_same (Does (Replies n key reply from) ∷ past) first = ap (λ l. Replies n key reply from ∷ l) (told_same past first)
    told_same (Does (Breaks n) ∷ past) first = ap (λ l. Breaks n ∷ l) (told_same past first)
    told_same (Does (Turns server key turned) ∷ past) first = ap (λ l. Turns server key turned ∷ l) (told_same past first)
    told_same (Does (Restarts server) ∷ past) first = ap (λ l. Restarts server ∷ l) (told_same past first)
    told_same (Lands n server ask origin stamp answer spaces ∷ past) first =
        ap (λ (i : Option Item). Turns server ask.key (after_call ask stamp answer spaces i) ∷ told opening past) (there_same past server ask.key first.0)
        ∙ ap (λ (l : List Event). Turns server ask.key (after_call ask stamp answer spaces (held new l server ask.key)) ∷ l) (told_same past first.1)

    module _ (Bars : ℕ → Ask → ℕ → Ask → Type 0) where
      -- the call that comes next is one of a word
      pub ends_same :
          (past : List Moment) → AreFlushedFirst flushed past → (n server : ℕ) (ask : Ask) (origin : Origin) (end : End) (client : Ask) → IsFront words n client (calls_so_far (told opening past) n ++ record { server = server; ask = ask; origin = origin; outcome = outcome_of end } ∷ [])
          → EndsFlushed flushed past server end → EndsWell opening (told opening past) n server ask origin end → EndsWell new (told opening past) n server ask origin end
      ends_same past first n server ask origin (Read stamp answer spaces) client front is w =
          let this : Call = record { server = server; ask = ask; origin = origin; outcome = Answered answer } in
          let calls = calls_so_far (told opening past) n in (
            subst (AnswerAgrees ask answer) (there_same past server ask.key is) w.0,
            gives_same past first n client origin stamp (length calls) this (this ∷ front.0) front.1 front.2 (subst (λ l. words n client l front.1 front.2) (append_assoc calls (this ∷ []) front.0) front.3) (get_seam calls this front.0) refl w.1,
          )
      ends_same past first n server ask origin (Unread stamp answer spaces) client front is w =
          let this : Call = record { server = server; ask = ask; origin = origin; outcome = Failed } in
          let calls = calls_so_far (told opening past) n in (
            subst (AnswerAgrees ask answer) (there_same past server ask.key is) w.0,
            gives_same past first n client origin stamp (length calls) this (this ∷ front.0) front.1 front.2 (subst (λ l. words n client l front.1 front.2) (append_assoc calls (this ∷ []) front.0) front.3) (get_seam calls this front.0) refl w.1,
          )
      ends_same past first n server ask origin Never client front is w = tt

      lands_same :
          (past : List Moment) → LateRun words Bars opening LandsEver past → AreFlushedFirst flushed past → (n server : ℕ) (ask : Ask) (origin : Origin) (stamp : ℕ) → HasFailed (told opening past) n server ask origin
          → GivesStamp opening (told opening past) n origin stamp → GivesStamp new (told opening past) n origin stamp
      lands_same past run first n server ask origin stamp failed g =
          let call : Call = record { server = server; ask = ask; origin = origin; outcome = Failed } in
          let m = made words Bars opening (told opening past) (as_run words Bars opening LandsEver past run) n failed.0 call failed.1 in
          gives_same past first n m.0 origin stamp failed.0 call m.2.0 m.2.1 m.2.2 m.2.3 (get_left (calls_so_far (told opening past) n) m.2.0 failed.0 call failed.1) refl g

      -- servers do the same from there
      serves_same : (past : List Moment) → LateRun words Bars opening LandsEver past → AreFlushedFirst flushed past → ServesPipes new past
      serves_same [] run first = tt
      serves_same (Does (Begins n ask) ∷ past) run first = (tt, serves_same past run.1 first)
      serves_same (Does (Calls n server ask origin end) ∷ past) run first = (
        subst (λ (l : List Event). EndsWell new l n server ask origin end) (told_same past first.1) (ends_same past first.1 n server ask origin end run.0.0 run.0.3 first.0 run.0.4),
        serves_same past run.1 first.1,
      )
      serves_same (Does (Replies n key reply from) ∷ past) run first = (tt, serves_same past run.1 first)
      serves_same (Does (Breaks n) ∷ past) run first = (tt, serves_same past run.1 first)
      serves_same (Does (Turns server key turned) ∷ past) run first = (run.0, serves_same past run.1 first)
      serves_same (Does (Restarts server) ∷ past) run first = (tt, serves_same past run.1 first)
      serves_same (Lands n server ask origin stamp answer spaces ∷ past) run first = (
        subst (λ (l : List Event). HasFailed l n server ask origin × AnswerAgrees ask answer (held new l server ask.key) × GivesStamp new l n origin stamp) (told_same past first.1)
            (run.0.0, subst (AnswerAgrees ask answer) (there_same past server ask.key first.0) run.0.2, lands_same past run.1 first.1 n server ask origin stamp run.0.0 run.0.3),
        serves_same past run.1 first.1,
      )

      -- a reply shows the same
      module _ (showing : ShowsWhatItFound words) where
        reply_found :
            (past : List Moment) → AreFlushedFirst flushed past → (number : ℕ) (client : Ask) (reply : Answer) (from : Option ℕ) → words number client (calls_so_far (told opening past) number) reply from
            → (i : ℕ) → from ≡ Some i → item_at opening (told opening past) number i ≡ item_at new (told opening past) number i
        reply_found past first number client reply from word i is =
            let answer : IsAnswerOf (calls_so_far (told opening past) number) i reply =
            subst (λ (o : Option ℕ). MatchOption o (shows reply ≡ false) (λ k. IsAnswerOf (calls_so_far (told opening past) number) k reply)) is (showing number client (calls_so_far (told opening past) number) reply from word) in
            found_same past first number i answer.call reply answer.made answer.answered

        pub shown_same : (past : List Moment) → LateRun words Bars opening LandsEver past → AreFlushedFirst flushed past → (m : ℕ) (key : List ℕ) (item : Item) → IsShown opening (told opening past) m key item → IsShown new (told opening past) m key item
        shown_same [] run first m key item shown = shown
        shown_same (Does (Begins n ask) ∷ past) run first m key item (inl s) = absurd s
        shown_same (Does (Begins n ask) ∷ past) run first m key item (inr s) = inr (shown_same past run.1 first m key item s)
        shown_same (Does (Calls n server ask origin end) ∷ past) run first m key item (inl s) = absurd s
        shown_same (Does (Calls n server ask origin end) ∷ past) run first m key item (inr s) = inr (shown_same past run.1 first.1 m key item s)
        shown_same (Does (Replies n k reply from) ∷ past) run first m key item (inl s) =
            let same = reply_found past first n run.0.0 reply from run.0.3 s.2 s.3 in
            inl (s.0, s.1, s.2, s.3, sym same ∙ s.4)
        shown_same (Does (Replies n k reply from) ∷ past) run first m key item (inr s) = inr (shown_same past run.1 first m key item s)
        shown_same (Does (Breaks n) ∷ past) run first m key item (inl s) = absurd s
        shown_same (Does (Breaks n) ∷ past) run first m key item (inr s) = inr (shown_same past run.1 first m key item s)
        shown_same (Does (Turns server k turned) ∷ past) run first m key item (inl s) = absurd s
        shown_same (Does (Turns server k turned) ∷ past) run first m key item (inr s) = inr (shown_same past run.1 first m key item s)
        shown_same (Does (Restarts server) ∷ past) run first m key item (inl s) = absurd s
        shown_same (Does (Restarts server) ∷ past) run first m key item (inr s) = inr (shown_same past run.1 first m key item s)
        shown_same (Lands n server ask origin stamp answer spaces ∷ past) run first m key item (inl s) = absurd s
        shown_same (Lands n server ask origin stamp answer spaces ∷ past) run first m key item (inr s) = inr (shown_same past run.1 first.1 m key item s)

        fresh_same : (moments : List Moment) → LateRun words Bars opening LandsEver moments → AreFlushedFirst flushed moments → IsFreshBy new WasOver moments → IsFreshBy opening WasOver moments
        fresh_same moments run first fresh n m delete item ack shown over =
            let same : told opening moments ≡ told new moments = told_same moments first in
            fresh n m delete item
            (subst (λ (l : List Event). IsAcknowledged (before l m) n delete) same ack)
            (subst (λ (l : List Event). IsShown new l m delete.key item) same (shown_same moments run first m delete.key item shown))
            (subst (λ (l : List Event). WasOver (before l n) n item.stamp) same over)

-- ---- of a core

part_told : (opening : ℕ → List ℕ → Option Item) (past : List Moment) → part only_proxy 0 (seen past) ≡ part only_proxy 0 (told opening past)
part_told opening [] = refl
part_told opening (Does (Begins n ask) ∷ past) = ap (λ l. Begins n ask ∷ l) (part_told opening past)
part_told opening (Does (Calls n server ask origin end) ∷ past) = ap (λ l. Calls n server ask origin end ∷ l) (part_told opening past)
part_told opening (Does (Replies n key reply from) ∷ past) = ap (λ l. Replies n key reply from ∷ l) (part_told opening past)
part_told opening (Does (Breaks n) ∷ past) = ap (λ l. Breaks n ∷ l) (part_told opening past)
part_told opening (Does (Turns server key turned) ∷ past) = part_told opening past
part_told opening (Does (Restarts server) ∷ past) = part_told opening past
part_told opening (Lands n server ask origin stamp answer spaces ∷ past) = part_told opening past

own_whole : (words : ℕ → Ask → List Call → Answer → Option ℕ → Type 0) (Bars : ℕ → Ask → ℕ → Ask → Type 0) (events : List Event) → Own words Bars (part only_proxy 0 events) → Own words Bars events
own_whole words Bars [] own = tt
own_whole words Bars (Begins n ask ∷ past) own = ((new_in n past own.0.0, λ other client is key. own.0.1 other client (way_part past other ∙ is) key), own_whole words Bars past own.1)
own_whole words Bars (Calls n server ask origin end ∷ past) own = (
  (own.0.0, sym (way_part past n) ∙ own.0.1, own.0.2, subst (λ calls. IsFront words n own.0.0 (calls ++ record { server = server; ask = ask; origin = origin; outcome = outcome_of end } ∷ [])) (calls_part past n) own.0.3),
  own_whole words Bars past own.1,
)
own_whole words Bars (Replies n key reply from ∷ past) own = ((own.0.0, sym (way_part past n) ∙ own.0.1, own.0.2, subst (λ calls. words n own.0.0 calls reply from) (calls_part past n) own.0.3), own_whole words Bars past own.1)
own_whole words Bars (Breaks n ∷ past) own = ((own.0.0, sym (way_part past n) ∙ own.0.1), own_whole words Bars past own.1)
own_whole words Bars (Turns server key turned ∷ past) own = (tt, own_whole words Bars past own)
own_whole words Bars (Restarts server ∷ past) own = (tt, own_whole words Bars past own)

module _ (served : ServedCore) (flushed : ℕ → Bool) (opening : ℕ → List ℕ → Option Item) (moments : List Moment) (core : DoesAsCore served opening moments) (first : AreFlushedFirst flushed moments) where
  abbrev at : ℕ → List ℕ → Plan
  at = λ n key. tree_at (core.led.tree n) key

  abbrev core_words : ℕ → Ask → List Call → Answer → Option ℕ → Type 0
  core_words = words_by core.led.tree

  abbrev core_bars : ℕ → Ask → ℕ → Ask → Type 0
  core_bars = bars_by served.core.limits.sharing at

  core_run : LateRun core_words core_bars opening LandsEver moments
  core_run = late_of core_words core_bars opening moments (own_whole core_words core_bars (told opening moments) (subst (Own core_words core_bars) (part_told opening moments) core.own)) core.serves

  pub flushed_core : DoesAsCore served (emptied_opening flushed opening) moments
  flushed_core = record {
    believes = core.believes;
    log = core.log;
    led = core.led;
    own = core.own;
    serves = serves_same flushed opening core_words (names_answered at) core_bars moments core_run first;
  }

  pub flushed_fresh : IsFreshBy (emptied_opening flushed opening) WasOver moments → IsFreshBy opening WasOver moments
  flushed_fresh fresh = fresh_same flushed opening core_words (names_answered at) core_bars (replies_show_what_was_found at) moments core_run first fresh

pub flushed_runs : (served : ServedCore) → TreesAreSound served → (known : Known) → served.accepted ≡ Some known → EveryRunFromFlushedIsFresh known served
flushed_runs served sound known word flushed opening opens steps core first order =
    let trees = sound known word in
    flushed_fresh served flushed opening (moments_of steps) core first (late_runs served known word trees.0 trees.1 (emptied_opening flushed opening) opens steps (flushed_core served flushed opening (moments_of steps) core first) order)

-- ---- along a walk

-- what a core does by what happens along its walk
walk_core : (first last : ServedCore) → TellsCallsOut [] first → (opening : ℕ → List ℕ → Option Item) (moves : List Move) → IsOrderly (walk_of moves) → HappensAlong opening moves first last → DoesAsCore last opening (moments_in moves)
walk_core first last tells opening moves orderly along = let does = does_along first last tells opening moves orderly along in subst (λ (l : List Moment). DoesAsCore last opening l) does.0 does.1

flushed_along :
    (flushed : ℕ → Bool) (opening : ℕ → List ℕ → Option Item) (steps : List Step) (first last : ServedCore) → TellsCallsOut [] first → IsOrderly steps → AreFreshAlong (emptied_opening flushed opening) steps first last
    → FlushedAreFreshAlong flushed opening steps first last
flushed_along flushed opening steps first last tells orderly fresh moves same along flushes =
    let core = walk_core first last tells opening moves (subst IsOrderly (sym same) orderly) along in
    flushed_fresh last flushed opening (moments_in moves) core flushes
    (fresh moves same (record { believes = along.believes; leads = along.leads; alike = along.alike; serves = (flushed_core last flushed opening (moments_in moves) core flushes).serves; applied = along.applied }))

pub flushed_walks : FlushedWalksAreFreshLate
flushed_walks steps first last tells orderly flushed opening fresh =
    flushed_along flushed opening steps first last tells orderly (walks_are_fresh_late steps first last tells orderly (emptied_opening flushed opening) fresh)

pub flushed_begin_so : FlushedBeginSo
flushed_begin_so configuration begun steps first last tells orderly fresh flushed opening begins =
    flushed_along flushed opening steps first last tells orderly (fresh (emptied_opening flushed opening) begins)
