-- A fleet's run is put together from what its proxies do.
use Rattle.std.proofs.Common.{◌≡◌, ℕ, Bool, true, false, cond, List, [], ◌∷◌, ◌++◌, Option, Some, None, refl, sym, ap, ◌∙◌, subst, nat_eq}
use Rattle.std.proofs.lemmas.Bool.{eqb-true, eq-eqb}
use Rattle.mc_types.specs.declared.ask.Ask.{Ask}
use Rattle.mc_types.specs.declared.answer.Answer.{Answer}
use Rattle.mc_types.specs.declared.call.Origin.{Origin}
use Rattle.mc_types.specs.Items.{Item}
use Rattle.fresh_runs.specs.Calls.{Call, End, outcome_of}
use Rattle.fresh_runs.specs.Run.{Event, Begins, Calls, Replies, Breaks, Turns, Restarts, under_way, calls_so_far, IsNewNumber, IsFront}
use Rattle.fresh_runs.proofs.Runs.{differs, differ, second, way_below}
use Rattle.core_accepted.specs.Late.{Moment, Does, Lands, told, LateRun, LandsEver}
use Rattle.core_accepted.specs.Pipes.{PipeStep, Sends, Moves, Closes, moments_of, PipeSteps}
use Rattle.core_accepted.specs.Parts.{MayDo, Own, RunIsOwn, IsOther, IsSwap, MovesBack, EndsAs, LeavesKey, LeavesRestart, Same, More, OwnIsChanged, OwnLaws, part, BarsWithin, NumbersRise, ServesPipes, PipesInOrder, PartsAreRun, FleetHasSteps}

same : (p : ℕ) → nat_eq p p ≡ true
same p = eq-eqb p p refl

first : {A : Type 0} (b : Bool) (x y : A) → b ≡ true → cond b x y ≡ x
first true x y e = refl
first false x y e = absurd cc

own_by : (words : ℕ → Ask → List Call → Answer → Option ℕ → Type 0) (Bars : ℕ → Ask → ℕ → Ask → Type 0) → RunIsOwn words Bars
own_by words Bars opening [] run = tt
own_by words Bars opening (Begins x ask ∷ past) run = (run.0, own_by words Bars opening past run.1)
own_by words Bars opening (Calls x s a o end ∷ past) run = ((run.0.0, run.0.1, run.0.2, run.0.3), own_by words Bars opening past run.1)
own_by words Bars opening (Replies x key r f ∷ past) run = (run.0, own_by words Bars opening past run.1)
own_by words Bars opening (Breaks x ∷ past) run = (run.0, own_by words Bars opening past run.1)
own_by words Bars opening (Turns s key turned ∷ past) run = (tt, own_by words Bars opening past run.1)
own_by words Bars opening (Restarts s ∷ past) run = (tt, own_by words Bars opening past run.1)

module _ (words : ℕ → Ask → List Call → Answer → Option ℕ → Type 0) (Bars : ℕ → Ask → ℕ → Ask → Type 0) where
  moves_back : (past : List Event) (event : Event) (number server : ℕ) (ask : Ask) (origin : Origin) (end : End) → IsOther number event → Own words Bars (Calls number server ask origin end ∷ event ∷ past) → Own words Bars (event ∷ Calls number server ask origin end ∷ past)
  moves_back past (Begins x asked) number server ask origin end other own =
      let unlike : nat_eq x number ≡ false = differs x number other in
      let way : under_way past number ≡ Some own.0.0 = sym (second (nat_eq x number) (Some asked) (under_way past number) unlike) ∙ own.0.1 in
      (((way_below x past number own.0.0 own.1.0.0 way, own.1.0.0), own.1.0.1), ((own.0.0, way, own.0.2, own.0.3), own.1.1))
  moves_back past (Calls x s a o e) number server ask origin end other own =
      let unlike : nat_eq x number ≡ false = differs x number other in
      let alike : nat_eq number x ≡ false = differs number x (λ is. other (sym is)) in
      let mine : Call = record { server = server; ask = ask; origin = origin; outcome = outcome_of end } in
      let its : Call = record { server = s; ask = a; origin = o; outcome = outcome_of e } in (
        (
          own.1.0.0,
          own.1.0.1,
          own.1.0.2,
          subst (λ l. IsFront words x own.1.0.0 (l ++ its ∷ [])) (sym (second (nat_eq number x) (calls_so_far past x ++ mine ∷ []) (calls_so_far past x) alike)) own.1.0.3,
        ),
        (
          (own.0.0, own.0.1, own.0.2, subst (λ l. IsFront words number own.0.0 (l ++ mine ∷ [])) (second (nat_eq x number) (calls_so_far past number ++ its ∷ []) (calls_so_far past number) unlike) own.0.3),
          own.1.1,
        ),
      )
  moves_back past (Replies x key r f) number server ask origin end other own =
      let unlike : nat_eq x number ≡ false = differs x number other in
      let alike : nat_eq number x ≡ false = differs number x (λ is. other (sym is)) in
      let mine : Call = record { server = server; ask = ask; origin = origin; outcome = outcome_of end } in
      let way : under_way past number ≡ Some own.0.0 = sym (second (nat_eq x number) None (under_way past number) unlike) ∙ own.0.1 in (
        (
          own.1.0.0,
          own.1.0.1,
          own.1.0.2,
          subst (λ l. words x own.1.0.0 l r f) (sym (second (nat_eq number x) (calls_so_far past x ++ mine ∷ []) (calls_so_far past x) alike)) own.1.0.3,
        ),
        ((own.0.0, way, own.0.2, own.0.3), own.1.1),
      )
  moves_back past (Breaks x) number server ask origin end other own =
      let way : under_way past number ≡ Some own.0.0 = sym (second (nat_eq x number) None (under_way past number) (differs x number other)) ∙ own.0.1 in
      (own.1.0, ((own.0.0, way, own.0.2, own.0.3), own.1.1))
  moves_back past (Turns s key turned) number server ask origin end other own = (tt, (own.0, own.1.1))
  moves_back past (Restarts s) number server ask origin end other own = (tt, (own.0, own.1.1))

  -- two pasts after which a proxy may do the same
  record AreAlike (one two : List Event) : Type 0 where
    way : (n : ℕ) → under_way one n ≡ under_way two n
    calls : (n : ℕ) → calls_so_far one n ≡ calls_so_far two n
    new : (n : ℕ) → IsNewNumber n one → IsNewNumber n two

  alike_may : (one two : List Event) (event : Event) → AreAlike one two → MayDo words Bars one event → MayDo words Bars two event
  alike_may one two (Begins x ask) h may = (h.new x may.0, λ other client e alike. may.1 other client (h.way other ∙ e) alike)
  alike_may one two (Calls x s a o end) h may = (may.0, sym (h.way x) ∙ may.1, may.2, subst (λ l. IsFront words x may.0 (l ++ record { server = s; ask = a; origin = o; outcome = outcome_of end } ∷ [])) (h.calls x) may.3)
  alike_may one two (Replies x key r f) h may = (may.0, sym (h.way x) ∙ may.1, may.2, subst (λ l. words x may.0 l r f) (h.calls x) may.3)
  alike_may one two (Breaks x) h may = (may.0, sym (h.way x) ∙ may.1)
  alike_may one two (Turns s key turned) h may = tt
  alike_may one two (Restarts s) h may = tt

  alike_more : (one two : List Event) (event : Event) → AreAlike one two → AreAlike (event ∷ one) (event ∷ two)
  alike_more one two (Begins x ask) h = record { way = λ n. ap (λ o. cond (nat_eq x n) (Some ask) o) (h.way n); calls = h.calls; new = λ n e. (e.0, h.new n e.1) }
  alike_more one two (Calls x s a o end) h = record { way = h.way; calls = λ n. ap (λ l. cond (nat_eq x n) (l ++ record { server = s; ask = a; origin = o; outcome = outcome_of end } ∷ []) l) (h.calls n); new = λ n e. (e.0, h.new n e.1) }
  alike_more one two (Replies x key r f) h = record { way = λ n. ap (λ o. cond (nat_eq x n) None o) (h.way n); calls = h.calls; new = λ n e. (e.0, h.new n e.1) }
  alike_more one two (Breaks x) h = record { way = λ n. ap (λ o. cond (nat_eq x n) None o) (h.way n); calls = h.calls; new = λ n e. (e.0, h.new n e.1) }
  alike_more one two (Turns s key turned) h = record { way = h.way; calls = h.calls; new = h.new }
  alike_more one two (Restarts s) h = record { way = h.way; calls = h.calls; new = h.new }

  alike_after : (later one two : List Event) → AreAlike one two → AreAlike (later ++ one) (later ++ two)
  alike_after [] one two h = h
  alike_after (event ∷ later) one two h = alike_more (later ++ one) (later ++ two) event (alike_after later one two h)

  -- what came later may come later
  own_after : (later one two : List Event) → AreAlike one two → (Own words Bars one → Own words Bars two) → Own words Bars (later ++ one) → Own words Bars (later ++ two)
  own_after [] one two h f own = f own
  own_after (event ∷ later) one two h f own = (alike_may (later ++ one) (later ++ two) event (alike_after later one two h) own.0, own_after later one two h f own.1)

  back_alike : (past : List Event) (event : Event) (number server : ℕ) (ask : Ask) (origin : Origin) (end : End) → IsOther number event → AreAlike (Calls number server ask origin end ∷ event ∷ past) (event ∷ Calls number server ask origin end ∷ past)
  back_alike past (Begins x a) number server ask origin end other = record { way = λ n. refl; calls = λ n. refl; new = λ n e. (e.1.0, (e.0, e.1.1)) }
  back_alike past (Calls x s a o f) number server ask origin end other =
      record {
        way = λ n. refl;
        calls = λ n.
            let calls = calls_so_far past n in
            let mine : Call = record { server = server; ask = ask; origin = origin; outcome = outcome_of end } in
            let its : Call = record { server = s; ask = a; origin = o; outcome = outcome_of f } in
            (elim (nat_eq number n) as (λ b. nat_eq number n ≡ b → cond b (cond (nat_eq x n) (calls ++ its ∷ []) calls ++ mine ∷ []) (cond (nat_eq x n) (calls ++ its ∷ []) calls) ≡ cond (nat_eq x n) (cond b (calls ++ mine ∷ []) calls ++ its ∷ []) (cond b (calls ++ mine ∷ []) calls)) [
              | true ↦ λ is.
                  (elim (nat_eq x n) as (λ b. nat_eq x n ≡ b → cond b (calls ++ its ∷ []) calls ++ mine ∷ [] ≡ cond b ((calls ++ mine ∷ []) ++ its ∷ []) (calls ++ mine ∷ [])) [
                    | true ↦ λ too. absurd (other (eqb-true x n too ∙ sym (eqb-true number n is)))
                    | false ↦ λ _. refl
                  ]) refl
              | false ↦ λ _. refl
            ]) refl;
        new = λ n e. (e.1.0, (e.0, e.1.1));
      }
  back_alike past (Replies x key r f) number server ask origin end other = record { way = λ n. refl; calls = λ n. refl; new = λ n e. (e.1.0, (e.0, e.1.1)) }
  back_alike past (Breaks x) number server ask origin end other = record { way = λ n. refl; calls = λ n. refl; new = λ n e. (e.1.0, (e.0, e.1.1)) }
  back_alike past (Turns s key turned) number server ask origin end other = record { way = λ n. refl; calls = λ n. refl; new = λ n e. (e.0, e.1) }
  back_alike past (Restarts s) number server ask origin end other = record { way = λ n. refl; calls = λ n. refl; new = λ n e. (e.0, e.1) }

  ends_alike : (past : List Event) (number server : ℕ) (ask : Ask) (origin : Origin) (end other : End) → outcome_of end ≡ outcome_of other → AreAlike (Calls number server ask origin end ∷ past) (Calls number server ask origin other ∷ past)
  ends_alike past number server ask origin end other e =
      record { way = λ n. refl; calls = λ n. ap (λ o. cond (nat_eq number n) (calls_so_far past n ++ record { server = server; ask = ask; origin = origin; outcome = o } ∷ []) (calls_so_far past n)) e; new = λ n h. h }

  one_change : (events others : List Event) → IsSwap events others → Own words Bars events → Own words Bars others
  one_change events others (MovesBack later past event number server ask origin end other) own =
      own_after later (Calls number server ask origin end ∷ event ∷ past) (event ∷ Calls number server ask origin end ∷ past) (back_alike past event number server ask origin end other) (moves_back past event number server ask origin end other) own
  one_change events others (EndsAs later past number server ask origin end other e) own =
      own_after later (Calls number server ask origin end ∷ past) (Calls number server ask origin other ∷ past) (ends_alike past number server ask origin end other e)
      (λ h. ((h.0.0, h.0.1, h.0.2, subst (λ o. IsFront words number h.0.0 (calls_so_far past number ++ record { server = server; ask = ask; origin = origin; outcome = o } ∷ [])) e h.0.3), h.1)) own
  one_change events others (LeavesKey later past server key turned) own =
      own_after later (Turns server key turned ∷ past) past (record { way = λ n. refl; calls = λ n. refl; new = λ n h. h }) (λ h. h.1) own
  one_change events others (LeavesRestart later past server) own =
      own_after later (Restarts server ∷ past) past (record { way = λ n. refl; calls = λ n. refl; new = λ n h. h }) (λ h. h.1) own

  changes : OwnIsChanged words Bars
  changes events others (Same all) own = own
  changes events others (More one two last change more) own = changes two last more (one_change one two change own)

  module _ (proxy : ℕ → ℕ) where
    -- of its own commands a part says what the whole does
    pub part_way : (events : List Event) (n : ℕ) → under_way (part proxy (proxy n) events) n ≡ under_way events n
    part_way [] n = refl
    part_way (Begins x ask ∷ past) n =
        let mine = part proxy (proxy n) past in
        (elim (nat_eq (proxy x) (proxy n)) as (λ b. nat_eq (proxy x) (proxy n) ≡ b → under_way (cond b (Begins x ask ∷ mine) mine) n ≡ cond (nat_eq x n) (Some ask) (under_way past n)) [
          | true ↦ λ _. ap (λ o. cond (nat_eq x n) (Some ask) o) (part_way past n)
          | false ↦ λ is. part_way past n ∙ sym (second (nat_eq x n) (Some ask) (under_way past n) (differs x n (λ e. differ (proxy x) (proxy n) is (ap proxy e))))
        ]) refl
    part_way (Calls x s a o end ∷ past) n =
        let mine = part proxy (proxy n) past in
        elim (nat_eq (proxy x) (proxy n)) as (λ b. under_way (cond b (Calls x s a o end ∷ mine) mine) n ≡ under_way past n) [ true ↦ part_way past n | false ↦ part_way past n ]
    part_way (Replies x key r f ∷ past) n =
        let mine = part proxy (proxy n) past in
        (elim (nat_eq (proxy x) (proxy n)) as (λ b. nat_eq (proxy x) (proxy n) ≡ b → under_way (cond b (Replies x key r f ∷ mine) mine) n ≡ cond (nat_eq x n) None (under_way past n)) [
          | true ↦ λ _. ap (λ o. cond (nat_eq x n) None o) (part_way past n)
          | false ↦ λ is. part_way past n ∙ sym (second (nat_eq x n) None (under_way past n) (differs x n (λ e. differ (proxy x) (proxy n) is (ap proxy e))))
        ]) refl
    part_way (Breaks x ∷ past) n =
        let mine = part proxy (proxy n) past in
        (elim (nat_eq (proxy x) (proxy n)) as (λ b. nat_eq (proxy x) (proxy n) ≡ b → under_way (cond b (Breaks x ∷ mine) mine) n ≡ cond (nat_eq x n) None (under_way past n)) [
          | true ↦ λ _. ap (λ o. cond (nat_eq x n) None o) (part_way past n)
          | false ↦ λ is. part_way past n ∙ sym (second (nat_eq x n) None (under_way past n) (differs x n (λ e. differ (proxy x) (proxy n) is (ap proxy e))))
        ]) refl
    part_way (Turns s key turned ∷ past) n = part_way past n
    part_way (Restarts s ∷ past) n = part_way past n

    pub part_calls : (events : List Event) (n : ℕ) → calls_so_far (part proxy (proxy n) events) n ≡ calls_so_far events n
    part_calls [] n = refl
    part_calls (Begins x ask ∷ past) n =
        let mine = part proxy (proxy n) past in
        elim (nat_eq (proxy x) (proxy n)) as (λ b. calls_so_far (cond b (Begins x ask ∷ mine) mine) n ≡ calls_so_far past n) [ true ↦ part_calls past n | false ↦ part_calls past n ]
    part_calls (Calls x s a o end ∷ past) n =
        let mine = part proxy (proxy n) past in
        let call : Call = record { server = s; ask = a; origin = o; outcome = outcome_of end } in
        (elim (nat_eq (proxy x) (proxy n)) as (λ b. nat_eq (proxy x) (proxy n) ≡ b → calls_so_far (cond b (Calls x s a o end ∷ mine) mine) n ≡ cond (nat_eq x n) (calls_so_far past n ++ call ∷ []) (calls_so_far past n)) [
          | true ↦ λ _. ap (λ l. cond (nat_eq x n) (l ++ call ∷ []) l) (part_calls past n)
          | false ↦ λ is. part_calls past n ∙ sym (second (nat_eq x n) (calls_so_far past n ++ call ∷ []) (calls_so_far past n) (differs x n (λ e. differ (proxy x) (proxy n) is (ap proxy e))))
        ]) refl
    part_calls (Replies x key r f ∷ past) n =
        let mine = part proxy (proxy n) past in
        elim (nat_eq (proxy x) (proxy n)) as (λ b. calls_so_far (cond b (Replies x key r f ∷ mine) mine) n ≡ calls_so_far past n) [ true ↦ part_calls past n | false ↦ part_calls past n ]
    part_calls (Breaks x ∷ past) n =
        let mine = part proxy (proxy n) past in
        elim (nat_eq (proxy x) (proxy n)) as (λ b. calls_so_far (cond b (Breaks x ∷ mine) mine) n ≡ calls_so_far past n) [ true ↦ part_calls past n | false ↦ part_calls past n ]
    part_calls (Turns s key turned ∷ past) n = part_calls past n
    part_calls (Restarts s ∷ past) n = part_calls past n

    -- what may be left out of a part
    tail_of : (b : Bool) (event : Event) (mine : List Event) → Own words Bars (cond b (event ∷ mine) mine) → Own words Bars mine
    tail_of true event mine own = own.1
    tail_of false event mine own = own

    pub tail : (event : Event) (past : List Event) (p : ℕ) → Own words Bars (part proxy p (event ∷ past)) → Own words Bars (part proxy p past)
    tail (Begins x ask) past p own = tail_of (nat_eq (proxy x) p) (Begins x ask) (part proxy p past) own
    tail (Calls x s a o end) past p own = tail_of (nat_eq (proxy x) p) (Calls x s a o end) (part proxy p past) own
    tail (Replies x key r f) past p own = tail_of (nat_eq (proxy x) p) (Replies x key r f) (part proxy p past) own
    tail (Breaks x) past p own = tail_of (nat_eq (proxy x) p) (Breaks x) (part proxy p past) own
    tail (Turns s key turned) past p own = own
    tail (Restarts s) past p own = own

    pub head_of : (p : ℕ) (event : Event) (mine : List Event) → Own words Bars (cond (nat_eq p p) (event ∷ mine) mine) → MayDo words Bars mine event
    head_of p event mine own = (subst (Own words Bars) (first (nat_eq p p) (event ∷ mine) mine (same p)) own).0

    module _ (within : BarsWithin proxy Bars) (opening : ℕ → List ℕ → Option Item) where
      go : (moments : List Moment) → ((p : ℕ) → Own words Bars (part proxy p (told opening moments))) → NumbersRise (told opening moments) → ServesPipes opening moments → LateRun words Bars opening LandsEver moments
      go [] own rise serves = tt
      go (Does (Begins x ask) ∷ past) own rise serves =
          let events = told opening past in
          let p = proxy x in
          let may = head_of p (Begins x ask) (part proxy p events) (own p) in
          let free : (other : ℕ) (client : Ask) → under_way events other ≡ Some client → client.key ≡ ask.key → p ≡ proxy other → (Bars x ask other client → ⊥) × (Bars other client x ask → ⊥) =
          λ other client e alike home. may.1 other client (subst (λ q. under_way (part proxy q events) other ≡ Some client) (sym home) (part_way events other ∙ e)) alike in (
            (rise.0, λ other client e alike. ((λ b. (free other client e alike (within x other ask client b)).0 b), (λ b. (free other client e alike (sym (within other x client ask b))).1 b))),
            go past (λ q. tail (Begins x ask) events q (own q)) rise.1 serves.1,
          )
      go (Does (Calls x s a o end) ∷ past) own rise serves =
          let events = told opening past in
          let p = proxy x in
          let call : Call = record { server = s; ask = a; origin = o; outcome = outcome_of end } in
          let may = head_of p (Calls x s a o end) (part proxy p events) (own p) in (
            (may.0, sym (part_way events x) ∙ may.1, may.2, subst (λ l. IsFront words x may.0 (l ++ call ∷ [])) (part_calls events x) may.3, serves.0),
            go past (λ q. tail (Calls x s a o end) events q (own q)) rise serves.1,
          )
      go (Does (Replies x key r f) ∷ past) own rise serves =
          let events = told opening past in
          let p = proxy x in
          let may = head_of p (Replies x key r f) (part proxy p events) (own p) in (
            (may.0, sym (part_way events x) ∙ may.1, may.2, subst (λ l. words x may.0 l r f) (part_calls events x) may.3),
            go past (λ q. tail (Replies x key r f) events q (own q)) rise serves.1,
          )
      go (Does (Breaks x) ∷ past) own rise serves =
          let events = told opening past in
          let p = proxy x in
          let may = head_of p (Breaks x) (part proxy p events) (own p) in
          ((may.0, sym (part_way events x) ∙ may.1), go past (λ q. tail (Breaks x) events q (own q)) rise serves.1)
      go (Does (Turns s key turned) ∷ past) own rise serves = (serves.0, go past own rise serves.1)
      go (Does (Restarts s) ∷ past) own rise serves = (tt, go past own rise serves.1)
      go (Lands x s a o stamp answer spaces ∷ past) own rise serves =
          ((serves.0.0, tt, serves.0.1, serves.0.2), go past own rise serves.1)

  -- with connections in order
  with_order : (line : ℕ → ℕ → ℕ) (opening : ℕ → List ℕ → Option Item) (steps : List PipeStep) → LateRun words Bars opening LandsEver (moments_of steps) → PipesInOrder line steps → PipeSteps line words Bars opening steps
  with_order line opening [] run order = tt
  with_order line opening (Sends x s a o ∷ past) run order = (order.0, with_order line opening past run order.1)
  with_order line opening (Moves moment ∷ past) run order = ((run.0, order.0), with_order line opening past run.1 order.1)
  with_order line opening (Closes q s ∷ past) run order = (tt, with_order line opening past run order)

  are_run : PartsAreRun words Bars
  are_run proxy within opening moments parts = go proxy within opening moments parts.own parts.rise parts.serves

  has_steps : FleetHasSteps words Bars
  has_steps proxy within line opening steps fleet = with_order line opening steps (are_run proxy within opening (moments_of steps) fleet.parts) fleet.order

  pub part_laws : OwnLaws words Bars
  part_laws = record { own = own_by words Bars; changes = changes; run = are_run; steps = has_steps }
