-- A set that lands after a delete was acknowledged may be shown.
use Rattle.std.proofs.Common.{◌≡◌, ℕ, ◌+◌, ◌<◌, ◌≤◌, Bool, true, false, cond, List, [], ◌∷◌, ◌++◌, length, Option, Some, None, inl, inr, refl, sym, ap, ◌∙◌, subst, arith, bytes_eq, nat_eq, slice_get}
use Rattle.std.proofs.lemmas.Bool.{eq-eqb}
use Rattle.std.proofs.lemmas.Slice.Eq.{bytes_eq-Decides}
use Rattle.mc_types.specs.declared.ask.Ask.{Ask}
use Rattle.mc_types.specs.declared.answer.Answer.{Answer}
use Rattle.mc_types.specs.declared.answer.Answer.TheVariants.{Stored, Hit}
use Rattle.mc_types.specs.declared.call.Origin.TheVariants.{Client}
use Rattle.mc_types.specs.declared.call.Outcome.TheVariants.{Answered, Failed}
use Rattle.mc_types.specs.Items.{Item, new_item, after_call, after_done, removes}
use Rattle.mc_types.specs.Agree.{AgreesAs}
use Rattle.mc_types.specs.Asks.{IsAsk}
use Rattle.mc_types.specs.Fits.{Fits}
use Rattle.fresh_runs.specs.Life.{held_in}
use Rattle.fresh_runs.specs.Calls.{Call, Read}
use Rattle.fresh_runs.specs.Single.{server_call, server_words}
use Rattle.fresh_runs.specs.Run.{Event, Begins, Calls, Replies, Breaks, Turns, Restarts, under_way, calls_so_far, before, HasEnded, IsNewNumber, IsApart, IsFront, IsAcknowledged, life_of, held, item_at}
use Rattle.fresh_runs.specs.Freshness.{nobody_bars}
use Rattle.fresh_runs.proofs.Lists.{only_one}
use Rattle.fresh_runs.proofs.Stamps.{get_left}
use Rattle.fresh_runs.proofs.Runs.{differs, second, acked_below, new_calls}
use Rattle.fresh_theory.proofs.Example.{a_get}
use Rattle.core_accepted.specs.Late.{Moment, Does, Lands, told, HasFailed, LateRun, LandsEver}
use Rattle.fresh_theory.specs.Weakest.{UntimelyIsStale}
use Rattle.core_accepted.proofs.Late.{made, as_run}

same : (p : ℕ) → nat_eq p p ≡ true
same p = eq-eqb p p refl

first : {A : Type 0} (b : Bool) (x y : A) → b ≡ true → cond b x y ≡ x
first true x y e = refl
first false x y e = absurd cc

-- a number that is new
new_up : (past : List Event) (m k : ℕ) → IsNewNumber m past → m ≤ k → IsNewNumber k past
new_up [] m k new le = (let one = new in omega (arith, one, le))
new_up (Begins x ask ∷ past) m k new le = ((let lt = new.0 in omega (arith, lt, le)), new_up past m k new.1 le)
new_up (Calls x s a o end ∷ past) m k new le = ((let lt = new.0 in omega (arith, lt, le)), new_up past m k new.1 le)
new_up (Replies x key r f ∷ past) m k new le = ((let lt = new.0 in omega (arith, lt, le)), new_up past m k new.1 le)
new_up (Breaks x ∷ past) m k new le = ((let lt = new.0 in omega (arith, lt, le)), new_up past m k new.1 le)
new_up (Turns s key turned ∷ past) m k new le = new_up past m k new le
new_up (Restarts s ∷ past) m k new le = new_up past m k new le

new_one : (past : List Event) (m : ℕ) → IsNewNumber m past → 1 ≤ m
new_one [] m new = new
new_one (Begins x ask ∷ past) m new = new_one past m new.1
new_one (Calls x s a o end ∷ past) m new = new_one past m new.1
new_one (Replies x key r f ∷ past) m new = new_one past m new.1
new_one (Breaks x ∷ past) m new = new_one past m new.1
new_one (Turns s key turned ∷ past) m new = new_one past m new
new_one (Restarts s ∷ past) m new = new_one past m new

-- with the numbers that were given out before
more : (past : List Event) (x : ℕ) → (m : ℕ) × IsNewNumber m past → (m : ℕ) × ((x < m) × IsNewNumber m past)
more past x new = (x + new.0, ((let one = new_one past new.0 new.1 in omega (arith, one)), new_up past new.0 (x + new.0) new.1 (omega arith)))

some_new : (past : List Event) → (m : ℕ) × IsNewNumber m past
some_new [] = (1, omega arith)
some_new (Begins x ask ∷ past) = (let n = more past x (some_new past) in (n.0, n.1))
some_new (Calls x s a o end ∷ past) = (let n = more past x (some_new past) in (n.0, n.1))
some_new (Replies x key r f ∷ past) = (let n = more past x (some_new past) in (n.0, n.1))
some_new (Breaks x ∷ past) = (let n = more past x (some_new past) in (n.0, n.1))
some_new (Turns s key turned ∷ past) = some_new past
some_new (Restarts s ∷ past) = some_new past

abbrev words : ℕ → Ask → List Call → Answer → Option ℕ → Type 0
words = server_words (λ _. 0)

apart_all : (past : List Event) (number : ℕ) (ask : Ask) → IsApart nobody_bars past number ask
apart_all past number ask other client e alike = ((λ x. x), (λ x. x))

-- what failed is an ask that a client can write
is_ask : (opening : ℕ → List ℕ → Option Item) (past : List Moment) → LateRun words nobody_bars opening LandsEver past → (number : ℕ) (set : Ask) → HasFailed (told opening past) number 0 set Client → IsAsk set
is_ask opening past run number set failed =
    let call : Call = record { server = 0; ask = set; origin = Client; outcome = Failed } in
    let m = made words nobody_bars opening (told opening past) (as_run words nobody_bars opening LandsEver past run) number failed.0 call failed.1 in
    let word = m.2.3 in
    let whole : slice_get (calls_so_far (told opening past) number ++ m.2.0) failed.0 ≡ Some call = get_left (calls_so_far (told opening past) number) m.2.0 failed.0 call failed.1 in
    let is : server_call (λ _. 0) m.0 word.1 ≡ call = only_one (server_call (λ _. 0) m.0 word.1) call failed.0 (subst (λ l. slice_get l failed.0 ≡ Some call) word.3 whole) in
    subst IsAsk (ap (λ (c : Call). c.ask) is) word.0

pub untimely : UntimelyIsStale
untimely opening past run number n set delete op failed ack on ended =
    let asked : IsAsk set = is_ask opening past run number set failed in
    let key = set.key in
    let events = told opening past in
    let fresh_number = some_new events in
    let m = fresh_number.0 in
    let new : IsNewNumber m events = fresh_number.1 in
    let get : Ask = record a_get { key = key } in
    let item : Item = new_item set number in
    let hit : Answer = Hit set.flags set.body None in
    let call : Call = record { server = 0; ask = get; origin = Client; outcome = Answered hit } in
    let get_is : IsAsk get =
    record {
      key = asked.key;
      ranges = record { flags = omega arith; exptime = tt; body = omega arith; cas = tt; delta = omega arith };
      shape = record { with_cas = tt; flags = refl; exptime = refl; body = refl; cas = refl; delta = refl; tokens = refl };
    } in
    let fits : Fits get hit = record { ranges = (asked.ranges.flags, asked.ranges.body, tt); listed = refl } in
    let none : calls_so_far events m ≡ [] = new_calls m events new in
    let landed : List Moment = Lands number 0 set Client number Stored 0 ∷ past in
    let begun : List Moment = Does (Begins m get) ∷ landed in
    let called : List Moment = Does (Calls m 0 get Client (Read m hit 0)) ∷ begun in
    let shown : List Moment = Does (Replies m key hit (Some 0)) ∷ called in
    let before_it = held_in (opening 0 key) (life_of (told opening past) 0) key in
    let after : after_call set number Stored 0 before_it ≡ Some item = ap (λ o. cond (removes o Stored) None (after_done o set number 0 before_it)) op in
    let held_is : held opening (told opening begun) 0 key ≡ Some item = first (bytes_eq key key) (after_call set number Stored 0 before_it) before_it ((bytes_eq-Decides key key).1 refl) ∙ after in
    let way : cond (nat_eq m m) (Some get) (under_way events m) ≡ Some get = first (nat_eq m m) (Some get) (under_way events m) (same m) in
    let r1 : LateRun words nobody_bars opening LandsEver landed = ((failed, tt, subst (λ o. AgreesAs o set Stored before_it) (sym op) tt, refl), run) in
    let r2 : LateRun words nobody_bars opening LandsEver begun = ((new, apart_all events m get), r1) in
    let r3 : LateRun words nobody_bars opening LandsEver called = (
      (
        get,
        way,
        refl,
        subst (λ l. IsFront words m get (l ++ call ∷ [])) (sym none) ([], hit, Some 0, (get_is, Answered hit, fits, refl, refl, refl)),
        ((item, held_is, refl, refl), refl),
      ),
      r2,
    ) in
    let made_calls : cond (nat_eq m m) (calls_so_far events m ++ call ∷ []) (calls_so_far events m) ≡ call ∷ [] = first (nat_eq m m) (calls_so_far events m ++ call ∷ []) (calls_so_far events m) (same m) ∙ ap (λ l. l ++ call ∷ []) none in
    let r4 : LateRun words nobody_bars opening LandsEver shown =
    ((get, way, refl, subst (λ l. words m get l hit (Some 0)) (sym made_calls) (get_is, Answered hit, fits, refl, refl, refl)), r3) in
    let found : item_at opening (told opening called) m 0 ≡ Some item =
    first (nat_eq m m) (cond (nat_eq (length (calls_so_far events m)) 0) (held opening (told opening begun) 0 key) (item_at opening (told opening past) m 0)) (item_at opening (told opening past) m 0) (same m)
    ∙ first (nat_eq (length (calls_so_far events m)) 0) (held opening (told opening begun) 0 key) (item_at opening (told opening past) m 0) (ap (λ (l : List Call). nat_eq (length l) 0) none)
    ∙ held_is in
    let later : before (told opening shown) m ≡ told opening landed = first (nat_eq m m) (told opening landed) (before events m) (same m) in
    let earlier : before (told opening shown) n ≡ before events n = second (nat_eq m n) (told opening landed) (before events n) (differs m n (λ is. (let lt = acked_below m events n delete new ack in omega (arith, lt, is)))) in
    record {
      moments = Does (Replies m key hit (Some 0)) ∷ (Does (Calls m 0 get Client (Read m hit 0)) ∷ (Does (Begins m get) ∷ (Lands number 0 set Client number Stored 0 ∷ [])));
      run = r4;
      stale = λ fresh.
          fresh n m delete item
          (subst (λ l. IsAcknowledged l n delete) (sym later) (inr ack))
          (inl (refl, sym on, 0, refl, found))
          (subst (λ l. HasEnded l number) (sym earlier) ended);
    }
