-- Proxies by their own numbers are parts of a fleet, and what they do together is fresh.
use Rattle.std.proofs.Common.{◌≡◌, ℕ, ◌<◌, Bool, true, false, cond, List, [], ◌∷◌, ◌++◌, Option, Some, None, ⊎_elim, refl, sym, ap, ◌∙◌, subst, arith, nat_eq}
use Rattle.std.proofs.lemmas.Bool.{eqb-true, eq-eqb, cases_order}
use Rattle.mc_types.specs.declared.ask.Ask.{Ask}
use Rattle.mc_types.specs.declared.answer.Answer.{Answer}
use Rattle.mc_types.specs.Items.{Item}
use Rattle.fresh_runs.specs.Calls.{Call, outcome_of}
use Rattle.fresh_runs.specs.Run.{Event, Begins, Calls, Replies, Breaks, Turns, Restarts, under_way, calls_so_far, IsNewNumber, IsFront}
use Rattle.fresh_runs.proofs.Runs.{no_ask, differs, differ, second}
use Rattle.core_accepted.specs.Late.{Moment, Does, Lands, told, LateRun, LandsEver}
use Rattle.core_accepted.specs.Parts.{Own, part}
use Rattle.fresh_theory.specs.FleetLaws.{LandsBeginless}
use Rattle.core_accepted.proofs.FleetsFresh.{nothing_bars, fleet_fresh}
use Rattle.core_accepted.proofs.Parts as of_one
use Rattle.fresh_theory.proofs.FleetsFresh.{beginless_fresh}
use Rattle.fresh_theory.specs.Parts.{renamed, FleetOfPartsIsFresh, NoStoreLands, PartsAreFresh, RunsAreParts, PartLaws}

same : (p : ℕ) → nat_eq p p ≡ true
same p = eq-eqb p p refl

first : {A : Type 0} (b : Bool) (x y : A) → b ≡ true → cond b x y ≡ x
first true x y e = refl
first false x y e = absurd cc

module _ (words : ℕ → Ask → List Call → Answer → Option ℕ → Type 0) (Bars : ℕ → Ask → ℕ → Ask → Type 0) where
  module _ (name : ℕ → ℕ) (rising : (n m : ℕ) → n < m → name n < name m) where
    name_differs : (a b : ℕ) → nat_eq a b ≡ false → nat_eq (name a) (name b) ≡ false
    name_differs a b unlike =
        differs (name a) (name b) (λ is.
        ⊎_elim
        (λ e. differ a b unlike e)
        (⊎_elim (λ lt. (let up = rising a b lt in omega (arith, up, is))) (λ gt. (let up = rising b a gt in omega (arith, up, is))))
        (cases_order a b))

    name_same : (a b : ℕ) → nat_eq a b ≡ true → nat_eq (name a) (name b) ≡ true
    name_same a b is = subst (λ k. nat_eq (name a) (name k) ≡ true) (eqb-true a b is) (same (name a))

    -- what is chosen by numbers is chosen by names
    by_name : {A : Type 0} (a b : ℕ) (x y z : A) → y ≡ z → cond (nat_eq (name a) (name b)) x y ≡ cond (nat_eq a b) x z
    by_name a b x y z e =
        (elim (nat_eq a b) as (λ t. nat_eq a b ≡ t → cond (nat_eq (name a) (name b)) x y ≡ cond t x z) [
          | true ↦ λ is. first (nat_eq (name a) (name b)) x y (name_same a b is)
          | false ↦ λ is. second (nat_eq (name a) (name b)) x y (name_differs a b is) ∙ e
        ]) refl

    way_named : (events : List Event) (n : ℕ) → under_way (renamed name events) (name n) ≡ under_way events n
    way_named [] n = refl
    way_named (Begins x ask ∷ past) n = by_name x n (Some ask) (under_way (renamed name past) (name n)) (under_way past n) (way_named past n)
    way_named (Calls x s a o end ∷ past) n = way_named past n
    way_named (Replies x key r f ∷ past) n = by_name x n None (under_way (renamed name past) (name n)) (under_way past n) (way_named past n)
    way_named (Breaks x ∷ past) n = by_name x n None (under_way (renamed name past) (name n)) (under_way past n) (way_named past n)
    way_named (Turns s key turned ∷ past) n = way_named past n
    way_named (Restarts s ∷ past) n = way_named past n

    calls_named : (events : List Event) (n : ℕ) → calls_so_far (renamed name events) (name n) ≡ calls_so_far events n
    calls_named [] n = refl
    calls_named (Begins x ask ∷ past) n = calls_named past n
    calls_named (Calls x s a o end ∷ past) n =
        let call : Call = record { server = s; ask = a; origin = o; outcome = outcome_of end } in
        ap (λ l. cond (nat_eq (name x) (name n)) (l ++ call ∷ []) l) (calls_named past n) ∙ by_name x n (calls_so_far past n ++ call ∷ []) (calls_so_far past n) (calls_so_far past n) refl
    calls_named (Replies x key r f ∷ past) n = calls_named past n
    calls_named (Breaks x ∷ past) n = calls_named past n
    calls_named (Turns s key turned ∷ past) n = calls_named past n
    calls_named (Restarts s ∷ past) n = calls_named past n

    named : (events : List Event) (x : ℕ) (c : Ask) → under_way (renamed name events) x ≡ Some c → (o : ℕ) × (x ≡ name o)
    named [] x c e = no_ask c e
    named (Begins n ask ∷ past) x c e =
        (elim (nat_eq (name n) x) as (λ t. nat_eq (name n) x ≡ t → cond t (Some ask) (under_way (renamed name past) x) ≡ Some c → (o : ℕ) × (x ≡ name o)) [
          | true ↦ λ is _. (n, sym (eqb-true (name n) x is))
          | false ↦ λ _ f. named past x c f
        ]) refl e
    named (Calls n s a o end ∷ past) x c e = named past x c e
    named (Replies n key r f ∷ past) x c e =
        (elim (nat_eq (name n) x) as (λ t. cond t None (under_way (renamed name past) x) ≡ Some c → (o : ℕ) × (x ≡ name o)) [
          | true ↦ λ g. no_ask c g
          | false ↦ λ g. named past x c g
        ]) e
    named (Breaks n ∷ past) x c e =
        (elim (nat_eq (name n) x) as (λ t. cond t None (under_way (renamed name past) x) ≡ Some c → (o : ℕ) × (x ≡ name o)) [
          | true ↦ λ g. no_ask c g
          | false ↦ λ g. named past x c g
        ]) e
    named (Turns s key turned ∷ past) x c e = named past x c e
    named (Restarts s ∷ past) x c e = named past x c e

    way_from : (events : List Event) (x : ℕ) (c : Ask) → under_way (renamed name events) x ≡ Some c → (o : ℕ) × (x ≡ name o) × (under_way events o ≡ Some c)
    way_from events x c e = (let o = named events x c e in (o.0, o.1, sym (way_named events o.0) ∙ ap (under_way (renamed name events)) (sym o.1) ∙ e))

    new_named : (x : ℕ) (events : List Event) → IsNewNumber x events → IsNewNumber (name x) (renamed name events)
    new_named x [] new = (let up = rising 0 x (let one = new in omega arith) in omega arith)
    new_named x (Begins m ask ∷ past) new = (rising m x new.0, new_named x past new.1)
    new_named x (Calls m s a o end ∷ past) new = (rising m x new.0, new_named x past new.1)
    new_named x (Replies m key r f ∷ past) new = (rising m x new.0, new_named x past new.1)
    new_named x (Breaks m ∷ past) new = (rising m x new.0, new_named x past new.1)
    new_named x (Turns s key turned ∷ past) new = new_named x past new
    new_named x (Restarts s ∷ past) new = new_named x past new

    own_named : (events : List Event) → Own (λ n. words (name n)) (λ n ask m client. Bars (name n) ask (name m) client) events → Own words Bars (renamed name events)
    own_named [] own = tt
    own_named (Begins x ask ∷ past) own = (
      (
        new_named x past own.0.0,
        λ other client e alike.
            let o = way_from past other client e in
            let free = own.0.1 o.0 client o.2 alike in
            ((λ b. free.0 (subst (λ k. Bars (name x) ask k client) o.1 b)), (λ b. free.1 (subst (λ k. Bars k client (name x) ask) o.1 b))),
      ),
      own_named past own.1,
    )
    own_named (Calls x s a o end ∷ past) own =
        let call : Call = record { server = s; ask = a; origin = o; outcome = outcome_of end } in
        ((own.0.0, way_named past x ∙ own.0.1, own.0.2, subst (λ l. IsFront words (name x) own.0.0 (l ++ call ∷ [])) (sym (calls_named past x)) own.0.3), own_named past own.1)
    own_named (Replies x key r f ∷ past) own =
        ((own.0.0, way_named past x ∙ own.0.1, own.0.2, subst (λ l. words (name x) own.0.0 l r f) (sym (calls_named past x)) own.0.3), own_named past own.1)
    own_named (Breaks x ∷ past) own = ((own.0.0, way_named past x ∙ own.0.1), own_named past own.1)
    own_named (Turns s key turned ∷ past) own = (tt, own_named past own.1)
    own_named (Restarts s ∷ past) own = (tt, own_named past own.1)

  late_fresh : FleetOfPartsIsFresh words Bars
  late_fresh cover none proxy within line opening steps fleet = fleet_fresh words Bars cover none line opening steps ((of_one.part_laws words Bars).steps proxy within line opening steps fleet)

  beginless : (opening : ℕ → List ℕ → Option Item) (moments : List Moment) → LateRun words Bars opening LandsEver moments → NoStoreLands moments → LateRun words Bars opening (LandsBeginless words Bars) moments
  beginless opening [] run none = tt
  beginless opening (Does (Begins x ask) ∷ past) run none = (run.0, beginless opening past run.1 none)
  beginless opening (Does (Calls x s a o end) ∷ past) run none = (run.0, beginless opening past run.1 none)
  beginless opening (Does (Replies x key r f) ∷ past) run none = (run.0, beginless opening past run.1 none)
  beginless opening (Does (Breaks x) ∷ past) run none = (run.0, beginless opening past run.1 none)
  beginless opening (Does (Turns s key turned) ∷ past) run none = (run.0, beginless opening past run.1 none)
  beginless opening (Does (Restarts s) ∷ past) run none = (run.0, beginless opening past run.1 none)
  beginless opening (Lands x s a o stamp answer spaces ∷ past) run none = ((run.0.0, none.0, run.0.2, run.0.3), beginless opening past run.1 none.1)

  parts_fresh : PartsAreFresh words Bars
  parts_fresh cover none proxy within opening moments parts lands =
      beginless_fresh words Bars cover (nothing_bars words Bars none) opening moments (beginless opening moments ((of_one.part_laws words Bars).run proxy within opening moments parts) lands)

  runs_parts : RunsAreParts words Bars
  runs_parts proxy opening moments fleet =
      record {
        own = λ p.
            (of_one.part_laws words Bars).changes (renamed (fleet.name p) (fleet.events p)) (part proxy p (told opening moments)) (fleet.parts p)
            (own_named (fleet.name p) (fleet.rising p) (fleet.events p) ((of_one.part_laws (λ n. words (fleet.name p n)) (λ n ask m client. Bars (fleet.name p n) ask (fleet.name p m) client)).own (fleet.believes p) (fleet.events p) (fleet.runs p)));
        rise = fleet.rise;
        serves = fleet.serves;
      }

  pub part_laws : PartLaws words Bars
  part_laws =
      let laws = of_one.part_laws words Bars in
      record {
        own = laws.own;
        changes = laws.changes;
        renames = λ name rising events own. own_named name rising events own;
        run = laws.run;
        steps = laws.steps;
        runs = runs_parts;
        fresh = parts_fresh;
        late = late_fresh;
      }
