-- Each proxy of a fleet sees a run of its own in which others write the servers.
use Rattle.std.proofs.Common.{◌≡◌, ℕ, Bool, true, false, cond, List, [], ◌∷◌, ◌++◌, length, Option, Some, None, refl, sym, ap, ◌∙◌, subst, bytes_eq, nat_eq}
use Rattle.std.proofs.lemmas.Bool.{eqb-true, eq-eqb}
use Rattle.std.proofs.lemmas.Slice.Eq.{bytes_eq-Decides}
use Rattle.mc_types.specs.declared.ask.Ask.{Ask}
use Rattle.mc_types.specs.declared.answer.Answer.{Answer}
use Rattle.mc_types.specs.declared.call.Origin.{Origin}
use Rattle.mc_types.specs.declared.call.Origin.TheVariants.{Client, CopyOf}
use Rattle.mc_types.specs.Items.{Item}
use Rattle.mc_types.specs.Agree.{AnswerAgrees}
use Rattle.fresh_runs.specs.Life.{Turned, held_in}
use Rattle.fresh_runs.specs.Calls.{Call, End, Read, Unread, Never, outcome_of}
use Rattle.fresh_runs.specs.Run.{Event, Begins, Calls, Replies, Breaks, Turns, Restarts, under_way, calls_so_far, IsNewNumber, IsFront}
use Rattle.fresh_runs.specs.Run as sharing
use Rattle.fresh_runs.proofs.Runs.{differs, differ, second}
use Rattle.core_accepted.specs.Late.{told, LandsEver}
use Rattle.core_accepted.specs.Parts.{part, IsSwap, MovesBack, EndsAs, LeavesKey, LeavesRestart, AreChanges, Same, More}
use Rattle.fresh_theory.specs.Mirror.{mirror, FleetIsMirrored}
use Rattle.core_accepted.proofs.Late.{as_run}

same : (p : ℕ) → nat_eq p p ≡ true
same p = eq-eqb p p refl

first : {A : Type 0} (b : Bool) (x y : A) → b ≡ true → cond b x y ≡ x
first true x y e = refl
first false x y e = absurd cc

no_way : (ask : Ask) → ◌≡◌ {A = Option Ask} None (Some ask) → ⊥
no_way ask e = cc

-- changes of what came before
one_behind : (event : Event) (one two : List Event) → IsSwap one two → IsSwap (event ∷ one) (event ∷ two)
one_behind e one two (MovesBack later past event number server ask origin end other) = MovesBack (e ∷ later) past event number server ask origin end other
one_behind e one two (EndsAs later past number server ask origin end other is) = EndsAs (e ∷ later) past number server ask origin end other is
one_behind e one two (LeavesKey later past server key turned) = LeavesKey (e ∷ later) past server key turned
one_behind e one two (LeavesRestart later past server) = LeavesRestart (e ∷ later) past server

behind : (event : Event) (one two : List Event) → AreChanges one two → AreChanges (event ∷ one) (event ∷ two)
behind e one two (Same all) = Same (e ∷ all)
behind e one two (More events others last change more) = More (e ∷ events) (e ∷ others) (e ∷ last) (one_behind e events others change) (behind e others last more)

then_one : (one two three : List Event) → AreChanges one two → IsSwap two three → AreChanges one three
then_one one two three (Same all) change = More all three three change (Same three)
then_one one two three (More events others last first_change more) change = More events others three first_change (then_one others last three more change)

module _ (proxy : ℕ → ℕ) (words : ℕ → Ask → List Call → Answer → Option ℕ → Type 0) (Bars : ℕ → Ask → ℕ → Ask → Type 0) (opening : ℕ → List ℕ → Option Item) (p : ℕ) where
  -- of the proxy's commands the mirror says what the whole does
  way : (events : List Event) (n : ℕ) → proxy n ≡ p → under_way (mirror proxy opening p events) n ≡ under_way events n
  way [] n own = refl
  way (Begins x ask ∷ past) n own =
      let mine = mirror proxy opening p past in
      (elim (nat_eq (proxy x) p) as (λ b. nat_eq (proxy x) p ≡ b → under_way (cond b (Begins x ask ∷ mine) mine) n ≡ cond (nat_eq x n) (Some ask) (under_way past n)) [
        | true ↦ λ _. ap (λ o. cond (nat_eq x n) (Some ask) o) (way past n own)
        | false ↦ λ is. way past n own ∙ sym (second (nat_eq x n) (Some ask) (under_way past n) (differs x n (λ e. differ (proxy x) p is (ap proxy e ∙ own))))
      ]) refl
  way (Calls x s a o end ∷ past) n own =
      let mine = mirror proxy opening p past in
      elim (nat_eq (proxy x) p) as (λ b. under_way (cond b (Calls x s a o end ∷ (Turns s a.key (sharing.held opening past s a.key) ∷ mine)) mine) n ≡ under_way past n) [ true ↦ way past n own | false ↦ way past n own ]
  way (Replies x key r f ∷ past) n own =
      let mine = mirror proxy opening p past in
      (elim (nat_eq (proxy x) p) as (λ b. nat_eq (proxy x) p ≡ b → under_way (cond b (Replies x key r f ∷ mine) mine) n ≡ cond (nat_eq x n) None (under_way past n)) [
        | true ↦ λ _. ap (λ o. cond (nat_eq x n) None o) (way past n own)
        | false ↦ λ is. way past n own ∙ sym (second (nat_eq x n) None (under_way past n) (differs x n (λ e. differ (proxy x) p is (ap proxy e ∙ own))))
      ]) refl
  way (Breaks x ∷ past) n own =
      let mine = mirror proxy opening p past in
      (elim (nat_eq (proxy x) p) as (λ b. nat_eq (proxy x) p ≡ b → under_way (cond b (Breaks x ∷ mine) mine) n ≡ cond (nat_eq x n) None (under_way past n)) [
        | true ↦ λ _. ap (λ o. cond (nat_eq x n) None o) (way past n own)
        | false ↦ λ is. way past n own ∙ sym (second (nat_eq x n) None (under_way past n) (differs x n (λ e. differ (proxy x) p is (ap proxy e ∙ own))))
      ]) refl
  way (Turns s key turned ∷ past) n own = way past n own
  way (Restarts s ∷ past) n own = way past n own

  calls : (events : List Event) (n : ℕ) → proxy n ≡ p → calls_so_far (mirror proxy opening p events) n ≡ calls_so_far events n
  calls [] n own = refl
  calls (Begins x ask ∷ past) n own =
      let mine = mirror proxy opening p past in
      elim (nat_eq (proxy x) p) as (λ b. calls_so_far (cond b (Begins x ask ∷ mine) mine) n ≡ calls_so_far past n) [ true ↦ calls past n own | false ↦ calls past n own ]
  calls (Calls x s a o end ∷ past) n own =
      let mine = mirror proxy opening p past in
      let call : Call = record { server = s; ask = a; origin = o; outcome = outcome_of end } in
      (elim (nat_eq (proxy x) p) as (λ b. nat_eq (proxy x) p ≡ b → calls_so_far (cond b (Calls x s a o end ∷ (Turns s a.key (sharing.held opening past s a.key) ∷ mine)) mine) n ≡ cond (nat_eq x n) (calls_so_far past n ++ call ∷ []) (calls_so_far past n)) [
        | true ↦ λ _. ap (λ l. cond (nat_eq x n) (l ++ call ∷ []) l) (calls past n own)
        | false ↦ λ is. calls past n own ∙ sym (second (nat_eq x n) (calls_so_far past n ++ call ∷ []) (calls_so_far past n) (differs x n (λ e. differ (proxy x) p is (ap proxy e ∙ own))))
      ]) refl
  calls (Replies x key r f ∷ past) n own =
      let mine = mirror proxy opening p past in
      elim (nat_eq (proxy x) p) as (λ b. calls_so_far (cond b (Replies x key r f ∷ mine) mine) n ≡ calls_so_far past n) [ true ↦ calls past n own | false ↦ calls past n own ]
  calls (Breaks x ∷ past) n own =
      let mine = mirror proxy opening p past in
      elim (nat_eq (proxy x) p) as (λ b. calls_so_far (cond b (Breaks x ∷ mine) mine) n ≡ calls_so_far past n) [ true ↦ calls past n own | false ↦ calls past n own ]
  calls (Turns s key turned ∷ past) n own = calls past n own
  calls (Restarts s ∷ past) n own = calls past n own

  -- a command under way in the mirror is the proxy's
  own_of : (events : List Event) (n : ℕ) (ask : Ask) → under_way (mirror proxy opening p events) n ≡ Some ask → proxy n ≡ p
  own_of [] n ask e = absurd (no_way ask e)
  own_of (Begins x asked ∷ past) n ask e =
      let mine = mirror proxy opening p past in
      (elim (nat_eq (proxy x) p) as (λ b. nat_eq (proxy x) p ≡ b → under_way (cond b (Begins x asked ∷ mine) mine) n ≡ Some ask → proxy n ≡ p) [
        | true ↦ λ here f.
            (elim (nat_eq x n) as (λ b. nat_eq x n ≡ b → cond b (Some asked) (under_way mine n) ≡ Some ask → proxy n ≡ p) [
              | true ↦ λ is _. ap proxy (sym (eqb-true x n is)) ∙ eqb-true (proxy x) p here
              | false ↦ λ _ g. own_of past n ask g
            ]) refl f
        | false ↦ λ _ f. own_of past n ask f
      ]) refl e
  own_of (Calls x s a o end ∷ past) n ask e =
      let mine = mirror proxy opening p past in
      (elim (nat_eq (proxy x) p) as (λ b. under_way (cond b (Calls x s a o end ∷ (Turns s a.key (sharing.held opening past s a.key) ∷ mine)) mine) n ≡ Some ask → proxy n ≡ p) [ true ↦ λ f. own_of past n ask f | false ↦ λ f. own_of past n ask f ]) e
  own_of (Replies x key r f ∷ past) n ask e =
      let mine = mirror proxy opening p past in
      (elim (nat_eq (proxy x) p) as (λ b. under_way (cond b (Replies x key r f ∷ mine) mine) n ≡ Some ask → proxy n ≡ p) [
        | true ↦ λ g. (elim (nat_eq x n) as (λ b. cond b None (under_way mine n) ≡ Some ask → proxy n ≡ p) [ true ↦ λ h. absurd (no_way ask h) | false ↦ λ h. own_of past n ask h ]) g
        | false ↦ λ g. own_of past n ask g
      ]) e
  own_of (Breaks x ∷ past) n ask e =
      let mine = mirror proxy opening p past in
      (elim (nat_eq (proxy x) p) as (λ b. under_way (cond b (Breaks x ∷ mine) mine) n ≡ Some ask → proxy n ≡ p) [
        | true ↦ λ g. (elim (nat_eq x n) as (λ b. cond b None (under_way mine n) ≡ Some ask → proxy n ≡ p) [ true ↦ λ h. absurd (no_way ask h) | false ↦ λ h. own_of past n ask h ]) g
        | false ↦ λ g. own_of past n ask g
      ]) e
  own_of (Turns s key turned ∷ past) n ask e = own_of past n ask e
  own_of (Restarts s ∷ past) n ask e = own_of past n ask e

  -- numbers that are new are new to the proxy
  still_new : (events : List Event) (x : ℕ) → IsNewNumber x events → IsNewNumber x (mirror proxy opening p events)
  still_new [] x new = new
  still_new (Begins m ask ∷ past) x new =
      let mine = mirror proxy opening p past in
      elim (nat_eq (proxy m) p) as (λ b. IsNewNumber x (cond b (Begins m ask ∷ mine) mine)) [ true ↦ (new.0, still_new past x new.1) | false ↦ still_new past x new.1 ]
  still_new (Calls m s a o end ∷ past) x new =
      let mine = mirror proxy opening p past in
      elim (nat_eq (proxy m) p) as (λ b. IsNewNumber x (cond b (Calls m s a o end ∷ (Turns s a.key (sharing.held opening past s a.key) ∷ mine)) mine)) [ true ↦ (new.0, still_new past x new.1) | false ↦ still_new past x new.1 ]
  still_new (Replies m key r f ∷ past) x new =
      let mine = mirror proxy opening p past in
      elim (nat_eq (proxy m) p) as (λ b. IsNewNumber x (cond b (Replies m key r f ∷ mine) mine)) [ true ↦ (new.0, still_new past x new.1) | false ↦ still_new past x new.1 ]
  still_new (Breaks m ∷ past) x new =
      let mine = mirror proxy opening p past in
      elim (nat_eq (proxy m) p) as (λ b. IsNewNumber x (cond b (Breaks m ∷ mine) mine)) [ true ↦ (new.0, still_new past x new.1) | false ↦ still_new past x new.1 ]
  still_new (Turns s key turned ∷ past) x new = still_new past x new
  still_new (Restarts s ∷ past) x new = still_new past x new

  -- what others have turned is held
  turned_is : (events : List Event) (server : ℕ) (key : List ℕ) (turned : Option Item) → sharing.held opening (Turns server key turned ∷ events) server key ≡ turned
  turned_is events server key turned =
      ap (λ l. held_in (opening server key) l key) (first (nat_eq server server) (Turned key turned ∷ sharing.life_of events server) (sharing.life_of events server) (same server))
      ∙ first (bytes_eq key key) turned (held_in (opening server key) (sharing.life_of events server) key) ((bytes_eq-Decides key key).1 refl)

  items : (events : List Event) (n i : ℕ) → proxy n ≡ p → sharing.item_at opening (mirror proxy opening p events) n i ≡ sharing.item_at opening events n i
  items [] n i own = refl
  items (Begins x ask ∷ past) n i own =
      let mine = mirror proxy opening p past in
      elim (nat_eq (proxy x) p) as (λ b. sharing.item_at opening (cond b (Begins x ask ∷ mine) mine) n i ≡ sharing.item_at opening past n i) [ true ↦ items past n i own | false ↦ items past n i own ]
  items (Calls x s a o end ∷ past) n i own =
      let mine = mirror proxy opening p past in
      let turn = Turns s a.key (sharing.held opening past s a.key) in
      let pick : List Call → Option Item → Option Item → Option Item = λ l h r. cond (nat_eq x n) (cond (nat_eq (length l) i) h r) r in
      (elim (nat_eq (proxy x) p) as (λ b. nat_eq (proxy x) p ≡ b → sharing.item_at opening (cond b (Calls x s a o end ∷ (turn ∷ mine)) mine) n i ≡ pick (calls_so_far past n) (sharing.held opening past s a.key) (sharing.item_at opening past n i)) [
        | true ↦ λ _.
            ap (λ l. pick l (sharing.held opening (turn ∷ mine) s a.key) (sharing.item_at opening mine n i)) (calls past n own)
            ∙ ap (λ h. pick (calls_so_far past n) h (sharing.item_at opening mine n i)) (turned_is mine s a.key (sharing.held opening past s a.key))
            ∙ ap (λ r. pick (calls_so_far past n) (sharing.held opening past s a.key) r) (items past n i own)
        | false ↦ λ is.
            items past n i own
            ∙ sym (second (nat_eq x n) (cond (nat_eq (length (calls_so_far past n)) i) (sharing.held opening past s a.key) (sharing.item_at opening past n i)) (sharing.item_at opening past n i) (differs x n (λ e. differ (proxy x) p is (ap proxy e ∙ own))))
      ]) refl
  items (Replies x key r f ∷ past) n i own =
      let mine = mirror proxy opening p past in
      elim (nat_eq (proxy x) p) as (λ b. sharing.item_at opening (cond b (Replies x key r f ∷ mine) mine) n i ≡ sharing.item_at opening past n i) [ true ↦ items past n i own | false ↦ items past n i own ]
  items (Breaks x ∷ past) n i own =
      let mine = mirror proxy opening p past in
      elim (nat_eq (proxy x) p) as (λ b. sharing.item_at opening (cond b (Breaks x ∷ mine) mine) n i ≡ sharing.item_at opening past n i) [ true ↦ items past n i own | false ↦ items past n i own ]
  items (Turns s key turned ∷ past) n i own = items past n i own
  items (Restarts s ∷ past) n i own = items past n i own

  gives : (past : List Event) (turn : Event) (number : ℕ) (origin : Origin) (stamp : ℕ) → proxy number ≡ p → sharing.item_at opening (turn ∷ mirror proxy opening p past) number ≡ sharing.item_at opening (mirror proxy opening p past) number → sharing.GivesStamp opening past number origin stamp → sharing.GivesStamp opening (turn ∷ mirror proxy opening p past) number origin stamp
  gives past turn number Client stamp own e g = g
  gives past turn number (CopyOf i) stamp own e g = (g.0, ap (λ (f : ℕ → Option Item). f i) e ∙ items past number i own ∙ g.1, g.2)

  ends : (past : List Event) (number server : ℕ) (ask : Ask) (origin : Origin) (end : End) → proxy number ≡ p → sharing.EndsWell opening past number server ask origin end → sharing.EndsWell opening (Turns server ask.key (sharing.held opening past server ask.key) ∷ mirror proxy opening p past) number server ask origin end
  ends past number server ask origin (Read stamp answer spaces) own e =
      (subst (AnswerAgrees ask answer) (sym (turned_is (mirror proxy opening p past) server ask.key (sharing.held opening past server ask.key))) e.0, gives past (Turns server ask.key (sharing.held opening past server ask.key)) number origin stamp own refl e.1)
  ends past number server ask origin (Unread stamp answer spaces) own e =
      (subst (AnswerAgrees ask answer) (sym (turned_is (mirror proxy opening p past) server ask.key (sharing.held opening past server ask.key))) e.0, gives past (Turns server ask.key (sharing.held opening past server ask.key)) number origin stamp own refl e.1)
  ends past number server ask origin Never own e = tt

  runs : (events : List Event) → sharing.Run words Bars opening events → sharing.Run words Bars opening (mirror proxy opening p events)
  runs [] run = tt
  runs (Begins x ask ∷ past) run =
      let mine = mirror proxy opening p past in
      elim (nat_eq (proxy x) p) as (λ b. sharing.Run words Bars opening (cond b (Begins x ask ∷ mine) mine)) [
        | true ↦ (
          (
            still_new past x run.0.0,
            λ other client e alike. run.0.1 other client (sym (way past other (own_of past other client e)) ∙ e) alike,
          ),
          runs past run.1,
        )
        | false ↦ runs past run.1
      ]
  runs (Calls x s a o end ∷ past) run =
      let mine = mirror proxy opening p past in
      let call : Call = record { server = s; ask = a; origin = o; outcome = outcome_of end } in
      (elim (nat_eq (proxy x) p) as (λ b. nat_eq (proxy x) p ≡ b → sharing.Run words Bars opening (cond b (Calls x s a o end ∷ (Turns s a.key (sharing.held opening past s a.key) ∷ mine)) mine)) [
        | true ↦ λ here.
            let own = eqb-true (proxy x) p here in (
              (
                run.0.0,
                way past x own ∙ run.0.1,
                run.0.2,
                subst (λ l. IsFront words x run.0.0 (l ++ call ∷ [])) (sym (calls past x own)) run.0.3,
                ends past x s a o end own run.0.4,
              ),
              (tt, runs past run.1),
            )
        | false ↦ λ _. runs past run.1
      ]) refl
  runs (Replies x key r f ∷ past) run =
      let mine = mirror proxy opening p past in
      (elim (nat_eq (proxy x) p) as (λ b. nat_eq (proxy x) p ≡ b → sharing.Run words Bars opening (cond b (Replies x key r f ∷ mine) mine)) [
        | true ↦ λ here.
            let own = eqb-true (proxy x) p here in
            ((run.0.0, way past x own ∙ run.0.1, run.0.2, subst (λ l. words x run.0.0 l r f) (sym (calls past x own)) run.0.3), runs past run.1)
        | false ↦ λ _. runs past run.1
      ]) refl
  runs (Breaks x ∷ past) run =
      let mine = mirror proxy opening p past in
      (elim (nat_eq (proxy x) p) as (λ b. nat_eq (proxy x) p ≡ b → sharing.Run words Bars opening (cond b (Breaks x ∷ mine) mine)) [
        | true ↦ λ here. ((run.0.0, way past x (eqb-true (proxy x) p here) ∙ run.0.1), runs past run.1)
        | false ↦ λ _. runs past run.1
      ]) refl
  runs (Turns s key turned ∷ past) run = runs past run.1
  runs (Restarts s ∷ past) run = runs past run.1

  changed : (events : List Event) → AreChanges (mirror proxy opening p events) (part proxy p events)
  changed [] = Same []
  changed (Begins x ask ∷ past) =
      let mine = mirror proxy opening p past in
      let its = part proxy p past in
      elim (nat_eq (proxy x) p) as (λ b. AreChanges (cond b (Begins x ask ∷ mine) mine) (cond b (Begins x ask ∷ its) its)) [ true ↦ behind (Begins x ask) mine its (changed past) | false ↦ changed past ]
  changed (Calls x s a o end ∷ past) =
      let mine = mirror proxy opening p past in
      let its = part proxy p past in
      let call = Calls x s a o end in
      let turn = Turns s a.key (sharing.held opening past s a.key) in
      elim (nat_eq (proxy x) p) as (λ b. AreChanges (cond b (call ∷ (turn ∷ mine)) mine) (cond b (call ∷ its) its)) [
        | true ↦ then_one (call ∷ (turn ∷ mine)) (call ∷ (turn ∷ its)) (call ∷ its) (behind call (turn ∷ mine) (turn ∷ its) (behind turn mine its (changed past))) (LeavesKey (call ∷ []) its s a.key (sharing.held opening past s a.key))
        | false ↦ changed past
      ]
  changed (Replies x key r f ∷ past) =
      let mine = mirror proxy opening p past in
      let its = part proxy p past in
      elim (nat_eq (proxy x) p) as (λ b. AreChanges (cond b (Replies x key r f ∷ mine) mine) (cond b (Replies x key r f ∷ its) its)) [ true ↦ behind (Replies x key r f) mine its (changed past) | false ↦ changed past ]
  changed (Breaks x ∷ past) =
      let mine = mirror proxy opening p past in
      let its = part proxy p past in
      elim (nat_eq (proxy x) p) as (λ b. AreChanges (cond b (Breaks x ∷ mine) mine) (cond b (Breaks x ∷ its) its)) [ true ↦ behind (Breaks x) mine its (changed past) | false ↦ changed past ]
  changed (Turns s key turned ∷ past) = changed past
  changed (Restarts s ∷ past) = changed past

pub mirrored : (words : ℕ → Ask → List Call → Answer → Option ℕ → Type 0) (Bars : ℕ → Ask → ℕ → Ask → Type 0) → FleetIsMirrored words Bars
mirrored words Bars proxy opening p moments run =
    let events = told opening moments in
    record { run = runs proxy words Bars opening p events (as_run words Bars opening LandsEver moments run); changes = changed proxy words Bars opening p events }
