-- The laws of fleets whose proxies are patient, or have their keys, and of stores that hadn't failed.
use Rattle.std.proofs.Common.{◌≡◌, ℕ, Bool, true, false, cond, List, [], ◌∷◌, Option, None, ◌⊎◌, inl, inr, refl, sym}
use Rattle.mc_types.specs.declared.ask.Op.{Op}
use Rattle.mc_types.specs.declared.ask.Op.TheVariants.{Get, Gat, Set, Add, Replace, Append, Prepend, Cas, Delete, Incr, Decr, Touch}
use Rattle.mc_types.specs.declared.ask.Ask.{Ask}
use Rattle.mc_types.specs.declared.answer.Answer.{Answer}
use Rattle.mc_types.specs.declared.call.Origin.{Origin}
use Rattle.mc_types.specs.declared.call.Origin.TheVariants.{Client, CopyOf}
use Rattle.mc_types.specs.declared.call.Outcome.TheVariants.{Failed}
use Rattle.mc_types.specs.Items.{Item, removes, is_done, after_done, after_call}
use Rattle.fresh_runs.specs.Calls.{Call}
use Rattle.fresh_runs.specs.Run.{Event, calls_so_far, held}
use Rattle.fresh_runs.proofs.Stamps.{get_left}
use Rattle.core_accepted.specs.Late.{Moment, Does, Lands, told, HasFailed, LateRun, WasOver, LandsInTime, LandsEver, begins_stamp}
use Rattle.core_accepted.specs.Pipes.{WasOverOn}
use Rattle.core_accepted.specs.FleetLaws.{NothingCopies}
use Rattle.serve_links.specs.Stores.{changes_data}
use Rattle.fresh_theory.specs.FleetLaws.{OneProxyIsFresh, StickyIsFresh, LandsBeginless, BeginlessIsFresh, LandingsBringNothing, LandsHarmless, PatientIsFresh, SettledIsFresh, WasSettled}
use Rattle.core_accepted.proofs.Late.{made, as_run}
use Rattle.core_accepted.proofs.LateFresh.{fresh}
use Rattle.core_accepted.proofs.Pipes.{timely, failed_then}
use Rattle.core_accepted.proofs.FleetsFresh.{nothing_bars, run_more}
use Rattle.fresh_theory.proofs.Sticky.{stuck_timely}

-- what begins an item changes data
begins_change : (op : Op) → begins_stamp op ≡ true → changes_data op ≡ true
begins_change Set is = refl
begins_change Add is = refl
begins_change Replace is = refl
begins_change Cas is = refl
begins_change Append is = refl
begins_change Prepend is = refl
begins_change Incr is = refl
begins_change Decr is = refl
begins_change Get is = is
begins_change Gat is = is
begins_change Touch is = is
begins_change Delete is = is

-- what changes no data leaves what was held, where it was done
done_leaves : (op : Op) (ask : Ask) (stamp spaces : ℕ) (before : Option Item) → (changes_data op ≡ true → ⊥) → after_done op ask stamp spaces before ≡ before
done_leaves Set ask stamp spaces before none = absurd (none refl)
done_leaves Add ask stamp spaces before none = absurd (none refl)
done_leaves Replace ask stamp spaces before none = absurd (none refl)
done_leaves Cas ask stamp spaces before none = absurd (none refl)
done_leaves Append ask stamp spaces before none = absurd (none refl)
done_leaves Prepend ask stamp spaces before none = absurd (none refl)
done_leaves Incr ask stamp spaces before none = absurd (none refl)
done_leaves Decr ask stamp spaces before none = absurd (none refl)
done_leaves Get ask stamp spaces before none = refl
done_leaves Gat ask stamp spaces before none = refl
done_leaves Touch ask stamp spaces before none = refl
done_leaves Delete ask stamp spaces before none = refl

either_left : (gone done : Bool) (after before : Option Item) → after ≡ before → (cond gone None (cond done after before) ≡ before) ⊎ (cond gone None (cond done after before) ≡ None)
either_left true done after before same = inr refl
either_left false true after before same = inl same
either_left false false after before same = inl refl

call_leaves : (ask : Ask) (stamp : ℕ) (answer : Answer) (spaces : ℕ) (before : Option Item) → (changes_data ask.op ≡ true → ⊥) → (after_call ask stamp answer spaces before ≡ before) ⊎ (after_call ask stamp answer spaces before ≡ None)
call_leaves ask stamp answer spaces before none =
    either_left (removes ask.op answer) (is_done answer) (after_done ask.op ask stamp spaces before) before (done_leaves ask.op ask stamp spaces before none)

no_copy : {A : Type 0} (i : ℕ) → Client ≡ CopyOf i → A
no_copy i e = absurd cc

module _ (words : ℕ → Ask → List Call → Answer → Option ℕ → Type 0) (Bars : ℕ → Ask → ℕ → Ask → Type 0) where
  pub one_fresh : OneProxyIsFresh words Bars
  one_fresh cover bars opening steps h n m delete item ack shown ended =
      fresh words Bars (WasOverOn (λ n s. 0)) cover bars (λ past n s e. e.0) opening _
      (timely (λ n s. 0) words Bars opening (λ number ask calls reply from word j call i got o n s. refl) steps h)
      n m delete item ack shown (ended, λ j call got store failed. refl)

  pub sticky_fresh : StickyIsFresh words Bars
  sticky_fresh cover bars line at opening steps h sticky =
      fresh words Bars WasOver cover bars (λ past n s e. e) opening _ (stuck_timely line words Bars opening at steps h sticky)

  beginless : (past : List Event) (number server : ℕ) (ask : Ask) (origin : Origin) → LandsBeginless words Bars past number server ask origin → LandsInTime WasOver past number server ask origin
  beginless past number server ask Client none = λ store. absurd (none store)
  beginless past number server ask (CopyOf i) none = λ store. absurd (none store)

  pub beginless_fresh : BeginlessIsFresh words Bars
  beginless_fresh cover bars opening moments run =
      fresh words Bars WasOver cover bars (λ past n s e. e) opening moments
      (run_more words Bars opening (LandsBeginless words Bars) (LandsInTime WasOver) (λ past r number server ask origin failed may. beginless (told opening past) number server ask origin may) moments run)

  bring_nothing : (opening : ℕ → List ℕ → Option Item) (moments : List Moment) → LateRun words Bars opening (LandsHarmless words Bars) moments → LandingsBringNothing opening moments
  bring_nothing opening [] run = tt
  bring_nothing opening (Does event ∷ past) run = bring_nothing opening past run.1
  bring_nothing opening (Lands number server ask origin stamp answer spaces ∷ past) run =
      (call_leaves ask stamp answer spaces (held opening (told opening past) server ask.key) run.0.1, bring_nothing opening past run.1)

  pub patient_fresh : PatientIsFresh words Bars
  patient_fresh cover bars opening moments run = (
    beginless_fresh cover bars opening moments
        (run_more words Bars opening (LandsHarmless words Bars) (LandsBeginless words Bars) (λ past r number server ask origin failed none. λ begins. none (begins_change ask.op begins)) moments run),
    bring_nothing opening moments run,
  )

  settled_lands : NothingCopies words → (opening : ℕ → List ℕ → Option Item) (past : List Moment) → LateRun words Bars opening LandsEver past → (number server : ℕ) (ask : Ask) (origin : Origin) → HasFailed (told opening past) number server ask origin → LandsInTime (WasSettled words Bars) (told opening past) number server ask origin
  settled_lands none opening past run number server ask Client failed = λ store n delete begins op same ended clears.
      let call : Call = record { server = server; ask = ask; origin = Client; outcome = Failed } in
      ended.1 failed.0 call (failed_then (λ n s. 0) words Bars opening past run number n failed.0 call failed.1 ended.0) store refl
  settled_lands none opening past run number server ask (CopyOf i) failed =
      let call : Call = record { server = server; ask = ask; origin = CopyOf i; outcome = Failed } in
      let m = made words Bars opening (told opening past) (as_run words Bars opening LandsEver past run) number failed.0 call failed.1 in
      no_copy i (sym (none number m.0 _ m.2.1 m.2.2 m.2.3 failed.0 call (get_left (calls_so_far (told opening past) number) m.2.0 failed.0 call failed.1)))

  pub settled_fresh : SettledIsFresh words Bars
  settled_fresh cover none opening moments run =
      fresh words Bars (WasSettled words Bars) cover (nothing_bars words Bars none) (λ past n s e. e.0) opening moments
      (run_more words Bars opening LandsEver (LandsInTime (WasSettled words Bars)) (λ past r number server ask origin failed _. settled_lands none opening past r number server ask origin failed) moments run)
