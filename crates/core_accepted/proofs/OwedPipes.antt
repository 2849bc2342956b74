-- What is applied in the order in which it was sent, behind what is owed, is applied in time.
use Rattle.std.proofs.Common.{◌≡◌, ℕ, ◌<◌, Bool, true, false, cond, List, [], ◌∷◌, ◌++◌, Option, Some, None, ⊎_elim, refl, sym, ap, ◌∙◌, subst, arith, bytes_eq, nat_eq}
use Rattle.std.proofs.lemmas.Slice.Eq.{bytes_eq-Decides}
use Rattle.std.proofs.lemmas.Bool.{eqb-true, eq-eqb}
use Rattle.mc_types.specs.declared.ask.Ask.{Ask}
use Rattle.mc_types.specs.declared.answer.Answer.{Answer}
use Rattle.mc_types.specs.declared.call.Origin.{Origin}
use Rattle.mc_types.specs.declared.call.Origin.TheVariants.{Client, CopyOf}
use Rattle.mc_types.specs.declared.call.Outcome.TheVariants.{Answered, Failed}
use Rattle.mc_types.specs.Items.{Item, after_call}
use Rattle.mc_types.specs.Agree.{AnswerAgrees}
use Rattle.fresh_runs.specs.Calls.{Call, End, Read, Unread, Never, outcome_of, left_after_end}
use Rattle.fresh_runs.specs.Cover.{ClearsIn}
use Rattle.fresh_runs.specs.Run.{Event, Begins, Calls, Replies, Breaks, Turns, Restarts, under_way, calls_so_far, before, HasEnded, IsNewNumber, IsFront, CopiesBar, held}
use Rattle.fresh_runs.specs.Run as sharing
use Rattle.fresh_runs.specs.Overlap.{Ticket}
use Rattle.fresh_runs.proofs.Stamps.{by_test, clears_split}
use Rattle.fresh_runs.proofs.Runs.{some_ask, no_ask, differs, differ, second, new_calls, ended_since, over}
use Rattle.core_accepted.specs.Late.{Does, Lands, begun_late, WasOver, IsTimely, LandsInTime, LandsEver}
use Rattle.core_accepted.specs.Owed as owed_specs
use Rattle.core_accepted.specs.Owed.{OwedMoment, Sees, Owes, Repays, Empties, owed, told_owed, IsUnanswered, OwedRun}
use Rattle.core_accepted.specs.OwedPipes as pipes
use Rattle.core_accepted.specs.OwedPipes.{Slot, Asking, Owing, OwedStep, Sends, Writes, Moves, Closes, owed_moments, behind_slot, slots_of, IsFirstSlot, HasNoOwing, OwedSteps, OwedPipesAreFresh}
use Rattle.core_accepted.proofs.Late.{way_begun}
use Rattle.core_accepted.proofs.Owed.{turned_here, owed_fresh}

begun_below : (x : ℕ) (past : List Event) (n : ℕ) (ask : Ask) → IsNewNumber x past → begun_late past n ≡ Some ask → n < x
begun_below x [] n ask new e = no_ask ask e
begun_below x (Begins m client ∷ past) n ask new e =
    (elim (nat_eq m n) as (λ b. nat_eq m n ≡ b → cond b (Some client) (begun_late past n) ≡ Some ask → n < x) [
      | true ↦ λ is _. subst (λ k. k < x) (eqb-true m n is) new.0
      | false ↦ λ _ is. begun_below x past n ask new.1 is
    ]) refl e
begun_below x (Calls m s a o end ∷ past) n ask new e = begun_below x past n ask new.1 e
begun_below x (Replies m key r f ∷ past) n ask new e = begun_below x past n ask new.1 e
begun_below x (Breaks m ∷ past) n ask new e = begun_below x past n ask new.1 e
begun_below x (Turns s key turned ∷ past) n ask new e = begun_below x past n ask new e
begun_below x (Restarts s ∷ past) n ask new e = begun_below x past n ask new e

-- none of the commands was over then whose calls stand there
abbrev NoneOver : List Event → List Slot → Type 0
NoneOver began [] = Unit {0}
NoneOver began (Asking t ∷ ts) = (HasEnded began t.number → ⊥) × NoneOver began ts
NoneOver began (Owing k ∷ ts) = NoneOver began ts

-- none whose calls on this key do
abbrev Young : List ℕ → List Event → List Slot → Type 0
Young key began [] = Unit {0}
Young key began (Asking t ∷ ts) = (t.ask.key ≡ key → HasEnded began t.number → ⊥) × Young key began ts
Young key began (Owing k ∷ ts) = Young key began ts

-- no call on the key stands there
abbrev NoneOn : List ℕ → List Slot → Type 0
NoneOn key [] = Unit {0}
NoneOn key (Asking t ∷ ts) = (t.ask.key ≡ key → ⊥) × NoneOn key ts
NoneOn key (Owing k ∷ ts) = NoneOn key ts

-- behind a delete of nobody stands no call on its key
abbrev AreApart : List Slot → Type 0
AreApart [] = Unit {0}
AreApart (Asking t ∷ ts) = AreApart ts
AreApart (Owing k ∷ ts) = NoneOn k ts × AreApart ts

-- when a call's command began, none of the later ones' was over
abbrev IsOrdered : (ℕ → List Event) → List Slot → Type 0
IsOrdered at [] = Unit {0}
IsOrdered at (Asking t ∷ ts) = NoneOver (at t.number) ts × IsOrdered at ts
IsOrdered at (Owing k ∷ ts) = IsOrdered at ts

abbrev AreBegun : (ℕ → Option Ask) → List Slot → Type 0
AreBegun who [] = Unit {0}
AreBegun who (Asking t ∷ ts) = ((ask : Ask) × (who t.number ≡ Some ask)) × AreBegun who ts
AreBegun who (Owing k ∷ ts) = AreBegun who ts

none_more : (began : List Event) (ts : List Slot) (t : Ticket) → NoneOver began ts → (HasEnded began t.number → ⊥) → NoneOver began (ts ++ Asking t ∷ [])
none_more began [] t h on = (on, tt)
none_more began (Asking u ∷ ts) t h on = (h.0, none_more began ts t h.1 on)
none_more began (Owing k ∷ ts) t h on = none_more began ts t h on

young_more : (key : List ℕ) (began : List Event) (ts : List Slot) (t : Ticket) → Young key began ts → (HasEnded began t.number → ⊥) → Young key began (ts ++ Asking t ∷ [])
young_more key began [] t h on = ((λ _. on), tt)
young_more key began (Asking u ∷ ts) t h on = (h.0, young_more key began ts t h.1 on)
young_more key began (Owing k ∷ ts) t h on = young_more key began ts t h on

on_more : (key : List ℕ) (ts : List Slot) (t : Ticket) → NoneOn key ts → (t.ask.key ≡ key → ⊥) → NoneOn key (ts ++ Asking t ∷ [])
on_more key [] t h off = (off, tt)
on_more key (Asking u ∷ ts) t h off = (h.0, on_more key ts t h.1 off)
on_more key (Owing k ∷ ts) t h off = on_more key ts t h off

apart_more : (ts : List Slot) (t : Ticket) → AreApart ts → HasNoOwing t.ask.key ts → AreApart (ts ++ Asking t ∷ [])
apart_more [] t h none = tt
apart_more (Asking u ∷ ts) t h none = apart_more ts t h none
apart_more (Owing k ∷ ts) t h none = (on_more k ts t h.0 (λ same. none.0 (sym same)), apart_more ts t h.1 none.1)

ordered_more : (at : ℕ → List Event) (ts : List Slot) (t : Ticket) → IsOrdered at ts → ((n : ℕ) → HasEnded (at n) t.number → ⊥) → IsOrdered at (ts ++ Asking t ∷ [])
ordered_more at [] t h on = (tt, tt)
ordered_more at (Asking u ∷ ts) t h on = (none_more (at u.number) ts t h.0 (on u.number), ordered_more at ts t h.1 on)
ordered_more at (Owing k ∷ ts) t h on = ordered_more at ts t h on

begun_more : (who : ℕ → Option Ask) (ts : List Slot) (t : Ticket) (ask : Ask) → AreBegun who ts → who t.number ≡ Some ask → AreBegun who (ts ++ Asking t ∷ [])
begun_more who [] t ask h e = ((ask, e), tt)
begun_more who (Asking u ∷ ts) t ask h e = (h.0, begun_more who ts t ask h.1 e)
begun_more who (Owing k ∷ ts) t ask h e = begun_more who ts t ask h e

-- a delete of nobody behind it changes none of that
none_owing : (began : List Event) (ts : List Slot) (k : List ℕ) → NoneOver began ts → NoneOver began (ts ++ Owing k ∷ [])
none_owing began [] k h = tt
none_owing began (Asking u ∷ ts) k h = (h.0, none_owing began ts k h.1)
none_owing began (Owing j ∷ ts) k h = none_owing began ts k h

young_owing : (key : List ℕ) (began : List Event) (ts : List Slot) (k : List ℕ) → Young key began ts → Young key began (ts ++ Owing k ∷ [])
young_owing key began [] k h = tt
young_owing key began (Asking u ∷ ts) k h = (h.0, young_owing key began ts k h.1)
young_owing key began (Owing j ∷ ts) k h = young_owing key began ts k h

on_owing : (key : List ℕ) (ts : List Slot) (k : List ℕ) → NoneOn key ts → NoneOn key (ts ++ Owing k ∷ [])
on_owing key [] k h = tt
on_owing key (Asking u ∷ ts) k h = (h.0, on_owing key ts k h.1)
on_owing key (Owing j ∷ ts) k h = on_owing key ts k h

apart_owing : (ts : List Slot) (k : List ℕ) → AreApart ts → AreApart (ts ++ Owing k ∷ [])
apart_owing [] k h = (tt, tt)
apart_owing (Asking u ∷ ts) k h = apart_owing ts k h
apart_owing (Owing j ∷ ts) k h = (on_owing j ts k h.0, apart_owing ts k h.1)

ordered_owing : (at : ℕ → List Event) (ts : List Slot) (k : List ℕ) → IsOrdered at ts → IsOrdered at (ts ++ Owing k ∷ [])
ordered_owing at [] k h = tt
ordered_owing at (Asking u ∷ ts) k h = (none_owing (at u.number) ts k h.0, ordered_owing at ts k h.1)
ordered_owing at (Owing j ∷ ts) k h = ordered_owing at ts k h

begun_owing : (who : ℕ → Option Ask) (ts : List Slot) (k : List ℕ) → AreBegun who ts → AreBegun who (ts ++ Owing k ∷ [])
begun_owing who [] k h = tt
begun_owing who (Asking u ∷ ts) k h = (h.0, begun_owing who ts k h.1)
begun_owing who (Owing j ∷ ts) k h = begun_owing who ts k h

-- what was known of begun commands stays
ordered_since : (who : ℕ → Option Ask) (at to : ℕ → List Event) → ((n : ℕ) (ask : Ask) → who n ≡ Some ask → at n ≡ to n) → (ts : List Slot) → AreBegun who ts → IsOrdered at ts → IsOrdered to ts
ordered_since who at to same [] b h = tt
ordered_since who at to same (Asking t ∷ ts) b h = (subst (λ l. NoneOver l ts) (same t.number b.0.0 b.0.1) h.0, ordered_since who at to same ts b.1 h.1)
ordered_since who at to same (Owing k ∷ ts) b h = ordered_since who at to same ts b h

begun_since : (who to : ℕ → Option Ask) → ((n : ℕ) (ask : Ask) → who n ≡ Some ask → to n ≡ who n) → (ts : List Slot) → AreBegun who ts → AreBegun to ts
begun_since who to same [] b = tt
begun_since who to same (Asking t ∷ ts) b = ((b.0.0, same t.number b.0.0 b.0.1 ∙ b.0.1), begun_since who to same ts b.1)
begun_since who to same (Owing k ∷ ts) b = begun_since who to same ts b

young_all : (key : List ℕ) (began : List Event) (ts : List Slot) → NoneOver began ts → Young key began ts
young_all key began [] h = tt
young_all key began (Asking t ∷ ts) h = ((λ _. h.0), young_all key began ts h.1)
young_all key began (Owing k ∷ ts) h = young_all key began ts h

young_none : (key : List ℕ) (began : List Event) (ts : List Slot) → NoneOn key ts → Young key began ts
young_none key began [] h = tt
young_none key began (Asking t ∷ ts) h = ((λ same _. h.0 same), young_none key began ts h.1)
young_none key began (Owing k ∷ ts) h = young_none key began ts h

-- what stands in a connection to a server, of which it owes so much
record Piped (past : List Event) (o : List ℕ → Bool) (s : ℕ) (pipe : List Slot) : Type 0 where
  begins : AreBegun (λ n. begun_late past n) pipe
  ordered : IsOrdered (λ n. before past n) pipe
  apart : AreApart pipe
  behind : (n : ℕ) (delete : Ask) → begun_late past n ≡ Some delete → ClearsIn (calls_so_far past n) s → o delete.key ≡ false → Young delete.key (before past n) pipe

-- the first is gone, as it was applied without an answer that counts
dropped : (past : List Event) (o : List ℕ → Bool) (s : ℕ) (t : Ticket) (pipe : List Slot) → Piped past o s (Asking t ∷ pipe) → Piped past o s pipe
dropped past o s t pipe h = record { begins = h.begins.1; ordered = h.ordered.1; apart = h.apart; behind = λ n delete b clears none. (h.behind n delete b clears none).1 }

-- a call that had no answer clears nothing
failed : (past : List Event) (o : List ℕ → Bool) (s : ℕ) (pipe : List Slot) (number server : ℕ) (ask : Ask) (origin : Origin) (end : End) → outcome_of end ≡ Failed → Piped past o s pipe → Piped (Calls number server ask origin end ∷ past) o s pipe
failed past o s pipe number server ask origin end none h =
    let call : Call = record { server = server; ask = ask; origin = origin; outcome = outcome_of end } in
    record {
      begins = h.begins;
      ordered = h.ordered;
      apart = h.apart;
      behind = λ n delete b clears free.
          (elim (nat_eq number n) as (λ c. ClearsIn (cond c (calls_so_far past n ++ call ∷ []) (calls_so_far past n)) s → Young delete.key (before past n) pipe) [
            | true ↦ λ c. ⊎_elim (λ old. h.behind n delete b old free) (⊎_elim (λ now. absurd (let e = sym none ∙ now.1.1 in cc)) (λ none. absurd none)) (clears_split (calls_so_far past n) call s c)
            | false ↦ λ c. h.behind n delete b c free
          ]) clears;
    }

-- a call at another server
elsewhere : (past : List Event) (o : List ℕ → Bool) (s : ℕ) (pipe : List Slot) (number server : ℕ) (ask : Ask) (origin : Origin) (end : End) → nat_eq server s ≡ false → Piped past o s pipe → Piped (Calls number server ask origin end ∷ past) o s pipe
elsewhere past o s pipe number server ask origin end away h =
    let call : Call = record { server = server; ask = ask; origin = origin; outcome = outcome_of end } in
    record {
      begins = h.begins;
      ordered = h.ordered;
      apart = h.apart;
      behind = λ n delete b clears free.
          (elim (nat_eq number n) as (λ c. ClearsIn (cond c (calls_so_far past n ++ call ∷ []) (calls_so_far past n)) s → Young delete.key (before past n) pipe) [
            | true ↦ λ c. ⊎_elim (λ old. h.behind n delete b old free) (⊎_elim (λ now. absurd (differ server s away now.0)) (λ none. absurd none)) (clears_split (calls_so_far past n) call s c)
            | false ↦ λ c. h.behind n delete b c free
          ]) clears;
    }

-- one that was answered was the first
answered : (past : List Event) (o : List ℕ → Bool) (s : ℕ) (t : Ticket) (pipe : List Slot) (server : ℕ) (origin : Origin) (end : End) → Piped past o s (Asking t ∷ pipe) → Piped (Calls t.number server t.ask origin end ∷ past) o s pipe
answered past o s t pipe server origin end h =
    let call : Call = record { server = server; ask = t.ask; origin = origin; outcome = outcome_of end } in
    record {
      begins = h.begins.1;
      ordered = h.ordered.1;
      apart = h.apart;
      behind = λ n delete b clears free.
          (elim (nat_eq t.number n) as (λ c. nat_eq t.number n ≡ c → ClearsIn (cond c (calls_so_far past n ++ call ∷ []) (calls_so_far past n)) s → Young delete.key (before past n) pipe) [
            | true ↦ λ is _. subst (λ k. Young delete.key (before past k) pipe) (eqb-true t.number n is) (young_all delete.key (before past t.number) pipe h.ordered.0)
            | false ↦ λ _ c. (h.behind n delete b c free).1
          ]) refl clears;
    }

begun : (past : List Event) (o : List ℕ → Bool) (s : ℕ) (pipe : List Slot) (x : ℕ) (ask : Ask) → IsNewNumber x past → Piped past o s pipe → Piped (Begins x ask ∷ past) o s pipe
begun past o s pipe x ask new h =
    let other : (n : ℕ) (a : Ask) → begun_late past n ≡ Some a → nat_eq x n ≡ false = λ n a e. differs x n (λ is. (let lt = begun_below x past n a new e in omega (arith, lt, is))) in
    record {
      begins = begun_since (λ n. begun_late past n) (λ n. begun_late (Begins x ask ∷ past) n) (λ n a e. second (nat_eq x n) (Some ask) (begun_late past n) (other n a e)) pipe h.begins;
      ordered = ordered_since (λ n. begun_late past n) (λ n. before past n) (λ n. before (Begins x ask ∷ past) n) (λ n a e. sym (second (nat_eq x n) past (before past n) (other n a e))) pipe h.begins h.ordered;
      apart = h.apart;
      behind = λ n delete b clears free.
          (elim (nat_eq x n) as (λ c. nat_eq x n ≡ c → cond c (Some ask) (begun_late past n) ≡ Some delete → Young delete.key (cond c past (before past n)) pipe) [
            | true ↦ λ is _. absurd (subst (λ l. ClearsIn l s) (new_calls n past (subst (λ k. IsNewNumber k past) (eqb-true x n is) new)) clears)
            | false ↦ λ _ e. h.behind n delete e clears free
          ]) refl b;
    }

-- the same over lists that commands can't tell apart, and where no less is owed
again : (past : List Event) (o : List ℕ → Bool) (s : ℕ) (pipe : List Slot) (server : ℕ) (key : List ℕ) (turned : Option Item) → Piped past o s pipe → Piped (Turns server key turned ∷ past) o s pipe
again past o s pipe server key turned h = record { begins = h.begins; ordered = h.ordered; apart = h.apart; behind = h.behind }

-- no less was owed before where so much is
less : (b c o : Bool) → cond b (cond c true o) o ≡ false → o ≡ false
less true true o e = absurd cc
less true false o e = e
less false c o e = e

module _ (words : ℕ → Ask → List Call → Answer → Option ℕ → Type 0) (Bars : ℕ → Ask → ℕ → Ask → Type 0) (opening : ℕ → List ℕ → Option Item) where
  abbrev P : List OwedStep → List Event
  P steps = told_owed opening (owed_moments steps)

  call_run : (past : List Event) (number server : ℕ) (ask : Ask) (origin : Origin) (end : End) (o : Bool) → owed_specs.MayCall words Bars opening LandsEver o past number server ask origin end → sharing.Run words Bars opening past → sharing.Run words Bars opening (owed_specs.called_events o number server ask origin end (held opening past server ask.key) past)
  call_run past number server ask origin (Read stamp answer spaces) true may run = absurd may.1
  call_run past number server ask origin (Unread stamp answer spaces) true may run = (tt, ((may.0.0, may.0.1, may.0.2, may.0.3, tt), (tt, run)))
  call_run past number server ask origin Never true may run = (tt, ((may.0.0, may.0.1, may.0.2, may.0.3, tt), (tt, run)))
  call_run past number server ask origin (Read stamp answer spaces) false may run = (may, run)
  call_run past number server ask origin (Unread stamp answer spaces) false may run = (may, run)
  call_run past number server ask origin Never false may run = (may, run)

  runs : (moments : List OwedMoment) → OwedRun words Bars opening LandsEver moments → sharing.Run words Bars opening (told_owed opening moments)
  runs [] run = tt
  runs (Owes number server ask answer ∷ past) run =
      (tt, ((run.0.0, run.0.1, run.0.2, run.0.3, (subst (λ o. AnswerAgrees ask answer o) (sym (turned_here opening (told_owed opening past) server ask.key None)) run.0.4, refl)), (tt, runs past run.1)))
  runs (Repays server key ∷ past) run = (tt, runs past run.1)
  runs (Empties server ∷ past) run = (tt, runs past run.1)
  runs (Sees (Does (Calls number server ask origin end)) ∷ past) run = call_run (told_owed opening past) number server ask origin end (owed past server ask.key) run.0 (runs past run.1)
  runs (Sees (Lands number server ask origin stamp answer spaces) ∷ past) run = (tt, runs past run.1)
  runs (Sees (Does (Begins number ask)) ∷ past) run = (run.0, runs past run.1)
  runs (Sees (Does (Replies number key reply from)) ∷ past) run = (run.0, runs past run.1)
  runs (Sees (Does (Breaks number)) ∷ past) run = (run.0, runs past run.1)
  runs (Sees (Does (Turns server key turned)) ∷ past) run = (tt, runs past run.1)
  runs (Sees (Does (Restarts server)) ∷ past) run = (tt, runs past run.1)

  ever : (steps : List OwedStep) → OwedSteps words Bars opening steps → OwedRun words Bars opening LandsEver (owed_moments steps)
  ever [] h = tt
  ever (Sends number server ask origin ∷ past) h = ever past h.1
  ever (Writes server key ∷ past) h = ever past h.1
  ever (Moves moment ∷ past) h = (h.0.0, ever past h.1)
  ever (Closes server ∷ past) h = ever past h.1

  -- a call at this server
  called_here : (past : List Event) (f : List ℕ → Bool) (s : ℕ) (pipe : List Slot) (number server : ℕ) (ask : Ask) (origin : Origin) (end : End) (o : Bool) → owed_specs.MayCall words Bars opening LandsEver o past number server ask origin end
      → pipes.IsSlotInTurn pipe number ask origin end → Piped past f s pipe → Piped (owed_specs.called_events o number server ask origin end (held opening past server ask.key) past) f s (pipes.slots_after end pipe)
  called_here past f s pipe number server ask origin (Read stamp answer spaces) true may first h = absurd may.1
  called_here past f s pipe number server ask origin (Read stamp answer spaces) false may first h =
      let t : Ticket = record { number = number; ask = ask; origin = origin } in
      subst (λ l. Piped (Calls number server ask origin (Read stamp answer spaces) ∷ past) f s (behind_slot l)) (sym first.1)
      (answered past f s t first.0 server origin (Read stamp answer spaces) (subst (λ l. Piped past f s l) first.1 h))
  called_here past f s pipe number server ask origin (Unread stamp answer spaces) true may first h =
      let t : Ticket = record { number = number; ask = ask; origin = origin } in
      let rest = subst (λ l. Piped past f s (behind_slot l)) (sym first.1) (dropped past f s t first.0 (subst (λ l. Piped past f s l) first.1 h)) in
      let lost : List Event = Turns server ask.key None ∷ past in
      again (Calls number server ask origin Never ∷ lost) f s (behind_slot pipe) server ask.key (left_after_end ask (Unread stamp answer spaces) (held opening past server ask.key))
      (failed lost f s (behind_slot pipe) number server ask origin Never refl (again past f s (behind_slot pipe) server ask.key None rest))
  called_here past f s pipe number server ask origin (Unread stamp answer spaces) false may first h =
      let t : Ticket = record { number = number; ask = ask; origin = origin } in
      let rest = subst (λ l. Piped past f s (behind_slot l)) (sym first.1) (dropped past f s t first.0 (subst (λ l. Piped past f s l) first.1 h)) in
      failed past f s (behind_slot pipe) number server ask origin (Unread stamp answer spaces) refl rest
  called_here past f s pipe number server ask origin Never true may first h =
      let lost : List Event = Turns server ask.key None ∷ past in
      again (Calls number server ask origin Never ∷ lost) f s pipe server ask.key (held opening past server ask.key)
      (failed lost f s pipe number server ask origin Never refl (again past f s pipe server ask.key None h))
  called_here past f s pipe number server ask origin Never false may first h = failed past f s pipe number server ask origin Never refl h

  called_away : (past : List Event) (f : List ℕ → Bool) (s : ℕ) (pipe : List Slot) (number server : ℕ) (ask : Ask) (origin : Origin) (end : End) (o : Bool) → nat_eq server s ≡ false
      → Piped past f s pipe → Piped (owed_specs.called_events o number server ask origin end (held opening past server ask.key) past) f s pipe
  called_away past f s pipe number server ask origin (Read stamp answer spaces) true away h = elsewhere past f s pipe number server ask origin (Read stamp answer spaces) away h
  called_away past f s pipe number server ask origin (Unread stamp answer spaces) true away h =
      let lost : List Event = Turns server ask.key None ∷ past in
      again (Calls number server ask origin Never ∷ lost) f s pipe server ask.key (left_after_end ask (Unread stamp answer spaces) (held opening past server ask.key))
      (elsewhere lost f s pipe number server ask origin Never away (again past f s pipe server ask.key None h))
  called_away past f s pipe number server ask origin Never true away h =
      let lost : List Event = Turns server ask.key None ∷ past in
      again (Calls number server ask origin Never ∷ lost) f s pipe server ask.key (held opening past server ask.key)
      (elsewhere lost f s pipe number server ask origin Never away (again past f s pipe server ask.key None h))
  called_away past f s pipe number server ask origin (Read stamp answer spaces) false away h = elsewhere past f s pipe number server ask origin (Read stamp answer spaces) away h
  called_away past f s pipe number server ask origin (Unread stamp answer spaces) false away h = elsewhere past f s pipe number server ask origin (Unread stamp answer spaces) away h
  called_away past f s pipe number server ask origin Never false away h = elsewhere past f s pipe number server ask origin Never away h

  piped : (steps : List OwedStep) → OwedSteps words Bars opening steps → (s : ℕ) → Piped (P steps) (λ k. owed (owed_moments steps) s k) s (slots_of steps s)
  piped [] h s = record { begins = tt; ordered = tt; apart = tt; behind = λ n delete b clears free. tt }
  piped (Sends x server ask origin ∷ past) h s =
      let old = piped past h.1 s in
      let t : Ticket = record { number = x; ask = ask; origin = origin } in
      let way : under_way (P past) x ≡ Some h.0.0.0 = h.0.0.1 in
      let on : (n : ℕ) → HasEnded (before (P past) n) x → ⊥ = λ n ended. over words Bars opening (P past) x h.0.0.0 (runs (owed_moments past) (ever past h.1)) (ended_since (P past) n x ended) way in
      by_test (Piped (P past) (λ k. owed (owed_moments past) s k) s) (nat_eq server s) (slots_of past s ++ Asking t ∷ []) (slots_of past s)
      (λ here. record {
        begins = begun_more (λ n. begun_late (P past) n) (slots_of past s) t h.0.0.0 old.begins (way_begun (P past) x h.0.0.0 way);
        ordered = ordered_more (λ n. before (P past) n) (slots_of past s) t old.ordered on;
        apart = apart_more (slots_of past s) t old.apart (subst (λ r. HasNoOwing ask.key (slots_of past r)) (eqb-true server s here) h.0.2);
        behind = λ n delete b clears free. young_more delete.key (before (P past) n) (slots_of past s) t (old.behind n delete b clears free) (on n);
      })
      (λ _. old)
  piped (Writes server key ∷ past) h s =
      let old = piped past h.1 s in
      by_test (Piped (P past) (λ k. owed (owed_moments past) s k) s) (nat_eq server s) (slots_of past s ++ Owing key ∷ []) (slots_of past s)
      (λ _. record {
        begins = begun_owing (λ n. begun_late (P past) n) (slots_of past s) key old.begins;
        ordered = ordered_owing (λ n. before (P past) n) (slots_of past s) key old.ordered;
        apart = apart_owing (slots_of past s) key old.apart;
        behind = λ n delete b clears free. young_owing delete.key (before (P past) n) (slots_of past s) key (old.behind n delete b clears free);
      })
      (λ _. old)
  piped (Closes server ∷ past) h s =
      by_test (Piped (P past) (λ k. owed (owed_moments past) s k) s) (nat_eq server s) [] (slots_of past s)
      (λ _. record { begins = tt; ordered = tt; apart = tt; behind = λ n delete b clears free. tt })
      (λ _. piped past h.1 s)
  piped (Moves (Sees (Does (Begins x ask))) ∷ past) h s = begun (P past) (λ k. owed (owed_moments past) s k) s (slots_of past s) x ask h.0.0.0 (piped past h.1 s)
  piped (Moves (Sees (Does (Replies x key r f))) ∷ past) h s = let old = piped past h.1 s in record { begins = old.begins; ordered = old.ordered; apart = old.apart; behind = old.behind }
  piped (Moves (Sees (Does (Breaks x))) ∷ past) h s = let old = piped past h.1 s in record { begins = old.begins; ordered = old.ordered; apart = old.apart; behind = old.behind }
  piped (Moves (Sees (Does (Turns server key turned))) ∷ past) h s = let old = piped past h.1 s in record { begins = old.begins; ordered = old.ordered; apart = old.apart; behind = old.behind }
  piped (Moves (Sees (Does (Restarts server))) ∷ past) h s = let old = piped past h.1 s in record { begins = old.begins; ordered = old.ordered; apart = old.apart; behind = old.behind }
  piped (Moves (Sees (Does (Calls x server ask origin end))) ∷ past) h s =
      let f : List ℕ → Bool = λ k. owed (owed_moments past) s k in
      by_test (Piped (P (Moves (Sees (Does (Calls x server ask origin end))) ∷ past)) f s) (nat_eq server s) (pipes.slots_after end (slots_of past s)) (slots_of past s)
      (λ here. called_here (P past) f s (slots_of past s) x server ask origin end (owed (owed_moments past) server ask.key) h.0.0 (subst (λ r. pipes.IsSlotInTurn (slots_of past r) x ask origin end) (eqb-true server s here) h.0.1) (piped past h.1 s))
      (λ away. called_away (P past) f s (slots_of past s) x server ask origin end (owed (owed_moments past) server ask.key) away (piped past h.1 s))
  piped (Moves (Sees (Lands x server ask origin stamp answer spaces)) ∷ past) h s =
      let f : List ℕ → Bool = λ k. owed (owed_moments past) s k in
      let old = piped past h.1 s in
      let t : Ticket = record { number = x; ask = ask; origin = origin } in
      again (P past) f s (cond (nat_eq server s) (behind_slot (slots_of past s)) (slots_of past s)) server ask.key (after_call ask stamp answer spaces (held opening (P past) server ask.key))
      (by_test (Piped (P past) f s) (nat_eq server s) (behind_slot (slots_of past s)) (slots_of past s)
      (λ here.
      let first = subst (λ r. IsFirstSlot (slots_of past r) (Asking t)) (eqb-true server s here) h.0.1 in
      subst (λ l. Piped (P past) f s (behind_slot l)) (sym first.1) (dropped (P past) f s t first.0 (subst (λ l. Piped (P past) f s l) first.1 old)))
      (λ _. old))
  piped (Moves (Owes x server ask answer) ∷ past) h s =
      let old = piped past h.1 s in
      let events = P past in
      let call : Call = record { server = server; ask = ask; origin = Client; outcome = Answered answer } in
      record {
        begins = old.begins;
        ordered = old.ordered;
        apart = old.apart;
        behind = λ n delete b clears free.
            let was : owed (owed_moments past) s delete.key ≡ false = less (nat_eq server s) (bytes_eq ask.key delete.key) (owed (owed_moments past) s delete.key) free in
            (elim (nat_eq x n) as (λ c. nat_eq x n ≡ c → ClearsIn (cond c (calls_so_far events n ++ call ∷ []) (calls_so_far events n)) s → Young delete.key (before events n) (slots_of past s)) [
              | true ↦ λ is c.
                  ⊎_elim
                  (λ now. old.behind n delete b now was)
                  (⊎_elim
                  (λ now.
                  let begins : begun_late events n ≡ Some h.0.0.0 = way_begun events n h.0.0.0 (subst (λ k. under_way events k ≡ Some h.0.0.0) (eqb-true x n is) h.0.0.1) in
                  let same : ask.key ≡ delete.key = h.0.0.2 ∙ ap (λ (a : Ask). a.key) (some_ask h.0.0.0 delete (sym begins ∙ b)) in
                  let on : nat_eq server s ≡ true = eq-eqb server s now.0 in
                  let at : bytes_eq ask.key delete.key ≡ true = (bytes_eq-Decides ask.key delete.key).1 same in
                  let o = owed (owed_moments past) s delete.key in
                  let owes : cond (nat_eq server s) (cond (bytes_eq ask.key delete.key) true o) o ≡ true = ap (λ q. cond q (cond (bytes_eq ask.key delete.key) true o) o) on ∙ ap (λ q. cond q true o) at in
                  absurd (let e = sym owes ∙ free in cc))
                  (λ none. absurd none))
                  (clears_split (calls_so_far events n) call s c)
              | false ↦ λ _ c. old.behind n delete b c was
            ]) refl clears;
      }
  piped (Moves (Repays server key) ∷ past) h s =
      let old = piped past h.1 s in
      let o : List ℕ → Bool = λ k. owed (owed_moments past) s k in
      (elim (nat_eq server s) as (λ q. nat_eq server s ≡ q → Piped (P (Moves (Repays server key) ∷ past)) (λ k. cond q (cond (bytes_eq key k) false (o k)) (o k)) s (cond q (behind_slot (slots_of past s)) (slots_of past s))) [
        | true ↦ λ here.
            let first = subst (λ r. IsFirstSlot (slots_of past r) (Owing key)) (eqb-true server s here) h.0.1 in
            let whole : Piped (P past) o s (Owing key ∷ first.0) = subst (λ l. Piped (P past) o s l) first.1 old in
            subst (λ l. Piped (P (Moves (Repays server key) ∷ past)) (λ k. cond (bytes_eq key k) false (o k)) s (behind_slot l)) (sym first.1) (record {
              begins = whole.begins;
              ordered = whole.ordered;
              apart = whole.apart.1;
              behind = λ n delete b clears free.
                  (elim (bytes_eq key delete.key) as (λ c. bytes_eq key delete.key ≡ c → cond c false (o delete.key) ≡ false → Young delete.key (before (P past) n) first.0) [
                    | true ↦ λ same _. subst (λ k. Young k (before (P past) n) first.0) ((bytes_eq-Decides key delete.key).0 same) (young_none key (before (P past) n) first.0 whole.apart.0)
                    | false ↦ λ _ e. whole.behind n delete b clears e
                  ]) refl free;
            })
        | false ↦ λ _. record { begins = old.begins; ordered = old.ordered; apart = old.apart; behind = old.behind }
      ]) refl
  piped (Moves (Empties server) ∷ past) h s =
      let old = piped past h.1 s in
      let o : List ℕ → Bool = λ k. owed (owed_moments past) s k in
      (elim (nat_eq server s) as (λ q. nat_eq server s ≡ q → Piped (P (Moves (Empties server) ∷ past)) (λ k. cond q false (o k)) s (slots_of past s)) [
        | true ↦ λ here.
            let none : slots_of past s ≡ [] = subst (λ r. slots_of past r ≡ []) (eqb-true server s here) h.0.1 in
            subst (λ l. Piped (P (Moves (Empties server) ∷ past)) (λ k. false) s l) (sym none) (record { begins = tt; ordered = tt; apart = tt; behind = λ n delete b clears free. tt })
        | false ↦ λ _. record { begins = old.begins; ordered = old.ordered; apart = old.apart; behind = old.behind }
      ]) refl

  -- what lands on a key of which nothing is owed lands in time
  in_time : (past : List OwedStep) → OwedSteps words Bars opening past → (number server : ℕ) (ask : Ask) (origin : Origin) → IsFirstSlot (slots_of past server) (Asking (record { number = number; ask = ask; origin = origin })) → owed (owed_moments past) server ask.key ≡ false → IsTimely WasOver (P past) number server ask.key
  in_time past h number server ask origin first free n delete b op same ended clears =
      let young = (piped past h server).behind n delete b clears (subst (λ k. owed (owed_moments past) server k ≡ false) (sym same) free) in
      (subst (λ l. Young delete.key (before (P past) n) l) first.1 young).0 (sym same) ended

  by_origin : (past : List Event) (number server : ℕ) (ask : Ask) (origin : Origin) → IsTimely WasOver past number server ask.key → LandsInTime WasOver past number server ask origin
  by_origin past number server ask Client timely = λ store. timely
  by_origin past number server ask (CopyOf i) timely = λ store. timely

  called_timely : (past : List Event) (number server : ℕ) (ask : Ask) (origin : Origin) (end : End) (o : Bool) → owed_specs.MayCall words Bars opening LandsEver o past number server ask origin end → owed_specs.MayCall words Bars opening (LandsInTime WasOver) o past number server ask origin end
  called_timely past number server ask origin end true may = may
  called_timely past number server ask origin end false may = may

  landed_timely : (past : List Event) (number server : ℕ) (ask : Ask) (origin : Origin) (stamp : ℕ) (answer : Answer) (o : Bool) → (o ≡ false → IsTimely WasOver past number server ask.key) → owed_specs.MayLandThen words Bars opening LandsEver o past number server ask origin stamp answer → owed_specs.MayLandThen words Bars opening (LandsInTime WasOver) o past number server ask origin stamp answer
  landed_timely past number server ask origin stamp answer true timely may = tt
  landed_timely past number server ask origin stamp answer false timely may = (may.0, by_origin past number server ask origin (timely refl), may.2, may.3)

  timely : (steps : List OwedStep) → OwedSteps words Bars opening steps → OwedRun words Bars opening (LandsInTime WasOver) (owed_moments steps)
  timely [] h = tt
  timely (Sends number server ask origin ∷ past) h = timely past h.1
  timely (Writes server key ∷ past) h = timely past h.1
  timely (Closes server ∷ past) h = timely past h.1
  timely (Moves (Owes x server ask answer) ∷ past) h = (h.0.0, timely past h.1)
  timely (Moves (Repays server key) ∷ past) h = (tt, timely past h.1)
  timely (Moves (Empties server) ∷ past) h = (tt, timely past h.1)
  timely (Moves (Sees (Does (Begins x ask))) ∷ past) h = (h.0.0, timely past h.1)
  timely (Moves (Sees (Does (Calls x server ask origin end))) ∷ past) h = (called_timely (P past) x server ask origin end (owed (owed_moments past) server ask.key) h.0.0, timely past h.1)
  timely (Moves (Sees (Does (Replies x key r f))) ∷ past) h = (h.0.0, timely past h.1)
  timely (Moves (Sees (Does (Breaks x))) ∷ past) h = (h.0.0, timely past h.1)
  timely (Moves (Sees (Does (Turns server key turned))) ∷ past) h = (h.0.0, timely past h.1)
  timely (Moves (Sees (Does (Restarts server))) ∷ past) h = (h.0.0, timely past h.1)
  timely (Moves (Sees (Lands x server ask origin stamp answer spaces)) ∷ past) h =
      (landed_timely (P past) x server ask origin stamp answer (owed (owed_moments past) server ask.key) (in_time past h.1 x server ask origin h.0.1) h.0.0, timely past h.1)

pub owed_pipes_fresh : (words : ℕ → Ask → List Call → Answer → Option ℕ → Type 0) (Bars : ℕ → Ask → ℕ → Ask → Type 0) → OwedPipesAreFresh words Bars
owed_pipes_fresh words Bars opening cover copies steps h = owed_fresh words Bars opening cover copies (owed_moments steps) (timely words Bars opening steps h)
