-- What is applied in the order in which it was sent is applied in time.
use Rattle.std.proofs.Common.{◌≡◌, ℕ, ◌<◌, true, false, cond, List, [], ◌∷◌, ◌++◌, Option, Some, ⊎_elim, refl, sym, ap, ◌∙◌, subst, arith, nat_eq, slice_get}
use Rattle.std.proofs.lemmas.Bool.{eqb-true}
use Rattle.mc_types.specs.declared.ask.Ask.{Ask}
use Rattle.mc_types.specs.declared.answer.Answer.{Answer}
use Rattle.mc_types.specs.declared.call.Origin.{Origin}
use Rattle.mc_types.specs.declared.call.Origin.TheVariants.{Client, CopyOf}
use Rattle.mc_types.specs.declared.call.Outcome.TheVariants.{Failed}
use Rattle.mc_types.specs.Items.{Item}
use Rattle.fresh_runs.specs.Calls.{Call, End, Read, Unread, Never, outcome_of}
use Rattle.fresh_runs.specs.Cover.{ClearsIn}
use Rattle.fresh_runs.specs.Run.{Event, Begins, Calls, Replies, Breaks, Turns, Restarts, under_way, calls_so_far, before, HasEnded, IsNewNumber}
use Rattle.fresh_runs.specs.Overlap.{Ticket}
use Rattle.fresh_runs.proofs.Stamps.{by_test, get_left, clears_split}
use Rattle.fresh_runs.proofs.Runs.{no_ask, differs, differ, second, new_calls, ended_since, over}
use Rattle.core_accepted.specs.Late.{Moment, Does, Lands, told, begun_late, LateRun, LandsInTime, LandsEver}
use Rattle.core_accepted.specs.Pipes.{PipeStep, Sends, Moves, Closes, moments_of, is_pipe, behind_first, IsFirstIn, pipe_of, PipeSteps, WasOverOn}
use Rattle.core_accepted.proofs.Late.{way_begun, made, as_run, way_told}

-- where a command's calls may hold a copy, all commands send over its connections
abbrev pub CopiesStay : (ℕ → ℕ → ℕ) → (ℕ → Ask → List Call → Answer → Option ℕ → Type 0) → Type 0
CopiesStay line words =
    (number : ℕ) (ask : Ask) (calls : List Call) (reply : Answer) (from : Option ℕ) → words number ask calls reply from
    → (j : ℕ) (call : Call) (i : ℕ) → slice_get calls j ≡ Some call → call.origin ≡ CopyOf i → (n s : ℕ) → line n s ≡ line number s

is_pipe_true : (q t p s : ℕ) → is_pipe q t p s ≡ true → (q ≡ p) × (t ≡ s)
is_pipe_true q t p s e =
    (elim (nat_eq q p) as (λ b. nat_eq q p ≡ b → cond b (nat_eq t s) false ≡ true → (q ≡ p) × (t ≡ s)) [
      | true ↦ λ here there. (eqb-true q p here, eqb-true t s there)
      | false ↦ λ _ there. absurd (cc)
    ]) refl e

is_pipe_false : (q t p s : ℕ) → is_pipe q t p s ≡ false → q ≡ p → t ≡ s → ⊥
is_pipe_false q t p s e here there =
    (elim (nat_eq q p) as (λ b. nat_eq q p ≡ b → cond b (nat_eq t s) false ≡ false → ⊥) [
      | true ↦ λ _ other. differ t s other there
      | false ↦ λ other _. differ q p other here
    ]) refl e

-- a number that has begun is below a new one
begun_below : (x : ℕ) (past : List Event) (n : ℕ) (ask : Ask) → IsNewNumber x past → begun_late past n ≡ Some ask → n < x
begun_below x [] n ask new e = no_ask ask e
begun_below x (Begins m client ∷ past) n ask new e =
    (elim (nat_eq m n) as (λ b. nat_eq m n ≡ b → cond b (Some client) (begun_late past n) ≡ Some ask → n < x) [
      | true ↦ λ is _. subst (λ k. k < x) (eqb-true m n is) new.0
      | false ↦ λ _ is. begun_below x past n ask new.1 is
    ]) refl e
begun_below x (Calls m s a o end ∷ past) n ask new e = begun_below x past n ask new.1 e
begun_below x (Replies m key r f ∷ past) n ask new e = begun_below x past n ask new.1 e
begun_below x (Breaks m ∷ past) n ask new e = begun_below x past n ask new.1 e
begun_below x (Turns s key turned ∷ past) n ask new e = begun_below x past n ask new e
begun_below x (Restarts s ∷ past) n ask new e = begun_below x past n ask new e

-- none of the tickets' commands was over then
abbrev NoneOver : List Event → List Ticket → Type 0
NoneOver began [] = Unit {0}
NoneOver began (t ∷ ts) = (HasEnded began t.number → ⊥) × NoneOver began ts

-- when a ticket's command began, none of the later ones' was over
abbrev IsOrdered : (ℕ → List Event) → List Ticket → Type 0
IsOrdered at [] = Unit {0}
IsOrdered at (t ∷ ts) = NoneOver (at t.number) ts × IsOrdered at ts

abbrev AreBegun : (ℕ → Option Ask) → List Ticket → Type 0
AreBegun who [] = Unit {0}
AreBegun who (t ∷ ts) = ((ask : Ask) × (who t.number ≡ Some ask)) × AreBegun who ts

none_more : (began : List Event) (ts : List Ticket) (t : Ticket) → NoneOver began ts → (HasEnded began t.number → ⊥) → NoneOver began (ts ++ t ∷ [])
none_more began [] t h on = (on, tt)
none_more began (u ∷ ts) t h on = (h.0, none_more began ts t h.1 on)

ordered_more : (at : ℕ → List Event) (ts : List Ticket) (t : Ticket) → IsOrdered at ts → ((n : ℕ) → HasEnded (at n) t.number → ⊥) → IsOrdered at (ts ++ t ∷ [])
ordered_more at [] t h on = (tt, tt)
ordered_more at (u ∷ ts) t h on = (none_more (at u.number) ts t h.0 (on u.number), ordered_more at ts t h.1 on)

begun_more : (who : ℕ → Option Ask) (ts : List Ticket) (t : Ticket) (ask : Ask) → AreBegun who ts → who t.number ≡ Some ask → AreBegun who (ts ++ t ∷ [])
begun_more who [] t ask h e = ((ask, e), tt)
begun_more who (u ∷ ts) t ask h e = (h.0, begun_more who ts t ask h.1 e)

-- what was known of begun commands stays
ordered_since : (who : ℕ → Option Ask) (at to : ℕ → List Event) → ((n : ℕ) (ask : Ask) → who n ≡ Some ask → at n ≡ to n) → (ts : List Ticket) → AreBegun who ts → IsOrdered at ts → IsOrdered to ts
ordered_since who at to same [] b h = tt
ordered_since who at to same (t ∷ ts) b h = (subst (λ l. NoneOver l ts) (same t.number b.0.0 b.0.1) h.0, ordered_since who at to same ts b.1 h.1)

begun_since : (who to : ℕ → Option Ask) → ((n : ℕ) (ask : Ask) → who n ≡ Some ask → to n ≡ who n) → (ts : List Ticket) → AreBegun who ts → AreBegun to ts
begun_since who to same [] b = tt
begun_since who to same (t ∷ ts) b = ((b.0.0, same t.number b.0.0 b.0.1 ∙ b.0.1), begun_since who to same ts b.1)

module _ (line : ℕ → ℕ → ℕ) where
  -- what stands in a connection: commands that have begun; none was over when one before it began, nor when a command of the connection began that has an answer there
  record Piped (past : List Event) (p s : ℕ) (pipe : List Ticket) : Type 0 where
    begins : AreBegun (λ n. begun_late past n) pipe
    ordered : IsOrdered (λ n. before past n) pipe
    behind : (n : ℕ) → line n s ≡ p → ClearsIn (calls_so_far past n) s → NoneOver (before past n) pipe

  -- the first is gone, as it was applied without an answer that counts
  piped_behind : (past : List Event) (p s : ℕ) (pipe : List Ticket) (number : ℕ) (ask : Ask) (origin : Origin) → IsFirstIn pipe number ask origin → Piped past p s pipe → Piped past p s (behind_first pipe)
  piped_behind past p s pipe number ask origin first h =
      let first_is : pipe ≡ record { number = number; ask = ask; origin = origin } ∷ first.0 = first.1 in
      let whole : Piped past p s (record { number = number; ask = ask; origin = origin } ∷ first.0) = subst (Piped past p s) first_is h in
      subst (λ l. Piped past p s (behind_first l)) (sym first_is) (record { begins = whole.begins.1; ordered = whole.ordered.1; behind = λ n home clears. (whole.behind n home clears).1 })

  module _ (words : ℕ → Ask → List Call → Answer → Option ℕ → Type 0) (Bars : ℕ → Ask → ℕ → Ask → Type 0) (opening : ℕ → List ℕ → Option Item) where
    pub run_of : (steps : List PipeStep) → PipeSteps line words Bars opening steps → LateRun words Bars opening LandsEver (moments_of steps)
    run_of [] h = tt
    run_of (Sends number server ask origin ∷ past) h = run_of past h.1
    run_of (Moves moment ∷ past) h = (h.0.0, run_of past h.1)
    run_of (Closes q server ∷ past) h = run_of past h.1

    -- after a call that was applied and answered, or not answered
    piped_call : (past : List Event) (p s : ℕ) (pipe : List Ticket) (number server : ℕ) (ask : Ask) (origin : Origin) (end : End) → (is_pipe (line number server) server p s ≡ true → IsFirstIn pipe number ask origin) → Piped past p s pipe → Piped (Calls number server ask origin end ∷ past) p s (cond (is_pipe (line number server) server p s) (behind_first pipe) pipe)
    piped_call past p s pipe number server ask origin end first h =
        let call : Call = record { server = server; ask = ask; origin = origin; outcome = outcome_of end } in
        by_test (Piped (Calls number server ask origin end ∷ past) p s) (is_pipe (line number server) server p s) (behind_first pipe) pipe
        (λ here.
        let f = first here in
        let f_is : pipe ≡ record { number = number; ask = ask; origin = origin } ∷ f.0 = f.1 in
        let whole : Piped past p s (record { number = number; ask = ask; origin = origin } ∷ f.0) = subst (Piped past p s) f_is h in
        subst (λ l. Piped (Calls number server ask origin end ∷ past) p s (behind_first l)) (sym f_is) (record {
          begins = whole.begins.1;
          ordered = whole.ordered.1;
          behind = λ n home clears.
              (elim (nat_eq number n) as (λ b. nat_eq number n ≡ b → ClearsIn (cond b (calls_so_far past n ++ call ∷ []) (calls_so_far past n)) s → NoneOver (before past n) f.0) [
                | true ↦ λ is _. subst (λ k. NoneOver (before past k) f.0) (eqb-true number n is) whole.ordered.0
                | false ↦ λ _ c. (whole.behind n home c).1
              ]) refl clears;
        }))
        (λ away. record {
          begins = h.begins;
          ordered = h.ordered;
          behind = λ n home clears.
              (elim (nat_eq number n) as (λ b. nat_eq number n ≡ b → ClearsIn (cond b (calls_so_far past n ++ call ∷ []) (calls_so_far past n)) s → NoneOver (before past n) pipe) [
                | true ↦ λ is c.
                    ⊎_elim
                    (λ old. h.behind n home old)
                    (⊎_elim
                    (λ now. absurd (is_pipe_false (line number server) server p s away (ap (line number) now.0 ∙ ap (λ k. line k s) (eqb-true number n is) ∙ home) now.0))
                    (λ none. absurd none))
                    (clears_split (calls_so_far past n) call s c)
                | false ↦ λ _ c. h.behind n home c
              ]) refl clears;
        })

    -- after one that was given up
    piped_never : (past : List Event) (p s : ℕ) (pipe : List Ticket) (number server : ℕ) (ask : Ask) (origin : Origin) → Piped past p s pipe → Piped (Calls number server ask origin Never ∷ past) p s pipe
    piped_never past p s pipe number server ask origin h =
        let call : Call = record { server = server; ask = ask; origin = origin; outcome = Failed } in
        record {
          begins = h.begins;
          ordered = h.ordered;
          behind = λ n home clears.
              (elim (nat_eq number n) as (λ b. ClearsIn (cond b (calls_so_far past n ++ call ∷ []) (calls_so_far past n)) s → NoneOver (before past n) pipe) [
                | true ↦ λ c. ⊎_elim (λ old. h.behind n home old) (⊎_elim (λ now. absurd (let e = now.1.1 in cc)) (λ none. absurd none)) (clears_split (calls_so_far past n) call s c)
                | false ↦ λ c. h.behind n home c
              ]) clears;
        }

    piped_begins : (past : List Event) (p s : ℕ) (pipe : List Ticket) (x : ℕ) (ask : Ask) → IsNewNumber x past → Piped past p s pipe → Piped (Begins x ask ∷ past) p s pipe
    piped_begins past p s pipe x ask new h =
        let other : (n : ℕ) (a : Ask) → begun_late past n ≡ Some a → nat_eq x n ≡ false = λ n a e. differs x n (λ is. (let lt = begun_below x past n a new e in omega (arith, lt, is))) in
        record {
          begins = begun_since (λ n. begun_late past n) (λ n. begun_late (Begins x ask ∷ past) n) (λ n a e. second (nat_eq x n) (Some ask) (begun_late past n) (other n a e)) pipe h.begins;
          ordered = ordered_since (λ n. begun_late past n) (λ n. before past n) (λ n. before (Begins x ask ∷ past) n) (λ n a e. sym (second (nat_eq x n) past (before past n) (other n a e))) pipe h.begins h.ordered;
          behind = λ n home clears.
              (elim (nat_eq x n) as (λ b. nat_eq x n ≡ b → NoneOver (cond b past (before past n)) pipe) [
                | true ↦ λ is. absurd (subst (λ l. ClearsIn l s) (new_calls n past (subst (λ k. IsNewNumber k past) (eqb-true x n is) new)) clears)
                | false ↦ λ _. h.behind n home clears
              ]) refl;
        }

    -- a turn in one connection is one in another of its name
    turn_at : (past : List PipeStep) (number server p s : ℕ) (ask : Ask) (origin : Origin) → is_pipe (line number server) server p s ≡ true → IsFirstIn (pipe_of line past (line number server) server) number ask origin → IsFirstIn (pipe_of line past p s) number ask origin
    turn_at past number server p s ask origin here first =
        let e = is_pipe_true (line number server) server p s here in
        subst (λ q. IsFirstIn (pipe_of line past q s) number ask origin) e.0 (subst (λ t. IsFirstIn (pipe_of line past (line number server) t) number ask origin) e.1 first)

    piped : (steps : List PipeStep) → PipeSteps line words Bars opening steps → (p s : ℕ) → Piped (told opening (moments_of steps)) p s (pipe_of line steps p s)
    piped [] h p s = record { begins = tt; ordered = tt; behind = λ n home clears. tt }
    piped (Sends x server ask origin ∷ past) h p s =
        let events = told opening (moments_of past) in
        let old = piped past h.1 p s in
        let t : Ticket = record { number = x; ask = ask; origin = origin } in
        let way : under_way events x ≡ Some h.0.0 = sym (way_told opening (moments_of past) x) ∙ h.0.1 in
        let on : (n : ℕ) → HasEnded (before events n) x → ⊥ = λ n ended. over words Bars opening events x h.0.0 (as_run words Bars opening LandsEver (moments_of past) (run_of past h.1)) (ended_since events n x ended) way in
        by_test (Piped events p s) (is_pipe (line x server) server p s) (pipe_of line past p s ++ t ∷ []) (pipe_of line past p s)
        (λ _. record {
          begins = begun_more (λ n. begun_late events n) (pipe_of line past p s) t h.0.0 old.begins (way_begun events x h.0.0 way);
          ordered = ordered_more (λ n. before events n) (pipe_of line past p s) t old.ordered on;
          behind = λ n home clears. none_more (before events n) (pipe_of line past p s) t (old.behind n home clears) (on n);
        })
        (λ _. old)
    piped (Moves (Does (Begins x ask)) ∷ past) h p s = piped_begins (told opening (moments_of past)) p s (pipe_of line past p s) x ask h.0.0.0 (piped past h.1 p s)
    piped (Moves (Does (Calls x server ask origin (Read stamp answer spaces))) ∷ past) h p s =
        piped_call (told opening (moments_of past)) p s (pipe_of line past p s) x server ask origin (Read stamp answer spaces) (λ here. turn_at past x server p s ask origin here h.0.1) (piped past h.1 p s)
    piped (Moves (Does (Calls x server ask origin (Unread stamp answer spaces))) ∷ past) h p s =
        piped_call (told opening (moments_of past)) p s (pipe_of line past p s) x server ask origin (Unread stamp answer spaces) (λ here. turn_at past x server p s ask origin here h.0.1) (piped past h.1 p s)
    piped (Moves (Does (Calls x server ask origin Never)) ∷ past) h p s =
        by_test (Piped (told opening (moments_of (Moves (Does (Calls x server ask origin Never)) ∷ past))) p s) (is_pipe (line x server) server p s) (pipe_of line past p s) (pipe_of line past p s)
        (λ _. piped_never (told opening (moments_of past)) p s (pipe_of line past p s) x server ask origin (piped past h.1 p s))
        (λ _. piped_never (told opening (moments_of past)) p s (pipe_of line past p s) x server ask origin (piped past h.1 p s))
    piped (Moves (Does (Replies x key r f)) ∷ past) h p s = let old = piped past h.1 p s in record { begins = old.begins; ordered = old.ordered; behind = old.behind }
    piped (Moves (Does (Breaks x)) ∷ past) h p s = let old = piped past h.1 p s in record { begins = old.begins; ordered = old.ordered; behind = old.behind }
    piped (Moves (Does (Turns server key turned)) ∷ past) h p s = let old = piped past h.1 p s in record { begins = old.begins; ordered = old.ordered; behind = old.behind }
    piped (Moves (Does (Restarts server)) ∷ past) h p s = let old = piped past h.1 p s in record { begins = old.begins; ordered = old.ordered; behind = old.behind }
    piped (Moves (Lands x server ask origin stamp answer spaces) ∷ past) h p s =
        let old = piped past h.1 p s in
        let next =
        by_test (Piped (told opening (moments_of past)) p s) (is_pipe (line x server) server p s) (behind_first (pipe_of line past p s)) (pipe_of line past p s)
        (λ here. piped_behind (told opening (moments_of past)) p s (pipe_of line past p s) x ask origin (turn_at past x server p s ask origin here h.0.1) old)
        (λ _. old) in
        record { begins = next.begins; ordered = next.ordered; behind = next.behind }
    piped (Closes q server ∷ past) h p s =
        by_test (Piped (told opening (moments_of past)) p s) (is_pipe q server p s) [] (pipe_of line past p s)
        (λ _. record { begins = tt; ordered = tt; behind = λ n home clears. tt })
        (λ _. piped past h.1 p s)

    -- what lands in its turn wasn't over when a delete of its proxy began that has an answer there
    pub in_turn : (past : List PipeStep) → PipeSteps line words Bars opening past → (number server : ℕ) (ask : Ask) (origin : Origin) → IsFirstIn (pipe_of line past (line number server) server) number ask origin → (n : ℕ) → line n server ≡ line number server → ClearsIn (calls_so_far (told opening (moments_of past)) n) server → HasEnded (before (told opening (moments_of past)) n) number → ⊥
    in_turn past h number server ask origin first n home clears ended =
        (subst (NoneOver (before (told opening (moments_of past)) n)) first.1 ((piped past h (line number server) server).behind n home clears)).0 ended

    -- once a command is over it makes no calls
    calls_stay : (past : List Moment) → LateRun words Bars opening LandsEver past → (n s : ℕ) → HasEnded (before (told opening past) n) s → calls_so_far (before (told opening past) n) s ≡ calls_so_far (told opening past) s
    calls_stay [] run n s h = refl
    calls_stay (Does (Begins x ask) ∷ past) run n s h =
        (elim (nat_eq x n) as (λ b. HasEnded (cond b (told opening past) (before (told opening past) n)) s → calls_so_far (cond b (told opening past) (before (told opening past) n)) s ≡ calls_so_far (told opening past) s) [
          | true ↦ λ _. refl
          | false ↦ λ e. calls_stay past run.1 n s e
        ]) h
    calls_stay (Does (Calls x server ask origin end) ∷ past) run n s h =
        calls_stay past run.1 n s h ∙ sym (second (nat_eq x s) (calls_so_far (told opening past) s ++ record { server = server; ask = ask; origin = origin; outcome = outcome_of end } ∷ []) (calls_so_far (told opening past) s) (differs x s (λ is. over words Bars opening (told opening past) s run.0.0 (as_run words Bars opening LandsEver past run.1) (ended_since (told opening past) n s h) (ap (under_way (told opening past)) (sym is) ∙ run.0.1))))
    calls_stay (Does (Replies x key r f) ∷ past) run n s h = calls_stay past run.1 n s h
    calls_stay (Does (Breaks x) ∷ past) run n s h = calls_stay past run.1 n s h
    calls_stay (Does (Turns server key turned) ∷ past) run n s h = calls_stay past run.1 n s h
    calls_stay (Does (Restarts server) ∷ past) run n s h = calls_stay past run.1 n s h
    calls_stay (Lands x server ask origin stamp answer spaces ∷ past) run n s h = calls_stay past run.1 n s h

    -- so what had failed of it had failed then
    pub failed_then : (past : List Moment) → LateRun words Bars opening LandsEver past → (number n j : ℕ) (call : Call) → slice_get (calls_so_far (told opening past) number) j ≡ Some call → HasEnded (before (told opening past) n) number → slice_get (calls_so_far (before (told opening past) n) number) j ≡ Some call
    failed_then past run number n j call got ended = subst (λ l. slice_get l j ≡ Some call) (sym (calls_stay past run n number ended)) got

    lands_in_time : CopiesStay line words → (past : List PipeStep) → PipeSteps line words Bars opening past → (number server : ℕ) (ask : Ask) (origin : Origin) → (j : ℕ) → slice_get (calls_so_far (told opening (moments_of past)) number) j ≡ Some (record { server = server; ask = ask; origin = origin; outcome = Failed }) → IsFirstIn (pipe_of line past (line number server) server) number ask origin → LandsInTime (WasOverOn line) (told opening (moments_of past)) number server ask origin
    lands_in_time stay past h number server ask Client j got first = λ store n delete begins op same ended clears.
        let call : Call = record { server = server; ask = ask; origin = Client; outcome = Failed } in
        in_turn past h number server ask Client first n (ended.1 j call (failed_then (moments_of past) (run_of past h) number n j call got ended.0) store refl) clears ended.0
    lands_in_time stay past h number server ask (CopyOf i) j got first = λ store n delete begins op same ended clears.
        let m = made words Bars opening (told opening (moments_of past)) (as_run words Bars opening LandsEver (moments_of past) (run_of past h)) number j (record { server = server; ask = ask; origin = CopyOf i; outcome = Failed }) got in
        let home = stay number m.0 _ m.2.1 m.2.2 m.2.3 j (record { server = server; ask = ask; origin = CopyOf i; outcome = Failed }) i (get_left (calls_so_far (told opening (moments_of past)) number) m.2.0 j _ got) refl n server in
        in_turn past h number server ask (CopyOf i) first n home clears ended

    pub timely : CopiesStay line words → (steps : List PipeStep) → PipeSteps line words Bars opening steps → LateRun words Bars opening (LandsInTime (WasOverOn line)) (moments_of steps)
    timely stay [] h = tt
    timely stay (Sends number server ask origin ∷ past) h = timely stay past h.1
    timely stay (Closes q server ∷ past) h = timely stay past h.1
    timely stay (Moves (Does (Begins x ask)) ∷ past) h = (h.0.0, timely stay past h.1)
    timely stay (Moves (Does (Calls x server ask origin end)) ∷ past) h = (h.0.0, timely stay past h.1)
    timely stay (Moves (Does (Replies x key r f)) ∷ past) h = (h.0.0, timely stay past h.1)
    timely stay (Moves (Does (Breaks x)) ∷ past) h = (h.0.0, timely stay past h.1)
    timely stay (Moves (Does (Turns server key turned)) ∷ past) h = (h.0.0, timely stay past h.1)
    timely stay (Moves (Does (Restarts server)) ∷ past) h = (h.0.0, timely stay past h.1)
    timely stay (Moves (Lands x server ask origin stamp answer spaces) ∷ past) h =
        ((h.0.0.0, lands_in_time stay past h.1 x server ask origin h.0.0.0.0 h.0.0.0.1 h.0.1, h.0.0.2, h.0.0.3), timely stay past h.1)
