-- Every run is fresh in which deletes clear what later commands take, or nothing was stored there before, and in which what copies has its key alone.
use Rattle.std.proofs.Common.{◌≡◌, ℕ, ◌<◌, true, false, cond, List, [], ◌∷◌, ◌++◌, length, Option, Some, None, ◌⊎◌, inl, inr, ⊎_elim, refl, sym, ap, ◌∙◌, subst, arith, bytes_eq, nat_eq, slice_get}
use Rattle.std.proofs.lemmas.Slice.Eq.{bytes_eq-Decides}
use Rattle.std.proofs.lemmas.Bool.{eqb-true}
use Rattle.mc_types.specs.declared.ask.Op.TheVariants.{Delete}
use Rattle.mc_types.specs.declared.ask.Ask.{Ask}
use Rattle.mc_types.specs.declared.answer.Answer.{Answer}
use Rattle.mc_types.specs.declared.call.Origin.{Origin}
use Rattle.mc_types.specs.declared.call.Origin.TheVariants.{Client, CopyOf}
use Rattle.mc_types.specs.declared.call.Outcome.TheVariants.{Answered, Failed}
use Rattle.mc_types.specs.Items.{Item}
use Rattle.fresh_runs.specs.Life.{held_in}
use Rattle.fresh_runs.specs.Calls.{Call, End, Read, Unread, Never, outcome_of}
use Rattle.fresh_runs.specs.Cover.{ClearsIn, IsCleared}
use Rattle.fresh_runs.specs.Run.{Event, Begins, Calls, Replies, Breaks, Turns, Restarts, LosesOnly, life_of, under_way, calls_so_far, before, HasEnded, IsNewNumber, AreAlone, held, item_at, GivesStamp, IsFront, CopiesBar, MayCome, Run, AcknowledgedBy, IsAcknowledged, IsShown, IsFresh, IsFreshByNumber}
use Rattle.fresh_runs.proofs.Stamps.{by_test, clear_marks, get_left, get_seam, clears_split}
use Rattle.fresh_runs.proofs.Seen.{Has, Gives, has_from_gone, has_marks, delete_marks}
use Rattle.fresh_runs.proofs.Runs.{some_ask, no_ask, differs, differ, acked_below, shown_below, new_calls, new_item_at, ended_since, acked_since, acked_over, acked_delete, over, apart, began_after, above}
use Rattle.fresh_runs.specs.Untouched.{IsPutting, KeyIsUntouched, IsCoveredOrUntouched}
use Rattle.fresh_runs.specs.Freshness.{everybody_bars, copying_bars, RunsAreFreshFrom}
use Rattle.fresh_runs.proofs.Nothing.{nothing_marks}

module _ (words : ℕ → Ask → List Call → Answer → Option ℕ → Type 0) (Bars : ℕ → Ask → ℕ → Ask → Type 0) (opening : ℕ → List ℕ → Option Item) (cover : IsCoveredOrUntouched words opening) (copies : CopiesBar words Bars) (n : ℕ) (delete : Ask) (op : delete.op ≡ Delete) (began : List Event) (Q : ℕ → Type 0) (young : (past : List Event) → Run words Bars opening past → before past n ≡ began → (under_way past n ≡ Some delete) ⊎ IsAcknowledged past n delete → (m : ℕ) (client : Ask) → under_way past m ≡ Some client → client.key ≡ delete.key → (m ≡ n → ⊥) → Q m) where
  -- `Q` are the stamps of what may be seen once the delete, which began then, is acknowledged

  -- a command whose next call is a copy bars the delete
  copy_bars : (number : ℕ) (client : Ask) (calls : List Call) (call : Call) (i : ℕ) → client.key ≡ delete.key → IsFront words number client (calls ++ call ∷ []) → call.origin ≡ CopyOf i → Bars number client n delete
  copy_bars number client calls call i same front o =
      copies number client _ front.1 front.2 front.3 (length calls) call i (get_left (calls ++ call ∷ []) front.0 (length calls) call (get_seam calls call [])) o n delete op same

  -- while the delete is under way another command's call stores what may be seen
  stamp_early : (past : List Event) → Run words Bars opening past → before past n ≡ began → under_way past n ≡ Some delete → (number : ℕ) (client : Ask) (call : Call) (origin : Origin) (stamp : ℕ) → (number ≡ n → ⊥) → client.key ≡ delete.key → call.origin ≡ origin → under_way past number ≡ Some client → IsFront words number client (calls_so_far past number ++ call ∷ []) → GivesStamp opening past number origin stamp → Q stamp
  stamp_early past run at way number client call Client stamp other same o there front gives = subst Q (sym gives) (young past run at (inl way) number client there same other)
  stamp_early past run at way number client call (CopyOf i) stamp other same o there front gives =
      absurd (apart words Bars opening past run number n client delete there way other same (copy_bars number client (calls_so_far past number) call i same front o))

  early : (past : List Event) (number server : ℕ) (ask : Ask) (origin : Origin) (end : End) → Run words Bars opening past → before past n ≡ began → under_way past n ≡ Some delete → (number ≡ n → ⊥) → MayCome words Bars opening past (Calls number server ask origin end) → ask.key ≡ delete.key → Gives Q end
  early past number server ask origin (Read stamp answer spaces) run at way other may same =
      stamp_early past run at way number may.0 (record { server = server; ask = ask; origin = origin; outcome = Answered answer }) origin stamp other (sym may.2 ∙ same) refl may.1 may.3 may.4.1
  early past number server ask origin (Unread stamp answer spaces) run at way other may same =
      stamp_early past run at way number may.0 (record { server = server; ask = ask; origin = origin; outcome = Failed }) origin stamp other (sym may.2 ∙ same) refl may.1 may.3 may.4.1
  early past number server ask origin Never run at way other may same = tt

  -- while the delete is under way: a server that it has cleared holds nothing of the key, or what may be seen
  clear_so_far : (past : List Event) → Run words Bars opening past → LosesOnly past → before past n ≡ began → under_way past n ≡ Some delete → (s : ℕ) → ClearsIn (calls_so_far past n) s → Has Q (held opening past s delete.key)
  clear_so_far [] run lost at e s h = absurd h
  clear_so_far (Begins number ask ∷ past) run lost at e s h =
      (elim (nat_eq number n) as (λ b. nat_eq number n ≡ b → cond b past (before past n) ≡ began → cond b (Some ask) (under_way past n) ≡ Some delete → Has Q (held opening past s delete.key)) [
        | true ↦ λ is _ _. absurd (subst (λ calls. ClearsIn calls s) (new_calls n past (subst (λ k. IsNewNumber k past) (eqb-true number n is) run.0.0)) h)
        | false ↦ λ _ a is. clear_so_far past run.1 lost a is s h
      ]) refl at e
  clear_so_far (Replies number k reply from ∷ past) run lost at e s h =
      (elim (nat_eq number n) as (λ b. cond b None (under_way past n) ≡ Some delete → Has Q (held opening past s delete.key)) [
        | true ↦ λ is. no_ask delete is
        | false ↦ λ is. clear_so_far past run.1 lost at is s h
      ]) e
  clear_so_far (Breaks number ∷ past) run lost at e s h =
      (elim (nat_eq number n) as (λ b. cond b None (under_way past n) ≡ Some delete → Has Q (held opening past s delete.key)) [
        | true ↦ λ is. no_ask delete is
        | false ↦ λ is. clear_so_far past run.1 lost at is s h
      ]) e
  clear_so_far (Calls number server ask origin end ∷ past) run lost at e s h =
      let key = delete.key in
      let calls = calls_so_far past n in
      let call : Call = record { server = server; ask = ask; origin = origin; outcome = outcome_of end } in
      (elim (nat_eq number n) as (λ b. nat_eq number n ≡ b → ClearsIn (cond b (calls ++ call ∷ []) calls) s → Has Q (held opening (Calls number server ask origin end ∷ past) s key)) [
        | true ↦ λ is c.
            let mine : number ≡ n = eqb-true number n is in
            let asked : run.0.0 ≡ delete = some_ask run.0.0 delete (sym run.0.1 ∙ ap (under_way past) mine ∙ e) in
            let same : bytes_eq ask.key key ≡ true = (bytes_eq-Decides ask.key key).1 (run.0.2 ∙ ap (λ (a : Ask). a.key) asked) in
            let front : IsFront words n delete (calls ++ call ∷ []) = subst (λ a. IsFront words n a (calls ++ call ∷ [])) asked (subst (λ k. IsFront words k run.0.0 (calls_so_far past k ++ call ∷ [])) mine run.0.3) in
            let asks : ask.op ≡ Delete = cover.deletes n delete op _ _ _ front.3 (length calls) call (get_left (calls ++ call ∷ []) front.0 (length calls) call (get_seam calls call [])) in
            ⊎_elim
            (λ earlier.
            let rest = clear_so_far past run.1 lost at e s earlier in
            by_test (λ l. Has Q (held_in (opening s key) l key)) (nat_eq server s) _ _ (λ _. delete_marks Q (opening s key) ask end (life_of past s) key asks rest) (λ _. rest))
            (⊎_elim
            (λ now.
            let answered = now.1 in
            by_test (λ l. Has Q (held_in (opening s key) l key)) (nat_eq server s) _ _ (λ _. has_from_gone Q _ (clear_marks (opening s key) ask end (life_of past s) key answered.0 asks same answered.1 answered.2)) (λ other. differ server s other now.0))
            (λ none. absurd none))
            (clears_split calls call s c)
        | false ↦ λ other c.
            let rest = clear_so_far past run.1 lost at e s c in
            by_test (λ l. Has Q (held_in (opening s key) l key)) (nat_eq server s) _ _
            (λ _. has_marks Q (opening s key) ask end (life_of past s) key (λ same. early past number server ask origin end run.1 at e (λ is. differ number n other is) run.0 ((bytes_eq-Decides ask.key key).0 same)) rest)
            (λ _. rest)
      ]) refl h
  clear_so_far (Turns server k turned ∷ past) run lost at e s h =
      let rest = clear_so_far past run.1 lost.1 at e s h in
      by_test (λ l. Has Q (held_in (opening s delete.key) l delete.key)) (nat_eq server s) _ _ (λ _. by_test (Has Q) (bytes_eq k delete.key) turned _ (λ _. subst (Has Q) (sym lost.0) tt) (λ _. rest)) (λ _. rest)
  clear_so_far (Restarts server ∷ past) run lost at e s h =
      let rest = clear_so_far past run.1 lost at e s h in
      by_test (λ l. Has Q (held_in (opening s delete.key) l delete.key)) (nat_eq server s) _ _ (λ _. tt) (λ _. rest)

  -- a command of a smaller number puts nothing there
  unput : (past : List Event) (number server : ℕ) (ask : Ask) (origin : Origin) (end : End) → Run words Bars opening (Calls number server ask origin end ∷ past) → (s : ℕ) → KeyIsUntouched words opening n delete.key s → number < n → server ≡ s → ask.key ≡ delete.key → IsPutting ask.op → ⊥
  unput past number server ask origin end run s u lt here same puts =
      let call : Call = record { server = server; ask = ask; origin = origin; outcome = outcome_of end } in
      let calls = calls_so_far past number in
      let front = run.0.3 in
      u.unput number run.0.0 lt (sym run.0.2 ∙ same) _ _ _ front.3 (length calls, call, get_left (calls ++ call ∷ []) front.0 (length calls) call (get_seam calls call []), here, puts)

  -- before the delete begins, an untouched server holds nothing of the key
  empty_before : (past : List Event) → Run words Bars opening past → LosesOnly past → IsNewNumber n past → (s : ℕ) → KeyIsUntouched words opening n delete.key s → held opening past s delete.key ≡ None
  empty_before [] run lost new s u = u.empty
  empty_before (Begins number ask ∷ past) run lost new s u = empty_before past run.1 lost new.1 s u
  empty_before (Replies number k reply from ∷ past) run lost new s u = empty_before past run.1 lost new.1 s u
  empty_before (Breaks number ∷ past) run lost new s u = empty_before past run.1 lost new.1 s u
  empty_before (Calls number server ask origin end ∷ past) run lost new s u =
      let rest = empty_before past run.1 lost new.1 s u in
      by_test (λ l. held_in (opening s delete.key) l delete.key ≡ None) (nat_eq server s) _ _
      (λ here. nothing_marks (opening s delete.key) ask end (life_of past s) delete.key (λ same puts. unput past number server ask origin end run s u new.0 (eqb-true server s here) ((bytes_eq-Decides ask.key delete.key).0 same) puts) rest)
      (λ _. rest)
  empty_before (Turns server k turned ∷ past) run lost new s u =
      let rest = empty_before past run.1 lost.1 new s u in
      by_test (λ l. held_in (opening s delete.key) l delete.key ≡ None) (nat_eq server s) _ _ (λ _. by_test (λ o. o ≡ None) (bytes_eq k delete.key) turned _ (λ _. lost.0) (λ _. rest)) (λ _. rest)
  empty_before (Restarts server ∷ past) run lost new s u =
      let rest = empty_before past run.1 lost new s u in
      by_test (λ l. held_in (opening s delete.key) l delete.key ≡ None) (nat_eq server s) _ _ (λ _. refl) (λ _. rest)

  -- while it is under way, nothing or what may be seen
  untouched_so_far : (past : List Event) → Run words Bars opening past → LosesOnly past → before past n ≡ began → under_way past n ≡ Some delete → (s : ℕ) → KeyIsUntouched words opening n delete.key s → Has Q (held opening past s delete.key)
  untouched_so_far [] run lost at e s u = no_ask delete e
  untouched_so_far (Begins number ask ∷ past) run lost at e s u =
      (elim (nat_eq number n) as (λ b. nat_eq number n ≡ b → cond b past (before past n) ≡ began → cond b (Some ask) (under_way past n) ≡ Some delete → Has Q (held opening past s delete.key)) [
        | true ↦ λ is _ _. subst (Has Q) (sym (empty_before past run.1 lost (subst (λ k. IsNewNumber k past) (eqb-true number n is) run.0.0) s u)) tt
        | false ↦ λ _ a is. untouched_so_far past run.1 lost a is s u
      ]) refl at e
  untouched_so_far (Replies number k reply from ∷ past) run lost at e s u =
      (elim (nat_eq number n) as (λ b. cond b None (under_way past n) ≡ Some delete → Has Q (held opening past s delete.key)) [
        | true ↦ λ is. no_ask delete is
        | false ↦ λ is. untouched_so_far past run.1 lost at is s u
      ]) e
  untouched_so_far (Breaks number ∷ past) run lost at e s u =
      (elim (nat_eq number n) as (λ b. cond b None (under_way past n) ≡ Some delete → Has Q (held opening past s delete.key)) [
        | true ↦ λ is. no_ask delete is
        | false ↦ λ is. untouched_so_far past run.1 lost at is s u
      ]) e
  untouched_so_far (Calls number server ask origin end ∷ past) run lost at e s u =
      let key = delete.key in
      let rest = untouched_so_far past run.1 lost at e s u in
      let call : Call = record { server = server; ask = ask; origin = origin; outcome = outcome_of end } in
      (elim (nat_eq number n) as (λ b. nat_eq number n ≡ b → Has Q (held opening (Calls number server ask origin end ∷ past) s key)) [
        | true ↦ λ is.
            let mine : number ≡ n = eqb-true number n is in
            let asked : run.0.0 ≡ delete = some_ask run.0.0 delete (sym run.0.1 ∙ ap (under_way past) mine ∙ e) in
            let front : IsFront words n delete (calls_so_far past n ++ call ∷ []) = subst (λ a. IsFront words n a (calls_so_far past n ++ call ∷ [])) asked (subst (λ k. IsFront words k run.0.0 (calls_so_far past k ++ call ∷ [])) mine run.0.3) in
            let asks : ask.op ≡ Delete = cover.deletes n delete op _ _ _ front.3 (length (calls_so_far past n)) call (get_left (calls_so_far past n ++ call ∷ []) front.0 (length (calls_so_far past n)) call (get_seam (calls_so_far past n) call [])) in
            by_test (λ l. Has Q (held_in (opening s key) l key)) (nat_eq server s) _ _ (λ _. delete_marks Q (opening s key) ask end (life_of past s) key asks rest) (λ _. rest)
        | false ↦ λ other.
            by_test (λ l. Has Q (held_in (opening s key) l key)) (nat_eq server s) _ _
            (λ _. has_marks Q (opening s key) ask end (life_of past s) key (λ same. early past number server ask origin end run.1 at e (λ is. differ number n other is) run.0 ((bytes_eq-Decides ask.key key).0 same)) rest)
            (λ _. rest)
      ]) refl
  untouched_so_far (Turns server k turned ∷ past) run lost at e s u =
      let rest = untouched_so_far past run.1 lost.1 at e s u in
      by_test (λ l. Has Q (held_in (opening s delete.key) l delete.key)) (nat_eq server s) _ _ (λ _. by_test (Has Q) (bytes_eq k delete.key) turned _ (λ _. subst (Has Q) (sym lost.0) tt) (λ _. rest)) (λ _. rest)
  untouched_so_far (Restarts server ∷ past) run lost at e s u =
      let rest = untouched_so_far past run.1 lost at e s u in
      by_test (λ l. Has Q (held_in (opening s delete.key) l delete.key)) (nat_eq server s) _ _ (λ _. tt) (λ _. rest)

  -- a server that the delete clears, or that was untouched
  abbrev Guards : ℕ → Type 0
  Guards s = IsCleared words n delete s ⊎ KeyIsUntouched words opening n delete.key s

  -- since the delete was acknowledged: what it clears, or was untouched, holds nothing of the key, or what may be seen; and so has each command that began later found it
  pub record Guarded (past : List Event) : Type 0 where
    pub holds : (s : ℕ) → Guards s → Has Q (held opening past s delete.key)
    pub read : (m : ℕ) (client : Ask) → under_way past m ≡ Some client → client.key ≡ delete.key → IsAcknowledged (before past m) n delete → (i : ℕ) (item : Item) → item_at opening past m i ≡ Some item → (call : Call) × (slice_get (calls_so_far past m) i ≡ Some call) × (Guards call.server → Q item.stamp)

  -- the moment of the reply
  guard_begins : (past : List Event) (m : ℕ) (k : List ℕ) (reply : Answer) (from : Option ℕ) → Run words Bars opening (Replies m k reply from ∷ past) → LosesOnly past → before past n ≡ began → AcknowledgedBy past (Replies m k reply from) n delete → Guarded (Replies m k reply from ∷ past)
  guard_begins past m k reply from run lost at ack =
      let mine : m ≡ n = ack.0 in
      let there : under_way past n ≡ Some delete = subst (λ x. under_way past x ≡ Some delete) mine ack.1 in
      let asked : run.0.0 ≡ delete = some_ask run.0.0 delete (sym run.0.1 ∙ ack.1) in
      let word : words n delete (calls_so_far past n) reply from = subst (λ a. words n a (calls_so_far past n) reply from) asked (subst (λ x. words x run.0.0 (calls_so_far past x) reply from) mine run.0.3) in
      record {
        holds = λ s guards. ⊎_elim (λ clears. clear_so_far past run.1 lost at there s (clears (calls_so_far past n) reply from word ack.2)) (λ u. untouched_so_far past run.1 lost at there s u) guards;
        read = λ x client way same later i item is. absurd (over words Bars opening past n delete run.1 (acked_over past n delete (acked_since past x n delete later)) there);
      }

  -- a later command's call stores what may be seen
  stamp_late : (past : List Event) → Run words Bars opening past → before past n ≡ began → IsAcknowledged past n delete → Guarded past → (number : ℕ) (client : Ask) (call : Call) (origin : Origin) (stamp : ℕ) → (number ≡ n → ⊥) → client.key ≡ delete.key → call.origin ≡ origin → under_way past number ≡ Some client → IsFront words number client (calls_so_far past number ++ call ∷ []) → GivesStamp opening past number origin stamp → Q stamp
  stamp_late past run at ack g number client call Client stamp other same o there front gives = subst Q (sym gives) (young past run at (inr ack) number client there same other)
  stamp_late past run at ack g number client call (CopyOf i) stamp other same o there front gives =
      let calls = calls_so_far past number in
      let later = began_after words Bars opening past run n number delete client ack there same (copy_bars number client calls call i same front o) in
      let r = g.read number client there same later i gives.0 gives.1 in
      let source = get_left (calls ++ call ∷ []) front.0 i r.0 (get_left calls (call ∷ []) i r.0 r.1) in
      let copy = get_left (calls ++ call ∷ []) front.0 (length calls) call (get_seam calls call []) in
      let clears = cover.covered n number delete client (above words Bars opening past run n number delete later) op same _ _ _ front.3 r.0.server (i, (r.0, source, refl), inr (length calls, call, copy, o)) in
      subst Q (sym gives.2) (r.2 clears)

  late : (past : List Event) (number server : ℕ) (ask : Ask) (origin : Origin) (end : End) → Run words Bars opening past → before past n ≡ began → IsAcknowledged past n delete → Guarded past → MayCome words Bars opening past (Calls number server ask origin end) → ask.key ≡ delete.key → Gives Q end
  late past number server ask origin (Read stamp answer spaces) run at ack g may same =
      stamp_late past run at ack g number may.0 (record { server = server; ask = ask; origin = origin; outcome = Answered answer }) origin stamp (λ is. over words Bars opening past n may.0 run (acked_over past n delete ack) (ap (under_way past) (sym is) ∙ may.1)) (sym may.2 ∙ same) refl may.1 may.3 may.4.1
  late past number server ask origin (Unread stamp answer spaces) run at ack g may same =
      stamp_late past run at ack g number may.0 (record { server = server; ask = ask; origin = origin; outcome = Failed }) origin stamp (λ is. over words Bars opening past n may.0 run (acked_over past n delete ack) (ap (under_way past) (sym is) ∙ may.1)) (sym may.2 ∙ same) refl may.1 may.3 may.4.1
  late past number server ask origin Never run at ack g may same = tt

  guard_keeps : (past : List Event) (event : Event) → Run words Bars opening (event ∷ past) → LosesOnly (event ∷ past) → before past n ≡ began → IsAcknowledged past n delete → Guarded past → Guarded (event ∷ past)
  guard_keeps past (Begins number ask) run lost at ack g =
      record {
        holds = g.holds;
        read = λ m client way same later i item is.
            (elim (nat_eq number m) as (λ b. nat_eq number m ≡ b → cond b (Some ask) (under_way past m) ≡ Some client → IsAcknowledged (cond b past (before past m)) n delete → (call : Call) × (slice_get (calls_so_far past m) i ≡ Some call) × (Guards call.server → Q item.stamp)) [
              | true ↦ λ here _ _. absurd (let none = new_item_at opening m past i (subst (λ k. IsNewNumber k past) (eqb-true number m here) run.0.0) in cc)
              | false ↦ λ _ e l. g.read m client e same l i item is
            ]) refl way later;
      }
  guard_keeps past (Replies number k reply from) run lost at ack g =
      record {
        holds = g.holds;
        read = λ m client way same later i item is.
            (elim (nat_eq number m) as (λ b. cond b None (under_way past m) ≡ Some client → (call : Call) × (slice_get (calls_so_far past m) i ≡ Some call) × (Guards call.server → Q item.stamp)) [
              | true ↦ λ e. no_ask client e
              | false ↦ λ e. g.read m client e same later i item is
            ]) way;
      }
  guard_keeps past (Breaks number) run lost at ack g =
      record {
        holds = g.holds;
        read = λ m client way same later i item is.
            (elim (nat_eq number m) as (λ b. cond b None (under_way past m) ≡ Some client → (call : Call) × (slice_get (calls_so_far past m) i ≡ Some call) × (Guards call.server → Q item.stamp)) [
              | true ↦ λ e. no_ask client e
              | false ↦ λ e. g.read m client e same later i item is
            ]) way;
      }
  guard_keeps past (Calls number server ask origin end) run lost at ack g =
      let key = delete.key in
      let call : Call = record { server = server; ask = ask; origin = origin; outcome = outcome_of end } in
      record {
        holds = λ s clears. by_test (λ l. Has Q (held_in (opening s key) l key)) (nat_eq server s) _ _ (λ _. has_marks Q (opening s key) ask end (life_of past s) key (λ same. late past number server ask origin end run.1 at ack g run.0 ((bytes_eq-Decides ask.key key).0 same)) (g.holds s clears)) (λ _. g.holds s clears);
        read = λ m client way same later i item is.
            let calls = calls_so_far past m in
            (elim (nat_eq number m) as (λ b. nat_eq number m ≡ b → cond b (cond (nat_eq (length calls) i) (held opening past server ask.key) (item_at opening past m i)) (item_at opening past m i) ≡ Some item → (found : Call) × (slice_get (cond b (calls ++ call ∷ []) calls) i ≡ Some found) × (Guards found.server → Q item.stamp)) [
              | true ↦ λ mine. by_test (λ o. o ≡ Some item → (call' : Call) × (slice_get (calls ++ call ∷ []) i ≡ Some call') × (Guards call'.server → Q item.stamp)) (nat_eq (length calls) i) (held opening past server ask.key) (item_at opening past m i)
                  (λ here e. (
                    call,
                    subst (λ j. slice_get (calls ++ call ∷ []) j ≡ Some call) (eqb-true (length calls) i here) (get_seam calls call []),
                    λ clears.
                        let asked : run.0.0 ≡ client = some_ask run.0.0 client (sym run.0.1 ∙ ap (under_way past) (eqb-true number m mine) ∙ way) in
                        let on : ask.key ≡ key = run.0.2 ∙ ap (λ (a : Ask). a.key) asked ∙ same in
                        subst (Has Q) (sym (ap (held opening past server) on) ∙ e) (g.holds server clears),
                  ))
                  (λ _ e. let r = g.read m client way same later i item e in (r.0, get_left calls (call ∷ []) i r.0 r.1, r.2))
              | false ↦ λ _ e. g.read m client way same later i item e
            ]) refl is;
      }
  guard_keeps past (Turns server k turned) run lost at ack g =
      record {
        holds = λ s clears. by_test (λ l. Has Q (held_in (opening s delete.key) l delete.key)) (nat_eq server s) _ _ (λ _. by_test (Has Q) (bytes_eq k delete.key) turned _ (λ _. subst (Has Q) (sym lost.0) tt) (λ _. g.holds s clears)) (λ _. g.holds s clears);
        read = g.read;
      }
  guard_keeps past (Restarts server) run lost at ack g =
      record {
        holds = λ s clears. by_test (λ l. Has Q (held_in (opening s delete.key) l delete.key)) (nat_eq server s) _ _ (λ _. tt) (λ _. g.holds s clears);
        read = g.read;
      }

  pub guarded : (past : List Event) → Run words Bars opening past → LosesOnly past → before past n ≡ began → IsAcknowledged past n delete → Guarded past
  guarded [] run lost at ack = absurd ack
  guarded (Replies m k reply from ∷ past) run lost at (inl ack) = guard_begins past m k reply from run lost at ack
  guarded (Begins m ask ∷ past) run lost at (inl ack) = absurd ack
  guarded (Calls m server ask origin end ∷ past) run lost at (inl ack) = absurd ack
  guarded (Breaks m ∷ past) run lost at (inl ack) = absurd ack
  guarded (Turns server k turned ∷ past) run lost at (inl ack) = absurd ack
  guarded (Restarts server ∷ past) run lost at (inl ack) = absurd ack
  guarded (Begins m ask ∷ past) run lost at (inr ack) =
      let old : before past n ≡ began = sym (ap (λ b. cond b past (before past n)) (differs m n (λ is. (let lt = acked_below m past n delete run.0.0 ack in omega (arith, lt, is))))) ∙ at in
      guard_keeps past (Begins m ask) run lost old ack (guarded past run.1 lost old ack)
  guarded (Calls m server ask origin end ∷ past) run lost at (inr ack) = guard_keeps past (Calls m server ask origin end) run lost at ack (guarded past run.1 lost at ack)
  guarded (Replies m k reply from ∷ past) run lost at (inr ack) = guard_keeps past (Replies m k reply from) run lost at ack (guarded past run.1 lost at ack)
  guarded (Breaks m ∷ past) run lost at (inr ack) = guard_keeps past (Breaks m) run lost at ack (guarded past run.1 lost at ack)
  guarded (Turns server k turned ∷ past) run lost at (inr ack) = guard_keeps past (Turns server k turned) run lost at ack (guarded past run.1 lost.1 at ack)
  guarded (Restarts server ∷ past) run lost at (inr ack) = guard_keeps past (Restarts server) run lost at ack (guarded past run.1 lost at ack)

  -- what a command shows that began after the delete was acknowledged
  pub shows_young : (events : List Event) → Run words Bars opening events → LosesOnly events → before events n ≡ began → (m : ℕ) (item : Item) → IsAcknowledged (before events m) n delete → IsShown opening events m delete.key item → Q item.stamp
  shows_young [] run lost at m item ack shown = absurd shown
  shows_young (Begins x ask ∷ past) run lost at m item ack (inl shown) = absurd shown
  shows_young (Begins x ask ∷ past) run lost at m item ack (inr shown) =
      let later : IsAcknowledged (before past m) n delete = subst (λ b. IsAcknowledged (cond b past (before past m)) n delete) (differs x m (λ is. (let lt = shown_below opening x past m delete.key item run.0.0 shown in omega (arith, lt, is)))) ack in
      let acked = acked_since past m n delete later in
      let old : before past n ≡ began = sym (ap (λ b. cond b past (before past n)) (differs x n (λ is. (let lt = acked_below x past n delete run.0.0 acked in omega (arith, lt, is))))) ∙ at in
      shows_young past run.1 lost old m item later shown
  shows_young (Calls a b c d e ∷ past) run lost at m item ack (inl shown) = absurd shown
  shows_young (Calls a b c d e ∷ past) run lost at m item ack (inr shown) = shows_young past run.1 lost at m item ack shown
  shows_young (Breaks a ∷ past) run lost at m item ack (inl shown) = absurd shown
  shows_young (Breaks a ∷ past) run lost at m item ack (inr shown) = shows_young past run.1 lost at m item ack shown
  shows_young (Turns a b turned ∷ past) run lost at m item ack (inl shown) = absurd shown
  shows_young (Turns a b turned ∷ past) run lost at m item ack (inr shown) = shows_young past run.1 lost.1 at m item ack shown
  shows_young (Restarts a ∷ past) run lost at m item ack (inl shown) = absurd shown
  shows_young (Restarts a ∷ past) run lost at m item ack (inr shown) = shows_young past run.1 lost at m item ack shown
  shows_young (Replies a k reply from ∷ past) run lost at m item ack (inr shown) = shows_young past run.1 lost at m item ack shown
  shows_young (Replies a k reply from ∷ past) run lost at m item ack (inl shown) =
      let later : IsAcknowledged (before past a) n delete = subst (λ x. IsAcknowledged (before past x) n delete) (sym shown.0) ack in
      let g = guarded past run.1 lost at (acked_since past a n delete later) in
      let same : run.0.0.key ≡ delete.key = sym run.0.2 ∙ shown.1 in
      let r = g.read a run.0.0 run.0.1 same later shown.2 item shown.4 in
      r.2 (cover.covered n a delete run.0.0 (above words Bars opening past run.1 n a delete later) op same _ _ _ run.0.3 r.0.server (shown.2, (r.0, r.1, refl), inl shown.3))

module _ (words : ℕ → Ask → List Call → Answer → Option ℕ → Type 0) (Bars : ℕ → Ask → ℕ → Ask → Type 0) (opening : ℕ → List ℕ → Option Item) (cover : IsCoveredOrUntouched words opening) where
  -- a run is fresh, whose deletes clear what later commands take, and in which what copies has its key alone
  pub fresh : CopiesBar words Bars → (events : List Event) → LosesOnly events → Run words Bars opening events → IsFresh opening events
  fresh copies events lost run n m delete item ack shown =
      let op = acked_delete events n delete (acked_since events m n delete ack) in
      shows_young words Bars opening cover copies n delete op (before events n) (λ s. HasEnded (before events n) s → ⊥)
      (λ past run' at way x client there same other ended. over words Bars opening past x client run' (ended_since past n x (subst (λ l. HasEnded l x) (sym at) ended)) there)
      events run lost refl m item ack shown

  module _ (all : AreAlone Bars) where
    -- where each has its key alone, a reply before the end of a delete is of a smaller number
    reply_below : (past : List Event) (n m : ℕ) (delete : Ask) (item : Item) → Run words Bars opening past → under_way past n ≡ Some delete → IsShown opening past m delete.key item → m < n
    reply_below [] n m delete item run e shown = absurd shown
    reply_below (Begins x ask ∷ past) n m delete item run e (inl h) = absurd h
    reply_below (Begins x ask ∷ past) n m delete item run e (inr h) =
        (elim (nat_eq x n) as (λ b. nat_eq x n ≡ b → cond b (Some ask) (under_way past n) ≡ Some delete → m < n) [
          | true ↦ λ is _. subst (λ k. m < k) (eqb-true x n is) (shown_below opening x past m delete.key item run.0.0 h)
          | false ↦ λ _ is. reply_below past n m delete item run.1 is h
        ]) refl e
    reply_below (Replies x k reply from ∷ past) n m delete item run e (inl h) =
        (elim (nat_eq x n) as (λ b. nat_eq x n ≡ b → cond b None (under_way past n) ≡ Some delete → m < n) [
          | true ↦ λ _ is. no_ask delete is
          | false ↦ λ other is. absurd (apart words Bars opening past run.1 x n run.0.0 delete run.0.1 is (λ xn. differ x n other xn) (sym run.0.2 ∙ h.1) (all x n run.0.0 delete (sym run.0.2 ∙ h.1)))
        ]) refl e
    reply_below (Replies x k reply from ∷ past) n m delete item run e (inr h) =
        (elim (nat_eq x n) as (λ b. cond b None (under_way past n) ≡ Some delete → m < n) [
          | true ↦ λ is. no_ask delete is
          | false ↦ λ is. reply_below past n m delete item run.1 is h
        ]) e
    reply_below (Breaks x ∷ past) n m delete item run e (inl h) = absurd h
    reply_below (Breaks x ∷ past) n m delete item run e (inr h) =
        (elim (nat_eq x n) as (λ b. cond b None (under_way past n) ≡ Some delete → m < n) [
          | true ↦ λ is. no_ask delete is
          | false ↦ λ is. reply_below past n m delete item run.1 is h
        ]) e
    reply_below (Calls x s a o end ∷ past) n m delete item run e (inl h) = absurd h
    reply_below (Calls x s a o end ∷ past) n m delete item run e (inr h) = reply_below past n m delete item run.1 e h
    reply_below (Turns s k turned ∷ past) n m delete item run e (inl h) = absurd h
    reply_below (Turns s k turned ∷ past) n m delete item run e (inr h) = reply_below past n m delete item run.1 e h
    reply_below (Restarts s ∷ past) n m delete item run e (inl h) = absurd h
    reply_below (Restarts s ∷ past) n m delete item run e (inr h) = reply_below past n m delete item run.1 e h

    -- so a command with a greater number began after the delete was acknowledged
    pub shown_later : (events : List Event) → Run words Bars opening events → (n m : ℕ) (delete : Ask) (item : Item) → n < m → IsAcknowledged events n delete → IsShown opening events m delete.key item → IsAcknowledged (before events m) n delete
    shown_later [] run n m delete item lt ack shown = absurd ack
    shown_later (Begins x ask ∷ past) run n m delete item lt (inl ack) shown = absurd ack
    shown_later (Begins x ask ∷ past) run n m delete item lt (inr ack) (inl shown) = absurd shown
    shown_later (Begins x ask ∷ past) run n m delete item lt (inr ack) (inr shown) =
        subst (λ b. IsAcknowledged (cond b past (before past m)) n delete) (sym (differs x m (λ is. (let low = shown_below opening x past m delete.key item run.0.0 shown in omega (arith, low, is))))) (shown_later past run.1 n m delete item lt ack shown)
    shown_later (Calls a b c d e ∷ past) run n m delete item lt (inl ack) shown = absurd ack
    shown_later (Calls a b c d e ∷ past) run n m delete item lt (inr ack) (inl shown) = absurd shown
    shown_later (Calls a b c d e ∷ past) run n m delete item lt (inr ack) (inr shown) = shown_later past run.1 n m delete item lt ack shown
    shown_later (Breaks a ∷ past) run n m delete item lt (inl ack) shown = absurd ack
    shown_later (Breaks a ∷ past) run n m delete item lt (inr ack) (inl shown) = absurd shown
    shown_later (Breaks a ∷ past) run n m delete item lt (inr ack) (inr shown) = shown_later past run.1 n m delete item lt ack shown
    shown_later (Turns a b turned ∷ past) run n m delete item lt (inl ack) shown = absurd ack
    shown_later (Turns a b turned ∷ past) run n m delete item lt (inr ack) (inl shown) = absurd shown
    shown_later (Turns a b turned ∷ past) run n m delete item lt (inr ack) (inr shown) = shown_later past run.1 n m delete item lt ack shown
    shown_later (Restarts a ∷ past) run n m delete item lt (inl ack) shown = absurd ack
    shown_later (Restarts a ∷ past) run n m delete item lt (inr ack) (inl shown) = absurd shown
    shown_later (Restarts a ∷ past) run n m delete item lt (inr ack) (inr shown) = shown_later past run.1 n m delete item lt ack shown
    shown_later (Replies a k reply from ∷ past) run n m delete item lt (inl ack) (inl shown) = absurd (let e = ack.0 in let f = shown.0 in omega (arith, lt, e, f))
    shown_later (Replies a k reply from ∷ past) run n m delete item lt (inl ack) (inr shown) =
        absurd (let low : m < n = reply_below past n m delete item run.1 (subst (λ x. under_way past x ≡ Some delete) ack.0 ack.1) shown in omega (arith, lt, low))
    shown_later (Replies a k reply from ∷ past) run n m delete item lt (inr ack) (inl shown) =
        subst (λ x. IsAcknowledged (before past x) n delete) shown.0 (began_after words Bars opening past run.1 n a delete run.0.0 ack run.0.1 (sym run.0.2 ∙ shown.1) (all a n run.0.0 delete (sym run.0.2 ∙ shown.1)))
    shown_later (Replies a k reply from ∷ past) run n m delete item lt (inr ack) (inr shown) = shown_later past run.1 n m delete item lt ack shown

    -- and shows a stamp that is greater
    pub fresh_by_number : (events : List Event) → LosesOnly events → Run words Bars opening events → IsFreshByNumber opening events
    fresh_by_number events lost run n m delete item lt ack shown =
        shows_young words Bars opening cover (λ number ask calls reply from word j call i at o x other gone same. all number x ask other same) n delete (acked_delete events n delete ack) (before events n) (λ s. n < s)
        (λ past run' at way x client there same other.
        ⊎_elim
        (λ under. absurd (apart words Bars opening past run' x n client delete there under other same (all x n client delete same)))
        (λ acked. above words Bars opening past run' n x delete (began_after words Bars opening past run' n x delete client acked there same (all x n client delete same)))
        way)
        events run lost refl m item (shown_later events run n m delete item lt ack shown) shown

-- what copies bars deletes, where just that is barred
copying_is : (words : ℕ → Ask → List Call → Answer → Option ℕ → Type 0) → CopiesBar words (copying_bars words)
copying_is words number ask calls reply from word j call i at o n delete op same = (op, record { calls = calls; reply = reply; from = from; word = word; at = j; call = call; copied = i; made = at; copies = o })

pub runs_fresh_from : (words : ℕ → Ask → List Call → Answer → Option ℕ → Type 0) (opening : ℕ → List ℕ → Option Item) → IsCoveredOrUntouched words opening → RunsAreFreshFrom words opening
runs_fresh_from words opening cover events lost = (
  fresh words (copying_bars words) opening cover (copying_is words) events lost,
  fresh_by_number words everybody_bars opening cover (λ number other ask client same. tt) events lost,
)
