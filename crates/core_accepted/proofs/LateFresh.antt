-- Every run is fresh in which deletes clear what later commands take, or nothing was stored there before, in which what copies has its key alone, and in which what had failed is applied in time or never.
use Rattle.std.proofs.Common.{◌≡◌, ℕ, ◌<◌, true, false, cond, List, [], ◌∷◌, ◌++◌, length, Option, Some, None, ◌⊎◌, inl, inr, ⊎_elim, refl, sym, ap, ◌∙◌, subst, arith, bytes_eq, nat_eq, slice_get}
use Rattle.std.proofs.lemmas.Slice.Eq.{bytes_eq-Decides}
use Rattle.std.proofs.lemmas.Bool.{eqb-true}
use Rattle.mc_types.specs.declared.ask.Op.TheVariants.{Delete}
use Rattle.mc_types.specs.declared.ask.Ask.{Ask}
use Rattle.mc_types.specs.declared.answer.Answer.{Answer}
use Rattle.mc_types.specs.declared.call.Origin.{Origin}
use Rattle.mc_types.specs.declared.call.Origin.TheVariants.{Client, CopyOf}
use Rattle.mc_types.specs.declared.call.Outcome.TheVariants.{Answered, Failed}
use Rattle.mc_types.specs.Items.{Item, after_call}
use Rattle.fresh_runs.specs.Life.{held_in}
use Rattle.fresh_runs.specs.Calls.{Call, End, Read, Unread, Never, outcome_of}
use Rattle.fresh_runs.specs.Cover.{ClearsIn, IsCleared, IsCovered}
use Rattle.fresh_runs.specs.Untouched.{IsPutting, KeyIsUntouched, IsCoveredOrUntouched}
use Rattle.fresh_runs.specs.Run.{Event, Begins, Calls, Replies, Breaks, Turns, Restarts, under_way, calls_so_far, before, HasEnded, IsNewNumber, IsFront, CopiesBar, AreAlone, AcknowledgedBy, IsAcknowledged, IsShown, IsFreshByNumber, life_of, held, item_at, GivesStamp}
use Rattle.fresh_runs.specs.Run as sharing
use Rattle.fresh_runs.proofs.Stamps.{by_test, clear_marks, get_left, get_seam, clears_split}
use Rattle.fresh_runs.proofs.Seen.{Has, Gives, has_from_gone, has_marks, delete_marks}
use Rattle.fresh_runs.proofs.Runs.{some_ask, no_ask, differs, differ, second, acked_below, ended_below, new_calls, ended_since, acked_since, acked_over, acked_delete, over, above, shown_below, new_item_at}
use Rattle.fresh_runs.proofs.Nothing.{nothing_comes, nothing_marks}
use Rattle.fresh_runs.proofs.NoLess.{no_less}
use Rattle.fresh_runs.proofs.UntouchedFresh.{shown_later}
use Rattle.core_accepted.specs.Late.{Moment, Does, Lands, told, begun_late, HasFailed, MayComeLate, LateRun, IsFreshBy, WasOver, begins_stamp, LandsInTime}
use Rattle.core_accepted.specs.LateLaws.{IsPart}
use Rattle.core_accepted.proofs.Late.{way_begun, begun_below, new_before, not_apart, began_after, acked_begun, made, as_run}
use Rattle.core_accepted.proofs.Landed.{landed, no_store, puts_store}

no_item : (item : Item) → ◌≡◌ {A = Option Item} None (Some item) → ⊥
no_item item e = cc

-- `Q` are the stamps of what may be seen once the delete, which began then, is acknowledged: `kept` says of which commands
module _ (words : ℕ → Ask → List Call → Answer → Option ℕ → Type 0) (Bars : ℕ → Ask → ℕ → Ask → Type 0) (Over : List Event → ℕ → ℕ → Type 0) (opening : ℕ → List ℕ → Option Item) (cover : IsCoveredOrUntouched words opening) (copies : CopiesBar words Bars) (part : IsPart Over) (n : ℕ) (delete : Ask) (op : delete.op ≡ Delete) (began : List Event) (Q : ℕ → Type 0) (kept : (past : List Moment) → LateRun words Bars opening (LandsInTime Over) past → before (told opening past) n ≡ began → under_way (told opening past) n ≡ Some delete ⊎ IsAcknowledged (told opening past) n delete → (m : ℕ) (client : Ask) → begun_late (told opening past) m ≡ Some client → client.key ≡ delete.key → (m ≡ n → ⊥) → (Over began n m → ⊥) → Q m) where
  abbrev Fine : List Moment → Type 0
  Fine past = LateRun words Bars opening (LandsInTime Over) past

  abbrev T : List Moment → List Event
  T = told opening

  runs : (past : List Moment) → Fine past → sharing.Run words Bars opening (T past)
  runs = as_run words Bars opening (LandsInTime Over)

  abbrev Phase : List Moment → Type 0
  Phase past = under_way (T past) n ≡ Some delete ⊎ IsAcknowledged (T past) n delete

  has_begun : (past : List Moment) → Fine past → Phase past → begun_late (T past) n ≡ Some delete
  has_begun past run phase = ⊎_elim (λ way. way_begun (T past) n delete way) (λ ack. acked_begun words Bars opening (T past) (runs past run) n delete ack) phase

  -- a command under way stores what may be seen
  young : (past : List Moment) → Fine past → before (T past) n ≡ began → Phase past → (m : ℕ) (client : Ask) → under_way (T past) m ≡ Some client → client.key ≡ delete.key → (m ≡ n → ⊥) → Q m
  young past run at phase m client there same other =
      kept past run at phase m client (way_begun (T past) m client there) same other
      (λ ended. over words Bars opening (T past) m client (runs past run) (ended_since (T past) n m (subst (λ l. HasEnded l m) (sym at) (part began n m ended))) there)

  -- a call of the command whose calls these are, and which was no copy before them, bars the delete
  copy_bars : (number : ℕ) (client : Ask) (calls : List Call) (j : ℕ) (call : Call) (i : ℕ) → client.key ≡ delete.key → IsFront words number client calls → slice_get calls j ≡ Some call → call.origin ≡ CopyOf i → Bars number client n delete
  copy_bars number client calls j call i same front got o =
      copies number client _ front.1 front.2 front.3 j call i (get_left calls front.0 j call got) o n delete op same

  -- a server that the delete clears, or that was untouched
  abbrev Guards : ℕ → Type 0
  Guards s = IsCleared words n delete s ⊎ KeyIsUntouched words opening n delete.key s

  -- since the delete was acknowledged: what it clears was answered so; what it clears, or was untouched, holds nothing of the key, or what may be seen; and so has each command that began later found it
  record Guarded (past : List Moment) : Type 0 where
    cleared : (s : ℕ) → IsCleared words n delete s → ClearsIn (calls_so_far (T past) n) s
    holds : (s : ℕ) → Guards s → Has Q (held opening (T past) s delete.key)
    read : (m : ℕ) (client : Ask) → begun_late (T past) m ≡ Some client → client.key ≡ delete.key → IsAcknowledged (before (T past) m) n delete → (i : ℕ) (item : Item) → item_at opening (T past) m i ≡ Some item → (call : Call) × (slice_get (calls_so_far (T past) m) i ≡ Some call) × (Guards call.server → Q item.stamp)

  -- while the delete is under way there are no copies but of commands that were over
  copy_early : (past : List Moment) → Fine past → under_way (T past) n ≡ Some delete → (number : ℕ) (client : Ask) (calls : List Call) (j : ℕ) (call : Call) (i : ℕ) → begun_late (T past) number ≡ Some client → (number ≡ n → ⊥) → client.key ≡ delete.key → IsFront words number client calls → slice_get calls j ≡ Some call → call.origin ≡ CopyOf i → (HasEnded (before (T past) n) number → ⊥) → ⊥
  copy_early past run way number client calls j call i begins other same front got o alive =
      not_apart words Bars opening (T past) (runs past run) number n client delete begins way other same (copy_bars number client calls j call i same front got o) alive

  -- since it was acknowledged a copy of a command that wasn't over is of what may be seen
  copy_late : (past : List Moment) → Fine past → IsAcknowledged (T past) n delete → Guarded past → (number : ℕ) (client : Ask) (calls : List Call) (j : ℕ) (call : Call) (i : ℕ) (stamp : ℕ) → begun_late (T past) number ≡ Some client → (number ≡ n → ⊥) → client.key ≡ delete.key → IsFront words number client calls → slice_get calls j ≡ Some call → call.origin ≡ CopyOf i → ((r : ℕ) (found : Call) → slice_get (calls_so_far (T past) number) r ≡ Some found → slice_get calls r ≡ Some found) → (HasEnded (before (T past) n) number → ⊥) → GivesStamp opening (T past) number (CopyOf i) stamp → Q stamp
  copy_late past run ack g number client calls j call i stamp begins other same front got o first alive gives =
      let later = began_after words Bars opening (T past) (runs past run) n number delete client ack begins other same (copy_bars number client calls j call i same front got o) alive in
      let r = g.read number client begins same later i gives.0 gives.1 in
      let source = get_left calls front.0 i r.0 (first i r.0 r.1) in
      let copy = get_left calls front.0 j call got in
      let clears = cover.covered n number delete client (above words Bars opening (T past) (runs past run) n number delete later) op same _ _ _ front.3 r.0.server (i, (r.0, source, refl), inr (j, call, copy, o)) in
      subst Q (sym gives.2) (r.2 clears)

  -- what lands is no call of a delete that stores
  other_lands : (past : List Moment) → Fine past → Phase past → (number server : ℕ) (ask : Ask) (origin : Origin) → HasFailed (T past) number server ask origin → begins_stamp ask.op ≡ true → number ≡ n → ⊥
  other_lands past run phase number server ask origin failed store is =
      let call : Call = record { server = server; ask = ask; origin = origin; outcome = Failed } in
      let got : slice_get (calls_so_far (T past) n) failed.0 ≡ Some call = subst (λ k. slice_get (calls_so_far (T past) k) failed.0 ≡ Some call) is failed.1 in
      let m = made words Bars opening (T past) (runs past run) n failed.0 call got in
      let begins : begun_late (T past) n ≡ Some delete = has_begun past run phase in
      let asked : m.0 ≡ delete = some_ask m.0 delete (sym m.1 ∙ begins) in
      let front : IsFront words n delete (calls_so_far (T past) n) = subst (λ a. IsFront words n a (calls_so_far (T past) n)) asked m.2 in
      no_store ask.op (cover.deletes n delete op _ _ _ front.3 failed.0 call (get_left (calls_so_far (T past) n) front.0 failed.0 call got)) store

  -- a store of the command doesn't count as made before the delete; for a copy, the command wasn't over
  abbrev IsLater : List Moment → ℕ → Origin → Type 0
  IsLater past number Client = Over began n number → ⊥
  IsLater past number (CopyOf i) = HasEnded (before (T past) n) number → ⊥

  -- so it is with what lands in time at a server which the delete has cleared
  in_time : (past : List Moment) → before (T past) n ≡ began → begun_late (T past) n ≡ Some delete → (number server : ℕ) (ask : Ask) (origin : Origin) → LandsInTime Over (T past) number server ask origin → ask.key ≡ delete.key → ClearsIn (calls_so_far (T past) n) server → begins_stamp ask.op ≡ true → IsLater past number origin
  in_time past at begins number server ask Client timely same clears store = λ ended. timely store n delete begins op (sym same) (subst (λ l. Over l n number) (sym at) ended) clears
  in_time past at begins number server ask (CopyOf i) timely same clears store = λ ended. timely store n delete begins op (sym same) ended clears

  -- what a command of a smaller number may leave, whenever it lands, is no item on an untouched server
  unput : (past : List Moment) → Fine past → (number server : ℕ) (ask : Ask) (origin : Origin) → HasFailed (T past) number server ask origin → (s : ℕ) → KeyIsUntouched words opening n delete.key s → server ≡ s → ask.key ≡ delete.key → number < n → IsPutting ask.op → ⊥
  unput past run number server ask origin failed s u here same lt puts =
      let call : Call = record { server = server; ask = ask; origin = origin; outcome = Failed } in
      let m = made words Bars opening (T past) (runs past run) number failed.0 call failed.1 in
      u.unput number m.0 lt (sym m.3 ∙ same) _ _ _ m.2.3 (failed.0, call, get_left (calls_so_far (T past) number) m.2.0 failed.0 call failed.1, here, puts)

  smaller : (past : List Moment) → Fine past → begun_late (T past) n ≡ Some delete → (number : ℕ) → HasEnded (before (T past) n) number → number < n
  smaller past run begins number ended = ended_below n (before (T past) n) number (new_before words Bars opening (T past) (runs past run) n delete begins) ended

  -- so it is with what lands at an untouched server
  on_untouched : (past : List Moment) → Fine past → before (T past) n ≡ began → begun_late (T past) n ≡ Some delete → (number server : ℕ) (ask : Ask) (origin : Origin) → HasFailed (T past) number server ask origin → (s : ℕ) → KeyIsUntouched words opening n delete.key s → server ≡ s → ask.key ≡ delete.key → begins_stamp ask.op ≡ true → IsLater past number origin
  on_untouched past run at begins number server ask Client failed s u here same store =
      λ ended. unput past run number server ask Client failed s u here same (smaller past run begins number (subst (λ l. HasEnded l number) (sym at) (part began n number ended))) (puts_store ask.op store)
  on_untouched past run at begins number server ask (CopyOf i) failed s u here same store =
      λ ended. unput past run number server ask (CopyOf i) failed s u here same (smaller past run begins number ended) (puts_store ask.op store)

  -- the stamp of such a store
  lands_early : (past : List Moment) → Fine past → before (T past) n ≡ began → under_way (T past) n ≡ Some delete → (number server : ℕ) (ask : Ask) (origin : Origin) (stamp : ℕ) → HasFailed (T past) number server ask origin → GivesStamp opening (T past) number origin stamp → ask.key ≡ delete.key → begins_stamp ask.op ≡ true → IsLater past number origin → Q stamp
  lands_early past run at way number server ask Client stamp failed gives same store later =
      let call : Call = record { server = server; ask = ask; origin = Client; outcome = Failed } in
      let m = made words Bars opening (T past) (runs past run) number failed.0 call failed.1 in
      subst Q (sym gives) (kept past run at (inl way) number m.0 m.1 (sym m.3 ∙ same) (other_lands past run (inl way) number server ask Client failed store) later)
  lands_early past run at way number server ask (CopyOf i) stamp failed gives same store later =
      let call : Call = record { server = server; ask = ask; origin = CopyOf i; outcome = Failed } in
      let m = made words Bars opening (T past) (runs past run) number failed.0 call failed.1 in
      absurd (copy_early past run way number m.0 (calls_so_far (T past) number) failed.0 call i m.1
      (other_lands past run (inl way) number server ask (CopyOf i) failed store) (sym m.3 ∙ same) m.2 failed.1 refl later)

  lands_late : (past : List Moment) → Fine past → before (T past) n ≡ began → IsAcknowledged (T past) n delete → Guarded past → (number server : ℕ) (ask : Ask) (origin : Origin) (stamp : ℕ) → HasFailed (T past) number server ask origin → GivesStamp opening (T past) number origin stamp → ask.key ≡ delete.key → begins_stamp ask.op ≡ true → IsLater past number origin → Q stamp
  lands_late past run at ack g number server ask Client stamp failed gives same store later =
      let call : Call = record { server = server; ask = ask; origin = Client; outcome = Failed } in
      let m = made words Bars opening (T past) (runs past run) number failed.0 call failed.1 in
      subst Q (sym gives) (kept past run at (inr ack) number m.0 m.1 (sym m.3 ∙ same) (other_lands past run (inr ack) number server ask Client failed store) later)
  lands_late past run at ack g number server ask (CopyOf i) stamp failed gives same store later =
      let call : Call = record { server = server; ask = ask; origin = CopyOf i; outcome = Failed } in
      let m = made words Bars opening (T past) (runs past run) number failed.0 call failed.1 in
      copy_late past run ack g number m.0 (calls_so_far (T past) number) failed.0 call i stamp m.1
      (other_lands past run (inr ack) number server ask (CopyOf i) failed store) (sym m.3 ∙ same) m.2 failed.1 refl (λ r found e. e) later gives

  -- while the delete is under way another command's call stores what may be seen
  stamp_early : (past : List Moment) → Fine past → before (T past) n ≡ began → under_way (T past) n ≡ Some delete → (number : ℕ) (client : Ask) (call : Call) (origin : Origin) (stamp : ℕ) → (number ≡ n → ⊥) → client.key ≡ delete.key → call.origin ≡ origin → under_way (T past) number ≡ Some client → IsFront words number client (calls_so_far (T past) number ++ call ∷ []) → GivesStamp opening (T past) number origin stamp → Q stamp
  stamp_early past run at way number client call Client stamp other same o there front gives = subst Q (sym gives) (young past run at (inl way) number client there same other)
  stamp_early past run at way number client call (CopyOf i) stamp other same o there front gives =
      let calls = calls_so_far (T past) number in
      absurd (copy_early past run way number client (calls ++ call ∷ []) (length calls) call i (way_begun (T past) number client there) other same front (get_seam calls call []) o
      (λ ended. over words Bars opening (T past) number client (runs past run) (ended_since (T past) n number ended) there))

  early : (past : List Moment) (number server : ℕ) (ask : Ask) (origin : Origin) (end : End) → Fine past → before (T past) n ≡ began → under_way (T past) n ≡ Some delete → (number ≡ n → ⊥) → MayComeLate words Bars opening (LandsInTime Over) past (Does (Calls number server ask origin end)) → ask.key ≡ delete.key → Gives Q end
  early past number server ask origin (Read stamp answer spaces) run at way other may same =
      stamp_early past run at way number may.0 (record { server = server; ask = ask; origin = origin; outcome = Answered answer }) origin stamp other (sym may.2 ∙ same) refl may.1 may.3 may.4.1
  early past number server ask origin (Unread stamp answer spaces) run at way other may same =
      stamp_early past run at way number may.0 (record { server = server; ask = ask; origin = origin; outcome = Failed }) origin stamp other (sym may.2 ∙ same) refl may.1 may.3 may.4.1
  early past number server ask origin Never run at way other may same = tt

  -- what lands leaves nothing of the key, or what may be seen, if it stores that
  lands_holds : (past : List Moment) (server s : ℕ) (ask : Ask) (stamp : ℕ) (answer : Answer) (spaces : ℕ) → Has Q (held opening (T past) s delete.key) → (server ≡ s → ask.key ≡ delete.key → begins_stamp ask.op ≡ true → Q stamp)
      → Has Q (held opening (Turns server ask.key (after_call ask stamp answer spaces (held opening (T past) server ask.key)) ∷ T past) s delete.key)
  lands_holds past server s ask stamp answer spaces rest stores =
      let key = delete.key in
      by_test (λ l. Has Q (held_in (opening s key) l key)) (nat_eq server s) _ _
      (λ here. by_test (Has Q) (bytes_eq ask.key key) _ _
      (λ same.
      let on = eqb-true server s here in let mine = (bytes_eq-Decides ask.key key).0 same in
      landed Q ask stamp answer spaces _ (stores on mine) (subst (λ t. Has Q (held opening (T past) t ask.key)) (sym on) (subst (λ k. Has Q (held opening (T past) s k)) (sym mine) rest)))
      (λ _. rest))
      (λ _. rest)

  -- while the delete is under way: a server that it has cleared holds nothing of the key, or what may be seen
  clear_so_far : (past : List Moment) → Fine past → before (T past) n ≡ began → under_way (T past) n ≡ Some delete → (s : ℕ) → ClearsIn (calls_so_far (T past) n) s → Has Q (held opening (T past) s delete.key)
  clear_so_far [] run at e s h = absurd h
  clear_so_far (Does (Begins number ask) ∷ past) run at e s h =
      (elim (nat_eq number n) as (λ b. nat_eq number n ≡ b → cond b (T past) (before (T past) n) ≡ began → cond b (Some ask) (under_way (T past) n) ≡ Some delete → Has Q (held opening (T past) s delete.key)) [
        | true ↦ λ is _ _. absurd (subst (λ calls. ClearsIn calls s) (new_calls n (T past) (subst (λ k. IsNewNumber k (T past)) (eqb-true number n is) run.0.0)) h)
        | false ↦ λ _ a is. clear_so_far past run.1 a is s h
      ]) refl at e
  clear_so_far (Does (Replies number k reply from) ∷ past) run at e s h =
      (elim (nat_eq number n) as (λ b. cond b None (under_way (T past) n) ≡ Some delete → Has Q (held opening (T past) s delete.key)) [
        | true ↦ λ is. no_ask delete is
        | false ↦ λ is. clear_so_far past run.1 at is s h
      ]) e
  clear_so_far (Does (Breaks number) ∷ past) run at e s h =
      (elim (nat_eq number n) as (λ b. cond b None (under_way (T past) n) ≡ Some delete → Has Q (held opening (T past) s delete.key)) [
        | true ↦ λ is. no_ask delete is
        | false ↦ λ is. clear_so_far past run.1 at is s h
      ]) e
  clear_so_far (Does (Calls number server ask origin end) ∷ past) run at e s h =
      let key = delete.key in
      let calls = calls_so_far (T past) n in
      let call : Call = record { server = server; ask = ask; origin = origin; outcome = outcome_of end } in
      (elim (nat_eq number n) as (λ b. nat_eq number n ≡ b → ClearsIn (cond b (calls ++ call ∷ []) calls) s → Has Q (held opening (T (Does (Calls number server ask origin end) ∷ past)) s key)) [
        | true ↦ λ is c.
            let mine : number ≡ n = eqb-true number n is in
            let asked : run.0.0 ≡ delete = some_ask run.0.0 delete (sym run.0.1 ∙ ap (under_way (T past)) mine ∙ e) in
            let same : bytes_eq ask.key key ≡ true = (bytes_eq-Decides ask.key key).1 (run.0.2 ∙ ap (λ (a : Ask). a.key) asked) in
            let front : IsFront words n delete (calls ++ call ∷ []) = subst (λ a. IsFront words n a (calls ++ call ∷ [])) asked (subst (λ k. IsFront words k run.0.0 (calls_so_far (T past) k ++ call ∷ [])) mine run.0.3) in
            let asks : ask.op ≡ Delete = cover.deletes n delete op _ _ _ front.3 (length calls) call (get_left (calls ++ call ∷ []) front.0 (length calls) call (get_seam calls call [])) in
            ⊎_elim
            (λ earlier.
            let rest = clear_so_far past run.1 at e s earlier in
            by_test (λ l. Has Q (held_in (opening s key) l key)) (nat_eq server s) _ _ (λ _. delete_marks Q (opening s key) ask end (life_of (T past) s) key asks rest) (λ _. rest))
            (⊎_elim
            (λ now.
            let answered = now.1 in
            by_test (λ l. Has Q (held_in (opening s key) l key)) (nat_eq server s) _ _ (λ _. has_from_gone Q _ (clear_marks (opening s key) ask end (life_of (T past) s) key answered.0 asks same answered.1 answered.2)) (λ other. differ server s other now.0))
            (λ none. absurd none))
            (clears_split calls call s c)
        | false ↦ λ other c.
            let rest = clear_so_far past run.1 at e s c in
            by_test (λ l. Has Q (held_in (opening s key) l key)) (nat_eq server s) _ _
            (λ _. has_marks Q (opening s key) ask end (life_of (T past) s) key (λ same. early past number server ask origin end run.1 at e (λ is. differ number n other is) run.0 ((bytes_eq-Decides ask.key key).0 same)) rest)
            (λ _. rest)
      ]) refl h
  clear_so_far (Does (Turns server k turned) ∷ past) run at e s h =
      let rest = clear_so_far past run.1 at e s h in
      by_test (λ l. Has Q (held_in (opening s delete.key) l delete.key)) (nat_eq server s) _ _ (λ _. by_test (Has Q) (bytes_eq k delete.key) turned _ (λ _. subst (Has Q) (sym run.0) tt) (λ _. rest)) (λ _. rest)
  clear_so_far (Does (Restarts server) ∷ past) run at e s h =
      let rest = clear_so_far past run.1 at e s h in
      by_test (λ l. Has Q (held_in (opening s delete.key) l delete.key)) (nat_eq server s) _ _ (λ _. tt) (λ _. rest)
  clear_so_far (Lands number server ask origin stamp answer spaces ∷ past) run at e s h =
      let rest = clear_so_far past run.1 at e s h in
      lands_holds past server s ask stamp answer spaces rest
      (λ here same store. lands_early past run.1 at e number server ask origin stamp run.0.0 run.0.3 same store (in_time past at (way_begun (T past) n delete e) number server ask origin run.0.1 same (subst (λ x. ClearsIn (calls_so_far (T past) n) x) (sym here) h) store))

  -- before the delete begins, an untouched server holds nothing of the key
  empty_before : (past : List Moment) → Fine past → IsNewNumber n (T past) → (s : ℕ) → KeyIsUntouched words opening n delete.key s → held opening (T past) s delete.key ≡ None
  empty_before [] run new s u = u.empty
  empty_before (Does (Begins number ask) ∷ past) run new s u = empty_before past run.1 new.1 s u
  empty_before (Does (Replies number k reply from) ∷ past) run new s u = empty_before past run.1 new.1 s u
  empty_before (Does (Breaks number) ∷ past) run new s u = empty_before past run.1 new.1 s u
  empty_before (Does (Calls number server ask origin end) ∷ past) run new s u =
      let rest = empty_before past run.1 new.1 s u in
      let calls = calls_so_far (T past) number in
      let call : Call = record { server = server; ask = ask; origin = origin; outcome = outcome_of end } in
      by_test (λ l. held_in (opening s delete.key) l delete.key ≡ None) (nat_eq server s) _ _
      (λ here. nothing_marks (opening s delete.key) ask end (life_of (T past) s) delete.key
      (λ same puts.
      u.unput number run.0.0 new.0 (sym run.0.2 ∙ (bytes_eq-Decides ask.key delete.key).0 same) _ _ _ run.0.3.3
      (length calls, call, get_left (calls ++ call ∷ []) run.0.3.0 (length calls) call (get_seam calls call []), eqb-true server s here, puts))
      rest)
      (λ _. rest)
  empty_before (Does (Turns server k turned) ∷ past) run new s u =
      let rest = empty_before past run.1 new s u in
      by_test (λ l. held_in (opening s delete.key) l delete.key ≡ None) (nat_eq server s) _ _ (λ _. by_test (λ o. o ≡ None) (bytes_eq k delete.key) turned _ (λ _. run.0) (λ _. rest)) (λ _. rest)
  empty_before (Does (Restarts server) ∷ past) run new s u =
      let rest = empty_before past run.1 new s u in
      by_test (λ l. held_in (opening s delete.key) l delete.key ≡ None) (nat_eq server s) _ _ (λ _. refl) (λ _. rest)
  empty_before (Lands number server ask origin stamp answer spaces ∷ past) run new s u =
      let rest = empty_before past run.1 new s u in
      let call : Call = record { server = server; ask = ask; origin = origin; outcome = Failed } in
      let m = made words Bars opening (T past) (runs past run.1) number run.0.0.0 call run.0.0.1 in
      let lt : number < n = begun_below n (T past) number m.0 new m.1 in
      by_test (λ l. held_in (opening s delete.key) l delete.key ≡ None) (nat_eq server s) _ _
      (λ here. by_test (λ o. o ≡ None) (bytes_eq ask.key delete.key) _ _
      (λ same.
      let on = eqb-true server s here in let mine = (bytes_eq-Decides ask.key delete.key).0 same in
      let none : held opening (T past) server ask.key ≡ None = subst (λ t. held opening (T past) t ask.key ≡ None) (sym on) (subst (λ k. held opening (T past) s k ≡ None) (sym mine) rest) in
      ap (after_call ask stamp answer spaces) none ∙ nothing_comes ask stamp answer spaces (unput past run.1 number server ask origin run.0.0 s u on mine lt))
      (λ _. rest))
      (λ _. rest)

  -- while it is under way, nothing or what may be seen
  untouched_so_far : (past : List Moment) → Fine past → before (T past) n ≡ began → under_way (T past) n ≡ Some delete → (s : ℕ) → KeyIsUntouched words opening n delete.key s → Has Q (held opening (T past) s delete.key)
  untouched_so_far [] run at e s u = no_ask delete e
  untouched_so_far (Does (Begins number ask) ∷ past) run at e s u =
      (elim (nat_eq number n) as (λ b. nat_eq number n ≡ b → cond b (T past) (before (T past) n) ≡ began → cond b (Some ask) (under_way (T past) n) ≡ Some delete → Has Q (held opening (T past) s delete.key)) [
        | true ↦ λ is _ _. subst (Has Q) (sym (empty_before past run.1 (subst (λ k. IsNewNumber k (T past)) (eqb-true number n is) run.0.0) s u)) tt
        | false ↦ λ _ a is. untouched_so_far past run.1 a is s u
      ]) refl at e
  untouched_so_far (Does (Replies number k reply from) ∷ past) run at e s u =
      (elim (nat_eq number n) as (λ b. cond b None (under_way (T past) n) ≡ Some delete → Has Q (held opening (T past) s delete.key)) [
        | true ↦ λ is. no_ask delete is
        | false ↦ λ is. untouched_so_far past run.1 at is s u
      ]) e
  untouched_so_far (Does (Breaks number) ∷ past) run at e s u =
      (elim (nat_eq number n) as (λ b. cond b None (under_way (T past) n) ≡ Some delete → Has Q (held opening (T past) s delete.key)) [
        | true ↦ λ is. no_ask delete is
        | false ↦ λ is. untouched_so_far past run.1 at is s u
      ]) e
  untouched_so_far (Does (Calls number server ask origin end) ∷ past) run at e s u =
      let key = delete.key in
      let rest = untouched_so_far past run.1 at e s u in
      let calls = calls_so_far (T past) n in
      let call : Call = record { server = server; ask = ask; origin = origin; outcome = outcome_of end } in
      (elim (nat_eq number n) as (λ b. nat_eq number n ≡ b → Has Q (held opening (T (Does (Calls number server ask origin end) ∷ past)) s key)) [
        | true ↦ λ is.
            let mine : number ≡ n = eqb-true number n is in
            let asked : run.0.0 ≡ delete = some_ask run.0.0 delete (sym run.0.1 ∙ ap (under_way (T past)) mine ∙ e) in
            let front : IsFront words n delete (calls ++ call ∷ []) = subst (λ a. IsFront words n a (calls ++ call ∷ [])) asked (subst (λ k. IsFront words k run.0.0 (calls_so_far (T past) k ++ call ∷ [])) mine run.0.3) in
            let asks : ask.op ≡ Delete = cover.deletes n delete op _ _ _ front.3 (length calls) call (get_left (calls ++ call ∷ []) front.0 (length calls) call (get_seam calls call [])) in
            by_test (λ l. Has Q (held_in (opening s key) l key)) (nat_eq server s) _ _ (λ _. delete_marks Q (opening s key) ask end (life_of (T past) s) key asks rest) (λ _. rest)
        | false ↦ λ other.
            by_test (λ l. Has Q (held_in (opening s key) l key)) (nat_eq server s) _ _
            (λ _. has_marks Q (opening s key) ask end (life_of (T past) s) key (λ same. early past number server ask origin end run.1 at e (λ is. differ number n other is) run.0 ((bytes_eq-Decides ask.key key).0 same)) rest)
            (λ _. rest)
      ]) refl
  untouched_so_far (Does (Turns server k turned) ∷ past) run at e s u =
      let rest = untouched_so_far past run.1 at e s u in
      by_test (λ l. Has Q (held_in (opening s delete.key) l delete.key)) (nat_eq server s) _ _ (λ _. by_test (Has Q) (bytes_eq k delete.key) turned _ (λ _. subst (Has Q) (sym run.0) tt) (λ _. rest)) (λ _. rest)
  untouched_so_far (Does (Restarts server) ∷ past) run at e s u =
      let rest = untouched_so_far past run.1 at e s u in
      by_test (λ l. Has Q (held_in (opening s delete.key) l delete.key)) (nat_eq server s) _ _ (λ _. tt) (λ _. rest)
  untouched_so_far (Lands number server ask origin stamp answer spaces ∷ past) run at e s u =
      let rest = untouched_so_far past run.1 at e s u in
      lands_holds past server s ask stamp answer spaces rest
      (λ here same store. lands_early past run.1 at e number server ask origin stamp run.0.0 run.0.3 same store (on_untouched past run.1 at (way_begun (T past) n delete e) number server ask origin run.0.0 s u here same store))

  -- the moment of the reply
  guard_begins : (past : List Moment) (m : ℕ) (k : List ℕ) (reply : Answer) (from : Option ℕ) → Fine (Does (Replies m k reply from) ∷ past) → before (T past) n ≡ began → AcknowledgedBy (T past) (Replies m k reply from) n delete → Guarded (Does (Replies m k reply from) ∷ past)
  guard_begins past m k reply from run at ack =
      let mine : m ≡ n = ack.0 in
      let there : under_way (T past) n ≡ Some delete = subst (λ x. under_way (T past) x ≡ Some delete) mine ack.1 in
      let asked : run.0.0 ≡ delete = some_ask run.0.0 delete (sym run.0.1 ∙ ack.1) in
      let word : words n delete (calls_so_far (T past) n) reply from = subst (λ a. words n a (calls_so_far (T past) n) reply from) asked (subst (λ x. words x run.0.0 (calls_so_far (T past) x) reply from) mine run.0.3) in
      record {
        cleared = λ s clears. clears (calls_so_far (T past) n) reply from word ack.2;
        holds = λ s guards. ⊎_elim (λ clears. clear_so_far past run.1 at there s (clears (calls_so_far (T past) n) reply from word ack.2)) (λ u. untouched_so_far past run.1 at there s u) guards;
        read = λ x client begins same later i item is. absurd (over words Bars opening (T past) n delete (runs past run.1) (acked_over (T past) n delete (acked_since (T past) x n delete later)) there);
      }

  -- a later command's call stores what may be seen
  stamp_late : (past : List Moment) → Fine past → before (T past) n ≡ began → IsAcknowledged (T past) n delete → Guarded past → (number : ℕ) (client : Ask) (call : Call) (origin : Origin) (stamp : ℕ) → (number ≡ n → ⊥) → client.key ≡ delete.key → call.origin ≡ origin → under_way (T past) number ≡ Some client → IsFront words number client (calls_so_far (T past) number ++ call ∷ []) → GivesStamp opening (T past) number origin stamp → Q stamp
  stamp_late past run at ack g number client call Client stamp other same o there front gives = subst Q (sym gives) (young past run at (inr ack) number client there same other)
  stamp_late past run at ack g number client call (CopyOf i) stamp other same o there front gives =
      let calls = calls_so_far (T past) number in
      copy_late past run ack g number client (calls ++ call ∷ []) (length calls) call i stamp (way_begun (T past) number client there) other same front (get_seam calls call []) o
      (λ r found e. get_left calls (call ∷ []) r found e)
      (λ ended. over words Bars opening (T past) number client (runs past run) (ended_since (T past) n number ended) there) gives

  late : (past : List Moment) (number server : ℕ) (ask : Ask) (origin : Origin) (end : End) → Fine past → before (T past) n ≡ began → IsAcknowledged (T past) n delete → Guarded past → MayComeLate words Bars opening (LandsInTime Over) past (Does (Calls number server ask origin end)) → ask.key ≡ delete.key → Gives Q end
  late past number server ask origin (Read stamp answer spaces) run at ack g may same =
      stamp_late past run at ack g number may.0 (record { server = server; ask = ask; origin = origin; outcome = Answered answer }) origin stamp (λ is. over words Bars opening (T past) n may.0 (runs past run) (acked_over (T past) n delete ack) (ap (under_way (T past)) (sym is) ∙ may.1)) (sym may.2 ∙ same) refl may.1 may.3 may.4.1
  late past number server ask origin (Unread stamp answer spaces) run at ack g may same =
      stamp_late past run at ack g number may.0 (record { server = server; ask = ask; origin = origin; outcome = Failed }) origin stamp (λ is. over words Bars opening (T past) n may.0 (runs past run) (acked_over (T past) n delete ack) (ap (under_way (T past)) (sym is) ∙ may.1)) (sym may.2 ∙ same) refl may.1 may.3 may.4.1
  late past number server ask origin Never run at ack g may same = tt

  guard_keeps : (past : List Moment) (moment : Moment) → Fine (moment ∷ past) → before (T past) n ≡ began → IsAcknowledged (T past) n delete → Guarded past → Guarded (moment ∷ past)
  guard_keeps past (Does (Begins number ask)) run at ack g =
      record {
        cleared = g.cleared;
        holds = g.holds;
        read = λ m client begins same later i item is.
            (elim (nat_eq number m) as (λ b. nat_eq number m ≡ b → cond b (Some ask) (begun_late (T past) m) ≡ Some client → IsAcknowledged (cond b (T past) (before (T past) m)) n delete → (call : Call) × (slice_get (calls_so_far (T past) m) i ≡ Some call) × (Guards call.server → Q item.stamp)) [
              | true ↦ λ here _ _. absurd (no_item item (sym (new_item_at opening m (T past) i (subst (λ k. IsNewNumber k (T past)) (eqb-true number m here) run.0.0)) ∙ is))
              | false ↦ λ _ e l. g.read m client e same l i item is
            ]) refl begins later;
      }
  guard_keeps past (Does (Replies number k reply from)) run at ack g = record { cleared = g.cleared; holds = g.holds; read = g.read }
  guard_keeps past (Does (Breaks number)) run at ack g = record { cleared = g.cleared; holds = g.holds; read = g.read }
  guard_keeps past (Does (Calls number server ask origin end)) run at ack g =
      let key = delete.key in
      let call : Call = record { server = server; ask = ask; origin = origin; outcome = outcome_of end } in
      let other : nat_eq number n ≡ false = differs number n (λ is. over words Bars opening (T past) n run.0.0 (runs past run.1) (acked_over (T past) n delete ack) (ap (under_way (T past)) (sym is) ∙ run.0.1)) in
      record {
        cleared = λ s clears. subst (λ l. ClearsIn l s) (sym (second (nat_eq number n) (calls_so_far (T past) n ++ call ∷ []) (calls_so_far (T past) n) other)) (g.cleared s clears);
        holds = λ s clears. by_test (λ l. Has Q (held_in (opening s key) l key)) (nat_eq server s) _ _ (λ _. has_marks Q (opening s key) ask end (life_of (T past) s) key (λ same. late past number server ask origin end run.1 at ack g run.0 ((bytes_eq-Decides ask.key key).0 same)) (g.holds s clears)) (λ _. g.holds s clears);
        read = λ m client begins same later i item is.
            let calls = calls_so_far (T past) m in
            (elim (nat_eq number m) as (λ b. nat_eq number m ≡ b → cond b (cond (nat_eq (length calls) i) (held opening (T past) server ask.key) (item_at opening (T past) m i)) (item_at opening (T past) m i) ≡ Some item → (found : Call) × (slice_get (cond b (calls ++ call ∷ []) calls) i ≡ Some found) × (Guards found.server → Q item.stamp)) [
              | true ↦ λ mine. by_test (λ o. o ≡ Some item → (call' : Call) × (slice_get (calls ++ call ∷ []) i ≡ Some call') × (Guards call'.server → Q item.stamp)) (nat_eq (length calls) i) (held opening (T past) server ask.key) (item_at opening (T past) m i)
                  (λ here e. (
                    call,
                    subst (λ j. slice_get (calls ++ call ∷ []) j ≡ Some call) (eqb-true (length calls) i here) (get_seam calls call []),
                    λ clears.
                        let asked : run.0.0 ≡ client = some_ask run.0.0 client (sym (way_begun (T past) number run.0.0 run.0.1) ∙ ap (begun_late (T past)) (eqb-true number m mine) ∙ begins) in
                        let on : ask.key ≡ key = run.0.2 ∙ ap (λ (a : Ask). a.key) asked ∙ same in
                        subst (Has Q) (sym (ap (held opening (T past) server) on) ∙ e) (g.holds server clears),
                  ))
                  (λ _ e. let r = g.read m client begins same later i item e in (r.0, get_left calls (call ∷ []) i r.0 r.1, r.2))
              | false ↦ λ _ e. g.read m client begins same later i item e
            ]) refl is;
      }
  guard_keeps past (Does (Turns server k turned)) run at ack g =
      record {
        cleared = g.cleared;
        holds = λ s clears. by_test (λ l. Has Q (held_in (opening s delete.key) l delete.key)) (nat_eq server s) _ _ (λ _. by_test (Has Q) (bytes_eq k delete.key) turned _ (λ _. subst (Has Q) (sym run.0) tt) (λ _. g.holds s clears)) (λ _. g.holds s clears);
        read = g.read;
      }
  guard_keeps past (Does (Restarts server)) run at ack g =
      record {
        cleared = g.cleared;
        holds = λ s clears. by_test (λ l. Has Q (held_in (opening s delete.key) l delete.key)) (nat_eq server s) _ _ (λ _. tt) (λ _. g.holds s clears);
        read = g.read;
      }
  guard_keeps past (Lands number server ask origin stamp answer spaces) run at ack g =
      record {
        cleared = g.cleared;
        holds = λ s guards. lands_holds past server s ask stamp answer spaces (g.holds s guards)
            (λ here same store.
            let begins = acked_begun words Bars opening (T past) (runs past run.1) n delete ack in
            lands_late past run.1 at ack g number server ask origin stamp run.0.0 run.0.3 same store
            (⊎_elim
            (λ clears. in_time past at begins number server ask origin run.0.1 same (subst (λ x. ClearsIn (calls_so_far (T past) n) x) (sym here) (g.cleared s clears)) store)
            (λ u. on_untouched past run.1 at begins number server ask origin run.0.0 s u here same store)
            guards));
        read = g.read;
      }

  guarded : (past : List Moment) → Fine past → before (T past) n ≡ began → IsAcknowledged (T past) n delete → Guarded past
  guarded [] run at ack = absurd ack
  guarded (Does (Replies m k reply from) ∷ past) run at (inl ack) = guard_begins past m k reply from run at ack
  guarded (Does (Begins m ask) ∷ past) run at (inl ack) = absurd ack
  guarded (Does (Calls m server ask origin end) ∷ past) run at (inl ack) = absurd ack
  guarded (Does (Breaks m) ∷ past) run at (inl ack) = absurd ack
  guarded (Does (Turns server k turned) ∷ past) run at (inl ack) = absurd ack
  guarded (Does (Restarts server) ∷ past) run at (inl ack) = absurd ack
  guarded (Does (Begins m ask) ∷ past) run at (inr ack) =
      let old : before (T past) n ≡ began = sym (ap (λ b. cond b (T past) (before (T past) n)) (differs m n (λ is. (let lt = acked_below m (T past) n delete run.0.0 ack in omega (arith, lt, is))))) ∙ at in
      guard_keeps past (Does (Begins m ask)) run old ack (guarded past run.1 old ack)
  guarded (Does (Calls m server ask origin end) ∷ past) run at (inr ack) = guard_keeps past (Does (Calls m server ask origin end)) run at ack (guarded past run.1 at ack)
  guarded (Does (Replies m k reply from) ∷ past) run at (inr ack) = guard_keeps past (Does (Replies m k reply from)) run at ack (guarded past run.1 at ack)
  guarded (Does (Breaks m) ∷ past) run at (inr ack) = guard_keeps past (Does (Breaks m)) run at ack (guarded past run.1 at ack)
  guarded (Does (Turns server k turned) ∷ past) run at (inr ack) = guard_keeps past (Does (Turns server k turned)) run at ack (guarded past run.1 at ack)
  guarded (Does (Restarts server) ∷ past) run at (inr ack) = guard_keeps past (Does (Restarts server)) run at ack (guarded past run.1 at ack)
  guarded (Lands x s a o stamp answer spaces ∷ past) run at (inl ack) = absurd ack
  guarded (Lands x s a o stamp answer spaces ∷ past) run at (inr ack) = guard_keeps past (Lands x s a o stamp answer spaces) run at ack (guarded past run.1 at ack)

  -- what a command shows that began after the delete was acknowledged
  pub shows_young : (moments : List Moment) → Fine moments → before (T moments) n ≡ began → (m : ℕ) (item : Item) → IsAcknowledged (before (T moments) m) n delete → IsShown opening (T moments) m delete.key item → Q item.stamp
  shows_young [] run at m item ack shown = absurd shown
  shows_young (Does (Begins x ask) ∷ past) run at m item ack (inl shown) = absurd shown
  shows_young (Does (Begins x ask) ∷ past) run at m item ack (inr shown) =
      let later : IsAcknowledged (before (T past) m) n delete = subst (λ b. IsAcknowledged (cond b (T past) (before (T past) m)) n delete) (differs x m (λ is. (let lt = shown_below opening x (T past) m delete.key item run.0.0 shown in omega (arith, lt, is)))) ack in
      let acked = acked_since (T past) m n delete later in
      let old : before (T past) n ≡ began = sym (ap (λ b. cond b (T past) (before (T past) n)) (differs x n (λ is. (let lt = acked_below x (T past) n delete run.0.0 acked in omega (arith, lt, is))))) ∙ at in
      shows_young past run.1 old m item later shown
  shows_young (Does (Calls a b c d e) ∷ past) run at m item ack (inl shown) = absurd shown
  shows_young (Does (Calls a b c d e) ∷ past) run at m item ack (inr shown) = shows_young past run.1 at m item ack shown
  shows_young (Does (Breaks a) ∷ past) run at m item ack (inl shown) = absurd shown
  shows_young (Does (Breaks a) ∷ past) run at m item ack (inr shown) = shows_young past run.1 at m item ack shown
  shows_young (Does (Turns a b turned) ∷ past) run at m item ack (inl shown) = absurd shown
  shows_young (Does (Turns a b turned) ∷ past) run at m item ack (inr shown) = shows_young past run.1 at m item ack shown
  shows_young (Does (Restarts a) ∷ past) run at m item ack (inl shown) = absurd shown
  shows_young (Does (Restarts a) ∷ past) run at m item ack (inr shown) = shows_young past run.1 at m item ack shown
  shows_young (Lands x s a o stamp answer spaces ∷ past) run at m item ack (inl shown) = absurd shown
  shows_young (Lands x s a o stamp answer spaces ∷ past) run at m item ack (inr shown) = shows_young past run.1 at m item ack shown
  shows_young (Does (Replies a k reply from) ∷ past) run at m item ack (inr shown) = shows_young past run.1 at m item ack shown
  shows_young (Does (Replies a k reply from) ∷ past) run at m item ack (inl shown) =
      let later : IsAcknowledged (before (T past) a) n delete = subst (λ x. IsAcknowledged (before (T past) x) n delete) (sym shown.0) ack in
      let g = guarded past run.1 at (acked_since (T past) a n delete later) in
      let same : run.0.0.key ≡ delete.key = sym run.0.2 ∙ shown.1 in
      let r = g.read a run.0.0 (way_begun (T past) a run.0.0 run.0.1) same later shown.2 item shown.4 in
      r.2 (cover.covered n a delete run.0.0 (above words Bars opening (T past) (runs past run.1) n a delete later) op same _ _ _ run.0.3 r.0.server (shown.2, (r.0, r.1, refl), inl shown.3))

module _ (words : ℕ → Ask → List Call → Answer → Option ℕ → Type 0) (Bars : ℕ → Ask → ℕ → Ask → Type 0) (opening : ℕ → List ℕ → Option Item) (cover : IsCoveredOrUntouched words opening) where
  -- a run is fresh, whose deletes clear what later commands take, or where nothing was stored before, in which what copies has its key alone, and what had failed is applied in time or never
  pub grown_fresh : (Over : List Event → ℕ → ℕ → Type 0) → CopiesBar words Bars → IsPart Over → (moments : List Moment) → LateRun words Bars opening (LandsInTime Over) moments → IsFreshBy opening Over moments
  grown_fresh Over copies part moments run n m delete item ack shown =
      let op = acked_delete (told opening moments) n delete (acked_since (told opening moments) m n delete ack) in
      let began = before (told opening moments) n in
      shows_young words Bars Over opening cover copies part n delete op began (λ s. Over began n s → ⊥) (λ past run' at phase x client begins same other later. later) moments run refl m item ack shown

  -- where each command has its key alone, also by numbers
  pub grown_fresh_by_number : AreAlone Bars → (moments : List Moment) → LateRun words Bars opening (LandsInTime WasOver) moments → IsFreshByNumber opening (told opening moments)
  grown_fresh_by_number all moments run n m delete item lt ack shown =
      let T : List Moment → List Event = told opening in
      let may = as_run words Bars opening (LandsInTime WasOver) in
      let op = acked_delete (T moments) n delete ack in
      let began = before (T moments) n in
      shows_young words Bars WasOver opening cover (λ number ask calls reply from word j call i at o x other gone same. all number x ask other same) (λ past k s ended. ended) n delete op began (λ s. n < s)
      (λ past run' at phase x client begins same other later.
      let alive : HasEnded (before (T past) n) x → ⊥ = subst (λ l. HasEnded l x → ⊥) (sym at) later in
      let bars = all x n client delete same in
      ⊎_elim
      (λ way. absurd (not_apart words Bars opening (T past) (may past run') x n client delete begins way other same bars alive))
      (λ acked. above words Bars opening (T past) (may past run') n x delete (began_after words Bars opening (T past) (may past run') n x delete client acked begins other same bars alive))
      phase)
      moments run refl m item (shown_later words Bars opening cover all (T moments) (may moments run) n m delete item lt ack shown) shown

-- so it is where deletes clear all that later commands take
pub fresh : (words : ℕ → Ask → List Call → Answer → Option ℕ → Type 0) (Bars : ℕ → Ask → ℕ → Ask → Type 0) (Over : List Event → ℕ → ℕ → Type 0) → IsCovered words → CopiesBar words Bars → IsPart Over → (opening : ℕ → List ℕ → Option Item) (moments : List Moment) → LateRun words Bars opening (LandsInTime Over) moments → IsFreshBy opening Over moments
fresh words Bars Over cover copies part opening moments run = grown_fresh words Bars opening (no_less words opening cover) Over copies part moments run
