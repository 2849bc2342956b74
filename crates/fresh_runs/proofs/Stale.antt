-- Counting stale commands by numbers, and what a reply shows was held.
use Rattle.std.proofs.Common.{◌≡◌, ℕ, ◌+◌, ◌<◌, ◌≤◌, Bool, true, false, cond, ◌&&◌, ◌||◌, List, [], ◌∷◌, Option, Some, None, inl, inr, refl, sym, ap, ap₂, ◌∙◌, subst, arith, bytes_eq, nat_le}
use Rattle.std.proofs.lemmas.Slice.Eq.{bytes_eq-Decides}
use Rattle.std.proofs.lemmas.Bool.{leb-true, le-leb}
use Rattle.mc_types.specs.declared.ask.Op.{Op}
use Rattle.mc_types.specs.declared.ask.Op.TheVariants.{Delete}
use Rattle.mc_types.specs.declared.ask.Ask.{Ask}
use Rattle.mc_types.specs.declared.answer.Answer.{Answer}
use Rattle.mc_types.specs.Acknowledged.{says_gone}
use Rattle.mc_types.specs.Shows.{shows}
use Rattle.mc_types.specs.Items.{Item}
use Rattle.fresh_runs.specs.Calls.{Call}
use Rattle.fresh_runs.specs.Stale.{is_delete_op, stale_since, is_acknowledged, is_outlived, stale_item, last_gone, shown_item, stale_in, tally_of, CountsStale}
use Rattle.fresh_runs.specs.Run.{Event, Begins, Calls, Replies, Breaks, Turns, Restarts, under_way, held, Run, IsAcknowledged, AreAlone, IsFreshByNumber}
use Rattle.fresh_runs.proofs.Runs.{some_ask, began_after, above}

and_left : (a b : Bool) → (a && b) ≡ true → a ≡ true
and_left true b h = refl
and_left false b h = h

and_right : (a b : Bool) → (a && b) ≡ true → b ≡ true
and_right true b h = h
and_right false b h = absurd (cc)

op_is : (op : Op) → is_delete_op op ≡ true → op ≡ Delete
op_is Delete h = refl
op_is _ h = absurd (cc)

abbrev by_last : Option ℕ → ℕ → Bool
by_last None stamp = false
by_last (Some n) stamp = nat_le stamp n

or_below : (a b : Bool) → (b ≡ true → a ≡ true) → (a || b) ≡ a
or_below true b h = refl
or_below false true h = sym (h refl)
or_below false false h = refl

or_right : (a b : Bool) → b ≡ true → (a || b) ≡ true
or_right true b h = refl
or_right false b h = h

stale_by_last : (last : Option ℕ) (item : Item) → stale_since last (Some item) ≡ cond (by_last last item.stamp) 1 0
stale_by_last None item = refl
stale_by_last (Some n) item = refl

-- what the Bool search finds
abbrev Found : List Event → List ℕ → ℕ → Type 0
Found past key stamp = (n : ℕ) × (delete : Ask) × IsAcknowledged past n delete × (delete.key ≡ key) × (stamp ≤ n)

later : (event : Event) (past : List Event) (key : List ℕ) (stamp : ℕ) → Found past key stamp → Found (event ∷ past) key stamp
later event past key stamp f = (f.0, f.1, inr f.2, f.3, f.4)

module _ (words : ℕ → Ask → List Call → Answer → Option ℕ → Type 0) (Bars : ℕ → Ask → ℕ → Ask → Type 0) (opening : ℕ → List ℕ → Option Item) where
  acknowledged_here : (m : ℕ) (k key : List ℕ) (reply : Answer) (from : Option ℕ) (past : List Event) → Run words Bars opening (Replies m k reply from ∷ past) → (bytes_eq k key && is_acknowledged (under_way past m) reply) ≡ true → (delete : Ask) × IsAcknowledged (Replies m k reply from ∷ past) m delete × (delete.key ≡ key)
  acknowledged_here m k key reply from past run both =
      let client = run.0.0 in
      let ack : (is_delete_op client.op && says_gone reply) ≡ true = subst (λ o. is_acknowledged o reply ≡ true) run.0.1 (and_right (bytes_eq k key) _ both) in
      (client, inl (refl, run.0.1, (op_is client.op (and_left (is_delete_op client.op) _ ack), and_right (is_delete_op client.op) _ ack)), sym run.0.2 ∙ (bytes_eq-Decides k key).0 (and_left (bytes_eq k key) _ both))

  finds : (past : List Event) (key : List ℕ) (stamp : ℕ) → Run words Bars opening past → is_outlived past key stamp ≡ true → Found past key stamp
  finds [] key stamp run e = absurd (cc)
  finds (Begins m ask ∷ past) key stamp run e = later (Begins m ask) past key stamp (finds past key stamp run.1 e)
  finds (Calls m s a o end ∷ past) key stamp run e = later (Calls m s a o end) past key stamp (finds past key stamp run.1 e)
  finds (Breaks m ∷ past) key stamp run e = later (Breaks m) past key stamp (finds past key stamp run.1 e)
  finds (Turns s k turned ∷ past) key stamp run e = later (Turns s k turned) past key stamp (finds past key stamp run.1 e)
  finds (Restarts s ∷ past) key stamp run e = later (Restarts s) past key stamp (finds past key stamp run.1 e)
  finds (Replies m k reply from ∷ past) key stamp run e =
      let event = Replies m k reply from in
      (elim (bytes_eq k key && is_acknowledged (under_way past m) reply) as (λ b. (bytes_eq k key && is_acknowledged (under_way past m) reply) ≡ b → (b && nat_le stamp m || is_outlived past key stamp) ≡ true → Found (event ∷ past) key stamp) [
        | true ↦ λ both.
            (elim (nat_le stamp m) as (λ b. nat_le stamp m ≡ b → (b || is_outlived past key stamp) ≡ true → Found (event ∷ past) key stamp) [
              | true ↦ λ le _. let a = acknowledged_here m k key reply from past run both in (m, a.0, a.1, a.2, leb-true stamp m le)
              | false ↦ λ _ is. later event past key stamp (finds past key stamp run.1 is)
            ]) refl
        | false ↦ λ _ is. later event past key stamp (finds past key stamp run.1 is)
      ]) refl e

  found : (past : List Event) (key : List ℕ) (stamp n : ℕ) (delete : Ask) → Run words Bars opening past → IsAcknowledged past n delete → delete.key ≡ key → stamp ≤ n → is_outlived past key stamp ≡ true
  found [] key stamp n delete run a own le = absurd a
  found (Begins m ask ∷ past) key stamp n delete run (inl a) own le = absurd a
  found (Begins m ask ∷ past) key stamp n delete run (inr a) own le = found past key stamp n delete run.1 a own le
  found (Calls m s x o end ∷ past) key stamp n delete run (inl a) own le = absurd a
  found (Calls m s x o end ∷ past) key stamp n delete run (inr a) own le = found past key stamp n delete run.1 a own le
  found (Breaks m ∷ past) key stamp n delete run (inl a) own le = absurd a
  found (Breaks m ∷ past) key stamp n delete run (inr a) own le = found past key stamp n delete run.1 a own le
  found (Turns s k turned ∷ past) key stamp n delete run (inl a) own le = absurd a
  found (Turns s k turned ∷ past) key stamp n delete run (inr a) own le = found past key stamp n delete run.1 a own le
  found (Restarts s ∷ past) key stamp n delete run (inl a) own le = absurd a
  found (Restarts s ∷ past) key stamp n delete run (inr a) own le = found past key stamp n delete run.1 a own le
  found (Replies m k reply from ∷ past) key stamp n delete run (inl a) own le =
      let mine : run.0.0 ≡ delete = some_ask run.0.0 delete (sym run.0.1 ∙ a.1) in
      let same : bytes_eq k key ≡ true = (bytes_eq-Decides k key).1 (run.0.2 ∙ ap (λ (c : Ask). c.key) mine ∙ own) in
      let gone : is_acknowledged (under_way past m) reply ≡ true = ap (λ o. is_acknowledged o reply) a.1 ∙ ap₂ (λ op b. is_delete_op op && b) a.2.0 a.2.1 in
      let low : nat_le stamp m ≡ true = le-leb stamp m (subst (λ i. stamp ≤ i) (sym a.0) le) in
      ap (λ b. b && is_acknowledged (under_way past m) reply && nat_le stamp m || is_outlived past key stamp) same
      ∙ ap (λ b. b && nat_le stamp m || is_outlived past key stamp) gone
      ∙ ap (λ b. b || is_outlived past key stamp) low
  found (Replies m k reply from ∷ past) key stamp n delete run (inr a) own le =
      or_right (bytes_eq k key && is_acknowledged (under_way past m) reply && nat_le stamp m) (is_outlived past key stamp) (found past key stamp n delete run.1 a own le)

  module _ (all : AreAlone Bars) where
    -- a delete that was acknowledged before a reply on its key has a lower number
    earlier : (past : List Event) (n m : ℕ) (delete client : Ask) → Run words Bars opening past → IsAcknowledged past n delete → under_way past m ≡ Some client → client.key ≡ delete.key → n < m
    earlier past n m delete client run ack way same = above words Bars opening past run n m delete (began_after words Bars opening past run n m delete client ack way same (all m n client delete same))

    by_the_last : (past : List Event) (key : List ℕ) (stamp : ℕ) → Run words Bars opening past → is_outlived past key stamp ≡ by_last (last_gone past key) stamp
    by_the_last [] key stamp run = refl
    by_the_last (Begins m ask ∷ past) key stamp run = by_the_last past key stamp run.1
    by_the_last (Calls m s a o end ∷ past) key stamp run = by_the_last past key stamp run.1
    by_the_last (Breaks m ∷ past) key stamp run = by_the_last past key stamp run.1
    by_the_last (Turns s k turned ∷ past) key stamp run = by_the_last past key stamp run.1
    by_the_last (Restarts s ∷ past) key stamp run = by_the_last past key stamp run.1
    by_the_last (Replies m k reply from ∷ past) key stamp run =
        let rest = by_the_last past key stamp run.1 in
        (elim (bytes_eq k key && is_acknowledged (under_way past m) reply) as (λ b. (bytes_eq k key && is_acknowledged (under_way past m) reply) ≡ b → (b && nat_le stamp m || is_outlived past key stamp) ≡ by_last (cond b (Some m) (last_gone past key)) stamp) [
          | true ↦ λ both.
              let here : k ≡ key = (bytes_eq-Decides k key).0 (and_left (bytes_eq k key) _ both) in
              or_below (nat_le stamp m) (is_outlived past key stamp) (λ old.
              let f = finds past key stamp run.1 old in
              let lt : f.0 < m = earlier past f.0 m f.1 run.0.0 run.1 f.2 run.0.1 (sym run.0.2 ∙ here ∙ sym f.3) in
              let low : stamp ≤ f.0 = f.4 in
              le-leb stamp m (omega (arith, lt, low)))
          | false ↦ λ _. rest
        ]) refl

    one_item : (past : List Event) (key : List ℕ) (item : Option Item) → Run words Bars opening past → stale_item past key item ≡ stale_since (last_gone past key) item
    one_item past key None run = refl
    one_item past key (Some item) run = ap (λ b. cond b 1 0) (by_the_last past key item.stamp run) ∙ sym (stale_by_last (last_gone past key) item)

    last_counts : (events : List Event) → Run words Bars opening events → stale_in opening events ≡ tally_of opening events
    last_counts [] run = refl
    last_counts (Begins m ask ∷ past) run = last_counts past run.1
    last_counts (Calls m s a o end ∷ past) run = last_counts past run.1
    last_counts (Breaks m ∷ past) run = last_counts past run.1
    last_counts (Turns s k turned ∷ past) run = last_counts past run.1
    last_counts (Restarts s ∷ past) run = last_counts past run.1
    last_counts (Replies m k reply from ∷ past) run = ap₂ (λ a b. a + b) (last_counts past run.1) (one_item past k (shown_item opening past m from) run.1)

    -- what a reply shows in a fresh run is not outlived
    none_shown : (past : List Event) (m : ℕ) (k : List ℕ) (reply : Answer) (from : Option ℕ) (item : Option Item) → Run words Bars opening (Replies m k reply from ∷ past) → IsFreshByNumber opening (Replies m k reply from ∷ past) → shown_item opening past m from ≡ item → stale_item past k item ≡ 0
    none_shown past m k reply from None run fresh is = refl
    none_shown past m k reply None (Some item) run fresh is = absurd (cc)
    none_shown past m k reply (Some i) (Some item) run fresh is =
        (elim (is_outlived past k item.stamp) as (λ b. is_outlived past k item.stamp ≡ b → ◌≡◌ {A = ℕ} (cond b 1 0) 0) [
          | true ↦ λ old.
              let f = finds past k item.stamp run.1 old in
              let low : item.stamp ≤ f.0 = f.4 in
              let lt : f.0 < m = earlier past f.0 m f.1 run.0.0 run.1 f.2 run.0.1 (sym run.0.2 ∙ sym f.3) in
              let high : f.0 < item.stamp = fresh f.0 m f.1 item lt (inr f.2) (inl (refl, sym f.3, i, refl, is)) in
              absurd (omega (arith, low, high))
          | false ↦ λ _. refl
        ]) refl

    fresh_has_none : (events : List Event) → Run words Bars opening events → IsFreshByNumber opening events → stale_in opening events ≡ 0
    fresh_has_none [] run fresh = refl
    fresh_has_none (Begins m ask ∷ past) run fresh = fresh_has_none past run.1 (λ n k d i lt a s. fresh n k d i lt (inr a) (inr s))
    fresh_has_none (Calls m s c o end ∷ past) run fresh = fresh_has_none past run.1 (λ n k d i lt a s. fresh n k d i lt (inr a) (inr s))
    fresh_has_none (Breaks m ∷ past) run fresh = fresh_has_none past run.1 (λ n k d i lt a s. fresh n k d i lt (inr a) (inr s))
    fresh_has_none (Turns s k turned ∷ past) run fresh = fresh_has_none past run.1 (λ n k d i lt a s. fresh n k d i lt (inr a) (inr s))
    fresh_has_none (Restarts s ∷ past) run fresh = fresh_has_none past run.1 (λ n k d i lt a s. fresh n k d i lt (inr a) (inr s))
    fresh_has_none (Replies m k reply from ∷ past) run fresh =
        ap₂ (λ a b. a + b) (fresh_has_none past run.1 (λ n k d i lt a s. fresh n k d i lt (inr a) (inr s))) (none_shown past m k reply from (shown_item opening past m from) run fresh refl)

    pub counts_stale : CountsStale words Bars opening
    counts_stale =
        record {
          last = last_counts;
          none = fresh_has_none;
          exact = λ events run key stamp. (finds events key stamp run, λ f. found events key stamp f.0 f.1 run f.2 f.3 f.4);
        }
