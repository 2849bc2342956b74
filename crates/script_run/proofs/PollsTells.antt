-- What a log tells of its commands, beside the state that it leads to, and what each entry of a poll changes of that.
use Rattle.std.proofs.Common.{◌≡◌, ℕ, ◌+◌, ◌≤◌, Bool, true, false, cond, ◌&&◌, List, [], ◌∷◌, ◌++◌, Option, Some, None, option_map, MatchOption, refl, sym, ap, ap₂, ◌∙◌, subst, arith, bytes_eq, nat_eq, slice_get}
use Rattle.std.specs.Prelude.{IsTrue, ◌↔◌, map as each}
use Rattle.std.proofs.lemmas.Bool.{eqb-true}
use Rattle.mc_types.specs.declared.ask.Op.{Op}
use Rattle.mc_types.specs.declared.ask.Op.TheVariants.{Get, Gat, Set, Add, Replace, Append, Prepend, Cas, Delete, Incr, Decr, Touch}
use Rattle.mc_types.specs.declared.ask.Ask.{Ask}
use Rattle.mc_types.specs.declared.answer.Answer.{Answer}
use Rattle.mc_types.specs.Acknowledged.{Acknowledges, says_gone}
use Rattle.mc_types.specs.Items.{Item}
use Rattle.mc_types.specs.Shows.{shows}
use Rattle.fresh_runs.specs.Calls.{Call}
use Rattle.fresh_runs.specs.Cover.{IsAnswerOf}
use Rattle.fresh_runs.specs.Log.{Part}
use Rattle.fresh_runs.specs.Stale.{is_delete_op, stale_since, is_acknowledged, last_gone, shown_item, tally_of}
use Rattle.fresh_runs.specs.Run.{Event, LosesOnly, under_way, calls_so_far, item_at, IsNewNumber, commands_in}
use Rattle.fresh_runs.specs.Overlap.{Slot, Owner, Entry, Starts, Sends, Ends, Shows, Ticket as LogTicket, run_of, owner_of, out_of, given_of, is_dropped, Follows}
use Rattle.fresh_runs.specs.OverlapStream.{stream_of}
use Rattle.fresh_runs.proofs.Runs.{new_calls}
use Rattle.fresh_runs.proofs.OverlapSteps.{owner_way}
use Rattle.script_events.specs.Found.{AreFound}
use Rattle.script_events.proofs.Found.{shown_found}
use Rattle.route_tree.specs.Plan.{Plan}
use Rattle.route_tree.specs.Word.{tree_words}
use Rattle.route_tree.proofs.Showing.{replies_show_what_was_found}
use Rattle.core_commands.specs.declared.ticket.Ticket.{Ticket}
use Rattle.core_proxy.specs.CoreState.{dialect}
use Rattle.core_proxy.specs.declared.note.Note.{Note}
use Rattle.script_run.specs.Standing.{Kept, log_calls_at, replies_in_run, broken_in, HasSameStory, IsBesides}
use Rattle.script_run.specs.Laws.{is_as_old, stamp_shown, CountsOne, SendsOne}

-- ---- small facts

-- nothing was found by no calls
none_found : (calls : List Call) (found : List (Option Item)) (stamps : List (Option ℕ)) → calls ≡ [] → found ≡ [] → stamps ≡ [] → AreFound calls found stamps
none_found calls found stamps c f s = subst (λ l. AreFound l found stamps) (sym c) (subst (λ l. AreFound [] l stamps) (sym f) (subst (λ l. AreFound [] [] l) (sym s) tt))

-- no item is in an empty list
no_item : (none : List (Option Item)) (i : ℕ) (item : Item) → none ≡ [] → slice_get none i ≡ Some (Some item) → ⊥
no_item [] i item is e = cc
no_item (x ∷ xs) i item is e = cc

-- nobody isn't an owner
none_owns : {A : Type 0} (o : Owner) → ◌≡◌ {A = Option Owner} None (Some o) → A
none_owns o e = absurd cc

-- where it isn't that a delete was told so, the test says no
not_delete : (op : Op) (b : Bool) → (op ≡ Delete → b ≡ true → ⊥) → (is_delete_op op && b) ≡ false
not_delete Delete true h = absurd (h refl refl)
not_delete Delete false h = refl
not_delete Get b h = refl
not_delete Gat b h = refl
not_delete Set b h = refl
not_delete Add b h = refl
not_delete Replace b h = refl
not_delete Append b h = refl
not_delete Prepend b h = refl
not_delete Cas b h = refl
not_delete Incr b h = refl
not_delete Decr b h = refl
not_delete Touch b h = refl

-- the two Bools differ
false_is_not_true : false ≡ true → ⊥
false_is_not_true e = cc

-- what a note says of a delete is what a run counts
says_so : (said : Bool) (ask : Ask) (reply : Answer) → IsTrue said ↔ Acknowledges ask reply → said ≡ (is_delete_op ask.op && says_gone reply)
says_so true ask reply is = let a = is.0 refl in sym (ap₂ (λ op b. is_delete_op op && b) a.0 a.1)
says_so false ask reply is = sym (not_delete ask.op (says_gone reply) (λ op gone. false_is_not_true (is.1 (op, gone))))

-- a driver counts by the stamp, a run by the item
as_old_is : (last : Option ℕ) (item : Option Item) → cond {A = ℕ} (is_as_old last (option_map (λ (i : Item). i.stamp) item)) 1 0 ≡ stale_since last item
as_old_is None None = refl
as_old_is None (Some item) = refl
as_old_is (Some n) None = refl
as_old_is (Some n) (Some item) = refl

-- one more call, which is out at its server
pub out_more : (s : ℕ) (tickets : List Ticket) (t : Ticket) → log_calls_at s (tickets ++ t ∷ []) ≡ cond (nat_eq t.server s) (log_calls_at s tickets ++ record { number = t.number; ask = t.ask; origin = t.origin } ∷ []) (log_calls_at s tickets)
out_more s [] t = refl
out_more s (u ∷ tickets) t =
    ap (λ (ts : List LogTicket). cond (nat_eq u.server s) (one u ∷ ts) ts) (out_more s tickets t) ∙ by (nat_eq u.server s) (nat_eq t.server s) (one u) (one t) (log_calls_at s tickets)
  where
    one : Ticket → LogTicket
    one v = record { number = v.number; ask = v.ask; origin = v.origin }

    by : (a b : Bool) (x y : LogTicket) (ts : List LogTicket) → cond a (x ∷ cond b (ts ++ y ∷ []) ts) (cond b (ts ++ y ∷ []) ts) ≡ cond b (cond a (x ∷ ts) ts ++ y ∷ []) (cond a (x ∷ ts) ts)
    by true true x y ts = refl
    by true false x y ts = refl
    by false true x y ts = refl
    by false false x y ts = refl

-- ---- what a log tells

-- of a log that came of another one: its clients are served, no command was broken off, nobody but the core writes the servers, which calls are out and what the calls of commands under way found is known, commands are counted, and no client said or was given more
pub record Tells (opening : ℕ → List ℕ → Option Item) (base : List (Entry dialect)) (found : ℕ → List (Option Item)) (log : List (Entry dialect)) (k : Kept) : Type 0 where
  pub served : (c : ℕ) → is_dropped log c ≡ false
  pub unbroken : broken_in (run_of log) ≡ 0
  pub loses : LosesOnly (run_of log)
  pub out : (s : ℕ) → out_of log s ≡ log_calls_at s k.out
  pub known : (n : ℕ) (o : Owner) → owner_of log n ≡ Some o → AreFound (calls_so_far (run_of log) n) (found n) (k.stamps n)
  pub items : (n : ℕ) (o : Owner) → owner_of log n ≡ Some o → (i : ℕ) (item : Item) → slice_get (found n) i ≡ Some (Some item) → item_at opening (run_of log) n i ≡ Some item
  pub commands : k.commands ≡ replies_in_run (run_of log)
  pub stale : k.stale ≡ tally_of opening (run_of log)
  pub last : (key : List ℕ) → k.last key ≡ last_gone (run_of log) key
  pub later : commands_in (run_of base) ≤ commands_in (run_of log)
  pub streams : (c : ℕ) → stream_of log c ≡ stream_of base c
  pub given : (c : ℕ) → given_of log c ≡ given_of base c
  pub story : HasSameStory base log

module _ (opening : ℕ → List ℕ → Option Item) (base : List (Entry dialect)) (found : ℕ → List (Option Item)) where
  -- what is told of a log is told still where all but the core is as it was
  pub besides : (log : List (Entry dialect)) (old new : Kept) → IsBesides old new → Tells opening base found log old → Tells opening base found log new
  besides log old new b t =
      record {
        served = t.served;
        unbroken = t.unbroken;
        loses = t.loses;
        out = λ s. t.out s ∙ ap (log_calls_at s) (sym b.out);
        known = λ n o e. subst (AreFound (calls_so_far (run_of log) n) (found n)) (sym (b.found n)) (t.known n o e);
        items = t.items;
        commands = b.counts.commands ∙ t.commands;
        stale = b.counts.stale ∙ t.stale;
        last = λ key. b.counts.last key ∙ t.last key;
        later = t.later;
        streams = t.streams;
        given = t.given;
        story = t.story;
      }

  -- a call went out
  pub sends : (log : List (Entry dialect)) (ticket : Ticket) (old new : Kept) → SendsOne ticket old new → Tells opening base found log old → Tells opening base found (Sends ticket.number ticket.server ticket.ask ticket.origin ∷ log) new
  sends log ticket old new b t =
      record {
        served = t.served;
        unbroken = t.unbroken;
        loses = t.loses;
        out = λ s.
            ap (λ (ts : List LogTicket). cond (nat_eq ticket.server s) (ts ++ record { number = ticket.number; ask = ticket.ask; origin = ticket.origin } ∷ []) ts) (t.out s) ∙ sym (out_more s old.out ticket)
            ∙ ap (log_calls_at s) (sym b.out);
        known = λ n o e. subst (AreFound (calls_so_far (run_of log) n) (found n)) (sym (b.found n)) (t.known n o e);
        items = t.items;
        commands = b.counts.commands ∙ t.commands;
        stale = b.counts.stale ∙ t.stale;
        last = λ key. b.counts.last key ∙ t.last key;
        later = t.later;
        streams = t.streams;
        given = t.given;
        story = t.story;
      }

  -- a command that begins made no calls, and nothing is known of it
  pub begins : (log : List (Entry dialect)) (client number : ℕ) (part : Part dialect) (k : Kept) → IsNewNumber number (run_of log) → found number ≡ [] → k.stamps number ≡ [] → Tells opening base found log k → Tells opening base found (Starts client number part ∷ log) k
  begins log client number part k new none unknown t =
      let run = run_of log in
      let me : Owner = record { client = client; ask = part.ask } in
      let begun : AreFound (calls_so_far run number) (found number) (k.stamps number) = none_found (calls_so_far run number) (found number) (k.stamps number) (new_calls number run new) none unknown in
      let begun_known : (n : ℕ) (o : Owner) → cond (nat_eq number n) (Some me) (owner_of log n) ≡ Some o → AreFound (calls_so_far run n) (found n) (k.stamps n) =
      λ n o. (elim (nat_eq number n) as (λ b. nat_eq number n ≡ b → cond b (Some me) (owner_of log n) ≡ Some o → AreFound (calls_so_far run n) (found n) (k.stamps n)) [
        | true ↦ λ is e. subst (λ m. AreFound (calls_so_far run m) (found m) (k.stamps m)) (eqb-true number n is) begun
        | false ↦ λ _ e. t.known n o e
      ]) refl in
      let begun_items : (n : ℕ) (o : Owner) → cond (nat_eq number n) (Some me) (owner_of log n) ≡ Some o → (i : ℕ) (item : Item) → slice_get (found n) i ≡ Some (Some item) → item_at opening run n i ≡ Some item =
      λ n o. (elim (nat_eq number n) as (λ b. nat_eq number n ≡ b → cond b (Some me) (owner_of log n) ≡ Some o → (i : ℕ) (item : Item) → slice_get (found n) i ≡ Some (Some item) → item_at opening run n i ≡ Some item) [
        | true ↦ λ is e i item at. absurd (no_item (found n) i item (subst (λ m. found m ≡ []) (eqb-true number n is) none) at)
        | false ↦ λ _ e i item at. t.items n o e i item at
      ]) refl in
      record {
        served = t.served;
        unbroken = t.unbroken;
        loses = t.loses;
        out = t.out;
        known = λ n o e. begun_known n o e;
        items = λ n o e i item at. begun_items n o e i item at;
        commands = t.commands;
        stale = t.stale;
        last = t.last;
        later = (let low = t.later in omega (arith, low));
        streams = t.streams;
        given = t.given;
        story = t.story;
      }

  -- replies that are shown change nothing of it
  pub shown_more : (client : ℕ) (shown : List (Slot dialect × Answer)) (log : List (Entry dialect)) (k : Kept) → Tells opening base found log k → Tells opening base found (each (λ (s : Slot dialect × Answer). let e : Entry dialect = Shows client s.0 s.1 in e) shown ++ log) k
  shown_more client [] log k t = t
  shown_more client (s ∷ shown) log k t =
      let r = shown_more client shown log k t in
      record { served = r.served; unbroken = r.unbroken; loses = r.loses; out = r.out; known = r.known; items = r.items; commands = r.commands; stale = r.stale; last = r.last; later = r.later; streams = r.streams; given = r.given; story = r.story }

  -- the stamp that is known of what a reply shows is that of the item which its call found
  stamp_is : (past : List Event) (number : ℕ) (from : Option ℕ) (reply : Answer) (stamps : List (Option ℕ)) → AreFound (calls_so_far past number) (found number) stamps → ((i : ℕ) (item : Item) → slice_get (found number) i ≡ Some (Some item) → item_at opening past number i ≡ Some item)
      → MatchOption from (shows reply ≡ false) (λ i. IsAnswerOf (calls_so_far past number) i reply) → stamp_shown stamps from ≡ option_map (λ (i : Item). i.stamp) (shown_item opening past number from)
  stamp_is past number None reply stamps h is m = refl
  stamp_is past number (Some i) reply stamps h is m =
      let at = shown_found (calls_so_far past number) (found number) stamps i reply h m in
      at.2 ∙ sym (ap (λ o. option_map (λ (i : Item). i.stamp) o) (is i at.0 at.1))

  module _ (at : ℕ → List ℕ → Plan) (Bars : ℕ → Ask → ℕ → Ask → Type 0) (version : List ℕ) where
    -- a command that ends is counted, and what its calls found is forgotten
    pub ends : (log : List (Entry dialect)) (client : ℕ) (note : Note) (part : Part dialect) (reply : Answer) (old new : Kept) → Follows (tree_words at) Bars opening version (Ends client note.number part reply note.from ∷ log)
        → note.ask ≡ part.ask → IsTrue note.acknowledged ↔ Acknowledges part.ask reply → CountsOne note old new → Tells opening base found log old → Tells opening base found (Ends client note.number part reply note.from ∷ log) new
    ends log client note part reply old new f asks ack counts t =
        let run = run_of log in
        let number = note.number in
        let from = note.from in
        let key = part.ask.key in
        let me : Owner = record { client = client; ask = part.ask } in
        let held : owner_of log number ≡ Some me = f.0.1 in
        let way : under_way run number ≡ Some part.ask = owner_way (tree_words at) Bars opening version log f.1 number me held in
        let said : note.acknowledged ≡ is_acknowledged (under_way run number) reply = says_so note.acknowledged part.ask reply ack ∙ sym (ap (λ o. is_acknowledged o reply) way) in
        let answer = replies_show_what_was_found at number f.0.0.0 (calls_so_far run number) reply from f.0.0.3 in
        let item = shown_item opening run number from in
        let stamp : stamp_shown (old.stamps number) from ≡ option_map (λ (i : Item). i.stamp) item = stamp_is run number from reply (old.stamps number) (t.known number me held) (t.items number me held) answer in
        let ended_known : (n : ℕ) (o : Owner) → cond (nat_eq number n) None (owner_of log n) ≡ Some o → AreFound (calls_so_far run n) (found n) (cond (nat_eq number n) [] (old.stamps n)) =
        λ n o. elim (nat_eq number n) as (λ b. cond b None (owner_of log n) ≡ Some o → AreFound (calls_so_far run n) (found n) (cond b [] (old.stamps n))) [
          | true ↦ λ e. none_owns o e
          | false ↦ λ e. t.known n o e
        ] in
        let ended_items : (n : ℕ) (o : Owner) → cond (nat_eq number n) None (owner_of log n) ≡ Some o → (i : ℕ) (item : Item) → slice_get (found n) i ≡ Some (Some item) → item_at opening run n i ≡ Some item =
        λ n o. elim (nat_eq number n) as (λ b. cond b None (owner_of log n) ≡ Some o → (i : ℕ) (item : Item) → slice_get (found n) i ≡ Some (Some item) → item_at opening run n i ≡ Some item) [
          | true ↦ λ e. none_owns o e
          | false ↦ λ e. t.items n o e
        ] in
        record {
          served = t.served;
          unbroken = t.unbroken;
          loses = t.loses;
          out = λ s. t.out s ∙ ap (log_calls_at s) (sym counts.out);
          known = λ n o e. subst (AreFound (calls_so_far run n) (found n)) (sym (counts.stamps n)) (ended_known n o e);
          items = λ n o e i item at. ended_items n o e i item at;
          commands = counts.commands ∙ ap (λ m. m + 1) t.commands;
          stale =
              counts.stale
              ∙ ap (λ (a : Ask). old.stale + cond {A = ℕ} (is_as_old (old.last a.key) (stamp_shown (old.stamps number) from)) 1 0) asks
              ∙ ap₂ (λ l s. old.stale + cond {A = ℕ} (is_as_old l s) 1 0) (t.last key) stamp
              ∙ ap₂ (λ n m. n + m) t.stale (as_old_is (last_gone run key) item);
          last = λ k.
              counts.last k
              ∙ ap₂ (λ (a : Ask) said. cond (bytes_eq a.key k && said) (Some number) (old.last k)) asks said
              ∙ ap (λ l. cond (bytes_eq key k && is_acknowledged (under_way run number) reply) (Some number) l) (t.last k);
          later = t.later;
          streams = t.streams;
          given = t.given;
          story = t.story;
        }
