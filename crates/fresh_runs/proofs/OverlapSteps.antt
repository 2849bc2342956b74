-- Each entry that may come where clients, keys and servers stand so is more of a log of overlapping commands.
use Rattle.std.proofs.Common.{◌≡◌, ℕ, ◌+◌, ◌<◌, Bool, true, false, cond, List, [], ◌∷◌, ◌++◌, length, Option, Some, None, ⊎_elim, refl, sym, ap, ◌∙◌, subst, arith, nat_eq, slice_get, append_assoc, append-nil, length-append}
use Rattle.std.proofs.lemmas.Bool.{eqb-true, eq-eqb}
use Rattle.mc_types.specs.declared.ask.Ask.{Ask}
use Rattle.mc_types.specs.declared.answer.Answer.{Answer}
use Rattle.mc_types.specs.declared.call.Origin.{Origin}
use Rattle.mc_types.specs.declared.call.Origin.TheVariants.{Client, CopyOf}
use Rattle.mc_types.specs.Agree.{AnswerAgrees}
use Rattle.mc_types.specs.Items.{Item}
use Rattle.fresh_runs.specs.Calls.{Words, Call, End, Read, Unread, Never, outcome_of}
use Rattle.fresh_runs.specs.Fleet.{StampIn, EndsIn}
use Rattle.fresh_runs.specs.Run.{Event, Begins, Calls, Replies, Breaks, Turns, Restarts, under_way, calls_so_far, held, item_at, GivesStamp, EndsWell, IsNewNumber, IsFront, IsApart}
use Rattle.fresh_runs.specs.Protocol.{Protocol}
use Rattle.fresh_runs.specs.Log.{Part}
use Rattle.fresh_runs.specs.Overlap.{Front, Slot, Owner, ticket_in, Entry, Feeds, Starts, Sends, Happens, Ends, Shows, Passes, Gives, Drops, Frees, Resets, start_front, fed_front, after_start, after_end, part_slot, slot_in, answered_in, behind_head, without_ticket, run_of, output_of, given_of, owner_of, IsNext, Follows}
use Rattle.fresh_runs.specs.OverlapState.{OverlapState, Either, after, MayStep, IsLike, walked, MayWalk, WalksTo, LeadsTo, Leads}
use Rattle.fresh_runs.proofs.Lists.{bool_is, get_last}
use Rattle.fresh_runs.proofs.Runs.{some_ask, no_ask, way_below, new_calls}
use Rattle.fresh_runs.proofs.HeldAfter.{held_after, event_same}

pub new_more : (n : ℕ) (past : List Event) → IsNewNumber n past → IsNewNumber (n + 1) past
new_more n [] h = let lt = h in omega arith
new_more n (Begins m ask ∷ past) h = ((let lt = h.0 in omega arith), new_more n past h.1)
new_more n (Calls m s a o e ∷ past) h = ((let lt = h.0 in omega arith), new_more n past h.1)
new_more n (Breaks m ∷ past) h = ((let lt = h.0 in omega arith), new_more n past h.1)
new_more n (Replies m k r f ∷ past) h = ((let lt = h.0 in omega arith), new_more n past h.1)
new_more n (Turns s k turned ∷ past) h = new_more n past h
new_more n (Restarts s ∷ past) h = new_more n past h

shifted : (given out all more : List ℕ) → given ++ out ≡ all → given ++ (out ++ more) ≡ all ++ more
shifted given out all more e = sym (append_assoc given out more) ∙ ap (λ l. l ++ more) e

some_owner : (a b : Owner) → ◌≡◌ {A = Option Owner} (Some a) (Some b) → a ≡ b
some_owner a b e = cc

none_owner : {A : Type 0} (a : Owner) → ◌≡◌ {A = Option Owner} None (Some a) → A
none_owner a e = absurd cc

no_item : (none : List (Option Item)) (i : ℕ) (item : Item) → none ≡ [] → slice_get none i ≡ Some (Some item) → ⊥
no_item [] i item is e = cc
no_item (x ∷ xs) i item is e = cc

held_before : (b : Bool) (o : Option Owner) (x : Owner) → cond b None o ≡ Some x → o ≡ Some x
held_before true o x e = none_owner x e
held_before false o x e = e

out_more : (b : Bool) (given out all more : List ℕ) → given ++ out ≡ all → given ++ cond b (out ++ more) out ≡ cond b (all ++ more) all
out_more true given out all more e = shifted given out all more e
out_more false given out all more e = e

-- what the last call found, or an earlier one
pub found_last : (found : List (Option Item)) (now there before : Option Item) (item : Item) (i count : ℕ) → slice_get (found ++ now ∷ []) i ≡ Some (Some item) → now ≡ there → length found ≡ count → (slice_get found i ≡ Some (Some item) → before ≡ Some item) → cond (nat_eq count i) there before ≡ Some item
found_last found now there before item i count at same is earlier =
    ⊎_elim
    (λ l.
    let other : nat_eq count i ≡ false = ⊎_elim (λ y. absurd (let e = eqb-true count i y in let lt = l.1 in omega (arith, is, e, lt))) (λ n. n) (bool_is (nat_eq count i)) in
    ap (λ b. cond b there before) other ∙ earlier l.0)
    (λ r.
    let here : nat_eq count i ≡ true = eq-eqb count i (let e = r.0 in omega (arith, is, e)) in
    ap (λ b. cond b there before) here ∙ sym same ∙ r.1)
    (get_last found now (Some item) i at)

-- what the command asks
abbrev asked : Option Owner → Option Ask
asked None = None
asked (Some o) = Some o.ask

asked_some : (x : Option Owner) (a : Ask) → asked x ≡ Some a → (o : Owner) × (x ≡ Some o) × (o.ask ≡ a)
asked_some None a e = no_ask a e
asked_some (Some o) a e = (o, refl, some_ask o.ask a e)

module _ (opening : ℕ → List ℕ → Option Item) where
  stamp_is : (past : List Event) (found : List (Option Item)) (number : ℕ) (origin : Origin) (stamp : ℕ) → ((i : ℕ) (item : Item) → slice_get found i ≡ Some (Some item) → item_at opening past number i ≡ Some item) → StampIn found number origin stamp → GivesStamp opening past number origin stamp
  stamp_is past found number Client stamp is h = h
  stamp_is past found number (CopyOf i) stamp is h = (h.0, is i h.0 h.1, h.2)

  pub ends_well : (past : List Event) (found : List (Option Item)) (number server : ℕ) (ask : Ask) (origin : Origin) (end : End) (before : Option Item) → before ≡ held opening past server ask.key → ((i : ℕ) (item : Item) → slice_get found i ≡ Some (Some item) → item_at opening past number i ≡ Some item) → EndsIn before found number ask origin end → EndsWell opening past number server ask origin end
  ends_well past found number server ask origin (Read stamp answer spaces) before b is h = (subst (AnswerAgrees ask answer) b h.0, stamp_is past found number origin stamp is h.1)
  ends_well past found number server ask origin (Unread stamp answer spaces) before b is h = (subst (AnswerAgrees ask answer) b h.0, stamp_is past found number origin stamp is h.1)
  ends_well past found number server ask origin Never before b is h = tt

module _ {P : Protocol} (words : Words) (Bars : ℕ → Ask → ℕ → Ask → Type 0) (opening : ℕ → List ℕ → Option Item) where
  -- the log and its run know the same commands under way
  pub same_way : (version : List ℕ) (log : List (Entry P)) → Follows words Bars opening version log → (n : ℕ) → under_way (run_of log) n ≡ asked (owner_of log n)
  same_way version [] f n = refl
  same_way version (Feeds c b ∷ log) f n = same_way version log f.1 n
  same_way version (Starts c m part ∷ log) f n =
      elim (nat_eq m n) as (λ b. cond b (Some part.ask) (under_way (run_of log) n) ≡ asked (cond b (Some (record { client = c; ask = part.ask })) (owner_of log n))) [ true ↦ refl | false ↦ same_way version log f.1 n ]
  same_way version (Sends m s a o ∷ log) f n = same_way version log f.1 n
  same_way version (Happens (Calls m s a o end) ∷ log) f n = same_way version log f.1 n
  same_way version (Happens (Turns s key turned) ∷ log) f n = same_way version log f.1 n
  same_way version (Happens (Restarts s) ∷ log) f n = same_way version log f.1 n
  same_way version (Happens (Begins m a) ∷ log) f n = absurd f.0
  same_way version (Happens (Replies m key r x) ∷ log) f n = absurd f.0
  same_way version (Happens (Breaks m) ∷ log) f n = absurd f.0
  same_way version (Ends c m part r x ∷ log) f n =
      elim (nat_eq m n) as (λ b. cond b None (under_way (run_of log) n) ≡ asked (cond b None (owner_of log n))) [ true ↦ refl | false ↦ same_way version log f.1 n ]
  same_way version (Shows c slot r ∷ log) f n = same_way version log f.1 n
  same_way version (Passes c m next ∷ log) f n = same_way version log f.1 n
  same_way version (Gives c b ∷ log) f n = same_way version log f.1 n
  same_way version (Drops c ∷ log) f n = same_way version log f.1 n
  same_way version (Frees m ∷ log) f n =
      elim (nat_eq m n) as (λ b. cond b None (under_way (run_of log) n) ≡ asked (cond b None (owner_of log n))) [ true ↦ refl | false ↦ same_way version log f.1 n ]
  same_way version (Resets c ∷ log) f n = same_way version log f.1 n

  pub owner_way : (version : List ℕ) (log : List (Entry P)) → Follows words Bars opening version log → (n : ℕ) (o : Owner) → owner_of log n ≡ Some o → under_way (run_of log) n ≡ Some o.ask
  owner_way version log f n o e = same_way version log f n ∙ ap asked e

  pub way_owner : (version : List ℕ) (log : List (Entry P)) → Follows words Bars opening version log → (n : ℕ) (a : Ask) → under_way (run_of log) n ≡ Some a → (o : Owner) × (owner_of log n ≡ Some o) × (o.ask ≡ a)
  way_owner version log f n a e = asked_some (owner_of log n) a (sym (same_way version log f n) ∙ e)

  -- less may still come
  pub like_more : (log : List (Entry P)) (old new : OverlapState P) → LeadsTo words Bars opening log old → IsLike new old → LeadsTo words Bars opening log new
  like_more log old new h l =
      record {
        follows = subst (λ v. Follows words Bars opening v log) (sym l.version) h.follows;
        front = λ c. l.front c ∙ h.front c;
        queue = λ c. l.queue c ∙ h.queue c;
        output = λ c. ap (λ o. given_of log c ++ o) (l.output c) ∙ h.output c ∙ ap (λ v. output_of v log c) (sym l.version);
        dropped = λ c. l.dropped c ∙ h.dropped c;
        new = subst (λ n. IsNewNumber (n + 1) (run_of log)) (sym l.number) h.new;
        count = l.number ∙ h.count;
        owner = λ k. l.owner k ∙ h.owner k;
        to_come = λ k x e calls reply from may. h.to_come k x (sym (l.owner k) ∙ e) calls reply from (l.to_come k x e calls reply from may);
        out = λ s. l.out s ∙ h.out s;
        holds = λ s k. l.holds s k ∙ h.holds s k;
        counted = λ k x e. ap length (l.found k x e) ∙ h.counted k x (sym (l.owner k) ∙ e);
        found = λ k x e i item at. h.found k x (sym (l.owner k) ∙ e) i item (ap (λ f. slice_get f i) (sym (l.found k x e)) ∙ at);
        turn = l.turn ∙ h.turn;
      }

  pub feeds_more : (log : List (Entry P)) (old : OverlapState P) (client : ℕ) (bytes : List ℕ) → LeadsTo words Bars opening log old → MayStep Bars old (Feeds client bytes) → LeadsTo words Bars opening (Feeds client bytes ∷ log) (after words (Feeds client bytes) old)
  feeds_more log old client bytes h may =
      record {
        follows = (sym (h.dropped client) ∙ may, h.follows);
        front = λ c. ap (λ v. cond (nat_eq client c) (fed_front v bytes) v) (h.front c);
        queue = h.queue;
        output = h.output;
        dropped = h.dropped;
        new = h.new;
        count = h.count;
        owner = h.owner;
        to_come = h.to_come;
        out = h.out;
        holds = h.holds;
        counted = h.counted;
        found = h.found;
        turn = h.turn;
      }

  pub starts_more : (log : List (Entry P)) (old : OverlapState P) (client : ℕ) (number : ℕ) (part : Part P) → LeadsTo words Bars opening log old → MayStep Bars old (Starts client number part) → LeadsTo words Bars opening (Starts client number part ∷ log) (after words (Starts client number part) old)
  starts_more log old client number part h may =
      let run = run_of log in
      let me : Owner = record { client = client; ask = part.ask } in
      let fresh : IsNewNumber number run = subst (λ n. IsNewNumber n run) (sym may.3) h.new in
      let none : (n : ℕ) → nat_eq number n ≡ true → calls_so_far run n ≡ [] = λ n is. new_calls n run (subst (λ m. IsNewNumber m run) (eqb-true number n is) fresh) in
      let started_to_come : (n : ℕ) (x : Owner) → cond (nat_eq number n) (Some me) (old.owner n) ≡ Some x → (calls : List Call) (reply : Answer) (from : Option ℕ) → Either (nat_eq number n) (words number part.ask calls reply from) (old.to_come n calls reply from) → words n x.ask (calls_so_far run n ++ calls) reply from =
      λ n x. (elim (nat_eq number n) as (λ b. nat_eq number n ≡ b → cond b (Some me) (old.owner n) ≡ Some x → (calls : List Call) (reply : Answer) (from : Option ℕ) → Either b (words number part.ask calls reply from) (old.to_come n calls reply from) → words n x.ask (calls_so_far run n ++ calls) reply from) [
        | true ↦ λ is e calls reply from w. subst (λ (y : Owner). words n y.ask (calls_so_far run n ++ calls) reply from) (some_owner me x e) (subst (λ l. words n part.ask (l ++ calls) reply from) (sym (none n is)) (subst (λ m. words m part.ask calls reply from) (eqb-true number n is) w))
        | false ↦ λ _ e calls reply from w. h.to_come n x e calls reply from w
      ]) refl in
      let started_counted : (n : ℕ) (x : Owner) → cond (nat_eq number n) (Some me) (old.owner n) ≡ Some x → length (cond (nat_eq number n) [] (old.found n)) ≡ length (calls_so_far run n) =
      λ n x. (elim (nat_eq number n) as (λ b. nat_eq number n ≡ b → cond b (Some me) (old.owner n) ≡ Some x → length (cond b [] (old.found n)) ≡ length (calls_so_far run n)) [
        | true ↦ λ is e. sym (ap length (none n is))
        | false ↦ λ _ e. h.counted n x e
      ]) refl in
      let started_found : (n : ℕ) (x : Owner) → cond (nat_eq number n) (Some me) (old.owner n) ≡ Some x → (i : ℕ) (item : Item) → slice_get (cond (nat_eq number n) [] (old.found n)) i ≡ Some (Some item) → item_at opening run n i ≡ Some item =
      λ n x. elim (nat_eq number n) as (λ b. cond b (Some me) (old.owner n) ≡ Some x → (i : ℕ) (item : Item) → slice_get (cond b [] (old.found n)) i ≡ Some (Some item) → item_at opening run n i ≡ Some item) [
        | true ↦ λ e i item at. absurd (no_item [] i item refl at)
        | false ↦ λ e i item at. h.found n x e i item at
      ] in
      let apart : IsApart Bars run number part.ask =
      λ other ask way same.
      let o = way_owner old.version log h.follows other ask way in
      let two = may.2 other o.0 (h.owner other ∙ o.1) (ap (λ (a : Ask). a.key) o.2 ∙ same) in
      ((λ bars. two.0 (subst (λ a. Bars number part.ask other a) (sym o.2) bars)), (λ bars. two.1 (subst (λ a. Bars other a number part.ask) (sym o.2) bars))) in
      record {
        follows = (((fresh, apart), subst (λ (x : Front P). IsNext x part) (h.front client) may.0, (λ n o e. may.1 n o (h.owner n ∙ e)), may.3 ∙ ap (λ n. n + 1) h.count, sym (h.dropped client) ∙ may.4), h.follows);
        front = λ c. ap (λ v. cond (nat_eq client c) (after_start v part) v) (h.front c);
        queue = λ c. ap (λ v. cond (nat_eq client c) (v ++ part_slot number part ∷ []) v) (h.queue c);
        output = h.output;
        dropped = h.dropped;
        new = ((let k : number < number + 1 = omega arith in k), new_more number run fresh);
        count = may.3 ∙ ap (λ n. n + 1) h.count;
        owner = λ n. ap (λ v. cond (nat_eq number n) (Some me) v) (h.owner n);
        to_come = λ n x e calls reply from may. started_to_come n x e calls reply from may;
        out = h.out;
        holds = h.holds;
        counted = λ n x e. started_counted n x e;
        found = λ n x e i item at. started_found n x e i item at;
        turn = h.turn;
      }

  pub sends_more : (log : List (Entry P)) (old : OverlapState P) (number : ℕ) (server : ℕ) (ask : Ask) (origin : Origin) → LeadsTo words Bars opening log old → MayStep Bars old (Sends number server ask origin) → LeadsTo words Bars opening (Sends number server ask origin ∷ log) (after words (Sends number server ask origin) old)
  sends_more log old number server ask origin h may =
      record {
        follows = (((may.0.0, sym (h.owner number) ∙ may.0.1, may.0.2), (λ s. ap (λ l. ticket_in l number) (sym (h.out s)) ∙ may.1 s)), h.follows);
        front = h.front;
        queue = h.queue;
        output = h.output;
        dropped = h.dropped;
        new = h.new;
        count = h.count;
        owner = h.owner;
        to_come = h.to_come;
        out = λ s. ap (λ v. cond (nat_eq server s) (v ++ record { number = number; ask = ask; origin = origin } ∷ []) v) (h.out s);
        holds = h.holds;
        counted = h.counted;
        found = h.found;
        turn = h.turn;
      }

  pub called_more : (log : List (Entry P)) (old : OverlapState P) (number : ℕ) (server : ℕ) (ask : Ask) (origin : Origin) (end : End) → LeadsTo words Bars opening log old → MayStep Bars old (Happens (Calls number server ask origin end)) → LeadsTo words Bars opening (Happens (Calls number server ask origin end) ∷ log) (after words (Happens (Calls number server ask origin end)) old)
  called_more log old number server ask origin end h may =
      let run = run_of log in
      let event = Calls number server ask origin end in
      let call : Call = record { server = server; ask = ask; origin = origin; outcome = outcome_of end } in
      let own = may.owner.ask in
      let calls = calls_so_far run number in
      let way : under_way run number ≡ Some own = owner_way old.version log h.follows number may.owner (sym (h.owner number) ∙ may.held) in
      let front : IsFront words number own (calls ++ call ∷ []) =
      (may.more, may.reply, may.from, subst (λ l. words number own l may.reply may.from) (sym (append_assoc calls (call ∷ []) may.more)) (h.to_come number may.owner may.held (call ∷ may.more) may.reply may.from may.to_come)) in
      let called_to_come : (n : ℕ) (x : Owner) → old.owner n ≡ Some x → (calls : List Call) (reply : Answer) (from : Option ℕ) → Either (nat_eq number n) (old.to_come n (call ∷ calls) reply from) (old.to_come n calls reply from) → words n x.ask (cond (nat_eq number n) (calls_so_far run n ++ call ∷ []) (calls_so_far run n) ++ calls) reply from =
      λ n x e calls reply from. elim (nat_eq number n) as (λ b. Either b (old.to_come n (call ∷ calls) reply from) (old.to_come n calls reply from) → words n x.ask (cond b (calls_so_far run n ++ call ∷ []) (calls_so_far run n) ++ calls) reply from) [
        | true ↦ λ w. subst (λ l. words n x.ask l reply from) (sym (append_assoc (calls_so_far run n) (call ∷ []) calls)) (h.to_come n x e (call ∷ calls) reply from w)
        | false ↦ λ w. h.to_come n x e calls reply from w
      ] in
      let called_counted : (n : ℕ) (x : Owner) → old.owner n ≡ Some x → length (cond (nat_eq number n) (old.found n ++ old.holds server ask.key ∷ []) (old.found n)) ≡ length (cond (nat_eq number n) (calls_so_far run n ++ call ∷ []) (calls_so_far run n)) =
      λ n x e. elim (nat_eq number n) as (λ b. length (cond b (old.found n ++ old.holds server ask.key ∷ []) (old.found n)) ≡ length (cond b (calls_so_far run n ++ call ∷ []) (calls_so_far run n))) [
        | true ↦ length-append (old.found n) (old.holds server ask.key ∷ []) ∙ ap (λ m. m + 1) (h.counted n x e) ∙ sym (length-append (calls_so_far run n) (call ∷ []))
        | false ↦ h.counted n x e
      ] in
      let called_found : (n : ℕ) (x : Owner) → old.owner n ≡ Some x → (i : ℕ) (item : Item) → slice_get (cond (nat_eq number n) (old.found n ++ old.holds server ask.key ∷ []) (old.found n)) i ≡ Some (Some item) → cond (nat_eq number n) (cond (nat_eq (length (calls_so_far run n)) i) (held opening run server ask.key) (item_at opening run n i)) (item_at opening run n i) ≡ Some item =
      λ n x e i item. elim (nat_eq number n) as (λ b. slice_get (cond b (old.found n ++ old.holds server ask.key ∷ []) (old.found n)) i ≡ Some (Some item) → cond b (cond (nat_eq (length (calls_so_far run n)) i) (held opening run server ask.key) (item_at opening run n i)) (item_at opening run n i) ≡ Some item) [
        | true ↦ λ at. found_last (old.found n) (old.holds server ask.key) (held opening run server ask.key) (item_at opening run n i) item i (length (calls_so_far run n)) at (h.holds server ask.key) (h.counted n x e) (h.found n x e i item)
        | false ↦ λ at. h.found n x e i item at
      ] in
      record {
        follows = (((own, way, may.key, front, ends_well opening run (old.found number) number server ask origin end (old.holds server ask.key) (h.holds server ask.key) (h.found number may.owner may.held) may.ends), ap (λ l. ticket_in l number) (sym (h.out server)) ∙ may.out), h.follows);
        front = h.front;
        queue = h.queue;
        output = h.output;
        dropped = h.dropped;
        new = (way_below (old.number + 1) run number own h.new way, h.new);
        count = h.count;
        owner = h.owner;
        to_come = λ n x e calls reply from w. called_to_come n x e calls reply from w;
        out = λ s. ap (λ v. cond (nat_eq server s) (without_ticket number v) v) (h.out s);
        holds = λ s k. event_same opening event old.holds (held opening run) s k (h.holds s k) ∙ sym (held_after opening event run s k);
        counted = λ n x e. called_counted n x e;
        found = λ n x e i item at. called_found n x e i item at;
        turn = ap (λ n. n + 1) h.turn;
      }

  pub lost_more : (log : List (Entry P)) (old : OverlapState P) (server : ℕ) (key : List ℕ) (turned : Option Item) → LeadsTo words Bars opening log old → MayStep Bars old (Happens (Turns server key turned)) → LeadsTo words Bars opening (Happens (Turns server key turned) ∷ log) (after words (Happens (Turns server key turned)) old)
  lost_more log old server key turned h may =
      record {
        follows = (tt, h.follows);
        front = h.front;
        queue = h.queue;
        output = h.output;
        dropped = h.dropped;
        new = h.new;
        count = h.count;
        owner = h.owner;
        to_come = h.to_come;
        out = h.out;
        holds = λ s k. event_same opening (Turns server key turned) old.holds (held opening (run_of log)) s k (h.holds s k) ∙ sym (held_after opening (Turns server key turned) (run_of log) s k);
        counted = h.counted;
        found = h.found;
        turn = h.turn;
      }

  pub restarted_more : (log : List (Entry P)) (old : OverlapState P) (server : ℕ) → LeadsTo words Bars opening log old → MayStep Bars old (Happens (Restarts server)) → LeadsTo words Bars opening (Happens (Restarts server) ∷ log) (after words (Happens (Restarts server)) old)
  restarted_more log old server h may =
      record {
        follows = (tt, h.follows);
        front = h.front;
        queue = h.queue;
        output = h.output;
        dropped = h.dropped;
        new = h.new;
        count = h.count;
        owner = h.owner;
        to_come = h.to_come;
        out = h.out;
        holds = λ s k. event_same opening (Restarts server) old.holds (held opening (run_of log)) s k (h.holds s k) ∙ sym (held_after opening (Restarts server) (run_of log) s k);
        counted = h.counted;
        found = h.found;
        turn = h.turn;
      }

  pub ends_more : (log : List (Entry P)) (old : OverlapState P) (client : ℕ) (number : ℕ) (part : Part P) (reply : Answer) (from : Option ℕ) → LeadsTo words Bars opening log old → MayStep Bars old (Ends client number part reply from) → LeadsTo words Bars opening (Ends client number part reply from ∷ log) (after words (Ends client number part reply from) old)
  ends_more log old client number part reply from h may =
      let run = run_of log in
      let me : Owner = record { client = client; ask = part.ask } in
      let way : under_way run number ≡ Some part.ask = owner_way old.version log h.follows number me (sym (h.owner number) ∙ may.0) in
      let word : words number part.ask (calls_so_far run number) reply from = subst (λ l. words number part.ask l reply from) (append-nil (calls_so_far run number)) (h.to_come number me may.0 [] reply from may.1) in
      record {
        follows = (((part.ask, way, refl, word), sym (h.owner number) ∙ may.0, ap (λ q. slot_in q number) (sym (h.queue client)) ∙ may.2, λ more. subst (λ (x : Front P). P.Reads x.place part.message part.next) (h.front client) (may.3 more), (λ s. ap (λ l. ticket_in l number) (sym (h.out s)) ∙ may.4 s), sym (h.dropped client) ∙ may.5), h.follows);
        front = λ c. ap (λ v. cond (nat_eq client c) (after_end v part reply) v) (h.front c);
        queue = λ c. ap (λ v. cond (nat_eq client c) (answered_in number reply v) v) (h.queue c);
        output = h.output;
        dropped = h.dropped;
        new = (way_below (old.number + 1) run number part.ask h.new way, h.new);
        count = h.count;
        owner = λ n. ap (λ v. cond (nat_eq number n) None v) (h.owner n);
        to_come = λ n x e. h.to_come n x (held_before (nat_eq number n) (old.owner n) x e);
        out = h.out;
        holds = h.holds;
        counted = λ n x e. h.counted n x (held_before (nat_eq number n) (old.owner n) x e);
        found = λ n x e. h.found n x (held_before (nat_eq number n) (old.owner n) x e);
        turn = h.turn;
      }

  pub shows_more : (log : List (Entry P)) (old : OverlapState P) (client : ℕ) (slot : Slot P) (reply : Answer) → LeadsTo words Bars opening log old → MayStep Bars old (Shows client slot reply) → LeadsTo words Bars opening (Shows client slot reply ∷ log) (after words (Shows client slot reply) old)
  shows_more log old client slot reply h may =
      record {
        follows = (((may.0.0, sym (h.queue client) ∙ may.0.1), may.1, sym (h.dropped client) ∙ may.2), h.follows);
        front = h.front;
        queue = λ c. ap (λ v. cond (nat_eq client c) (behind_head v) v) (h.queue c);
        output = λ c. out_more (nat_eq client c) (given_of log c) (old.output c) (output_of old.version log c) (P.shown slot.message slot.index reply) (h.output c);
        dropped = h.dropped;
        new = h.new;
        count = h.count;
        owner = h.owner;
        to_come = h.to_come;
        out = h.out;
        holds = h.holds;
        counted = h.counted;
        found = h.found;
        turn = h.turn;
      }

  pub passes_more : (log : List (Entry P)) (old : OverlapState P) (client : ℕ) (message : P.Message) (next : P.Place) → LeadsTo words Bars opening log old → MayStep Bars old (Passes client message next) → LeadsTo words Bars opening (Passes client message next ∷ log) (after words (Passes client message next) old)
  passes_more log old client message next h may =
      record {
        follows = ((subst (λ (x : Front P). P.Reads x.place message next) (h.front client) may.0, may.1, sym (h.queue client) ∙ may.2, sym (h.dropped client) ∙ may.3), h.follows);
        front = λ c. ap (λ v. cond {A = Front P} (nat_eq client c) (record { place = next; index = 0; waits = false }) v) (h.front c);
        queue = h.queue;
        output = λ c. out_more (nat_eq client c) (given_of log c) (old.output c) (output_of old.version log c) (P.passed old.version message) (h.output c);
        dropped = h.dropped;
        new = h.new;
        count = h.count;
        owner = h.owner;
        to_come = h.to_come;
        out = h.out;
        holds = h.holds;
        counted = h.counted;
        found = h.found;
        turn = h.turn;
      }

  pub gives_more : (log : List (Entry P)) (old : OverlapState P) (client : ℕ) (bytes : List ℕ) → LeadsTo words Bars opening log old → MayStep Bars old (Gives client bytes) → LeadsTo words Bars opening (Gives client bytes ∷ log) (after words (Gives client bytes) old)
  gives_more log old client bytes h may =
      let all : given_of log client ++ bytes ≡ output_of old.version log client = ap (λ l. given_of log client ++ l) may ∙ h.output client in
      record {
        follows = (all, h.follows);
        front = h.front;
        queue = h.queue;
        output = λ c. (elim (nat_eq client c) as (λ b. nat_eq client c ≡ b → cond b (given_of log c ++ bytes) (given_of log c) ++ cond b [] (old.output c) ≡ output_of old.version log c) [
          | true ↦ λ same. append-nil (given_of log c ++ bytes) ∙ subst (λ d. given_of log d ++ bytes ≡ output_of old.version log d) (eqb-true client c same) all
          | false ↦ λ _. h.output c
        ]) refl;
        dropped = h.dropped;
        new = h.new;
        count = h.count;
        owner = h.owner;
        to_come = h.to_come;
        out = h.out;
        holds = h.holds;
        counted = h.counted;
        found = h.found;
        turn = h.turn;
      }

  pub drops_more : (log : List (Entry P)) (old : OverlapState P) (client : ℕ) → LeadsTo words Bars opening log old → MayStep Bars old (Drops client) → LeadsTo words Bars opening (Drops client ∷ log) (after words (Drops client) old)
  drops_more log old client h may =
      record {
        follows = (tt, h.follows);
        front = h.front;
        queue = h.queue;
        output = h.output;
        dropped = λ c. ap (λ v. cond (nat_eq client c) (true) v) (h.dropped c);
        new = h.new;
        count = h.count;
        owner = h.owner;
        to_come = h.to_come;
        out = h.out;
        holds = h.holds;
        counted = h.counted;
        found = h.found;
        turn = h.turn;
      }

  pub frees_more : (log : List (Entry P)) (old : OverlapState P) (number : ℕ) → LeadsTo words Bars opening log old → MayStep Bars old (Frees number) → LeadsTo words Bars opening (Frees number ∷ log) (after words (Frees number) old)
  frees_more log old number h may =
      let way : under_way (run_of log) number ≡ Some may.0.0.ask = owner_way old.version log h.follows number may.0.0 (sym (h.owner number) ∙ may.0.1) in
      record {
        follows = (((may.0.0.ask, way), (may.0.0, sym (h.owner number) ∙ may.0.1, sym (h.dropped may.0.0.client) ∙ may.0.2), (λ s. ap (λ l. ticket_in l number) (sym (h.out s)) ∙ may.1 s)), h.follows);
        front = h.front;
        queue = h.queue;
        output = h.output;
        dropped = h.dropped;
        new = (way_below (old.number + 1) (run_of log) number may.0.0.ask h.new way, h.new);
        count = h.count;
        owner = λ n. ap (λ v. cond (nat_eq number n) None v) (h.owner n);
        to_come = λ n x e. h.to_come n x (held_before (nat_eq number n) (old.owner n) x e);
        out = h.out;
        holds = h.holds;
        counted = λ n x e. h.counted n x (held_before (nat_eq number n) (old.owner n) x e);
        found = λ n x e. h.found n x (held_before (nat_eq number n) (old.owner n) x e);
        turn = h.turn;
      }

  pub resets_more : (log : List (Entry P)) (old : OverlapState P) (client : ℕ) → LeadsTo words Bars opening log old → MayStep Bars old (Resets client) → LeadsTo words Bars opening (Resets client ∷ log) (after words (Resets client) old)
  resets_more log old client h may =
      record {
        follows = ((λ n x e. may n x (h.owner n ∙ e)), h.follows);
        front = λ c. ap (λ v. cond (nat_eq client c) (start_front) v) (h.front c);
        queue = λ c. ap (λ v. cond (nat_eq client c) ([]) v) (h.queue c);
        output = λ c. elim (nat_eq client c) as (λ b. cond b [] (given_of log c) ++ cond b [] (old.output c) ≡ cond b [] (output_of old.version log c)) [
          | true ↦ refl
          | false ↦ h.output c
        ];
        dropped = λ c. ap (λ v. cond (nat_eq client c) (false) v) (h.dropped c);
        new = h.new;
        count = h.count;
        owner = h.owner;
        to_come = h.to_come;
        out = h.out;
        holds = h.holds;
        counted = h.counted;
        found = h.found;
        turn = h.turn;
      }

  -- any entry
  pub steps_more : (entry : Entry P) (log : List (Entry P)) (old : OverlapState P) → LeadsTo words Bars opening log old → MayStep Bars old entry → LeadsTo words Bars opening (entry ∷ log) (after words entry old)
  steps_more (Feeds client bytes) log old h may = feeds_more log old client bytes h may
  steps_more (Starts client number part) log old h may = starts_more log old client number part h may
  steps_more (Sends number server ask origin) log old h may = sends_more log old number server ask origin h may
  steps_more (Happens (Calls number server ask origin end)) log old h may = called_more log old number server ask origin end h may
  steps_more (Happens (Turns server key turned)) log old h may = lost_more log old server key turned h may
  steps_more (Happens (Restarts server)) log old h may = restarted_more log old server h may
  steps_more (Happens (Begins number ask)) log old h may = absurd may
  steps_more (Happens (Replies number key reply from)) log old h may = absurd may
  steps_more (Happens (Breaks number)) log old h may = absurd may
  steps_more (Ends client number part reply from) log old h may = ends_more log old client number part reply from h may
  steps_more (Shows client slot reply) log old h may = shows_more log old client slot reply h may
  steps_more (Passes client message next) log old h may = passes_more log old client message next h may
  steps_more (Gives client bytes) log old h may = gives_more log old client bytes h may
  steps_more (Drops client) log old h may = drops_more log old client h may
  steps_more (Frees number) log old h may = frees_more log old number h may
  steps_more (Resets client) log old h may = resets_more log old client h may

  walked_more : (entries : List (Entry P)) (log : List (Entry P)) (old : OverlapState P) → LeadsTo words Bars opening log old → MayWalk words Bars old entries → LeadsTo words Bars opening (entries ++ log) (walked words old entries)
  walked_more [] log old h may = h
  walked_more (entry ∷ entries) log old h may = steps_more entry (entries ++ log) (walked words old entries) (walked_more entries log old h may.1) may.0

  -- any entries: each log that led to the old state goes on by them, and leads to the new one
  pub walks_more : (entries : List (Entry P)) (log : List (Entry P)) (old new : OverlapState P) → LeadsTo words Bars opening log old → WalksTo words Bars old entries new → LeadsTo words Bars opening (entries ++ log) new
  walks_more entries log old new h w = like_more (entries ++ log) (walked words old entries) new (walked_more entries log old h w.may) w.like

module _ {P : Protocol} (words : Words) (Bars : ℕ → Ask → ℕ → Ask → Type 0) where
  -- entries that may come lead on
  pub walks_lead : (old new : OverlapState P) (entries : List (Entry P)) → WalksTo words Bars old entries new → Leads words Bars old entries new
  walks_lead old new entries w = λ opening log h. walks_more words Bars opening entries log old new h w

  -- entries that lead from one state to a second, and then others to a third, lead from the first to the third
  pub leads_on : (old mid new : OverlapState P) (first second : List (Entry P)) → Leads words Bars old first mid → Leads words Bars mid second new → Leads words Bars old (second ++ first) new
  leads_on old mid new first second a b = λ opening log h. subst (λ l. LeadsTo words Bars opening l new) (sym (append_assoc second first log)) (b opening (first ++ log) (a opening log h))
