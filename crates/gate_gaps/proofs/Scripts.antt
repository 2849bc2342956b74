-- A run that leaks has a log of its script.
use Rattle.std.proofs.Common.{◌≡◌, ℕ, zero, suc, ◌+◌, ◌<◌, ◌≤◌, Bool, true, false, cond, List, [], ◌∷◌, ◌++◌, length, map, Option, Some, None, ◌⊎◌, inl, inr, ⊎_elim, refl, sym, ap, ◌∙◌, subst, arith, nat_eq, append_assoc, append-nil, slice_get}
use Rattle.std.proofs.lemmas.Bool.{eqb-true, eq-eqb, cases_lt}
use Rattle.std.proofs.lemmas.List.{map-append}
use Rattle.mc_types.specs.declared.ask.Ask.{Ask}
use Rattle.mc_types.specs.declared.answer.Answer.{Answer}
use Rattle.mc_types.specs.declared.call.Outcome.{Outcome}
use Rattle.mc_types.specs.declared.call.Outcome.TheVariants.{Answered, Failed}
use Rattle.mc_types.specs.Items.{Item}
use Rattle.fresh_runs.specs.Calls.{Call, Words, outcome_of}
use Rattle.fresh_runs.specs.Run.{Event, Begins, Calls, Replies, under_way, calls_so_far, commands_in, MayCome, Run, IsFreshByNumber}
use Rattle.fresh_runs.specs.Protocol.{Protocol, IsStuck}
use Rattle.fresh_runs.specs.Log.{Manner, Before, Scripted, Piece, Result, Fail, Hold, Part}
use Rattle.fresh_runs.specs.Overlap.{Front, Slot, Owner, Ticket, ticket_in, without_ticket, Entry, Feeds, Starts, Sends, Happens, Ends, Shows, Gives, is_last, part_slot, slot_in, answered_in, behind_head, run_of, front_of, queue_of, output_of, given_of, owner_of, out_of, is_dropped, IsNext, MayFollow, NothingIsLeft}
use Rattle.fresh_runs.specs.OverlapStream.{IsReplied}
use Rattle.fresh_runs.specs.ScriptLog.{Cue, Plays, Line, Takes, Results, Does, entries_by, core_of, losses_of, made_in, named_in, script_of, said_of, fed_of, current, latest, EndsAs, IsAwaited, IsStill, IsQuiet, IsOver, IsMade, MayBe, IsScript}
use Rattle.route_tree.specs.Each.{Each}
use Rattle.gate_coverage.proofs.Choices.{bool_is}
use Rattle.gate_gaps.specs.Beside.{IsTry}
use Rattle.gate_gaps.specs.Leaking.{call_end, played}
use Rattle.gate_gaps.specs.Scripts.{fail_lines, leaking_script, Leaks}
use Rattle.gate_gaps.proofs.Trying.{pick_true, pick_false}

-- from this place the text is read as one message that asks this alone, and is done with its reply
pub record IsOneAsk (P : Protocol) (place : P.Place) (text : List ℕ) (ask : Ask) (reply : Answer) (message : P.Message) (next : P.Place) : Type 0 where
  pub reads : P.Reads (P.fed place text) message next
  pub asks : P.asks_of message ≡ ask ∷ []
  pub ends : P.ends message 0 reply ≡ true
  pub stuck : IsStuck P next

-- ---- small facts

not_zero : (c : ℕ) → nat_eq 0 (suc c) ≡ false
not_zero c = ⊎_elim (λ (is : nat_eq 0 (suc c) ≡ true). absurd (let e = eqb-true 0 (suc c) is in omega arith)) (λ no. no) (bool_is (nat_eq 0 (suc c)))

by_client : (F : ℕ → Type 0) → F 0 → ((c : ℕ) → F (suc c)) → (c : ℕ) → F c
by_client F z f zero = z
by_client F z f (suc c) = f c

lower_differs : (n m : ℕ) → m < n → nat_eq n m ≡ false
lower_differs n m lt = ⊎_elim (λ (is : nat_eq n m ≡ true). absurd (let e = eqb-true n m is in omega arith)) (λ no. no) (bool_is (nat_eq n m))

same_some : {A : Type 0} (x y : A) → Some x ≡ Some y → x ≡ y
same_some x y e = cc

no_some : {A : Type 0} (o : Option A) (x : A) → o ≡ None → o ≡ Some x → ⊥
no_some o x e f = cc

no_more : {A : Type 0} (l : List A) (x : A) (xs : List A) → l ≡ [] → l ≡ x ∷ xs → ⊥
no_more l x xs e f = cc

same_head : {A : Type 0} (l : List A) (x y : A) (xs : List A) → l ≡ x ∷ [] → l ≡ y ∷ xs → x ≡ y
same_head l x y xs e f = cc

-- whose a command is, where there is but one
only_owner : {A : Type 0} (b : Bool) (o p : A) → cond b (Some p) None ≡ Some o → (b ≡ true) × (p ≡ o)
only_owner true o p e = (refl, same_some p o e)
only_owner false o p e = absurd (no_some None o refl e)

over_after : {A : Type 0} (b : Bool) (x : A) → cond b None (cond b (Some x) None) ≡ None
over_after true x = refl
over_after false x = refl

-- ---- the turns that fail

-- a call fails where its turn is named, and is answered where it isn't
abbrev pub IsNamed : Option Manner → Outcome → Type 0
IsNamed name Failed = name ≡ Some Before
IsNamed name (Answered answer) = name ≡ None

-- each call from turn m + 1 on fails where its turn is named, and is answered where it isn't
abbrev pub AreNamed : (ℕ → Option Manner) → ℕ → List Call → Type 0
AreNamed name m [] = Unit {0}
AreNamed name m (c ∷ calls) = IsNamed (name (m + 1)) c.outcome × AreNamed name (m + 1) calls

tries_named : (name : ℕ → Option Manner) (key : List ℕ) (m k : ℕ) (calls : List Call) → Each (IsTry key) calls → length calls ≤ k → ((t : ℕ) → m < t → t ≤ m + k → name t ≡ Some Before) → AreNamed name m calls
tries_named name key m k [] h le is = tt
tries_named name key m zero (c ∷ calls) h le is = absurd (let q = le in omega arith)
tries_named name key m (suc k) (c ∷ calls) h le is = (
  subst (IsNamed (name (m + 1))) (sym h.0.1) (is (m + 1) (omega arith) (omega arith)),
  tries_named name key (m + 1) k calls h.1 (let q = le in omega arith) (λ t lt le'. is t (let a = lt in omega arith) (let b = le' in omega arith)),
)

abbrev pub IsAnswered : Call → Type 0
IsAnswered c = (answer : Answer) × (c.outcome ≡ Answered answer)

answered_named : (name : ℕ → Option Manner) (m : ℕ) (calls : List Call) → Each IsAnswered calls → ((t : ℕ) → m < t → name t ≡ None) → AreNamed name m calls
answered_named name m [] h is = tt
answered_named name m (c ∷ calls) h is = (subst (IsNamed (name (m + 1))) (sym h.0.1) (is (m + 1) (omega arith)), answered_named name (m + 1) calls h.1 (λ t lt. is t (let a = lt in omega arith)))

-- ---- calls of a run

commands_played : (n : ℕ) (calls : List Call) (past : List Event) → commands_in (played n calls past) ≡ commands_in past
commands_played n [] past = refl
commands_played n (c ∷ calls) past = commands_played n calls (Calls n c.server c.ask c.origin (call_end n c.outcome) ∷ past)

replied_played : (n m : ℕ) (key : List ℕ) (reply : Answer) (calls : List Call) (past : List Event) → IsReplied past m key reply → IsReplied (played n calls past) m key reply
replied_played n m key reply [] past h = h
replied_played n m key reply (c ∷ calls) past h = replied_played n m key reply calls (Calls n c.server c.ask c.origin (call_end n c.outcome) ∷ past) (inr h)

module _ (words : Words) (Bars : ℕ → Ask → ℕ → Ask → Type 0) (opening : ℕ → List ℕ → Option Item) where
  run_before : (n : ℕ) (calls : List Call) (past : List Event) → Run words Bars opening (played n calls past) → Run words Bars opening past
  run_before n [] past r = r
  run_before n (c ∷ calls) past r = (run_before n calls (Calls n c.server c.ask c.origin (call_end n c.outcome) ∷ past) r).1

-- a call that was out has its result
back_in : (b : Bool) (n : ℕ) (ticket : Ticket) (tickets : List Ticket) → ticket.number ≡ n → tickets ≡ [] → cond b (without_ticket n (cond b (tickets ++ ticket ∷ []) tickets)) (cond b (tickets ++ ticket ∷ []) tickets) ≡ []
back_in true n ticket tickets e f = ap (λ l. without_ticket n (l ++ ticket ∷ [])) f ∙ pick_true (nat_eq ticket.number n) [] (ticket ∷ []) (eq-eqb ticket.number n e)
back_in false n ticket tickets e f = f

-- no tree is ever loaded
abbrev Lines : Protocol → Type 0
Lines P = List (Line P (Unit {0}))

-- ---- the events that name turns

module _ {P : Protocol} where
  abbrev fails_log : ℕ → Lines P → Lines P
  fails_log zero log = log
  fails_log (suc n) log = Takes (Plays (Fail (suc n) Before)) ∷ fails_log n log

  fails_core : (n : ℕ) (log : Lines P) → core_of (fails_log n log) ≡ core_of log
  fails_core zero log = refl
  fails_core (suc n) log = fails_core n log

  fails_made : (n : ℕ) (log : Lines P) → made_in (fails_log n log) ≡ made_in log
  fails_made zero log = refl
  fails_made (suc n) log = fails_made n log

  fails_script : (n : ℕ) (log : Lines P) → script_of (fails_log n log) ≡ script_of log ++ map Plays (fail_lines n)
  fails_script zero log = sym (append-nil (script_of log))
  fails_script (suc n) log =
      ap (λ l. l ++ Plays (Fail (suc n) Before) ∷ []) (fails_script n log)
      ∙ append_assoc (script_of log) (map Plays (fail_lines n)) (Plays (Fail (suc n) Before) ∷ [])
      ∙ ap (λ l. script_of log ++ l) (sym (map-append Plays (fail_lines n) (Fail (suc n) Before ∷ [])))

  -- the turns that they name, and the others
  fails_named : (n : ℕ) (log : Lines P) (t : ℕ) → made_in log < t → t ≤ made_in log + n → named_in (fails_log n log) t ≡ Some Before
  fails_named zero log t lt le = absurd (omega arith)
  fails_named (suc n) log t lt le =
      let m = made_in (fails_log n log) in
      let same : m ≡ made_in log = fails_made n log in
      ⊎_elim
      (λ (is : nat_eq (m + suc n) t ≡ true). pick_true (nat_eq (m + suc n) t) (Some Before) (named_in (fails_log n log) t) is)
      (λ (is : nat_eq (m + suc n) t ≡ false). pick_false (nat_eq (m + suc n) t) (Some Before) (named_in (fails_log n log) t) is ∙ fails_named n log t lt (smaller (m + suc n) t (made_in log + n) (let e = same in omega arith) (let q = le in omega arith) is))
      (bool_is (nat_eq (m + suc n) t))
    where
      smaller : (a u q : ℕ) → a ≡ suc q → u ≤ suc q → nat_eq a u ≡ false → u ≤ q
      smaller a u q e h is =
          ⊎_elim (λ (lt : u < suc q). (let l = lt in omega arith)) (λ (le : suc q ≤ u). absurd (let x = eq-eqb a u (let f = e in let g = h in let l = le in omega arith) in cc)) (cases_lt u (suc q))

  fails_other : (n : ℕ) (log : Lines P) (t : ℕ) → made_in log + n < t → named_in (fails_log n log) t ≡ named_in log t
  fails_other zero log t lt = refl
  fails_other (suc n) log t lt =
      let m = made_in (fails_log n log) in
      let same : m ≡ made_in log = fails_made n log in
      ⊎_elim
      (λ (is : nat_eq (m + suc n) t ≡ true). absurd (let e = eqb-true (m + suc n) t is in let f = same in omega arith))
      (λ (is : nat_eq (m + suc n) t ≡ false). pick_false (nat_eq (m + suc n) t) (Some Before) (named_in (fails_log n log) t) is ∙ fails_other n log t (omega arith))
      (bool_is (nat_eq (m + suc n) t))

  -- ---- between two events

  -- the core has nothing left to do and no call is out, and its first client's reader stands there
  record RestsAt (version : List ℕ) (core : List (Entry P)) (place : P.Place) : Type 0 where
    settled : NothingIsLeft version core
    front : front_of core 0 ≡ record { place = place; index = 0; waits = false }
    out : (s : ℕ) → out_of core s ≡ []
    served : (c : ℕ) → is_dropped core c ≡ false

  -- ---- while a command is under way

  -- command n of the first client is under way, its message is its last, and none of its calls is out
  record BusyAt (version : List ℕ) (core : List (Entry P)) (n : ℕ) (part : Part P) (past : List Event) : Type 0 where
    run_is : run_of core ≡ past
    front : front_of core 0 ≡ record { place = part.next; index = 0; waits = false }
    stuck : (c : ℕ) → IsStuck P (front_of core c).place
    queue : queue_of core 0 ≡ part_slot n part ∷ []
    others : (c : ℕ) → queue_of core (suc c) ≡ []
    given : (c : ℕ) → given_of core c ≡ output_of version core c
    owner : (m : ℕ) → owner_of core m ≡ cond (nat_eq n m) (Some (record { client = 0; ask = part.ask })) None
    out : (s : ℕ) → out_of core s ≡ []
    served : (c : ℕ) → is_dropped core c ≡ false

  abbrev played_log : ℕ → List Call → Lines P → Lines P
  played_log n [] log = log
  played_log n (c ∷ calls) log = played_log n calls (Results n c.server c.ask c.origin (call_end n c.outcome) ∷ Does (Sends n c.server c.ask c.origin) ∷ log)

  played_made : (n : ℕ) (calls : List Call) (log : Lines P) → made_in (played_log n calls log) ≡ made_in log + length calls
  played_made n [] log = omega arith
  played_made n (c ∷ calls) log = let e = played_made n calls (Results n c.server c.ask c.origin (call_end n c.outcome) ∷ Does (Sends n c.server c.ask c.origin) ∷ log) in omega arith

  module _ (words : Words) (Bars : ℕ → Ask → ℕ → Ask → Type 0) (opening : ℕ → List ℕ → Option Item) (version : List ℕ) where
    abbrev Is : Lines P → Type 0
    Is log = (depth window : ℕ) (text_of : Ask → Answer → List ℕ) → IsScript (tt {0}) (λ tree. words) Bars opening version depth window text_of (λ log server key. ⊥) log

    abbrev May : Lines P → Line P (Unit {0}) → Type 0
    May log line = (depth window : ℕ) (text_of : Ask → Answer → List ℕ) → MayBe (tt {0}) (λ tree. words) Bars opening version depth window text_of (λ log server key. ⊥) log line

    more : (log : Lines P) (line : Line P (Unit {0})) → May log line → Is log → Is (line ∷ log)
    more log line may is depth window text_of = (may depth window text_of, is depth window text_of)

    record Rests (log : Lines P) (place : P.Place) : Type 0 where
      core : RestsAt version (core_of log) place
      fed : (c : ℕ) → fed_of log c ≡ said_of log c
      lost : (t : ℕ) → losses_of log t ≡ []
      script : Is log

    -- ---- the next event may be taken up

    module _ (depth window : ℕ) (text_of : Ask → Answer → List ℕ) where
      over : (late : Option (Cue (Unit {0}))) (core : List (Entry P)) → ((s : ℕ) → out_of core s ≡ []) → IsOver (tt {0}) (λ tree. words) Bars opening version depth window text_of (λ log server key. ⊥) late core
      over (Some (Plays (Piece c b))) core out = out
      over late core out = tt

      made : (now : Option (Cue (Unit {0}))) (core : List (Entry P)) → ((s : ℕ) → out_of core s ≡ []) → IsMade (tt {0}) (λ tree. words) Bars opening version depth window text_of (λ log server key. ⊥) now core
      made (Some (Plays (Result s))) core out = out s
      made now core out = tt

      quiet : (core : List (Entry P)) → NothingIsLeft version core → IsQuiet (tt {0}) (λ tree. words) Bars opening version depth window text_of (λ log server key. ⊥) words core
      quiet core settled = (
        record {
          shown = λ c slot slots e. absurd (no_more (queue_of core c) slot slots (settled.shown c) e);
          started = λ c part next few first apart. settled.stuck c part.message part.next next.reads;
          passed = λ c message next reads asks empty. settled.stuck c message next reads;
          ended = λ n o reply from e word. no_some (owner_of core n) o (settled.free n) e;
          sent = λ n o e. absurd (no_some (owner_of core n) o (settled.free n) e);
        },
        settled.given,
      )

    taken : (log : Lines P) (place : P.Place) (event : Scripted) → Rests log place → May log (Takes (Plays event))
    taken log place event r depth window text_of =
        (quiet depth window text_of (core_of log) r.core.settled, over depth window text_of (latest log) (core_of log) r.core.out, made depth window text_of (current log) (core_of log) r.core.out, r.fed)

    fails_rest : (n : ℕ) (log : Lines P) (place : P.Place) → Rests log place → Rests (fails_log n log) place
    fails_rest zero log place r = r
    fails_rest (suc n) log place r =
        let h = fails_rest n log place r in
        record {
          core = h.core;
          fed = λ c. h.fed c ∙ sym (append-nil (said_of (fails_log n log) c));
          lost = h.lost;
          script = more (fails_log n log) (Takes (Plays (Fail (suc n) Before))) (taken (fails_log n log) place (Fail (suc n) Before) h) h.script;
        }

    -- ---- a piece, and its command

    -- what lines since the piece leave
    record Busy (old log : Lines P) (n : ℕ) (part : Part P) (text : List ℕ) (past : List Event) : Type 0 where
      core : BusyAt version (core_of log) n part past
      way : under_way past n ≡ Some part.ask
      fed : (c : ℕ) → fed_of log c ≡ said_of log c
      lost : (t : ℕ) → losses_of log t ≡ []
      script_is : script_of log ≡ script_of old ++ Plays (Piece 0 text) ∷ []
      named : (t : ℕ) → named_in log t ≡ named_in old t
      late : latest log ≡ Some (Plays (Piece 0 text))
      now : (current log ≡ Some (Plays (Piece 0 text))) ⊎ (current log ≡ None)
      script : Is log

    -- what a piece with one command leaves
    record Done (old new : Lines P) (text : List ℕ) (next : P.Place) (past : List Event) : Type 0 where
      rests : Rests new next
      run_is : run_of (core_of new) ≡ past
      script_is : script_of new ≡ script_of old ++ Plays (Piece 0 text) ∷ []
      named : (t : ℕ) → named_in new t ≡ named_in old t

    module _ (old : Lines P) (place : P.Place) (rests : Rests old place) (n : ℕ) (part : Part P) (text : List ℕ) (reply : Answer) (from : Option ℕ) (one : IsOneAsk P place text part.ask reply part.message part.next) (first : part.index ≡ 0) where
      at_last : is_last part ≡ true
      at_last = ap (λ i. nat_eq (i + 1) (length (P.asks_of part.message))) first ∙ ap (λ (l : List Ask). nat_eq 1 (length l)) one.asks

      abbrev l1 : Lines P
      l1 = Takes (Plays (Piece 0 text)) ∷ old

      abbrev l2 : Lines P
      l2 = Does (Feeds 0 text) ∷ l1

      abbrev l3 : Lines P
      l3 = Does (Starts 0 n part) ∷ l2

      is_next : IsNext (front_of (core_of l2) 0) part
      is_next =
          subst (λ (q : Front P). IsNext {P = P} (record { place = P.fed q.place text; index = q.index; waits = q.waits }) part) (sym rests.core.front)
          (record { reads = one.reads; index = first; asks = ap (λ i. slice_get (P.asks_of part.message) i) first ∙ ap (λ (l : List Ask). slice_get l 0) one.asks; ready = refl })

      front_is : front_of (core_of l3) 0 ≡ record { place = part.next; index = 0; waits = false }
      front_is = pick_true (is_last part) _ _ at_last

      begins : (n ≡ commands_in (run_of (core_of old)) + 1) → MayCome words Bars opening (run_of (core_of old)) (Begins n part.ask) → Busy old l3 n part text (Begins n part.ask ∷ run_of (core_of old))
      begins count may = record {
        core = record {
          run_is = refl;
          front = front_is;
          stuck = by_client (λ c. IsStuck P (front_of (core_of l3) c).place) (subst (λ (q : Front P). IsStuck P q.place) (sym front_is) one.stuck)
              (λ c. subst (λ (q : Front P). IsStuck P q.place) (sym (pick_false (nat_eq 0 (suc c)) _ (front_of (core_of l2) (suc c)) (not_zero c) ∙ pick_false (nat_eq 0 (suc c)) _ (front_of (core_of old) (suc c)) (not_zero c))) (rests.core.settled.stuck (suc c)));
          queue = ap (λ l. l ++ part_slot n part ∷ []) (rests.core.settled.shown 0);
          others = λ c. pick_false (nat_eq 0 (suc c)) _ (queue_of (core_of old) (suc c)) (not_zero c) ∙ rests.core.settled.shown (suc c);
          given = rests.core.settled.given;
          owner = λ m. ap (λ o. cond (nat_eq n m) (Some (record { client = 0; ask = part.ask })) o) (rests.core.settled.free m);
          out = rests.core.out;
          served = rests.core.served;
        };
        way = pick_true (nat_eq n n) (Some part.ask) (under_way (run_of (core_of old)) n) (eq-eqb n n refl);
        fed = λ c. append-nil (fed_of l2 c) ∙ ap (λ l. l ++ cond (nat_eq 0 c) text []) (rests.fed c);
        lost = rests.lost;
        script_is = refl;
        named = λ t. refl;
        late = refl;
        now = inl refl;
        script = more l2 (Does (Starts 0 n part)) (λ depth window text_of. (tt, tt, (may, is_next, (λ m o e whose same. no_some (owner_of (core_of old) m) o (rests.core.settled.free m) e), count, rests.core.served 0)))
            (more l1 (Does (Feeds 0 text)) (λ depth window text_of. (tt, ([], ap (λ l. l ++ (text ++ [])) (rests.fed 0) ∙ ap (λ l. said_of old 0 ++ l) (append-nil text)), rests.core.served 0))
            (more old (Takes (Plays (Piece 0 text))) (taken old place (Piece 0 text) rests) rests.script));
      }

      -- ---- a call

      module _ (ends : (m : ℕ) (ask : Ask) (front : List Call) (call : Call) (rest : List Call) (r1 r2 : Answer) (f1 f2 : Option ℕ) → words m ask front r1 f1 → words m ask (front ++ call ∷ rest) r2 f2 → ⊥) where
        ends_as : (depth window : ℕ) (text_of : Ask → Answer → List ℕ) (ask : Ask) (name : Option Manner) (outcome : Outcome) → IsNamed name outcome → EndsAs {P = P} (tt {0}) (λ tree. words) Bars opening version depth window text_of (λ log server key. ⊥) ask name (call_end n outcome)
        ends_as depth window text_of ask name Failed is = subst (λ m. EndsAs {P = P} (tt {0}) (λ tree. words) Bars opening version depth window text_of (λ log server key. ⊥) ask m (call_end n Failed)) (sym is) tt
        ends_as depth window text_of ask name (Answered answer) is = subst (λ m. EndsAs {P = P} (tt {0}) (λ tree. words) Bars opening version depth window text_of (λ log server key. ⊥) ask m (call_end n (Answered answer))) (sym is) tt

        awaited : (depth window : ℕ) (text_of : Ask → Answer → List ℕ) (now late : Option (Cue (Unit {0}))) (core : List (Entry P)) (server : ℕ) → ((now ≡ Some (Plays (Piece 0 text))) ⊎ (now ≡ None)) → late ≡ Some (Plays (Piece 0 text)) → ((s : ℕ) → s < server → out_of core s ≡ []) → IsAwaited (tt {0}) (λ tree. words) Bars opening version depth window text_of (λ log server key. ⊥) now late core server
        awaited depth window text_of now late core server (inl e) f h =
            subst (λ a. IsAwaited (tt {0}) (λ tree. words) Bars opening version depth window text_of (λ log server key. ⊥) a late core server) (sym e) (subst (λ b. IsAwaited (tt {0}) (λ tree. words) Bars opening version depth window text_of (λ log server key. ⊥) (Some (Plays (Piece 0 text))) b core server) (sym f) h)
        awaited depth window text_of now late core server (inr e) f h =
            subst (λ a. IsAwaited (tt {0}) (λ tree. words) Bars opening version depth window text_of (λ log server key. ⊥) a late core server) (sym e) (subst (λ b. IsAwaited (tt {0}) (λ tree. words) Bars opening version depth window text_of (λ log server key. ⊥) None b core server) (sym f) h)

        module _ (log : Lines P) (past : List Event) (busy : Busy old log n part text past) (c : Call) (may : MayCome words Bars opening past (Calls n c.server c.ask c.origin (call_end n c.outcome))) (name : IsNamed (named_in old (made_in log + 1)) c.outcome) where
          abbrev ticket : Ticket
          ticket = record { number = n; ask = c.ask; origin = c.origin }

          abbrev event : Event
          event = Calls n c.server c.ask c.origin (call_end n c.outcome)

          -- the call as a run reads it back
          abbrev read_back : Call
          read_back = record { server = c.server; ask = c.ask; origin = c.origin; outcome = outcome_of (call_end n c.outcome) }

          abbrev sent : Lines P
          sent = Does (Sends n c.server c.ask c.origin) ∷ log

          abbrev core1 : List (Entry P)
          core1 = core_of sent

          abbrev settled : Lines P
          settled = Results n c.server c.ask c.origin (call_end n c.outcome) ∷ sent

          asked : may.0 ≡ part.ask
          asked = same_some may.0 part.ask (sym may.1 ∙ busy.way)

          owned : owner_of (core_of log) n ≡ Some (record { client = 0; ask = part.ask })
          owned = busy.core.owner n ∙ pick_true (nat_eq n n) _ None (eq-eqb n n refl)

          is_out : out_of core1 c.server ≡ ticket ∷ []
          is_out = pick_true (nat_eq c.server c.server) _ (out_of (core_of log) c.server) (eq-eqb c.server c.server refl) ∙ ap (λ l. l ++ ticket ∷ []) (busy.core.out c.server)

          found : ticket_in (out_of core1 c.server) n ≡ Some ticket
          found = ap (λ l. ticket_in l n) is_out ∙ pick_true (nat_eq n n) (Some ticket) None (eq-eqb n n refl)

          -- the command has a further call
          not_over : (m : ℕ) (o : Owner) (r : Answer) (f : Option ℕ) → owner_of core1 m ≡ Some o → words m o.ask (calls_so_far (run_of core1) m) r f → ⊥
          not_over m o r f e word =
              let mine = only_owner (nat_eq n m) o (record { client = 0; ask = part.ask }) (sym (busy.core.owner m) ∙ e) in
              let here : words n may.0 (calls_so_far past n) r f =
              subst (λ (a : Ask). words n a (calls_so_far past n) r f) (sym asked)
              (subst (λ k. words k part.ask (calls_so_far past k) r f) (sym (eqb-true n m mine.0))
              (subst (λ (p : Owner). words m p.ask (calls_so_far past m) r f) (sym mine.1)
              (subst (λ l. words m o.ask (calls_so_far l m) r f) busy.core.run_is word))) in
              let front = may.3 in
              ends n may.0 (calls_so_far past n) read_back front.0 r front.1 f front.2 here
              (subst (λ l. words n may.0 l front.1 front.2) (append_assoc (calls_so_far past n) (read_back ∷ []) front.0) front.3)

          still : (depth window : ℕ) (text_of : Ask → Answer → List ℕ) → IsStill (tt {0}) (λ tree. words) Bars opening version depth window text_of (λ log server key. ⊥) words core1
          still depth window text_of = record {
            shown = by_client (λ d. (slot : Slot P) (slots : List (Slot P)) → queue_of core1 d ≡ slot ∷ slots → slot.reply ≡ None)
                (λ slot slots e. ap (λ (s : Slot P). s.reply) (sym (same_head (queue_of core1 0) (part_slot n part) slot slots busy.core.queue e)))
                (λ d slot slots e. absurd (no_more (queue_of core1 (suc d)) slot slots (busy.core.others d) e));
            started = λ d p next few first apart. busy.core.stuck d p.message p.next next.reads;
            passed = λ d message next reads asks empty. busy.core.stuck d message next reads;
            ended = not_over;
            sent = λ m o e. inl (c.server, ticket, ap (ticket_in (out_of core1 c.server)) (sym (eqb-true n m (only_owner (nat_eq n m) o (record { client = 0; ask = part.ask }) (sym (busy.core.owner m) ∙ e)).0)) ∙ found);
          }

          lost_none : entries_by (losses_of sent (made_in sent + 1)) core1 ≡ core1
          lost_none = ap (λ l. entries_by l core1) (busy.lost (made_in log + 1))

          -- servers before this one have no call out
          lowest : (s : ℕ) → s < c.server → out_of core1 s ≡ []
          lowest s lt = pick_false (nat_eq c.server s) _ (out_of (core_of log) s) (lower_differs c.server s lt) ∙ busy.core.out s

          may_send : May log (Does (Sends n c.server c.ask c.origin))
          may_send depth window text_of =
              (tt, tt, ((record { client = 0; ask = part.ask }, owned, may.2 ∙ ap (λ (a : Ask). a.key) asked), λ s. ap (λ l. ticket_in l n) (busy.core.out s)))

          may_settle : May sent (Results n c.server c.ask c.origin (call_end n c.outcome))
          may_settle depth window text_of = (
            subst (λ l. MayFollow words Bars opening version l (Happens event)) (sym lost_none) (subst (λ l. MayCome words Bars opening l event) (sym busy.core.run_is) may, found),
            ends_as depth window text_of c.ask (named_in sent (made_in sent + 1)) c.outcome (subst (λ m. IsNamed m c.outcome) (sym (busy.named (made_in log + 1))) name),
            awaited depth window text_of (current sent) (latest sent) core1 c.server busy.now busy.late lowest,
            still depth window text_of,
            ([], is_out),
          )

          settled_core : BusyAt version (Happens event ∷ core1) n part (event ∷ past)
          settled_core = record {
            run_is = ap (λ l. event ∷ l) busy.core.run_is;
            front = busy.core.front;
            stuck = busy.core.stuck;
            queue = busy.core.queue;
            others = busy.core.others;
            given = busy.core.given;
            owner = busy.core.owner;
            out = λ s. back_in (nat_eq c.server s) n ticket (out_of (core_of log) s) refl (busy.core.out s);
            served = busy.core.served;
          }

          one_call : Busy old settled n part text (event ∷ past)
          one_call = record {
            core = subst (λ l. BusyAt version (Happens event ∷ l) n part (event ∷ past)) (sym lost_none) settled_core;
            way = busy.way;
            fed = λ d. append-nil (fed_of log d) ∙ busy.fed d;
            lost = busy.lost;
            script_is = busy.script_is;
            named = busy.named;
            late = busy.late;
            now = inr refl;
            script = more sent (Results n c.server c.ask c.origin (call_end n c.outcome)) may_settle (more log (Does (Sends n c.server c.ask c.origin)) may_send busy.script);
          }

        calls : (log : Lines P) (past : List Event) (cs : List Call) → Busy old log n part text past → Run words Bars opening (played n cs past) → AreNamed (named_in old) (made_in log) cs → Busy old (played_log n cs log) n part text (played n cs past)
        calls log past [] busy run named = busy
        calls log past (c ∷ cs) busy run named =
            let event = Calls n c.server c.ask c.origin (call_end n c.outcome) in
            calls (Results n c.server c.ask c.origin (call_end n c.outcome) ∷ Does (Sends n c.server c.ask c.origin) ∷ log) (event ∷ past) cs (one_call log past busy c (run_before words Bars opening n cs (event ∷ past) run).0 named.0) run named.1

      -- ---- the reply

      module _ (log : Lines P) (past : List Event) (busy : Busy old log n part text past) (may : MayCome words Bars opening past (Replies n part.ask.key reply from)) where
        abbrev slot : Slot P
        slot = record { number = n; message = part.message; index = part.index; ask = part.ask; reply = Some reply }

        abbrev e1 : Lines P
        e1 = Does (Ends 0 n part reply from) ∷ log

        abbrev e2 : Lines P
        e2 = Does (Shows 0 slot reply) ∷ e1

        abbrev e3 : Lines P
        e3 = Does (Gives 0 (P.shown part.message part.index reply)) ∷ e2

        queued : queue_of (core_of e1) 0 ≡ slot ∷ []
        queued = ap (answered_in n reply) busy.core.queue ∙ pick_true (nat_eq n n) (slot ∷ []) (part_slot n part ∷ []) (eq-eqb n n refl)

        front_stays : front_of (core_of e3) 0 ≡ record { place = part.next; index = 0; waits = false }
        front_stays = pick_true (is_last part) (front_of (core_of log) 0) _ at_last ∙ busy.core.front

        given_is : given_of (core_of e2) 0 ++ P.shown part.message part.index reply ≡ output_of version (core_of e2) 0
        given_is = ap (λ l. l ++ P.shown part.message part.index reply) (busy.core.given 0)

        ended : Done old e3 text part.next (Replies n part.ask.key reply from ∷ past)
        ended = record {
          rests = record {
            core = record {
              settled = record {
                stuck = by_client (λ d. IsStuck P (front_of (core_of e3) d).place) (subst (λ (q : Front P). IsStuck P q.place) (sym front_stays) one.stuck)
                    (λ d. subst (λ (q : Front P). IsStuck P q.place) (sym (pick_false (nat_eq 0 (suc d)) _ (front_of (core_of log) (suc d)) (not_zero d))) (busy.core.stuck (suc d)));
                shown = by_client (λ d. queue_of (core_of e3) d ≡ []) (ap behind_head queued) (λ d. pick_false (nat_eq 0 (suc d)) _ (queue_of (core_of e1) (suc d)) (not_zero d) ∙ pick_false (nat_eq 0 (suc d)) _ (queue_of (core_of log) (suc d)) (not_zero d) ∙ busy.core.others d);
                given = by_client (λ d. given_of (core_of e3) d ≡ output_of version (core_of e3) d) given_is (λ d. pick_false (nat_eq 0 (suc d)) _ (given_of (core_of log) (suc d)) (not_zero d) ∙ busy.core.given (suc d) ∙ sym (pick_false (nat_eq 0 (suc d)) _ (output_of version (core_of log) (suc d)) (not_zero d)));
                free = λ m. ap (λ o. cond (nat_eq n m) None o) (busy.core.owner m) ∙ over_after (nat_eq n m) (record { client = 0; ask = part.ask });
              };
              front = front_stays;
              out = busy.core.out;
              served = busy.core.served;
            };
            fed = λ d. append-nil (fed_of e2 d) ∙ append-nil (fed_of e1 d) ∙ append-nil (fed_of log d) ∙ busy.fed d;
            lost = busy.lost;
            script = more e2 (Does (Gives 0 (P.shown part.message part.index reply))) (λ depth window text_of. (tt, tt, given_is))
                (more e1 (Does (Shows 0 slot reply)) (λ depth window text_of. (tt, tt, (([], queued), refl, busy.core.served 0)))
                (more log (Does (Ends 0 n part reply from)) (λ depth window text_of. (tt, tt, may_end)) busy.script));
          };
          run_is = ap (λ l. Replies n part.ask.key reply from ∷ l) busy.core.run_is;
          script_is = busy.script_is;
          named = busy.named;
        }
          where
            may_end : MayFollow words Bars opening version (core_of log) (Ends 0 n part reply from)
            may_end = (
              subst (λ l. MayCome words Bars opening l (Replies n part.ask.key reply from)) (sym busy.core.run_is) may,
              busy.core.owner n ∙ pick_true (nat_eq n n) _ None (eq-eqb n n refl),
              ap (λ l. slot_in l n) busy.core.queue ∙ pick_true (nat_eq n n) (Some (part_slot n part)) None (eq-eqb n n refl),
              (λ no. absurd (let e = at_last in cc)),
              (λ s. ap (λ l. ticket_in l n) (busy.core.out s)),
              busy.core.served 0,
            )

      -- the piece comes, the command makes its calls and has its reply, and the client is given it
      command : (ends : (m : ℕ) (ask : Ask) (front : List Call) (call : Call) (rest : List Call) (r1 r2 : Answer) (f1 f2 : Option ℕ) → words m ask front r1 f1 → words m ask (front ++ call ∷ rest) r2 f2 → ⊥) (front back : List Call) → n ≡ commands_in (run_of (core_of old)) + 1 → Run words Bars opening (Replies n part.ask.key reply from ∷ played n back (played n front (Begins n part.ask ∷ run_of (core_of old)))) → AreNamed (named_in old) (made_in old) front → AreNamed (named_in old) (made_in old + length front) back → (new : Lines P) × Done old new text part.next (Replies n part.ask.key reply from ∷ played n back (played n front (Begins n part.ask ∷ run_of (core_of old)))) × (made_in new ≡ made_in old + length front + length back)
      command ends front back count run named1 named2 =
          let begun = Begins n part.ask ∷ run_of (core_of old) in
          let first_run = run_before words Bars opening n back (played n front begun) run.1 in
          let b = begins count (run_before words Bars opening n front begun first_run).0 in
          let c = calls ends l3 begun front b first_run named1 in
          let d = calls ends (played_log n front l3) (played n front begun) back c run.1 (subst (λ m. AreNamed (named_in old) m back) (sym (played_made n front l3)) named2) in
          let log = played_log n back (played_log n front l3) in
          (e3 log (played n back (played n front begun)) d run.0, ended log (played n back (played n front begun)) d run.0, played_made n back (played_log n front l3) ∙ ap (λ m. m + length back) (played_made n front l3))

-- ---- the whole script

module _ (P : Protocol) (words : Words) (Bars : ℕ → Ask → ℕ → Ask → Type 0) (opening : ℕ → List ℕ → Option Item) (version : List ℕ) (s : ℕ) (key : List ℕ) (i j : ℕ) (text1 text2 : List ℕ) (delete read : Ask) (front last back final : List Call) (reply1 reply2 : Answer) (from1 from2 : Option ℕ) (m1 m2 : P.Message) (p1 p2 : P.Place) (quiet_start : IsStuck P P.start) (one1 : IsOneAsk P P.start text1 delete reply1 m1 p1) (one2 : IsOneAsk P p1 text2 read reply2 m2 p2) (ends : (m : ℕ) (ask : Ask) (front : List Call) (call : Call) (rest : List Call) (r1 r2 : Answer) (f1 f2 : Option ℕ) → words m ask front r1 f1 → words m ask (front ++ call ∷ rest) r2 f2 → ⊥) (h1 : Each (IsTry delete.key) front) (i_is : length front ≡ i) (a1 : Each IsAnswered last) (h2 : Each (IsTry read.key) back) (j_is : length back ≡ j) (a2 : Each IsAnswered final) where
  -- the run after what came before, up to the reply to each command
  abbrev deleted : List Event → List Event
  deleted past = Replies 1 delete.key reply1 from1 ∷ played 1 last (played 1 front (Begins 1 delete ∷ past))

  abbrev shown : List Event → List Event
  shown past = Replies 2 read.key reply2 from2 ∷ played 2 final (played 2 back (Begins 2 read ∷ past))

  abbrev empty : Lines P
  empty = []

  abbrev log0 : Lines P
  log0 = Takes (Plays (Hold s key (49 ∷ []))) ∷ empty

  nothing : Rests words Bars opening version empty P.start
  nothing = record {
    core = record {
      settled = record { stuck = λ c. quiet_start; shown = λ c. refl; given = λ c. refl; free = λ n. refl };
      front = refl;
      out = λ t. refl;
      served = λ c. refl;
    };
    fed = λ c. refl;
    lost = λ t. refl;
    script = λ depth window text_of. tt;
  }

  rests0 : Rests words Bars opening version log0 P.start
  rests0 = record {
    core = nothing.core;
    fed = λ c. refl;
    lost = λ t. refl;
    script = more words Bars opening version empty (Takes (Plays (Hold s key (49 ∷ [])))) (taken words Bars opening version empty P.start (Hold s key (49 ∷ [])) nothing) nothing.script;
  }

  abbrev log1 : Lines P
  log1 = fails_log i log0

  abbrev part1 : Part P
  part1 = record { message = m1; next = p1; index = 0; ask = delete }

  abbrev part2 : Part P
  part2 = record { message = m2; next = p2; index = 0; ask = read }

  first : Run words Bars opening (deleted []) → (log3 : Lines P) × Done words Bars opening version log1 log3 text1 p1 (deleted (run_of (core_of log1))) × (made_in log3 ≡ made_in log1 + length front + length last)
  first run =
      let zero1 : made_in log1 ≡ 0 = fails_made i log0 in
      command words Bars opening version log1 P.start (fails_rest words Bars opening version i log0 P.start rests0) 1 part1 text1 reply1 from1 one1 refl ends front last
      (sym (ap (λ l. commands_in (run_of l) + 1) (fails_core i log0)))
      (subst (λ l. Run words Bars opening (deleted (run_of l))) (sym (fails_core i log0)) run)
      (tries_named (named_in log1) delete.key (made_in log1) i front h1 (let e = i_is in omega arith) (λ t lt le. fails_named i log0 t (let z = zero1 in let a = lt in omega arith) (let z = zero1 in let a = le in omega arith)))
      (answered_named (named_in log1) (made_in log1 + length front) last a1 (λ t lt. fails_other i log0 t (let z = zero1 in let e = i_is in let a = lt in omega arith)))

  script_is : ◌≡◌ {A = List (Cue (Unit {0}))} ((((Plays (Hold s key (49 ∷ [])) ∷ map Plays (fail_lines i)) ++ Plays (Piece 0 text1) ∷ []) ++ map Plays (fail_lines j)) ++ Plays (Piece 0 text2) ∷ []) (map Plays (leaking_script s key i text1 j text2))
  script_is =
      let one = Hold s key (49 ∷ []) ∷ fail_lines i in
      let two = one ++ Piece 0 text1 ∷ [] in
      let three = two ++ fail_lines j in
      sym
      (map-append Plays three (Piece 0 text2 ∷ [])
      ∙ ap (λ l. l ++ Plays (Piece 0 text2) ∷ []) (map-append Plays two (fail_lines j) ∙ ap (λ l. l ++ map Plays (fail_lines j)) (map-append Plays one (Piece 0 text1 ∷ []))))

  all_replied : (n : ℕ) → 1 ≤ n → n ≤ commands_in (shown (deleted [])) → (k : List ℕ) × (reply : Answer) × IsReplied (shown (deleted [])) n k reply
  all_replied zero low high = absurd (omega arith)
  all_replied (suc zero) low high =
      (delete.key, reply1, inr (replied_played 2 1 delete.key reply1 final (played 2 back (Begins 2 read ∷ deleted [])) (replied_played 2 1 delete.key reply1 back (Begins 2 read ∷ deleted []) (inr (inl (refl, refl, refl))))))
  all_replied (suc (suc zero)) low high = (read.key, reply2, inl (refl, refl, refl))
  all_replied (suc (suc (suc n))) low high =
      absurd
      (let a = commands_played 2 final (played 2 back (Begins 2 read ∷ deleted [])) in
      let b = commands_played 2 back (Begins 2 read ∷ deleted []) in
      let c = commands_played 1 last (played 1 front (Begins 1 delete ∷ [])) in
      let d = commands_played 1 front (Begins 1 delete ∷ []) in
      let e = high in omega arith)

  second : Run words Bars opening (shown (deleted [])) → (IsFreshByNumber opening (shown (deleted [])) → ⊥) → (log3 : Lines P) → Done words Bars opening version log1 log3 text1 p1 (deleted (run_of (core_of log1))) → made_in log3 ≡ made_in log1 + length front + length last → Leaks P words Bars opening version (leaking_script s key i text1 j text2)
  second run leaks log3 d1 many =
      let log4 : Lines P = fails_log j log3 in
      let past4 : run_of (core_of log4) ≡ deleted [] = ap run_of (fails_core j log3) ∙ d1.run_is ∙ ap (λ l. deleted (run_of l)) (fails_core i log0) in
      let count : 2 ≡ commands_in (run_of (core_of log4)) + 1 = (let c = ap commands_in past4 in let d = commands_played 1 last (played 1 front (Begins 1 delete ∷ [])) in let e = commands_played 1 front (Begins 1 delete ∷ []) in omega arith) in
      let same : made_in log4 ≡ made_in log3 = fails_made j log3 in
      let zero1 : made_in log1 ≡ 0 = fails_made i log0 in
      let d2 = command words Bars opening version log4 p1 (fails_rest words Bars opening version j log3 p1 d1.rests) 2 part2 text2 reply2 from2 one2 refl ends back final count
      (subst (λ l. Run words Bars opening (shown l)) (sym past4) run)
      (tries_named (named_in log4) read.key (made_in log4) j back h2 (let e = j_is in omega arith) (λ t lt le. fails_named j log3 t (let z = same in let a = lt in omega arith) (let z = same in let a = le in omega arith)))
      (answered_named (named_in log4) (made_in log4 + length back) final a2 (λ t lt. fails_other j log3 t (let z = same in let e = j_is in let a = lt in omega arith) ∙ d1.named t ∙ fails_other i log0 t (let z = same in let y = many in let w = zero1 in let v = i_is in let a = lt in omega arith))) in
      let run_is : run_of (core_of d2.0) ≡ shown (deleted []) = d2.1.run_is ∙ ap shown past4 in
      record {
        log = d2.0;
        script = d2.1.rests.script;
        script_is = d2.1.script_is
            ∙ ap (λ l. l ++ Plays (Piece 0 text2) ∷ []) (fails_script j log3 ∙ ap (λ l. l ++ map Plays (fail_lines j)) (d1.script_is ∙ ap (λ l. l ++ Plays (Piece 0 text1) ∷ []) (fails_script i log0)))
            ∙ script_is;
        fed = d2.1.rests.fed;
        settled = d2.1.rests.core.settled;
        replied = λ n low high.
            let r = all_replied n low (subst (λ l. n ≤ commands_in l) run_is high) in
            (r.0, r.1, subst (λ l. IsReplied l n r.0 r.1) (sym run_is) r.2);
        leaks = λ fresh. leaks (subst (IsFreshByNumber opening) run_is fresh);
      }

  pub scripts_leak : Run words Bars opening (shown (deleted [])) → (IsFreshByNumber opening (shown (deleted [])) → ⊥) → Leaks P words Bars opening version (leaking_script s key i text1 j text2)
  scripts_leak run leaks =
      let run4 = run_before words Bars opening 2 back (Begins 2 read ∷ deleted []) (run_before words Bars opening 2 final (played 2 back (Begins 2 read ∷ deleted [])) run.1) in
      let d1 = first run4.1 in
      second run leaks d1.0 d1.1 d1.2
