-- Where both numbers are computed, there is a run of that script, and it isn't fresh.
use Rattle.std.proofs.Common.{◌≡◌, ℕ, ◌+◌, ◌<◌, Bool, true, false, cond, List, [], ◌∷◌, ◌++◌, length, Option, Some, None, inl, inr, ⊎_elim, refl, sym, ap, ap₂, ◌∙◌, subst, arith, nat_eq, append_assoc, append-nil}
use Rattle.std.proofs.lemmas.Bool.{eqb-true, eq-eqb}
use Rattle.mc_types.specs.declared.ask.Op.TheVariants.{Delete}
use Rattle.mc_types.specs.declared.ask.Dialect.{Dialect}
use Rattle.mc_types.specs.declared.ask.Dialect.TheVariants as dialects
use Rattle.mc_types.specs.declared.ask.Ask.{Ask}
use Rattle.mc_types.specs.declared.answer.Answer.{Answer}
use Rattle.mc_types.specs.declared.call.Outcome.{Outcome}
use Rattle.mc_types.specs.declared.call.Outcome.TheVariants.{Answered, Failed}
use Rattle.mc_types.specs.Acknowledged.{says_gone}
use Rattle.mc_types.specs.Agree.{AnswerAgrees, AgreesAs, AgreesHeld}
use Rattle.mc_types.specs.Items.{Item}
use Rattle.fresh_runs.specs.Life.{Mark, held_in}
use Rattle.fresh_runs.specs.Calls.{Call, Read, outcome_of, marks_of}
use Rattle.fresh_runs.specs.Run.{Event, Begins, Calls, Replies, life_of, under_way, calls_so_far, held, item_at, EndsWell, IsNewNumber, IsFront, Run, IsAcknowledged, IsShown}
use Rattle.fresh_runs.proofs.Runs.{new_calls}
use Rattle.route_tree.specs.Each.{Each}
use Rattle.route_tree.specs.Plan.{Plan}
use Rattle.route_tree.specs.Word.{answer_of_nothing, tree_words}
use Rattle.gate_coverage.proofs.Choices.{bool_is}
use Rattle.gate_gaps.specs.Beside.{IsTry, IsElsewhere, answered}
use Rattle.gate_gaps.specs.Leaking.{call_end, played, deleted_run, leaking_run, LeaksIn, IsBait, GapsLeak}
use Rattle.gate_gaps.proofs.Trying.{pick_true, pick_false}
use Rattle.gate_gaps.proofs.Beside.{gaps_have_words}

same_end : (n : ℕ) (o : Outcome) → outcome_of (call_end n o) ≡ o
same_end n (Answered answer) = refl
same_end n Failed = refl

cond_same : {A : Type 0} (t : Bool) (a : A) → cond t a a ≡ a
cond_same true a = refl
cond_same false a = refl

-- the call as a run reads it back
abbrev read_back : ℕ → Call → Call
read_back n c = record { server = c.server; ask = c.ask; origin = c.origin; outcome = outcome_of (call_end n c.outcome) }

same_back : (n : ℕ) (c : Call) → read_back n c ≡ c
same_back n c = λ i. record { server = c.server; ask = c.ask; origin = c.origin; outcome = (same_end n c.outcome) i }

-- ---- calls that fail leave no mark

failed_life : (n : ℕ) (t : Bool) (ask : Ask) (o : Outcome) (life : List Mark) → o ≡ Failed → cond t (marks_of ask (call_end n o) ++ life) life ≡ life
failed_life n t ask (Answered answer) life e = absurd (cc)
failed_life n t ask Failed life e = cond_same t life

life_played : (n : ℕ) (key : List ℕ) (calls : List Call) (past : List Event) (s : ℕ) → Each (IsTry key) calls → life_of (played n calls past) s ≡ life_of past s
life_played n key [] past s h = refl
life_played n key (c ∷ calls) past s h =
    life_played n key calls (Calls n c.server c.ask c.origin (call_end n c.outcome) ∷ past) s h.1 ∙ failed_life n (nat_eq c.server s) c.ask c.outcome (life_of past s) h.0.1

new_played : (m n : ℕ) (calls : List Call) (past : List Event) → n < m → IsNewNumber m past → IsNewNumber m (played n calls past)
new_played m n [] past lt h = h
new_played m n (c ∷ calls) past lt h = new_played m n calls (Calls n c.server c.ask c.origin (call_end n c.outcome) ∷ past) lt (lt, h)

acked_played : (n k : ℕ) (delete : Ask) (calls : List Call) (past : List Event) → IsAcknowledged past k delete → IsAcknowledged (played n calls past) k delete
acked_played n k delete [] past h = h
acked_played n k delete (c ∷ calls) past h = acked_played n k delete calls (Calls n c.server c.ask c.origin (call_end n c.outcome) ∷ past) (inr h)

-- ---- no command is under way once the only one has its reply

under_played : (n m : ℕ) (calls : List Call) (past : List Event) → under_way (played n calls past) m ≡ under_way past m
under_played n m [] past = refl
under_played n m (c ∷ calls) past = under_played n m calls (Calls n c.server c.ask c.origin (call_end n c.outcome) ∷ past)

over_after : {A : Type 0} (t : Bool) (x : A) → cond t None (cond t (Some x) None) ≡ None
over_after true x = refl
over_after false x = refl

none_deleted : (delete : Ask) (front last : List Call) (m : ℕ) → under_way (deleted_run delete front last) m ≡ None
none_deleted delete front last m =
    ap (λ (o : Option Ask). cond (nat_eq 1 m) None o) (under_played 1 m last (played 1 front (Begins 1 delete ∷ [])) ∙ under_played 1 m front (Begins 1 delete ∷ [])) ∙ over_after (nat_eq 1 m) delete

-- ---- a command goes on by its word's calls

module _ (at : ℕ → List ℕ → Plan) (Bars : ℕ → Ask → ℕ → Ask → Type 0) (opening : ℕ → List ℕ → Option Item) where
  -- the command has made these calls
  record Stage (past : List Event) (n : ℕ) (ask : Ask) (made : List Call) : Type 0 where
    run : Run (tree_words at) Bars opening past
    under : under_way past n ≡ Some ask
    so_far : calls_so_far past n ≡ made

  begins : (past : List Event) (n : ℕ) (ask : Ask) → Run (tree_words at) Bars opening past → IsNewNumber n past → ((m : ℕ) → under_way past m ≡ None) → Stage (Begins n ask ∷ past) n ask []
  begins past n ask run new none =
      record { run = ((new, λ other client e same. absurd (let no = none other in cc)), run); under = pick_true (nat_eq n n) (Some ask) (under_way past n) (eq-eqb n n refl); so_far = new_calls n past new }

  step : (past : List Event) (n : ℕ) (ask : Ask) (made : List Call) (c : Call) → c.ask.key ≡ ask.key → Stage past n ask made → (rest : List Call) (reply : Answer) (from : Option ℕ) → tree_words at n ask ((made ++ c ∷ []) ++ rest) reply from → EndsWell opening past n c.server c.ask c.origin (call_end n c.outcome) → Stage (Calls n c.server c.ask c.origin (call_end n c.outcome) ∷ past) n ask (made ++ c ∷ [])
  step past n ask made c key st rest reply from word well =
      let joined : calls_so_far past n ++ read_back n c ∷ [] ≡ made ++ c ∷ [] = ap₂ (λ l x. l ++ x ∷ []) st.so_far (same_back n c) in
      let front : IsFront (tree_words at) n ask (calls_so_far past n ++ read_back n c ∷ []) = (rest, reply, from, subst (λ l. tree_words at n ask (l ++ rest) reply from) (sym joined) word) in
      record {
        run = ((ask, st.under, key, front, well), st.run);
        under = st.under;
        so_far = pick_true (nat_eq n n) (calls_so_far past n ++ read_back n c ∷ []) (calls_so_far past n) (eq-eqb n n refl) ∙ joined;
      }

  tries_go : (past : List Event) (n : ℕ) (ask : Ask) (made calls : List Call) → Each (IsTry ask.key) calls → Stage past n ask made → (rest : List Call) (reply : Answer) (from : Option ℕ) → tree_words at n ask ((made ++ calls) ++ rest) reply from → Stage (played n calls past) n ask (made ++ calls)
  tries_go past n ask made [] h st rest reply from word = subst (Stage past n ask) (sym (append-nil made)) st
  tries_go past n ask made (c ∷ calls) h st rest reply from word =
      let joined : (made ++ c ∷ []) ++ calls ≡ made ++ c ∷ calls = append_assoc made (c ∷ []) calls in
      let whole : tree_words at n ask (((made ++ c ∷ []) ++ calls) ++ rest) reply from = subst (λ l. tree_words at n ask (l ++ rest) reply from) (sym joined) word in
      let st' = step past n ask made c h.0.0 st (calls ++ rest) reply from (subst (λ l. tree_words at n ask l reply from) (append_assoc (made ++ c ∷ []) calls rest) whole) (subst (λ o. EndsWell opening past n c.server c.ask c.origin (call_end n o)) (sym h.0.1) tt) in
      subst (Stage (played n (c ∷ calls) past) n ask) joined (tries_go (Calls n c.server c.ask c.origin (call_end n c.outcome) ∷ past) n ask (made ++ c ∷ []) calls h.1 st' rest reply from whole)

  replies : (past : List Event) (n : ℕ) (ask : Ask) (made : List Call) → Stage past n ask made → (reply : Answer) (from : Option ℕ) → tree_words at n ask made reply from → Run (tree_words at) Bars opening (Replies n ask.key reply from ∷ past)
  replies past n ask made st reply from word = ((ask, st.under, refl, subst (λ l. tree_words at n ask l reply from) (sym st.so_far) word), st.run)

  -- ---- the two commands

  module _ (delete read : Ask) (s : ℕ) (answer : Answer) (bait : IsBait opening delete read s answer) where
    abbrev nothing : Answer
    nothing = answer_of_nothing delete.dialect delete.op

    none_agrees : (d : Dialect) (o : Option Item) → o ≡ None → AgreesHeld (answer_of_nothing d Delete) o
    none_agrees dialects.Classic o e = e
    none_agrees dialects.Meta o e = e

    gone_agrees : (o : Option Item) → o ≡ None → AnswerAgrees delete nothing o
    gone_agrees o e = subst (λ p. AgreesAs p delete (answer_of_nothing delete.dialect p) o) (sym bait.deletes) (none_agrees delete.dialect o e)

    none_gone : (d : Dialect) → says_gone (answer_of_nothing d Delete) ≡ true
    none_gone dialects.Classic = refl
    none_gone dialects.Meta = refl

    gone : says_gone nothing ≡ true
    gone = ap (λ p. says_gone (answer_of_nothing delete.dialect p)) bait.deletes ∙ none_gone delete.dialect

    -- after the calls of the delete: server s has no mark
    record Deleted (past : List Event) (made : List Call) : Type 0 where
      stage : Stage past 1 delete made
      no_mark : life_of past s ≡ []
      new : IsNewNumber 2 past

    deletes : (front last : List Call) → Each (IsTry delete.key) front → IsElsewhere s delete last → tree_words at 1 delete (front ++ last) nothing None → Deleted (played 1 last (played 1 front (Begins 1 delete ∷ []))) (front ++ last)
    deletes front last h (inl e) word =
        let st = tries_go (Begins 1 delete ∷ []) 1 delete [] front h (begins [] 1 delete tt (omega arith) (λ m. refl)) last nothing None word in
        subst (λ l. Deleted (played 1 l (played 1 front (Begins 1 delete ∷ []))) (front ++ l)) (sym e)
        (record {
          stage = subst (Stage (played 1 front (Begins 1 delete ∷ [])) 1 delete) (sym (append-nil front)) st;
          no_mark = life_played 1 delete.key front (Begins 1 delete ∷ []) s h;
          new = new_played 2 1 front (Begins 1 delete ∷ []) (omega arith) (omega arith, omega arith);
        })
    deletes front last h (inr more) word =
        let t = more.0 in
        let past = played 1 front (Begins 1 delete ∷ []) in
        let st = tries_go (Begins 1 delete ∷ []) 1 delete [] front h (begins [] 1 delete tt (omega arith) (λ m. refl)) last nothing None word in
        let c = answered t delete nothing in
        let whole : tree_words at 1 delete ((front ++ c ∷ []) ++ []) nothing None = subst (λ l. tree_words at 1 delete l nothing None) (sym (append-nil (front ++ c ∷ []))) (subst (λ l. tree_words at 1 delete (front ++ l) nothing None) more.2 word) in
        let empty : held opening past t delete.key ≡ None = ap (λ l. held_in (opening t delete.key) l delete.key) (life_played 1 delete.key front (Begins 1 delete ∷ []) t h) ∙ bait.alone t more.1 in
        let other : nat_eq t s ≡ false = ⊎_elim (λ (is : nat_eq t s ≡ true). absurd (more.1 (eqb-true t s is))) (λ no. no) (bool_is (nat_eq t s)) in
        subst (λ l. Deleted (played 1 l past) (front ++ l)) (sym more.2)
        (record {
          stage = step past 1 delete front c refl st [] nothing None whole (gone_agrees (held opening past t delete.key) empty, refl);
          no_mark = pick_false (nat_eq t s) (marks_of delete (Read 1 nothing 0) ++ life_of past s) (life_of past s) other ∙ life_played 1 delete.key front (Begins 1 delete ∷ []) s h;
          new = (omega arith, new_played 2 1 front (Begins 1 delete ∷ []) (omega arith) (omega arith, omega arith));
        })

    leaks_in : (front last back : List Call) (i j : ℕ) → tree_words at 1 delete (front ++ last) nothing None → Each (IsTry delete.key) front → length front ≡ i → IsElsewhere s delete last → tree_words at 2 read (back ++ answered s read answer ∷ []) answer (Some j) → Each (IsTry read.key) back → length back ≡ j → LeaksIn at Bars opening delete read s i j answer
    leaks_in front last back i j word h len else_where shown hb lenb =
        let d = deletes front last h else_where word in
        let past2 = played 1 last (played 1 front (Begins 1 delete ∷ [])) in
        let r3 = deleted_run delete front last in
        let run3 : Run (tree_words at) Bars opening r3 = replies past2 1 delete (front ++ last) d.stage nothing None word in
        let acked3 : IsAcknowledged r3 1 delete = inl (refl, d.stage.under, (bait.deletes, gone)) in
        let st4 = begins r3 2 read run3 (omega arith, d.new) (none_deleted delete front last) in
        let shown' : tree_words at 2 read (back ++ answered s read answer ∷ []) answer (Some (length back)) = subst (λ k. tree_words at 2 read (back ++ answered s read answer ∷ []) answer (Some k)) (sym lenb) shown in
        let st5 = tries_go (Begins 2 read ∷ r3) 2 read [] back hb st4 (answered s read answer ∷ []) answer (Some (length back)) shown' in
        let r5 = played 2 back (Begins 2 read ∷ r3) in
        let still : held opening r5 s read.key ≡ Some bait.item = ap (λ l. held_in (opening s read.key) l read.key) (life_played 2 read.key back (Begins 2 read ∷ r3) s hb ∙ d.no_mark) ∙ ap (opening s) bait.same_key ∙ bait.held in
        let c = answered s read answer in
        let st6 = step r5 2 read back c refl st5 [] answer (Some (length back)) (subst (λ l. tree_words at 2 read l answer (Some (length back))) (sym (append-nil (back ++ c ∷ []))) shown') (subst (AnswerAgrees read answer) (sym still) bait.agrees, refl) in
        let r6 = played 2 (c ∷ []) r5 in
        let found : item_at opening r6 2 (length back) ≡ Some bait.item =
        pick_true (nat_eq (length (calls_so_far r5 2)) (length back)) (held opening r5 s read.key) (item_at opening r5 2 (length back)) (eq-eqb (length (calls_so_far r5 2)) (length back) (ap length st5.so_far))
        ∙ still in
        record {
          front = front;
          last = last;
          back = back;
          first = h;
          first_are = len;
          elsewhere = else_where;
          later = hb;
          later_are = lenb;
          run = replies r6 2 read (back ++ c ∷ []) st6 answer (Some (length back)) shown';
          leaks = λ fresh.
              let acked : IsAcknowledged (leaking_run delete read front last back s answer) 1 delete = inr (inr (acked_played 2 1 delete back (Begins 2 read ∷ r3) (inr acked3))) in
              let seen : IsShown opening (leaking_run delete read front last back s answer) 2 delete.key bait.item = inl (refl, bait.same_key, length back, refl, found) in
              let lt : 1 < bait.item.stamp = fresh 1 2 delete bait.item (omega arith) acked seen in
              let old = bait.old in omega arith;
        }

pub gaps_leak : (Bars : ℕ → Ask → ℕ → Ask → Type 0) → GapsLeak Bars
gaps_leak Bars at opening delete read s i j answer good1 good2 bait e f =
    let a = gaps_have_words.acked (at 1 delete.key) s i delete good1 bait.deletes bait.gone_fits e in
    let b = gaps_have_words.found (at 2 read.key) s j read answer good2 bait.fits bait.showing bait.done f in
    let z : 0 + j ≡ j = omega arith in
    leaks_in at Bars opening delete read s answer bait a.0 a.1 b.0 i j (bait.delete_is, a.2) a.3 a.4 a.5 (subst (λ k. tree_words at 2 read (b.0 ++ answered s read answer ∷ []) answer (Some k)) z (bait.read_is, b.1)) b.2 b.3
