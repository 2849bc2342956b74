-- Runs in which servers owe calls are fresh: they may be taken for runs in which servers lost items.
use Rattle.std.proofs.Common.{◌≡◌, ℕ, Bool, true, false, cond, List, [], ◌∷◌, ◌++◌, length, Option, Some, None, ◌⊎◌, inl, inr, ⊎_elim, refl, sym, ap, ◌∙◌, subst, bytes_eq, nat_eq, slice_get}
use Rattle.std.proofs.lemmas.Slice.Eq.{bytes_eq-Decides}
use Rattle.std.proofs.lemmas.Bool.{eqb-true, eq-eqb}
use Rattle.mc_types.specs.declared.ask.Ask.{Ask}
use Rattle.mc_types.specs.declared.answer.Answer.{Answer}
use Rattle.mc_types.specs.declared.call.Origin.{Origin}
use Rattle.mc_types.specs.declared.call.Origin.TheVariants.{Client, CopyOf}
use Rattle.mc_types.specs.declared.call.Outcome.TheVariants.{Answered, Failed}
use Rattle.mc_types.specs.Items.{Item, after_call}
use Rattle.mc_types.specs.Agree.{AnswerAgrees}
use Rattle.fresh_runs.specs.Calls.{Call, End, Read, Unread, Never, outcome_of, left_after_end}
use Rattle.fresh_runs.specs.Cover.{ClearsIn}
use Rattle.fresh_runs.specs.Run.{Event, Begins, Calls, Replies, Breaks, Turns, Restarts, under_way, calls_so_far, before, HasEnded, IsNewNumber, IsFront, IsAcknowledged, IsShown, held, item_at, GivesStamp, EndsWell, after_event}
use Rattle.fresh_runs.specs.Run as sharing
use Rattle.fresh_runs.proofs.HeldAfter.{held_after, event_same}
use Rattle.core_accepted.specs.Late.{Moment, Does, Lands, told, begun_late, LateRun, LandsInTime, WasOver}
use Rattle.core_accepted.specs.Owed as owed_specs
use Rattle.core_accepted.specs.Owed.{OwedMoment, Sees, Owes, Repays, Empties, owed, told_owed, as_lost, OwedRun, OwedIsFresh}
use Rattle.core_accepted.proofs.LateFresh.{grown_fresh}

-- two pasts that commands can't tell apart
record AreLike (one two : List Event) : Type 0 where
  way : (n : ℕ) → under_way one n ≡ under_way two n
  begun : (n : ℕ) → begun_late one n ≡ begun_late two n
  calls : (n : ℕ) → calls_so_far one n ≡ calls_so_far two n
  new : (n : ℕ) → IsNewNumber n one → IsNewNumber n two
  ended : (n : ℕ) → HasEnded one n → HasEnded two n
  back : (n : ℕ) → HasEnded two n → HasEnded one n
  ended_before : (n s : ℕ) → HasEnded (before one n) s → HasEnded (before two n) s
  back_before : (n s : ℕ) → HasEnded (before two n) s → HasEnded (before one n) s
  acked : (n : ℕ) (delete : Ask) → IsAcknowledged one n delete → IsAcknowledged two n delete
  acked_before : (m n : ℕ) (delete : Ask) → IsAcknowledged (before one m) n delete → IsAcknowledged (before two m) n delete

like_none : AreLike [] []
like_none = record { way = λ n. refl; begun = λ n. refl; calls = λ n. refl; new = λ n e. e; ended = λ n e. e; back = λ n e. e; ended_before = λ n s e. e; back_before = λ n s e. e; acked = λ n d e. e; acked_before = λ m n d e. e }

-- by a test, from one pair to another
both : (P Q : List Event → Type 0) (b : Bool) (x y u v : List Event) → (P x → Q u) → (P y → Q v) → P (cond b x y) → Q (cond b u v)
both P Q true x y u v f g p = f p
both P Q false x y u v f g p = g p

like_begins : (one two : List Event) (x : ℕ) (ask : Ask) → AreLike one two → AreLike (Begins x ask ∷ one) (Begins x ask ∷ two)
like_begins one two x ask h =
    record {
      way = λ n. ap (λ o. cond (nat_eq x n) (Some ask) o) (h.way n);
      begun = λ n. ap (λ o. cond (nat_eq x n) (Some ask) o) (h.begun n);
      calls = h.calls;
      new = λ n e. (e.0, h.new n e.1);
      ended = h.ended;
      back = h.back;
      ended_before = λ n s. both (λ l. HasEnded l s) (λ l. HasEnded l s) (nat_eq x n) one (before one n) two (before two n) (h.ended s) (h.ended_before n s);
      back_before = λ n s. both (λ l. HasEnded l s) (λ l. HasEnded l s) (nat_eq x n) two (before two n) one (before one n) (h.back s) (h.back_before n s);
      acked = λ n d e. ⊎_elim (λ none. absurd none) (λ old. inr (h.acked n d old)) e;
      acked_before = λ m n d. both (λ l. IsAcknowledged l n d) (λ l. IsAcknowledged l n d) (nat_eq x m) one (before one m) two (before two m) (h.acked n d) (h.acked_before m n d);
    }

like_calls : (one two : List Event) (x s : ℕ) (a : Ask) (o : Origin) (end : End) → AreLike one two → AreLike (Calls x s a o end ∷ one) (Calls x s a o end ∷ two)
like_calls one two x s a o end h =
    record {
      way = h.way;
      begun = h.begun;
      calls = λ n. ap (λ l. cond (nat_eq x n) (l ++ record { server = s; ask = a; origin = o; outcome = outcome_of end } ∷ []) l) (h.calls n);
      new = λ n e. (e.0, h.new n e.1);
      ended = h.ended;
      back = h.back;
      ended_before = h.ended_before;
      back_before = h.back_before;
      acked = λ n d e. ⊎_elim (λ none. absurd none) (λ old. inr (h.acked n d old)) e;
      acked_before = h.acked_before;
    }

like_replies : (one two : List Event) (x : ℕ) (key : List ℕ) (r : Answer) (f : Option ℕ) → AreLike one two → AreLike (Replies x key r f ∷ one) (Replies x key r f ∷ two)
like_replies one two x key r f h =
    record {
      way = λ n. ap (λ o. cond (nat_eq x n) None o) (h.way n);
      begun = h.begun;
      calls = h.calls;
      new = λ n e. (e.0, h.new n e.1);
      ended = λ n e. ⊎_elim inl (λ old. inr (h.ended n old)) e;
      back = λ n e. ⊎_elim inl (λ old. inr (h.back n old)) e;
      ended_before = h.ended_before;
      back_before = h.back_before;
      acked = λ n d e. ⊎_elim (λ by. inl (by.0, sym (h.way x) ∙ by.1, by.2)) (λ old. inr (h.acked n d old)) e;
      acked_before = h.acked_before;
    }

like_breaks : (one two : List Event) (x : ℕ) → AreLike one two → AreLike (Breaks x ∷ one) (Breaks x ∷ two)
like_breaks one two x h =
    record {
      way = λ n. ap (λ o. cond (nat_eq x n) None o) (h.way n);
      begun = h.begun;
      calls = h.calls;
      new = λ n e. (e.0, h.new n e.1);
      ended = λ n e. ⊎_elim inl (λ old. inr (h.ended n old)) e;
      back = λ n e. ⊎_elim inl (λ old. inr (h.back n old)) e;
      ended_before = h.ended_before;
      back_before = h.back_before;
      acked = λ n d e. ⊎_elim (λ none. absurd none) (λ old. inr (h.acked n d old)) e;
      acked_before = h.acked_before;
    }

like_restarts : (one two : List Event) (s : ℕ) → AreLike one two → AreLike (Restarts s ∷ one) (Restarts s ∷ two)
like_restarts one two s h =
    record { way = h.way; begun = h.begun; calls = h.calls; new = h.new; ended = h.ended; back = h.back; ended_before = h.ended_before; back_before = h.back_before; acked = λ n d e. ⊎_elim (λ none. absurd none) (λ old. inr (h.acked n d old)) e; acked_before = h.acked_before }

like_left : (one two : List Event) (s : ℕ) (key : List ℕ) (turned : Option Item) → AreLike one two → AreLike (Turns s key turned ∷ one) two
like_left one two s key turned h =
    record { way = h.way; begun = h.begun; calls = h.calls; new = h.new; ended = h.ended; back = h.back; ended_before = h.ended_before; back_before = h.back_before; acked = λ n d e. ⊎_elim (λ none. absurd none) (λ old. h.acked n d old) e; acked_before = h.acked_before }

like_right : (one two : List Event) (s : ℕ) (key : List ℕ) (turned : Option Item) → AreLike one two → AreLike one (Turns s key turned ∷ two)
like_right one two s key turned h =
    record { way = h.way; begun = h.begun; calls = h.calls; new = h.new; ended = h.ended; back = h.back; ended_before = h.ended_before; back_before = h.back_before; acked = λ n d e. inr (h.acked n d e); acked_before = h.acked_before }

-- what is held by what is owed: nothing by the one, or the same by both
abbrev Fits : Bool → Option Item → Option Item → Type 0
Fits true p m = m ≡ None
Fits false p m = p ≡ m

collapse : (b c : Bool) (t u z : Option Item) (f : Option Item → Option Item) → cond b (cond c t (cond b (cond c (f (cond b (cond c u z) z)) (cond b (cond c u z) z)) (cond b (cond c u z) z))) (cond b (cond c (f (cond b (cond c u z) z)) (cond b (cond c u z) z)) (cond b (cond c u z) z)) ≡ cond b (cond c t z) z
collapse true true t u z f = refl
collapse true false t u z f = refl
collapse false c t u z f = refl

module _ (opening : ℕ → List ℕ → Option Item) where
  -- a call between two turns of its key leaves what the last says
  pub three : (past : List Event) (x server : ℕ) (ask : Ask) (origin : Origin) (end : End) (t u : Option Item) (s : ℕ) (k : List ℕ)
      → held opening (Turns server ask.key t ∷ (Calls x server ask origin end ∷ (Turns server ask.key u ∷ past))) s k ≡ cond (nat_eq server s) (cond (bytes_eq ask.key k) t (held opening past s k)) (held opening past s k)
  three past x server ask origin end t u s k =
      let last : Event = Turns server ask.key t in
      let call : Event = Calls x server ask origin end in
      let lost : Event = Turns server ask.key u in
      held_after opening last (call ∷ (lost ∷ past)) s k
      ∙ event_same opening last (held opening (call ∷ (lost ∷ past))) (after_event call (after_event lost (held opening past))) s k
      (held_after opening call (lost ∷ past) s k ∙ event_same opening call (held opening (lost ∷ past)) (after_event lost (held opening past)) s k (held_after opening lost past s k))
      ∙ collapse (nat_eq server s) (bytes_eq ask.key k) t u (held opening past s k) (left_after_end ask end)

  pub turned_here : (past : List Event) (server : ℕ) (key : List ℕ) (turned : Option Item) → held opening (Turns server key turned ∷ past) server key ≡ turned
  turned_here past server key turned =
      held_after opening (Turns server key turned) past server key
      ∙ ap (λ b. cond b (cond (bytes_eq key key) turned (held opening past server key)) (held opening past server key)) (eq-eqb server server refl)
      ∙ ap (λ b. cond b turned (held opening past server key)) ((bytes_eq-Decides key key).1 refl)

-- at one key of one server, or elsewhere
place : (F : Option Item → Option Item → Type 0) (server s : ℕ) (key k : List ℕ) (t z u y : Option Item) → (server ≡ s → key ≡ k → F t u) → F z y → F (cond (nat_eq server s) (cond (bytes_eq key k) t z) z) (cond (nat_eq server s) (cond (bytes_eq key k) u y) y)
place F server s key k t z u y f g =
    (elim (nat_eq server s) as (λ b. nat_eq server s ≡ b → F (cond b (cond (bytes_eq key k) t z) z) (cond b (cond (bytes_eq key k) u y) y)) [
      | true ↦ λ is.
          (elim (bytes_eq key k) as (λ c. bytes_eq key k ≡ c → F (cond c t z) (cond c u y)) [
            | true ↦ λ same. f (eqb-true server s is) ((bytes_eq-Decides key k).0 same)
            | false ↦ λ _. g
          ]) refl
      | false ↦ λ _. g
    ]) refl

place_left : (F : Option Item → Type 0) (server s : ℕ) (key k : List ℕ) (t z : Option Item) → (server ≡ s → key ≡ k → F t) → F z → F (cond (nat_eq server s) (cond (bytes_eq key k) t z) z)
place_left F server s key k t z f g = place (λ p _. F p) server s key k t z None None f g

fits_place : (b c w o : Bool) (t z u y : Option Item) → Fits w t u → Fits o z y → Fits (cond b (cond c w o) o) (cond b (cond c t z) z) (cond b (cond c u y) y)
fits_place true true w o t z u y f g = f
fits_place true false w o t z u y f g = g
fits_place false c w o t z u y f g = g

fits_server : (b o : Bool) (z y : Option Item) → Fits o z y → Fits (cond b false o) (cond b None z) (cond b None y)
fits_server true o z y g = refl
fits_server false o z y g = g

fits_none : (b : Bool) (o : Option Item) → o ≡ None → Fits b o o
fits_none true o e = e
fits_none false o e = refl

fits_restart : (b o : Bool) (z y : Option Item) → Fits o z y → Fits o (cond b None z) (cond b None y)
fits_restart true o z y g = fits_none o None refl
fits_restart false o z y g = g

fits_by : (b : Bool) (p q m l : Option Item) → p ≡ q → m ≡ l → Fits b q l → Fits b p m
fits_by b p q m l e f h = subst (λ x. Fits b x m) (sym e) (subst (λ y. Fits b q y) (sym f) h)

item_same : (b : Bool) (i : ℕ) (one two : List Call) (p m x y : Option Item) → one ≡ two → p ≡ m → x ≡ y → cond b (cond (nat_eq (length one) i) p x) x ≡ cond b (cond (nat_eq (length two) i) m y) y
item_same b i one two p m x y c e f =
    ap (λ l. cond b (cond (nat_eq (length l) i) p x) x) c
    ∙ ap (λ o. cond b (cond (nat_eq (length two) i) o x) x) e
    ∙ ap (λ o. cond b (cond (nat_eq (length two) i) m o) o) f

rest : {A : Type 0} → ⊥ ⊎ A → A
rest (inl none) = absurd none
rest (inr a) = a

module _ (words : ℕ → Ask → List Call → Answer → Option ℕ → Type 0) (Bars : ℕ → Ask → ℕ → Ask → Type 0) (opening : ℕ → List ℕ → Option Item) where
  -- what was, and how it may be taken to have been
  record Sim (owes : ℕ → List ℕ → Bool) (one : List Event) (model : List Moment) : Type 0 where
    like : AreLike one (told opening model)
    holds : (s : ℕ) (k : List ℕ) → Fits (owes s k) (held opening one s k) (held opening (told opening model) s k)
    items : (n i : ℕ) → item_at opening one n i ≡ item_at opening (told opening model) n i
    shown : (m : ℕ) (key : List ℕ) (item : Item) → IsShown opening one m key item → IsShown opening (told opening model) m key item
    run : LateRun words Bars opening (LandsInTime WasOver) model

  module _ (owes : ℕ → List ℕ → Bool) (one : List Event) (model : List Moment) (h : Sim owes one model) where
    abbrev two : List Event
    two = told opening model

    at : (server s : ℕ) (key k : List ℕ) (o : Bool) → owes server key ≡ o → server ≡ s → key ≡ k → owes s k ≡ o
    at server s key k o is on same = subst (λ t. owes t k ≡ o) on (subst (λ l. owes server l ≡ o) same is)

    gone : (s : ℕ) (k : List ℕ) → owes s k ≡ true → held opening two s k ≡ None
    gone s k is = subst (λ b. Fits b (held opening one s k) (held opening two s k)) is (h.holds s k)

    alike : (s : ℕ) (k : List ℕ) → owes s k ≡ false → held opening one s k ≡ held opening two s k
    alike s k is = subst (λ b. Fits b (held opening one s k) (held opening two s k)) is (h.holds s k)

    gives : (number : ℕ) (origin : Origin) (stamp : ℕ) → GivesStamp opening one number origin stamp → GivesStamp opening two number origin stamp
    gives number Client stamp g = g
    gives number (CopyOf i) stamp g = (g.0, sym (h.items number i) ∙ g.1, g.2)

    ends : (number server : ℕ) (ask : Ask) (origin : Origin) (end : End) → held opening one server ask.key ≡ held opening two server ask.key → EndsWell opening one number server ask origin end → EndsWell opening two number server ask origin end
    ends number server ask origin (Read stamp answer spaces) same e = (subst (λ o. AnswerAgrees ask answer o) same e.0, gives number origin stamp e.1)
    ends number server ask origin (Unread stamp answer spaces) same e = (subst (λ o. AnswerAgrees ask answer o) same e.0, gives number origin stamp e.1)
    ends number server ask origin Never same e = tt

    timely : (number server : ℕ) (ask : Ask) (origin : Origin) → LandsInTime WasOver one number server ask origin → LandsInTime WasOver two number server ask origin
    timely number server ask Client t = λ store n delete b op same over clears. t store n delete (h.like.begun n ∙ b) op same (h.like.back_before n number over) (subst (λ l. ClearsIn l server) (sym (h.like.calls n)) clears)
    timely number server ask (CopyOf i) t = λ store n delete b op same over clears. t store n delete (h.like.begun n ∙ b) op same (h.like.back_before n number over) (subst (λ l. ClearsIn l server) (sym (h.like.calls n)) clears)

    unheard : (number server : ℕ) (ask : Ask) (origin : Origin) (left : Option Item) → owes server ask.key ≡ true → sharing.MayCome words Bars opening one (Calls number server ask origin Never)
        → Sim owes (Turns server ask.key left ∷ (Calls number server ask origin Never ∷ (Turns server ask.key None ∷ one))) (Does (Calls number server ask origin Never) ∷ model)
    unheard number server ask origin left is may =
        let lost : List Event = Turns server ask.key None ∷ one in
        let call : Event = Calls number server ask origin Never in
        record {
          like = like_left (call ∷ lost) (call ∷ two) server ask.key left (like_calls lost two number server ask origin Never (like_left one two server ask.key None h.like));
          holds = λ s k.
              fits_by (owes s k) _ _ _ _ (three opening one number server ask origin Never left None s k) (held_after opening call two s k)
              (place (Fits (owes s k)) server s ask.key k left (held opening one s k) (held opening two s k) (held opening two s k)
              (λ on same. (let e = at server s ask.key k true is on same in subst (λ b. Fits b left (held opening two s k)) (sym e) (gone s k e)))
              (h.holds s k));
          items = λ n i.
              item_same (nat_eq number n) i (calls_so_far one n) (calls_so_far two n) (held opening lost server ask.key) (held opening two server ask.key) (item_at opening one n i) (item_at opening two n i)
              (h.like.calls n) (turned_here opening one server ask.key None ∙ sym (gone server ask.key is)) (h.items n i);
          shown = λ m key item e. inr (h.shown m key item (rest (rest (rest e))));
          run = (
            (may.0, sym (h.like.way number) ∙ may.1, may.2, subst (λ l. IsFront words number may.0 (l ++ record { server = server; ask = ask; origin = origin; outcome = Failed } ∷ [])) (h.like.calls number) may.3, tt),
            h.run,
          );
        }

    heard : (number server : ℕ) (ask : Ask) (origin : Origin) (end : End) → owes server ask.key ≡ false → sharing.MayCome words Bars opening one (Calls number server ask origin end)
        → Sim owes (Calls number server ask origin end ∷ one) (Does (Calls number server ask origin end) ∷ model)
    heard number server ask origin end is may =
        let call : Event = Calls number server ask origin end in
        let same_here = alike server ask.key is in
        record {
          like = like_calls one two number server ask origin end h.like;
          holds = λ s k.
              fits_by (owes s k) _ _ _ _ (held_after opening call one s k) (held_after opening call two s k)
              (place (Fits (owes s k)) server s ask.key k (left_after_end ask end (held opening one s k)) (held opening one s k) (left_after_end ask end (held opening two s k)) (held opening two s k)
              (λ on same. (let e = at server s ask.key k false is on same in
              subst (λ b. Fits b (left_after_end ask end (held opening one s k)) (left_after_end ask end (held opening two s k))) (sym e) (ap (left_after_end ask end) (alike s k e))))
              (h.holds s k));
          items = λ n i.
              item_same (nat_eq number n) i (calls_so_far one n) (calls_so_far two n) (held opening one server ask.key) (held opening two server ask.key) (item_at opening one n i) (item_at opening two n i)
              (h.like.calls n) same_here (h.items n i);
          shown = λ m key item e. inr (h.shown m key item (rest e));
          run = (
            (may.0, sym (h.like.way number) ∙ may.1, may.2, subst (λ l. IsFront words number may.0 (l ++ record { server = server; ask = ask; origin = origin; outcome = outcome_of end } ∷ [])) (h.like.calls number) may.3, ends number server ask origin end same_here may.4),
            h.run,
          );
        }

    called : (number server : ℕ) (ask : Ask) (origin : Origin) (end : End) (o : Bool) → owes server ask.key ≡ o → owed_specs.MayCall words Bars opening (LandsInTime WasOver) o one number server ask origin end
        → Sim owes (owed_specs.called_events o number server ask origin end (held opening one server ask.key) one) (owed_specs.called_moments o number server ask origin end model)
    called number server ask origin (Read stamp answer spaces) true is may = absurd may.1
    called number server ask origin (Unread stamp answer spaces) true is may = unheard number server ask origin (left_after_end ask (Unread stamp answer spaces) (held opening one server ask.key)) is may.0
    called number server ask origin Never true is may = unheard number server ask origin (held opening one server ask.key) is may.0
    called number server ask origin (Read stamp answer spaces) false is may = heard number server ask origin (Read stamp answer spaces) is may
    called number server ask origin (Unread stamp answer spaces) false is may = heard number server ask origin (Unread stamp answer spaces) is may
    called number server ask origin Never false is may = heard number server ask origin Never is may

    landed : (number server : ℕ) (ask : Ask) (origin : Origin) (stamp : ℕ) (answer : Answer) (spaces : ℕ) (o : Bool) → owes server ask.key ≡ o → owed_specs.MayLandThen words Bars opening (LandsInTime WasOver) o one number server ask origin stamp answer
        → Sim owes (Turns server ask.key (after_call ask stamp answer spaces (held opening one server ask.key)) ∷ one) (owed_specs.landed_moments o number server ask origin stamp answer spaces model)
    landed number server ask origin stamp answer spaces true is may =
        let left = after_call ask stamp answer spaces (held opening one server ask.key) in
        record {
          like = like_left one two server ask.key left h.like;
          holds = λ s k.
              subst (λ p. Fits (owes s k) p (held opening two s k)) (sym (held_after opening (Turns server ask.key left) one s k))
              (place_left (λ p. Fits (owes s k) p (held opening two s k)) server s ask.key k left (held opening one s k)
              (λ on same. (let e = at server s ask.key k true is on same in subst (λ b. Fits b left (held opening two s k)) (sym e) (gone s k e)))
              (h.holds s k));
          items = h.items;
          shown = λ m key item e. h.shown m key item (rest e);
          run = h.run;
        }
    landed number server ask origin stamp answer spaces false is may =
        let same_here = alike server ask.key is in
        let left = after_call ask stamp answer spaces (held opening one server ask.key) in
        let right = after_call ask stamp answer spaces (held opening two server ask.key) in
        record {
          like = like_left one (Turns server ask.key right ∷ two) server ask.key left (like_right one two server ask.key right h.like);
          holds = λ s k.
              fits_by (owes s k) _ _ _ _ (held_after opening (Turns server ask.key left) one s k) (held_after opening (Turns server ask.key right) two s k)
              (place (Fits (owes s k)) server s ask.key k left (held opening one s k) right (held opening two s k)
              (λ on same. (let e = at server s ask.key k false is on same in subst (λ b. Fits b left right) (sym e) (ap (after_call ask stamp answer spaces) same_here)))
              (h.holds s k));
          items = h.items;
          shown = λ m key item e. inr (h.shown m key item (rest e));
          run = (
            ((may.0.0, subst (λ l. slice_get l may.0.0 ≡ Some (record { server = server; ask = ask; origin = origin; outcome = Failed })) (h.like.calls number) may.0.1), timely number server ask origin may.1, subst (λ o. AnswerAgrees ask answer o) same_here may.2, gives number origin stamp may.3),
            h.run,
          );
        }

    owing : (number server : ℕ) (ask : Ask) (answer : Answer) (client : Ask) → under_way one number ≡ Some client → ask.key ≡ client.key
        → IsFront words number client (calls_so_far one number ++ record { server = server; ask = ask; origin = Client; outcome = Answered answer } ∷ []) → AnswerAgrees ask answer None
        → Sim (λ s k. cond (nat_eq server s) (cond (bytes_eq ask.key k) true (owes s k)) (owes s k)) (Turns server ask.key (held opening one server ask.key) ∷ (Calls number server ask Client (Read number answer 0) ∷ (Turns server ask.key None ∷ one))) (Does (Turns server ask.key None) ∷ (Does (Calls number server ask Client (Read number answer 0)) ∷ (Does (Turns server ask.key None) ∷ model)))
    owing number server ask answer client way on front agrees =
        let back = held opening one server ask.key in
        let end : End = Read number answer 0 in
        let call : Event = Calls number server ask Client end in
        let lost : Event = Turns server ask.key None in
        record {
          like = like_left (call ∷ (lost ∷ one)) (lost ∷ (call ∷ (lost ∷ two))) server ask.key back
              (like_right (call ∷ (lost ∷ one)) (call ∷ (lost ∷ two)) server ask.key None
              (like_calls (lost ∷ one) (lost ∷ two) number server ask Client end (like_left one (lost ∷ two) server ask.key None (like_right one two server ask.key None h.like))));
          holds = λ s k.
              fits_by (cond (nat_eq server s) (cond (bytes_eq ask.key k) true (owes s k)) (owes s k)) _ _ _ _ (three opening one number server ask Client end back None s k) (three opening two number server ask Client end None None s k)
              (fits_place (nat_eq server s) (bytes_eq ask.key k) true (owes s k) back (held opening one s k) None (held opening two s k) refl (h.holds s k));
          items = λ n i.
              item_same (nat_eq number n) i (calls_so_far one n) (calls_so_far two n) (held opening (lost ∷ one) server ask.key) (held opening (lost ∷ two) server ask.key) (item_at opening one n i) (item_at opening two n i)
              (h.like.calls n) (turned_here opening one server ask.key None ∙ sym (turned_here opening two server ask.key None)) (h.items n i);
          shown = λ m key item e. inr (inr (inr (h.shown m key item (rest (rest (rest e))))));
          run = (
            refl,
            (
              (client, sym (h.like.way number) ∙ way, on, subst (λ l. IsFront words number client (l ++ record { server = server; ask = ask; origin = Client; outcome = Answered answer } ∷ [])) (h.like.calls number) front, (subst (λ o. AnswerAgrees ask answer o) (sym (turned_here opening two server ask.key None)) agrees, refl)),
              (refl, h.run),
            ),
          );
        }

    turned : (server : ℕ) (key : List ℕ) (item : Option Item) → item ≡ None → Sim owes (Turns server key item ∷ one) (Does (Turns server key item) ∷ model)
    turned server key item may =
        record {
          like = like_left one (Turns server key item ∷ two) server key item (like_right one two server key item h.like);
          holds = λ s k.
              fits_by (owes s k) _ _ _ _ (held_after opening (Turns server key item) one s k) (held_after opening (Turns server key item) two s k)
              (place (Fits (owes s k)) server s key k item (held opening one s k) item (held opening two s k) (λ _ _. fits_none (owes s k) item may) (h.holds s k));
          items = h.items;
          shown = λ m k i e. inr (h.shown m k i (rest e));
          run = (may, h.run);
        }

    restarted : (server : ℕ) → Sim owes (Restarts server ∷ one) (Does (Restarts server) ∷ model)
    restarted server =
        record {
          like = like_restarts one two server h.like;
          holds = λ s k.
              fits_by (owes s k) _ _ _ _ (held_after opening (Restarts server) one s k) (held_after opening (Restarts server) two s k)
              (fits_restart (nat_eq server s) (owes s k) (held opening one s k) (held opening two s k) (h.holds s k));
          items = h.items;
          shown = λ m k i e. inr (h.shown m k i (rest e));
          run = (tt, h.run);
        }

    repaid : (server : ℕ) (key : List ℕ) → Sim (λ s k. cond (nat_eq server s) (cond (bytes_eq key k) false (owes s k)) (owes s k)) (Turns server key None ∷ one) (Does (Turns server key None) ∷ model)
    repaid server key =
        record {
          like = like_left one (Turns server key None ∷ two) server key None (like_right one two server key None h.like);
          holds = λ s k.
              fits_by (cond (nat_eq server s) (cond (bytes_eq key k) false (owes s k)) (owes s k)) _ _ _ _ (held_after opening (Turns server key None) one s k) (held_after opening (Turns server key None) two s k)
              (fits_place (nat_eq server s) (bytes_eq key k) false (owes s k) None (held opening one s k) None (held opening two s k) refl (h.holds s k));
          items = h.items;
          shown = λ m k i e. inr (h.shown m k i (rest e));
          run = (refl, h.run);
        }

    emptied : (server : ℕ) → Sim (λ s k. cond (nat_eq server s) false (owes s k)) (Restarts server ∷ one) (Does (Restarts server) ∷ model)
    emptied server =
        record {
          like = like_restarts one two server h.like;
          holds = λ s k.
              fits_by (cond (nat_eq server s) false (owes s k)) _ _ _ _ (held_after opening (Restarts server) one s k) (held_after opening (Restarts server) two s k)
              (fits_server (nat_eq server s) (owes s k) (held opening one s k) (held opening two s k) (h.holds s k));
          items = h.items;
          shown = λ m k i e. inr (h.shown m k i (rest e));
          run = (tt, h.run);
        }

  sim : (past : List OwedMoment) → OwedRun words Bars opening (LandsInTime WasOver) past → Sim (owed past) (told_owed opening past) (as_lost past)
  sim [] run = record { like = like_none; holds = λ s k. refl; items = λ n i. refl; shown = λ m key item e. e; run = tt }
  sim (Owes number server ask answer ∷ past) run = owing (owed past) (told_owed opening past) (as_lost past) (sim past run.1) number server ask answer run.0.0 run.0.1 run.0.2 run.0.3 run.0.4
  sim (Sees (Does (Calls number server ask origin end)) ∷ past) run = called (owed past) (told_owed opening past) (as_lost past) (sim past run.1) number server ask origin end (owed past server ask.key) refl run.0
  sim (Sees (Lands number server ask origin stamp answer spaces) ∷ past) run = landed (owed past) (told_owed opening past) (as_lost past) (sim past run.1) number server ask origin stamp answer spaces (owed past server ask.key) refl run.0
  sim (Repays server key ∷ past) run = repaid (owed past) (told_owed opening past) (as_lost past) (sim past run.1) server key
  sim (Empties server ∷ past) run = emptied (owed past) (told_owed opening past) (as_lost past) (sim past run.1) server
  sim (Sees (Does (Turns server key item)) ∷ past) run = turned (owed past) (told_owed opening past) (as_lost past) (sim past run.1) server key item run.0
  sim (Sees (Does (Restarts server)) ∷ past) run = restarted (owed past) (told_owed opening past) (as_lost past) (sim past run.1) server
  sim (Sees (Does (Begins number ask)) ∷ past) run =
      let h = sim past run.1 in
      let one = told_owed opening past in
      let two = told opening (as_lost past) in
      record {
        like = like_begins one two number ask h.like;
        holds = h.holds;
        items = h.items;
        shown = λ m key item e. inr (h.shown m key item (rest e));
        run = ((h.like.new number run.0.0, λ other client e same. run.0.1 other client (h.like.way other ∙ e) same), h.run);
      }
  sim (Sees (Does (Replies number key reply from)) ∷ past) run =
      let h = sim past run.1 in
      let one = told_owed opening past in
      let two = told opening (as_lost past) in
      record {
        like = like_replies one two number key reply from h.like;
        holds = h.holds;
        items = h.items;
        shown = λ m k item e. ⊎_elim (λ by. inl (by.0, by.1, by.2, by.3, sym (h.items number by.2) ∙ by.4)) (λ old. inr (h.shown m k item old)) e;
        run = ((run.0.0, sym (h.like.way number) ∙ run.0.1, run.0.2, subst (λ l. words number run.0.0 l reply from) (h.like.calls number) run.0.3), h.run);
      }
  sim (Sees (Does (Breaks number)) ∷ past) run =
      let h = sim past run.1 in
      let one = told_owed opening past in
      let two = told opening (as_lost past) in
      record {
        like = like_breaks one two number h.like;
        holds = h.holds;
        items = h.items;
        shown = λ m key item e. inr (h.shown m key item (rest e));
        run = ((run.0.0, sym (h.like.way number) ∙ run.0.1), h.run);
      }

pub owed_fresh : (words : ℕ → Ask → List Call → Answer → Option ℕ → Type 0) (Bars : ℕ → Ask → ℕ → Ask → Type 0) → OwedIsFresh words Bars
owed_fresh words Bars opening cover copies moments run n m delete item ack shown over =
    let h = sim words Bars opening moments run in
    grown_fresh words Bars opening cover WasOver copies (λ past x s e. e) (as_lost moments) h.run n m delete item (h.like.acked_before m n delete ack) (h.shown m delete.key item shown) (h.like.ended_before n item.stamp over)
