-- A run that isn't fresh, since a delete asks nobody; and one in which a copy races with a delete.
use Rattle.std.proofs.Common.{◌≡◌, ℕ, zero, suc, ◌<◌, true, false, cond, List, [], ◌∷◌, Option, Some, None, IfSome, inl, inr, refl, sym, subst, arith, nat_eq, slice_get}
use Rattle.mc_types.specs.declared.ask.Op.{Op}
use Rattle.mc_types.specs.declared.ask.Op.TheVariants.{Get, Gat, Set, Add, Replace, Append, Prepend, Cas, Delete, Incr, Decr, Touch}
use Rattle.mc_types.specs.declared.ask.Ask.{Ask}
use Rattle.mc_types.specs.declared.answer.Answer.{Answer}
use Rattle.mc_types.specs.declared.answer.Answer.TheVariants.{Stored, NotFound, Deleted, Hit, Miss}
use Rattle.mc_types.specs.declared.call.Origin.TheVariants.{Client, CopyOf}
use Rattle.mc_types.specs.declared.call.Outcome.TheVariants.{Answered}
use Rattle.mc_types.specs.Acknowledged.{says_gone}
use Rattle.mc_types.specs.Items.{Item}
use Rattle.fresh_runs.specs.Calls.{Call, Read}
use Rattle.fresh_runs.specs.Run.{Event, Begins, Calls, Replies, Run, IsApart}
use Rattle.fresh_runs.specs.Cover.{ClearsIn, IsCovered}
use Rattle.fresh_theory.specs.StaleRuns.{leaky_words, StaleRun, answered_call, refill_words_of, refill_words, CopiesRace}
use Rattle.fresh_runs.specs.Freshness.{nobody_bars}
use Rattle.mc_types.specs.declared.ask.Dialect.TheVariants.{Classic}
use Rattle.mc_types.specs.Asks.{IsAsk}
use Rattle.mc_types.specs.Fits.{Fits}

-- A delete and a get of the key `a`, an item, and its hit.

abbrev pub a_delete : Ask
a_delete = record { key = 97 ∷ []; op = Delete; dialect = Classic; with_cas = false; flags = 0; exptime = None; body = []; cas = None; delta = 0; tokens = [] }

abbrev pub a_get : Ask
a_get = record { key = 97 ∷ []; op = Get; dialect = Classic; with_cas = false; flags = 0; exptime = None; body = []; cas = None; delta = 0; tokens = [] }

pub a_get_is : IsAsk a_get
a_get_is =
    record {
      key = record { some = omega arith; short = omega arith; bytes = refl };
      ranges = record { flags = omega arith; exptime = tt; body = omega arith; cas = tt; delta = omega arith };
      shape = record { with_cas = tt; flags = refl; exptime = refl; body = refl; cas = refl; delta = refl; tokens = refl };
    }

abbrev pub an_item : Item
an_item = record { content = 49 ∷ []; flags = 0; stamp = 0 }

abbrev pub its_hit : Answer
its_hit = Hit 0 (49 ∷ []) None

pub hit_fits : Fits a_get its_hit
hit_fits = record { ranges = (omega arith, omega arith, tt); listed = refl }

apart_all : (past : List Event) (number : ℕ) (ask : Ask) → IsApart nobody_bars past number ask
apart_all past number ask other client e same = ((λ x. x), (λ x. x))

-- The delete that asks nobody.

abbrev opening : ℕ → List ℕ → Option Item
opening s k = Some an_item

abbrev begun : List Event
begun = Begins 1 a_delete ∷ []

abbrev deleted : List Event
deleted = Replies 1 (97 ∷ []) NotFound None ∷ begun

abbrev got : List Event
got = Calls 2 0 a_get Client (Read 2 its_hit 0) ∷ (Begins 2 a_get ∷ deleted)

is_run : Run leaky_words nobody_bars opening (Replies 2 (97 ∷ []) its_hit (Some 0) ∷ got)
is_run = (
  (a_get, refl, refl, (a_get_is, Answered its_hit, hit_fits, refl, refl, refl)),
  (
    (a_get, refl, refl, ([], its_hit, Some 0, (a_get_is, Answered its_hit, hit_fits, refl, refl, refl)), ((an_item, refl, refl, refl), refl)),
    (
      ((omega arith, (omega arith, omega arith)), apart_all deleted 2 a_get),
      (
        (a_delete, refl, refl, (refl, refl, refl)),
        ((omega arith, apart_all [] 1 a_delete), tt),
      ),
    ),
  ),
)

pub stale_run : StaleRun leaky_words nobody_bars
stale_run =
    record {
      opening = opening;
      events = Replies 2 (97 ∷ []) its_hit (Some 0) ∷ got;
      opens = λ s k. refl;
      loses = tt;
      run = is_run;
      stale = λ fresh. fresh 1 2 a_delete an_item (inl (refl, refl, (refl, refl))) (inl (refl, refl, 0, refl, refl)) refl;
    }

-- The copy that races with a delete.

abbrev an_old : Item
an_old = record { content = []; flags = 0; stamp = 0 }

abbrev old_hit : Answer
old_hit = Hit 0 [] None

abbrev warm : ℕ → List ℕ → Option Item
warm s k = cond (nat_eq s 1) (Some an_old) None

abbrev an_add : Ask
an_add = record a_get { op = Add }

abbrev key : List ℕ
key = 97 ∷ []

abbrev e1 : List Event
e1 = Begins 1 a_get ∷ []

abbrev e2 : List Event
e2 = Calls 1 0 a_get Client (Read 1 Miss 0) ∷ e1

abbrev e3 : List Event
e3 = Calls 1 1 a_get Client (Read 1 old_hit 0) ∷ e2

abbrev e4 : List Event
e4 = Begins 2 a_delete ∷ e3

abbrev e5 : List Event
e5 = Calls 2 0 a_delete Client (Read 2 NotFound 0) ∷ e4

abbrev e6 : List Event
e6 = Calls 2 1 a_delete Client (Read 2 Deleted 0) ∷ e5

abbrev e7 : List Event
e7 = Replies 2 key NotFound None ∷ e6

abbrev e8 : List Event
e8 = Calls 1 0 an_add (CopyOf 1) (Read 0 Stored 0) ∷ e7

abbrev e9 : List Event
e9 = Replies 1 key old_hit (Some 1) ∷ e8

abbrev e10 : List Event
e10 = Begins 3 a_get ∷ e9

abbrev e11 : List Event
e11 = Calls 3 0 a_get Client (Read 3 old_hit 0) ∷ e10

abbrev e12 : List Event
e12 = Replies 3 key old_hit (Some 0) ∷ e11

abbrev the_word : Type 0
the_word = refill_words 1 a_get (answered_call 0 a_get Client Miss ∷ (answered_call 1 a_get Client old_hit ∷ (answered_call 0 an_add (CopyOf 1) Stored ∷ []))) old_hit (Some 1)

refills : the_word
refills = inr (refl, refl)

r1 : Run refill_words nobody_bars warm e1
r1 = ((omega arith, apart_all [] 1 a_get), tt)

r2 : Run refill_words nobody_bars warm e2
r2 = ((a_get, refl, refl, (answered_call 1 a_get Client old_hit ∷ (answered_call 0 an_add (CopyOf 1) Stored ∷ []), old_hit, Some 1, refills), (refl, refl)), r1)

r3 : Run refill_words nobody_bars warm e3
r3 = ((a_get, refl, refl, (answered_call 0 an_add (CopyOf 1) Stored ∷ [], old_hit, Some 1, refills), ((an_old, refl, refl, refl), refl)), r2)

r4 : Run refill_words nobody_bars warm e4
r4 = (((omega arith, (omega arith, (omega arith, omega arith))), apart_all e3 2 a_delete), r3)

r5 : Run refill_words nobody_bars warm e5
r5 = ((a_delete, refl, refl, (answered_call 1 a_delete Client Deleted ∷ [], NotFound, None, (Deleted, refl, refl, refl)), (refl, refl)), r4)

r6 : Run refill_words nobody_bars warm e6
r6 = ((a_delete, refl, refl, ([], NotFound, None, (Deleted, refl, refl, refl)), (refl, refl)), r5)

r7 : Run refill_words nobody_bars warm e7
r7 = ((a_delete, refl, refl, (Deleted, refl, refl, refl)), r6)

r8 : Run refill_words nobody_bars warm e8
r8 = ((a_get, refl, refl, ([], old_hit, Some 1, refills), (refl, (an_old, refl, refl))), r7)

r9 : Run refill_words nobody_bars warm e9
r9 = ((a_get, refl, refl, refills), r8)

r10 : Run refill_words nobody_bars warm e10
r10 = (((omega arith, (omega arith, (omega arith, (omega arith, (omega arith, (omega arith, (omega arith, (omega arith, (omega arith, omega arith))))))))), apart_all e9 3 a_get), r9)

r11 : Run refill_words nobody_bars warm e11
r11 = ((a_get, refl, refl, ([], old_hit, Some 0, inl (refl, refl)), ((an_old, refl, refl, refl), refl)), r10)

r12 : Run refill_words nobody_bars warm e12
r12 = ((a_get, refl, refl, inl (refl, refl)), r11)

races : StaleRun refill_words nobody_bars
races =
    record {
      opening = warm;
      events = e12;
      opens = λ s k. elim (nat_eq s 1) as (λ b. IfSome (cond b (Some an_old) None) (λ item. item.stamp ≡ 0)) [ true ↦ refl | false ↦ tt ];
      loses = tt;
      run = r12;
      stale = λ fresh. fresh 2 3 a_delete an_old (inr (inr (inl (refl, refl, (refl, refl))))) (inl (refl, refl, 0, refl, refl)) refl;
    }

-- The words of that run are covered.

abbrev AllCalls : (Call → Type 0) → List Call → Type 0
AllCalls Q [] = Unit {0}
AllCalls Q (call ∷ calls) = Q call × AllCalls Q calls

call_at : (Q : Call → Type 0) (calls : List Call) (i : ℕ) (call : Call) → AllCalls Q calls → slice_get calls i ≡ Some call → Q call
call_at Q [] i call h e = absurd (cc)
call_at Q (c ∷ calls) zero call h e = subst Q (let is : c ≡ call = cc in is) h.0
call_at Q (c ∷ calls) (suc i) call h e = call_at Q calls i call h.1 e

abbrev IsLow : Call → Type 0
IsLow call = call.server < 2

all_low : (op : Op) (ask : Ask) (calls : List Call) (reply : Answer) (from : Option ℕ) → refill_words_of op ask calls reply from → AllCalls IsLow calls
all_low Get ask calls reply from (inl w) = subst (AllCalls IsLow) (sym w.0) (omega arith, tt)
all_low Get ask calls reply from (inr w) = subst (AllCalls IsLow) (sym w.0) (omega arith, (omega arith, (omega arith, tt)))
all_low Delete ask calls reply from w = subst (AllCalls IsLow) (sym w.1) (omega arith, (omega arith, tt))
all_low Gat ask calls reply from w = absurd w
all_low Set ask calls reply from w = absurd w
all_low Add ask calls reply from w = absurd w
all_low Replace ask calls reply from w = absurd w
all_low Append ask calls reply from w = absurd w
all_low Prepend ask calls reply from w = absurd w
all_low Cas ask calls reply from w = absurd w
all_low Incr ask calls reply from w = absurd w
all_low Decr ask calls reply from w = absurd w
all_low Touch ask calls reply from w = absurd w

deletes_of : (n : ℕ) (delete : Ask) (calls : List Call) (reply : Answer) (from : Option ℕ) → delete.op ≡ Delete → refill_words n delete calls reply from → refill_words_of Delete delete calls reply from
deletes_of n delete calls reply from op w = subst (λ o. refill_words_of o delete calls reply from) op w

clears_low : (delete : Ask) (reply other : Answer) (server : ℕ) → server < 2 → says_gone reply ≡ true → says_gone other ≡ true → ClearsIn (answered_call 0 delete Client reply ∷ (answered_call 1 delete Client other ∷ [])) server
clears_low delete reply other zero lt g h = inl (refl, (reply, refl, g))
clears_low delete reply other (suc zero) lt g h = inr (inl (refl, (other, refl, h)))
clears_low delete reply other (suc (suc n)) lt g h = absurd (let l = lt in omega arith)

covered : IsCovered refill_words
covered =
    record {
      covered = λ n m delete ask lt op at calls reply from word server takes calls' reply' from' word' ack.
          let w = deletes_of n delete calls' reply' from' op word' in
          let low : server < 2 = subst (λ s. s < 2) takes.1.2 (call_at IsLow calls takes.0 takes.1.0 (all_low ask.op ask calls reply from word) takes.1.1) in
          subst (λ l. ClearsIn l server) (sym w.1) (clears_low delete reply' w.0 server low ack.1 w.2);
      deletes = λ n delete op calls reply from word i call got.
          let w = deletes_of n delete calls reply from op word in
          call_at (λ c. c.ask.op ≡ Delete) calls i call (subst (AllCalls (λ c. c.ask.op ≡ Delete)) (sym w.1) (op, (op, tt))) got;
    }

-- what copies is a get
abbrev IsOwn : Call → Type 0
IsOwn call = (i : ℕ) → call.origin ≡ CopyOf i → ⊥

client_is : (i : ℕ) → Client ≡ CopyOf i → ⊥
client_is i e = cc

copies_get : (op : Op) (ask : Ask) (calls : List Call) (reply : Answer) (from : Option ℕ) → refill_words_of op ask calls reply from → (j : ℕ) (call : Call) (i : ℕ) → slice_get calls j ≡ Some call → call.origin ≡ CopyOf i → op ≡ Get
copies_get Get ask calls reply from w j call i at o = refl
copies_get Delete ask calls reply from w j call i at o = absurd (call_at IsOwn calls j call (subst (AllCalls IsOwn) (sym w.1) (client_is, (client_is, tt))) at i o)
copies_get Gat ask calls reply from w j call i at o = absurd w
copies_get Set ask calls reply from w j call i at o = absurd w
copies_get Add ask calls reply from w j call i at o = absurd w
copies_get Replace ask calls reply from w j call i at o = absurd w
copies_get Append ask calls reply from w j call i at o = absurd w
copies_get Prepend ask calls reply from w j call i at o = absurd w
copies_get Cas ask calls reply from w j call i at o = absurd w
copies_get Incr ask calls reply from w j call i at o = absurd w
copies_get Decr ask calls reply from w j call i at o = absurd w
copies_get Touch ask calls reply from w j call i at o = absurd w

pub copies_race : CopiesRace
copies_race = record { covered = covered; races = races; copies = λ number ask calls reply from word j call i at o n delete op same. (copies_get ask.op ask calls reply from word j call i at o, op) }
