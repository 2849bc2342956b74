-- A store that was given up over one connection and lands after a delete over another; and a copy at one proxy that races with a delete at another.
use Rattle.std.proofs.Common.{◌≡◌, ℕ, true, false, cond, List, [], ◌∷◌, Option, Some, None, IfSome, inl, inr, refl, arith, nat_eq}
use Rattle.std.specs.Prelude.{pos}
use Rattle.mc_types.specs.declared.ask.Op.TheVariants.{Set, Add}
use Rattle.mc_types.specs.declared.ask.Ask.{Ask}
use Rattle.mc_types.specs.declared.answer.Answer.{Answer}
use Rattle.mc_types.specs.declared.answer.Answer.TheVariants.{Stored, NotFound, Deleted, Hit, Miss, ServerError}
use Rattle.mc_types.specs.declared.call.Origin.TheVariants.{Client, CopyOf}
use Rattle.mc_types.specs.declared.call.Outcome.TheVariants.{Answered, Failed}
use Rattle.mc_types.specs.declared.error_text.OwnText.TheVariants.{CallFailed}
use Rattle.mc_types.specs.ErrorTexts.{own_text}
use Rattle.mc_types.specs.Items.{Item}
use Rattle.mc_types.specs.Asks.{IsAsk}
use Rattle.mc_types.specs.Fits.{Fits}
use Rattle.fresh_runs.specs.Calls.{Call, Read, Never}
use Rattle.fresh_runs.specs.Single.{server_words}
use Rattle.fresh_runs.specs.Run.{Event, Begins, Calls, Replies, IsApart, IsNewNumber}
use Rattle.fresh_runs.specs.Run as sharing
use Rattle.fresh_runs.specs.Freshness.{nobody_bars}
use Rattle.fresh_theory.specs.StaleRuns.{answered_call, refill_words}
use Rattle.fresh_runs.proofs.Runs.{way_below}
use Rattle.fresh_theory.proofs.Example.{a_delete, a_get, a_get_is, hit_fits}
use Rattle.fresh_theory.proofs.Example as races
use Rattle.core_accepted.specs.Late.{Does, Lands, told}
use Rattle.core_accepted.specs.Pipes.{PipeStep, Sends, Moves, PipeSteps, moments_of}
use Rattle.fresh_theory.specs.FleetExamples.{two_lines, GivenUpIsStale, bars_within, FleetCopiesRace}

apart_all : (past : List Event) (number : ℕ) (ask : Ask) → IsApart nobody_bars past number ask
apart_all past number ask other client e same = ((λ x. x), (λ x. x))

-- The store that was given up.

abbrev key : List ℕ
key = 97 ∷ []

abbrev a_set : Ask
a_set = record a_get { op = Set; exptime = Some (pos 0); body = 49 ∷ [] }

a_set_is : IsAsk a_set
a_set_is =
    record {
      key = a_get_is.key;
      ranges = record { flags = omega arith; exptime = (omega arith, omega arith); body = omega arith; cas = tt; delta = omega arith };
      shape = record { with_cas = refl; flags = tt; exptime = refl; body = tt; cas = refl; delta = refl; tokens = refl };
    }

pub a_delete_is : IsAsk a_delete
a_delete_is =
    record {
      key = a_get_is.key;
      ranges = record { flags = omega arith; exptime = tt; body = omega arith; cas = tt; delta = omega arith };
      shape = record { with_cas = refl; flags = refl; exptime = refl; body = refl; cas = refl; delta = refl; tokens = refl };
    }

pub gone_fits : Fits a_delete NotFound
gone_fits = record { ranges = tt; listed = tt }

-- what the get shows
abbrev set_item : Item
set_item = record { content = 49 ∷ []; flags = 0; stamp = 1 }

abbrev its_hit : Answer
its_hit = Hit 0 (49 ∷ []) None

abbrev empty : ℕ → List ℕ → Option Item
empty s k = None

abbrev words : ℕ → Ask → List Call → Answer → Option ℕ → Type 0
words = server_words (λ _. 0)

abbrev failed : Answer
failed = ServerError (own_text CallFailed)

abbrev s1 : List PipeStep
s1 = Moves (Does (Begins 1 a_set)) ∷ []

abbrev s2 : List PipeStep
s2 = Sends 1 0 a_set Client ∷ s1

abbrev s3 : List PipeStep
s3 = Moves (Does (Calls 1 0 a_set Client Never)) ∷ s2

abbrev s4 : List PipeStep
s4 = Moves (Does (Replies 1 key failed None)) ∷ s3

abbrev s5 : List PipeStep
s5 = Moves (Does (Begins 2 a_delete)) ∷ s4

abbrev s6 : List PipeStep
s6 = Sends 2 0 a_delete Client ∷ s5

abbrev s7 : List PipeStep
s7 = Moves (Does (Calls 2 0 a_delete Client (Read 2 NotFound 0))) ∷ s6

abbrev s8 : List PipeStep
s8 = Moves (Does (Replies 2 key NotFound None)) ∷ s7

abbrev s9 : List PipeStep
s9 = Moves (Lands 1 0 a_set Client 1 Stored 0) ∷ s8

abbrev s10 : List PipeStep
s10 = Moves (Does (Begins 3 a_get)) ∷ s9

abbrev s11 : List PipeStep
s11 = Sends 3 0 a_get Client ∷ s10

abbrev s12 : List PipeStep
s12 = Moves (Does (Calls 3 0 a_get Client (Read 3 its_hit 0))) ∷ s11

abbrev s13 : List PipeStep
s13 = Moves (Does (Replies 3 key its_hit (Some 0))) ∷ s12

t1 : PipeSteps two_lines words nobody_bars empty s1
t1 = (((omega arith, apart_all [] 1 a_set), tt), tt)

t2 : PipeSteps two_lines words nobody_bars empty s2
t2 = ((a_set, refl, refl), t1)

t3 : PipeSteps two_lines words nobody_bars empty s3
t3 = (((a_set, refl, refl, ([], failed, None, (a_set_is, Failed, tt, refl, refl, refl)), tt), tt), t2)

t4 : PipeSteps two_lines words nobody_bars empty s4
t4 = (((a_set, refl, refl, (a_set_is, Failed, tt, refl, refl, refl)), tt), t3)

t5 : PipeSteps two_lines words nobody_bars empty s5
t5 = ((((omega arith, (omega arith, (omega arith, omega arith))), apart_all (told empty (moments_of s4)) 2 a_delete), tt), t4)

t6 : PipeSteps two_lines words nobody_bars empty s6
t6 = ((a_delete, refl, refl), t5)

t7 : PipeSteps two_lines words nobody_bars empty s7
t7 = (((a_delete, refl, refl, ([], NotFound, None, (a_delete_is, Answered NotFound, gone_fits, refl, refl, refl)), (refl, refl)), ([], refl)), t6)

t8 : PipeSteps two_lines words nobody_bars empty s8
t8 = (((a_delete, refl, refl, (a_delete_is, Answered NotFound, gone_fits, refl, refl, refl)), tt), t7)

t9 : PipeSteps two_lines words nobody_bars empty s9
t9 = ((((0, refl), tt, tt, refl), ([], refl)), t8)

t10 : PipeSteps two_lines words nobody_bars empty s10
t10 = ((((omega arith, (omega arith, (omega arith, (omega arith, (omega arith, (omega arith, omega arith)))))), apart_all (told empty (moments_of s9)) 3 a_get), tt), t9)

t11 : PipeSteps two_lines words nobody_bars empty s11
t11 = ((a_get, refl, refl), t10)

t12 : PipeSteps two_lines words nobody_bars empty s12
t12 = (((a_get, refl, refl, ([], its_hit, Some 0, (a_get_is, Answered its_hit, hit_fits, refl, refl, refl)), ((set_item, refl, refl, refl), refl)), ([], refl)), t11)

t13 : PipeSteps two_lines words nobody_bars empty s13
t13 = (((a_get, refl, refl, (a_get_is, Answered its_hit, hit_fits, refl, refl, refl)), tt), t12)

pub given_up : GivenUpIsStale
given_up =
    record {
      opening = empty;
      steps = s13;
      opens = λ s k. tt;
      run = t13;
      stale = λ fresh. fresh 2 3 a_delete set_item (inr (inl (refl, refl, (refl, refl)))) (inl (refl, refl, 0, refl, refl)) (inl refl);
    }

-- The copy at one proxy.

abbrev Within : ℕ → Ask → ℕ → Ask → Type 0
Within = bars_within (λ n. n)

-- a command that is new bars none that is under way at other proxies
apart_new : (past : List Event) (number : ℕ) (ask : Ask) → IsNewNumber number past → IsApart Within past number ask
apart_new past number ask new other client e same =
    let lt = way_below number past other client new e in
    ((λ b. (let is = b.0 in omega (arith, lt, is))), (λ b. (let is = b.0 in omega (arith, lt, is))))

abbrev an_old : Item
an_old = record { content = []; flags = 0; stamp = 0 }

abbrev old_hit : Answer
old_hit = Hit 0 [] None

abbrev warm : ℕ → List ℕ → Option Item
warm s k = cond (nat_eq s 1) (Some an_old) None

abbrev an_add : Ask
an_add = record a_get { op = Add }

abbrev e1 : List Event
e1 = Begins 1 a_get ∷ []

abbrev e2 : List Event
e2 = Calls 1 0 a_get Client (Read 1 Miss 0) ∷ e1

abbrev e3 : List Event
e3 = Calls 1 1 a_get Client (Read 1 old_hit 0) ∷ e2

abbrev e4 : List Event
e4 = Begins 2 a_delete ∷ e3

abbrev e5 : List Event
e5 = Calls 2 0 a_delete Client (Read 2 NotFound 0) ∷ e4

abbrev e6 : List Event
e6 = Calls 2 1 a_delete Client (Read 2 Deleted 0) ∷ e5

abbrev e7 : List Event
e7 = Replies 2 key NotFound None ∷ e6

abbrev e8 : List Event
e8 = Calls 1 0 an_add (CopyOf 1) (Read 0 Stored 0) ∷ e7

abbrev e9 : List Event
e9 = Replies 1 key old_hit (Some 1) ∷ e8

abbrev e10 : List Event
e10 = Begins 3 a_get ∷ e9

abbrev e11 : List Event
e11 = Calls 3 0 a_get Client (Read 3 old_hit 0) ∷ e10

abbrev e12 : List Event
e12 = Replies 3 key old_hit (Some 0) ∷ e11

refills : refill_words 1 a_get (answered_call 0 a_get Client Miss ∷ (answered_call 1 a_get Client old_hit ∷ (answered_call 0 an_add (CopyOf 1) Stored ∷ []))) old_hit (Some 1)
refills = inr (refl, refl)

n1 : IsNewNumber 1 []
n1 = omega arith

n2 : IsNewNumber 2 e3
n2 = (omega arith, (omega arith, (omega arith, omega arith)))

n3 : IsNewNumber 3 e9
n3 = (omega arith, (omega arith, (omega arith, (omega arith, (omega arith, (omega arith, (omega arith, (omega arith, (omega arith, omega arith)))))))))

r1 : sharing.Run refill_words Within warm e1
r1 = ((n1, apart_new [] 1 a_get n1), tt)

r2 : sharing.Run refill_words Within warm e2
r2 = ((a_get, refl, refl, (answered_call 1 a_get Client old_hit ∷ (answered_call 0 an_add (CopyOf 1) Stored ∷ []), old_hit, Some 1, refills), (refl, refl)), r1)

r3 : sharing.Run refill_words Within warm e3
r3 = ((a_get, refl, refl, (answered_call 0 an_add (CopyOf 1) Stored ∷ [], old_hit, Some 1, refills), ((an_old, refl, refl, refl), refl)), r2)

r4 : sharing.Run refill_words Within warm e4
r4 = ((n2, apart_new e3 2 a_delete n2), r3)

r5 : sharing.Run refill_words Within warm e5
r5 = ((a_delete, refl, refl, (answered_call 1 a_delete Client Deleted ∷ [], NotFound, None, (Deleted, refl, refl, refl)), (refl, refl)), r4)

r6 : sharing.Run refill_words Within warm e6
r6 = ((a_delete, refl, refl, ([], NotFound, None, (Deleted, refl, refl, refl)), (refl, refl)), r5)

r7 : sharing.Run refill_words Within warm e7
r7 = ((a_delete, refl, refl, (Deleted, refl, refl, refl)), r6)

r8 : sharing.Run refill_words Within warm e8
r8 = ((a_get, refl, refl, ([], old_hit, Some 1, refills), (refl, (an_old, refl, refl))), r7)

r9 : sharing.Run refill_words Within warm e9
r9 = ((a_get, refl, refl, refills), r8)

r10 : sharing.Run refill_words Within warm e10
r10 = ((n3, apart_new e9 3 a_get n3), r9)

r11 : sharing.Run refill_words Within warm e11
r11 = ((a_get, refl, refl, ([], old_hit, Some 0, inl (refl, refl)), ((an_old, refl, refl, refl), refl)), r10)

r12 : sharing.Run refill_words Within warm e12
r12 = ((a_get, refl, refl, inl (refl, refl)), r11)

pub fleet_copies : FleetCopiesRace
fleet_copies =
    record {
      covered = races.copies_race.covered;
      races =
          record {
            opening = warm;
            events = e12;
            opens = λ s k. elim (nat_eq s 1) as (λ b. IfSome (cond b (Some an_old) None) (λ item. item.stamp ≡ 0)) [ true ↦ refl | false ↦ tt ];
            loses = tt;
            run = r12;
            stale = λ fresh. fresh 2 3 a_delete an_old (inr (inr (inl (refl, refl, (refl, refl))))) (inl (refl, refl, 0, refl, refl)) refl;
          };
    }
