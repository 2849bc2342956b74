-- A server that owes a delete answers a get.
use Rattle.std.proofs.Common.{ℕ, List, [], ◌∷◌, Option, Some, None, inl, refl, arith}
use Rattle.mc_types.specs.declared.ask.Ask.{Ask}
use Rattle.mc_types.specs.declared.answer.Answer.TheVariants.{NotFound}
use Rattle.mc_types.specs.declared.call.Origin.TheVariants.{Client}
use Rattle.mc_types.specs.declared.call.Outcome.TheVariants.{Answered}
use Rattle.mc_types.specs.Items.{Item}
use Rattle.fresh_runs.specs.Calls.{Read}
use Rattle.fresh_runs.specs.Single.{server_words}
use Rattle.fresh_runs.specs.Run.{Event, Begins, Calls, Replies, IsApart}
use Rattle.fresh_runs.specs.Run as sharing
use Rattle.fresh_runs.specs.Freshness.{nobody_bars}
use Rattle.fresh_theory.proofs.Example.{a_delete, a_get, a_get_is, an_item, its_hit, hit_fits}
use Rattle.core_accepted.specs.Late.{Does}
use Rattle.core_accepted.specs.Owed.{OwedMoment, Sees, Owes, told_owed}
use Rattle.fresh_theory.specs.OwedRaces.{OwedRaces}
use Rattle.fresh_theory.proofs.FleetExamples.{a_delete_is, gone_fits}

apart_all : (past : List Event) (number : ℕ) (ask : Ask) → IsApart nobody_bars past number ask
apart_all past number ask other client e same = ((λ x. x), (λ x. x))

abbrev key : List ℕ
key = 97 ∷ []

abbrev full : ℕ → List ℕ → Option Item
full s k = Some an_item

abbrev m1 : List OwedMoment
m1 = Sees (Does (Begins 1 a_delete)) ∷ []

abbrev m2 : List OwedMoment
m2 = Owes 1 0 a_delete NotFound ∷ m1

abbrev m3 : List OwedMoment
m3 = Sees (Does (Replies 1 key NotFound None)) ∷ m2

abbrev m4 : List OwedMoment
m4 = Sees (Does (Begins 2 a_get)) ∷ m3

abbrev m5 : List OwedMoment
m5 = Sees (Does (Calls 2 0 a_get Client (Read 2 its_hit 0))) ∷ m4

abbrev m6 : List OwedMoment
m6 = Sees (Does (Replies 2 key its_hit (Some 0))) ∷ m5

r1 : sharing.Run (server_words (λ _. 0)) nobody_bars full (told_owed full m1)
r1 = ((omega arith, apart_all [] 1 a_delete), tt)

r2 : sharing.Run (server_words (λ _. 0)) nobody_bars full (told_owed full m2)
r2 = (tt, ((a_delete, refl, refl, ([], NotFound, None, (a_delete_is, Answered NotFound, gone_fits, refl, refl, refl)), (refl, refl)), (tt, r1)))

r3 : sharing.Run (server_words (λ _. 0)) nobody_bars full (told_owed full m3)
r3 = ((a_delete, refl, refl, (a_delete_is, Answered NotFound, gone_fits, refl, refl, refl)), r2)

r4 : sharing.Run (server_words (λ _. 0)) nobody_bars full (told_owed full m4)
r4 = (((omega arith, (omega arith, (omega arith, omega arith))), apart_all (told_owed full m3) 2 a_get), r3)

r5 : sharing.Run (server_words (λ _. 0)) nobody_bars full (told_owed full m5)
r5 = ((a_get, refl, refl, ([], its_hit, Some 0, (a_get_is, Answered its_hit, hit_fits, refl, refl, refl)), ((an_item, refl, refl, refl), refl)), r4)

r6 : sharing.Run (server_words (λ _. 0)) nobody_bars full (told_owed full m6)
r6 = ((a_get, refl, refl, (a_get_is, Answered its_hit, hit_fits, refl, refl, refl)), r5)

pub owed_race : OwedRaces
owed_race = record { opening = full; moments = m6; run = r6; stale = λ fresh. fresh 1 2 a_delete an_item (inl (refl, refl, (refl, refl))) (inl (refl, refl, 0, refl, refl)) refl }
