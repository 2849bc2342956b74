-- What a call found whose answer shows a part of an item.
use Rattle.std.proofs.Common.{◌≡◌, ℕ, zero, suc, List, [], ◌∷◌, Option, Some, option_map, refl, ap, ◌∙◌, subst, slice_get}
use Rattle.mc_types.specs.declared.ask.Ask.{Ask}
use Rattle.mc_types.specs.declared.answer.Answer.{Answer}
use Rattle.mc_types.specs.declared.call.Outcome.{Outcome}
use Rattle.mc_types.specs.declared.call.Outcome.TheVariants.{Answered, Failed}
use Rattle.mc_types.specs.Items.{Item}
use Rattle.mc_types.specs.Agree.{AnswerAgrees}
use Rattle.fresh_runs.specs.Calls.{Call}
use Rattle.fresh_runs.specs.Cover.{IsAnswerOf}
use Rattle.fresh_runs.proofs.Finding.{shown_needs_item}
use Rattle.script_events.specs.Found.{stamp_in, stamp_at, IsStamp, AgreesWith, IsFound, AreFound}

found_at : (calls : List Call) (found : List (Option Item)) (stamps : List (Option ℕ)) (i : ℕ) (call : Call) → AreFound calls found stamps → slice_get calls i ≡ Some call → (item : Option Item) × (stamp : Option ℕ) × (slice_get found i ≡ Some item) × (slice_get stamps i ≡ Some stamp) × IsFound call item stamp
found_at [] found stamps i call h e = absurd (cc)
found_at (c ∷ calls) [] stamps i call h e = absurd h
found_at (c ∷ calls) (f ∷ found) [] i call h e = absurd h
found_at (c ∷ calls) (f ∷ found) (s ∷ stamps) zero call h e = let is : c ≡ call = cc in (f, s, refl, refl, subst (λ x. IsFound x f s) is h.0)
found_at (c ∷ calls) (f ∷ found) (s ∷ stamps) (suc i) call h e = found_at calls found stamps i call h.1 e

stamp_of_item : (answer : Answer) (outcome : Outcome) (item : Item) (found : Option Item) (stamp : Option ℕ) → outcome ≡ Answered answer → found ≡ Some item → IsStamp outcome found stamp → stamp ≡ Some item.stamp
stamp_of_item answer (Answered a) item found stamp e f h = h ∙ ap (λ o. option_map (λ (i : Item). i.stamp) o) f
stamp_of_item answer Failed item found stamp e f h = absurd (cc)

agrees_of : (ask : Ask) (answer : Answer) (outcome : Outcome) (found : Option Item) → outcome ≡ Answered answer → AgreesWith ask outcome found → AnswerAgrees ask answer found
agrees_of ask answer (Answered a) found e h = let is : a ≡ answer = cc in subst (λ x. AnswerAgrees ask x found) is h
agrees_of ask answer Failed found e h = absurd (cc)

-- what a call found whose answer shows a part of an item, and its stamp
pub shown_found : (calls : List Call) (found : List (Option Item)) (stamps : List (Option ℕ)) (i : ℕ) (answer : Answer) → AreFound calls found stamps → IsAnswerOf calls i answer → (item : Item) × (slice_get found i ≡ Some (Some item)) × (stamp_at stamps i ≡ Some item.stamp)
shown_found calls found stamps i answer h a =
    let at = found_at calls found stamps i a.call h a.made in
    let there = shown_needs_item a.call.ask answer at.0 a.asked a.fits a.showing (agrees_of a.call.ask answer a.call.outcome at.0 a.answered at.4.agrees) in
    (there.0, at.2 ∙ ap Some there.1, ap stamp_in at.3 ∙ stamp_of_item answer a.call.outcome there.0 at.0 at.1 a.answered there.1 at.4.stamp_is)
