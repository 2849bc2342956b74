use Rattle.std.proofs.Common.{◌≡◌, ℕ, ◌≤◌, List, map, take, Option, Some, sym, ap, ◌∙◌, subst}
use Rattle.std.specs.Prelude.{sum_by}
use Rattle.std.proofs.lemmas.List.{take-map}
use Rattle.script_events.specs.declared.script.Event.{Event}
use Rattle.script_events.specs.Scripted.{scripted_of}
use Rattle.script_events.specs.Bad.{piece_limit, len_of, first_bad}
use Rattle.fault_words.specs.Misfits.{bytes_before}
use Rattle.fault_words.proofs.Bytes.{few_before}
use Rattle.fault_words.proofs.script.misfit.bytes_before_bad.Goals as goal

pub bytes_of-requires : goal.bytes_of-requires
bytes_of-requires c =
    let few = few_before c.args.servers c.args.script.now.events.items c.in-Some.at (sym c.first_bad_event.ensures.first ∙ c.in-Some.is) in
    subst (λ (l : List Event). sum_by len_of (map scripted_of (take c.in-Some.at l)) ≤ piece_limit) (sym c.deref.ensures.value) few

pub returns-in-Some : goal.returns-in-Some
returns-in-Some c =
    let events = map scripted_of c.args.script.now.events.items in
    let is : first_bad c.args.servers events ≡ Some c.in-Some.at = sym c.first_bad_event.ensures.first ∙ c.in-Some.is in
    c.bytes_of.ensures
    ∙ ap (λ (l : List Event). sum_by len_of (map scripted_of (take c.in-Some.at l))) c.deref.ensures.value
    ∙ ap (sum_by len_of) (sym (take-map scripted_of c.in-Some.at c.args.script.now.events.items))
    ∙ ap (λ (o : Option ℕ). bytes_before o events) (sym is)
