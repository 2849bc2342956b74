-- Each line of a script goes with its trouble.
use Rattle.std.proofs.Common.{◌≡◌, ℕ, ◌==◌, Bool, true, false, List, [], ◌∷◌, Option, Some, None, Result, Ok, Err, refl, sym, ap, subst, inl, inr}
use Rattle.std.specs.Prelude.{codes, if◌then◌else◌, option_and_then, IsSome}
use Rattle.std.specs.Str.{bytes_eq}
use Rattle.std.proofs.lemmas.Bool.{cases_Bool}
use Rattle.std.proofs.lemmas.Slice.Eq.{bytes_eq-Decides}
use Rattle.serde_json.specs.Read.{read}
use Rattle.route_json.specs.Configs.{read_after}
use Rattle.route_json.specs.Configuration.{Configuration}
use Rattle.route_json.specs.Servers.{Addresses}
use Rattle.script_events.specs.Scripted.{Scripted}
use Rattle.script_events.specs.Events.{event_said}
use Rattle.script_events.specs.FirstLine.{WhyNot, read_or_fault}
use Rattle.script_events.specs.Lines.{Parts, cut}
use Rattle.script_events.specs.Told.{Meaning, Nothing, said_or_not, loads_or_not, reload_said, load_or_event}
use Rattle.fault_words.specs.Troubles.{Trouble, NoConfiguration, form_of, named_trouble, line_trouble, trouble_in}
use Rattle.fault_words.specs.Laws.{IsEither, GoesWith, EachLineGoesWithItsTrouble}
use Rattle.fault_words.proofs.Either.{each_line_is_either}

event_goes : (o : Option Scripted) (t : Option Trouble) → IsEither o t → GoesWith (said_or_not o) t
event_goes None None h = absurd h
event_goes None (Some t) h = refl
event_goes (Some event) None h = refl
event_goes (Some event) (Some t) h = absurd h

-- the trouble of a reload line, loaded or not
reload_goes : (r : Result Configuration WhyNot) (t : Option Trouble) → t ≡ Some NoConfiguration → GoesWith (loads_or_not r) t
reload_goes (Ok c) t e = e
reload_goes (Err why) t e = subst (λ (o : Option Trouble). IsSome o) (sym e) refl

abbrev json_of : Parts → Option (List ℕ)
json_of p = if bytes_eq p.word (codes "reload") then Some p.rest else None

parts_trouble : (line json : List ℕ) (o : Option Parts) → option_and_then json_of o ≡ Some json → line_trouble line o ≡ Some NoConfiguration
parts_trouble line json None e = absurd cc
parts_trouble line json (Some p) e = elim (cases_Bool (bytes_eq p.word (codes "reload"))) [
  | inl same ↦
      let word : p.word ≡ codes "reload" = (bytes_eq-Decides p.word (codes "reload")).0 same in
      ap (λ (w : List ℕ). named_trouble (form_of w) w p.rest) word
  | inr other ↦
      let none : None ≡ Some json = rw other at e in
      absurd cc
]

reload_trouble : (line json : List ℕ) → reload_said line ≡ Some json → trouble_in line ≡ Some NoConfiguration
reload_trouble line json e = parts_trouble line json (cut line) e

either_goes : (used : Addresses) (line : List ℕ) (o : Option (List ℕ)) → reload_said line ≡ o → GoesWith (load_or_event used o line) (trouble_in line)
either_goes used line None e = event_goes (event_said line) (trouble_in line) (each_line_is_either line)
either_goes used line (Some json) e = reload_goes (read_or_fault (read_after used (read json))) (trouble_in line) (reload_trouble line json e)

comment_or : (is : Bool) (m : Meaning) (t : Option Trouble) → GoesWith m t → GoesWith (if is then Nothing else m) t
comment_or true m t h = tt
comment_or false m t h = h

pub goes_with : EachLineGoesWithItsTrouble
goes_with used [] = tt
goes_with used (b ∷ line) = comment_or (b == 35) (load_or_event used (reload_said (b ∷ line)) (b ∷ line)) (trouble_in (b ∷ line)) (either_goes used (b ∷ line) (reload_said (b ∷ line)) refl)
