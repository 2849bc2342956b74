-- What is written event by event: the lines so far, and the widths of what stands in them.
use Rattle.std.proofs.Common.{◌≡◌, ℕ, ◌+◌, ◌<◌, List, [], ◌∷◌, ◌++◌, length, get_or, take, map, Option, Some, None, Result, Ok, Err, All, sym, ap, ◌∙◌, subst, append_assoc, arith}
use Rattle.std.specs.Prelude.{OnOk}
use Rattle.std.specs.Io.KnownBytes.{Appends}
use Rattle.std.proofs.lemmas.Grind.{flat_map-append}
use Rattle.std.proofs.lemmas.List.{append-nil, get_or_default, map-append, take_more}
use Rattle.std.proofs.lemmas.List.Concat.{flat_map-cons}
use Rattle.std.proofs.lemmas.List.Elements.{All-head, All-tail, All-push}
use Rattle.script_events.specs.declared.script.Event.{Event}
use Rattle.script_events.specs.Scripted.{Scripted, scripted_of}
use Rattle.script_events.specs.ScriptLines.{event_line, script_lines}
use Rattle.script_events.specs.LineLaws.{AreBytes, HasWidths}

-- the numbers and bytes of each of these events have the widths of their types
abbrev pub HaveWidths : List Scripted → Type 0
HaveWidths [] = Unit {0}
HaveWidths (event ∷ events) = HasWidths event × HaveWidths events

pub are_bytes : (xs : List ℕ) → ((i : ℕ) → get_or xs i 0 < 256) → AreBytes xs
are_bytes xs fits = λ i d lt. omega (arith, fits i, get_or_default xs i d 0 lt)

pub on_ok : {T E : Type 0} (r : Result T E) (P : Type 0) → P → OnOk r P
on_ok (Ok x) P h = h
on_ok (Err e) P h = tt

both_written : (old mid new : Option (List ℕ)) (a b : List ℕ) → Appends old mid a → Appends mid new b → Appends old new (a ++ b)
both_written None mid new a b x y = tt
both_written (Some xs) None new a b x y = absurd x
both_written (Some xs) (Some ys) None a b x y = y
both_written (Some xs) (Some ys) (Some zs) a b x y = y ∙ ap (λ (t : List ℕ). t ++ b) x ∙ append_assoc xs a b

abbrev pub IsWide : Event → Type 0
IsWide event = HasWidths (scripted_of event)

module _ (events : List Event) (i : ℕ) (event : Event) (lt : i < length events) (is : event ≡ get_or events i event) where
  one_more : take (i + 1) events ≡ take i events ++ event ∷ []
  one_more = take_more events i event lt ∙ ap (λ (e : Event). take i events ++ e ∷ []) (sym is)

  more_lines : script_lines (map scripted_of (take (i + 1) events)) ≡ script_lines (map scripted_of (take i events)) ++ event_line (scripted_of event)
  more_lines =
      let so_far = map scripted_of (take i events) in
      ap (λ (es : List Event). script_lines (map scripted_of es)) one_more
      ∙ ap script_lines (map-append scripted_of (take i events) (event ∷ []))
      ∙ flat_map-append event_line so_far (scripted_of event ∷ [])
      ∙ ap (λ (t : List ℕ). script_lines so_far ++ t) (flat_map-cons event_line (scripted_of event) [] ∙ append-nil (event_line (scripted_of event)))

  pub lines_more : (old mid new : Option (List ℕ)) → Appends old mid (script_lines (map scripted_of (take i events))) → Appends mid new (event_line (scripted_of event))
      → Appends old new (script_lines (map scripted_of (take (i + 1) events)))
  lines_more old mid new front line =
      subst (λ (t : List ℕ). Appends old new t) (sym more_lines) (both_written old mid new (script_lines (map scripted_of (take i events))) (event_line (scripted_of event)) front line)

  pub widths_more : All IsWide (take i events) → IsWide event → All IsWide (take (i + 1) events)
  widths_more front wide = subst (λ (es : List Event). All IsWide es) (sym one_more) (All-push IsWide (take i events) event front wide)

-- the numbers and bytes of wide events have the widths of their types, as a log has the events
pub have_widths : (events : List Event) → All IsWide events → HaveWidths (map scripted_of events)
have_widths [] all = tt
have_widths (event ∷ events) all = (All-head IsWide event events all, have_widths events (All-tail IsWide event events all))
