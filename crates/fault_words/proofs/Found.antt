-- The first bad line of what was read.
use Rattle.std.proofs.Common.{◌≡◌, ℕ, List, length, map, Option, Ok, sym, ap, ◌∙◌}
use Rattle.route_json.specs.Configuration.{Configuration}
use Rattle.script_events.specs.declared.script.Reload.{Reload}
use Rattle.script_events.specs.Scripted.{Scripted, scripted_of}
use Rattle.script_events.specs.declared.text.meaning.Reading.{Reading}
use Rattle.script_events.specs.Read.{ReadsLines}
use Rattle.script_events.specs.Told.{first_unreadable, servers_known, told_from, events_said, lines_said, servers_said, bad_event_line, either, bad_line}
use Rattle.fault_words.specs.Finding.{bytes_said}
use Rattle.fault_words.specs.Misfits.{bytes_before_bad}

module _ (first : ℕ) (c : Configuration) (lines : List (List ℕ)) (r : Reading) (h : ReadsLines c.servers first lines r) where
  pub servers_read : servers_said (told_from first c lines) ≡ length (servers_known c.servers r.reloads.items)
  servers_read = ap (λ (rs : List Reload). length (servers_known c.servers rs)) (sym h.reloads)

  pub bad_line_read : bad_line (Ok (told_from first c lines)) ≡ either (bad_event_line (length (servers_known c.servers r.reloads.items)) (map scripted_of r.events.items) r.lines.items) r.unreadable
  bad_line_read =
      let t = told_from first c lines in
      ap (λ (n : ℕ). either (bad_event_line n (events_said t) (lines_said t)) (first_unreadable c.servers first lines)) servers_read
      ∙ ap (λ (es : List Scripted). either (bad_event_line (length (servers_known c.servers r.reloads.items)) es (lines_said t)) (first_unreadable c.servers first lines)) (sym h.events)
      ∙ ap (λ (ns : List ℕ). either (bad_event_line (length (servers_known c.servers r.reloads.items)) (map scripted_of r.events.items) ns) (first_unreadable c.servers first lines)) (sym h.numbers)
      ∙ ap (λ (o : Option ℕ). either (bad_event_line (length (servers_known c.servers r.reloads.items)) (map scripted_of r.events.items) r.lines.items) o) (sym h.unreadable)

  pub bytes_read : bytes_said (told_from first c lines) ≡ bytes_before_bad (length (servers_known c.servers r.reloads.items)) (map scripted_of r.events.items)
  bytes_read =
      ap (λ (n : ℕ). bytes_before_bad n (events_said (told_from first c lines))) servers_read
      ∙ ap (bytes_before_bad (length (servers_known c.servers r.reloads.items))) (sym h.events)
