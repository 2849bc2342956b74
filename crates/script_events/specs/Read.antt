-- What the reader's own types stand for.
use Rattle.std.specs.Prelude.{◌≡◌, ℕ, List, map}
use Rattle.route_json.specs.Servers.{Addresses}
use Rattle.script_events.specs.Scripted.{scripted_of}
use Rattle.script_events.specs.Told.{Meaning, Nothing, Unreadable, Says, Loads, Numbered, numbered, first_unreadable, loaded}
use Rattle.script_events.specs.declared.text.meaning.Meaning as read
use Rattle.script_events.specs.declared.text.meaning.Meaning.TheVariants as m
use Rattle.script_events.specs.declared.text.meaning.Reading.{Reading}

-- what a line was read as
abbrev pub line_meaning : read.Meaning → Meaning
line_meaning m.Nothing = Nothing
line_meaning (m.Says event) = Says (scripted_of event)
line_meaning m.Unreadable = Unreadable
line_meaning (m.Loads config) = Loads config

-- what was read of lines over the servers known, of which the first has this number
pub record ReadsLines (used : Addresses) (first : ℕ) (lines : List (List ℕ)) (r : Reading) : Type 0 where
  pub events : map scripted_of r.events.items ≡ map (λ (x : Numbered). x.event) (numbered used first lines)
  pub numbers : r.lines.items ≡ map (λ (x : Numbered). x.line) (numbered used first lines)
  pub reloads : r.reloads.items ≡ loaded used 0 lines
  pub unreadable : r.unreadable ≡ first_unreadable used first lines
