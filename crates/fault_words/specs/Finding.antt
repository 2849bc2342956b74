-- The first bad line of a script, and what is wrong with it. Source: mcgate's own.
use Rattle.std.specs.Prelude.{◌≡◌, ℕ, List, [], ◌∷◌, Option, Some, None, Result, Ok, Err}
use Rattle.route_json.specs.Configuration.{Configuration}
use Rattle.script_events.specs.Scripted.{Scripted}
use Rattle.script_events.specs.Events.{event_said}
use Rattle.script_events.specs.FirstLine.{WhyNot, first_said}
use Rattle.script_events.specs.Lines.{lines_of}
use Rattle.script_events.specs.Told.{Told, told_from, events_said, bad_line, servers_said}
use Rattle.fault_words.specs.Lines.{line_numbered}
use Rattle.fault_words.specs.Misfits.{misfit_of, bytes_before_bad}
use Rattle.fault_words.specs.Troubles.{trouble_in, trouble_of}
use Rattle.fault_words.specs.declared.script.misfit.Misfit.{Misfit}
use Rattle.fault_words.specs.declared.script.finding.Wrong.{Wrong}
use Rattle.fault_words.specs.declared.script.finding.Wrong.TheVariants as w
use Rattle.fault_words.specs.declared.script.finding.BadLine.{BadLine}

-- the event of a line can't be over so many servers, with so many bytes in the pieces before it, for this reason
pub record IsUnfit (servers before : ℕ) (line : List ℕ) (why : Misfit) : Type 0 where
  pub event : Scripted
  pub said : event_said line ≡ Some event
  pub is : why ≡ misfit_of servers before event

-- what is wrong with a line of events
abbrev pub IsWrongLine : ℕ → ℕ → List ℕ → Wrong → Type 0
IsWrongLine servers before line w.Pool = ⊥
IsWrongLine servers before line (w.Unread trouble) = trouble_in line ≡ Some (trouble_of trouble)
IsWrongLine servers before line (w.Unfit why) = IsUnfit servers before line why

-- how many bytes the pieces have before the first event that can't be
abbrev pub bytes_said : Told → ℕ
bytes_said t = bytes_before_bad (servers_said t) (events_said t)

-- of further lines over a configuration, of which the first has this number: the first bad one, and what is wrong with it, over the servers known before the first that can't be read
abbrev pub IsWrong : ℕ → List (List ℕ) → Configuration → Option BadLine → Type 0
IsWrong first lines config None = bad_line (Ok (told_from first config lines)) ≡ None
IsWrong first lines config (Some b) = (bad_line (Ok (told_from first config lines)) ≡ Some b.number) × IsWrongLine (servers_said (told_from first config lines)) (bytes_said (told_from first config lines)) (line_numbered first lines b.number) b.wrong

-- of a first line and further lines; a pool line that is none is the bad one
abbrev pub IsWrongAfter : Result Configuration WhyNot → List (List ℕ) → Option BadLine → Type 0
IsWrongAfter (Ok config) further found = IsWrong 2 further config found
IsWrongAfter (Err why) further None = bad_line (Err why) ≡ None
IsWrongAfter (Err why) further (Some b) = (bad_line (Err why) ≡ Some b.number) × (b.wrong ≡ w.Pool)

abbrev pub IsWrongIn : List (List ℕ) → Option BadLine → Type 0
IsWrongIn [] found = ⊥
IsWrongIn (first ∷ further) found = IsWrongAfter (first_said first) further found

-- of a script with its configuration
abbrev pub FindsBadLine : List ℕ → Option BadLine → Type 0
FindsBadLine text found = IsWrongIn (lines_of text) found
