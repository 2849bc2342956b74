-- What the text of a script says. Source: mcgate's own.
use Rattle.std.specs.Prelude.{◌≡◌, ℕ, ◌+◌, ◌==◌, if◌then◌else◌, List, [], ◌∷◌, codes, length, map, Option, Some, None, Result, Ok, Err, slice_get, IsSome}
use Rattle.std.specs.Str.{bytes_eq}
use Rattle.serde_json.specs.Read.{read}
use Rattle.route_json.specs.Configs.{read_after}
use Rattle.route_json.specs.Configuration.{Configuration}
use Rattle.route_json.specs.Servers.{Addresses}
use Rattle.gate_check.specs.Reload.{AreKept}
use Rattle.script_events.specs.declared.script.Reload.{Reload}
use Rattle.script_events.specs.Scripted.{Scripted, scripted_of}
use Rattle.script_events.specs.Bad.{first_bad}
use Rattle.script_events.specs.Lines.{lines_of, cut}
use Rattle.script_events.specs.Events.{event_said, ◌>>=◌}
use Rattle.script_events.specs.FirstLine.{WhyNot, BadFirstLine, HasFault, first_said, read_or_fault, TellsFault}
use Rattle.script_events.specs.declared.text.configured.ConfiguredScript.{ConfiguredScript}
use Rattle.script_events.specs.declared.text.configured.ScriptFault.{ScriptFault}
use Rattle.script_events.specs.declared.text.configured.ScriptFault.TheVariants.{Config, BadLine, NoMemory}

-- what a further line is: no event, an event, a configuration that is loaded, or a line that can't be read
pub data Meaning : Type 0 where
  Nothing Unreadable : Meaning
  Says : Scripted → Meaning
  Loads : Configuration → Meaning

abbrev pub said_or_not : Option Scripted → Meaning
said_or_not None = Unreadable
said_or_not (Some event) = Says event

abbrev pub loads_or_not : Result Configuration WhyNot → Meaning
loads_or_not (Ok c) = Loads c
loads_or_not (Err why) = Unreadable

-- the JSON of a line `reload JSON`
abbrev pub reload_said : List ℕ → Option (List ℕ)
reload_said line = do
  parts ← cut line
  if bytes_eq parts.word (codes "reload") then Some parts.rest else None

-- a line with this JSON loads a configuration, its servers numbered after those known; one with none says an event
abbrev pub load_or_event : Addresses → Option (List ℕ) → List ℕ → Meaning
load_or_event used None line = said_or_not (event_said line)
load_or_event used (Some json) line = loads_or_not (read_or_fault (read_after used (read json)))

-- over the servers known so far: an empty line and one that begins with `#` are no event; every other line says one, loads a configuration, or can't be read
abbrev pub line_means : Addresses → List ℕ → Meaning
line_means used [] = Nothing
line_means used (b ∷ line) = if b == 35 then Nothing else load_or_event used (reload_said (b ∷ line)) (b ∷ line)

-- the servers known after a line
abbrev pub used_after : Meaning → Addresses → Addresses
used_after Nothing used = used
used_after Unreadable used = used
used_after (Says event) used = used
used_after (Loads c) used = c.servers

-- how many events there are after a line
abbrev pub events_after : Meaning → ℕ → ℕ
events_after Nothing at = at
events_after Unreadable at = at
events_after (Says event) at = at + 1
events_after (Loads c) at = at

-- an event, and the number of its line
pub record Numbered : Type 0 where
  pub line : ℕ
  pub event : Scripted

-- the line of this number and meaning, and then the events of the lines after it
abbrev pub and_then : Meaning → ℕ → List Numbered → List Numbered
and_then Nothing n after = after
and_then Unreadable n after = []
and_then (Says event) n after = record { line = n; event = event } ∷ after
and_then (Loads c) n after = after

-- the events of lines over the servers known, up to the first that can't be read; the first line has this number
abbrev pub numbered : Addresses → ℕ → List (List ℕ) → List Numbered
numbered used n [] = []
numbered used n (line ∷ lines) = and_then (line_means used line) n (numbered (used_after (line_means used line) used) (n + 1) lines)

-- the line of this number where it can't be read, else what is found after it
abbrev pub or_after : Meaning → ℕ → Option ℕ → Option ℕ
or_after Nothing n after = after
or_after Unreadable n after = Some n
or_after (Says event) n after = after
or_after (Loads c) n after = after

-- the number of the first line that can't be read
abbrev pub first_unreadable : Addresses → ℕ → List (List ℕ) → Option ℕ
first_unreadable used n [] = None
first_unreadable used n (line ∷ lines) = or_after (line_means used line) n (first_unreadable (used_after (line_means used line) used) (n + 1) lines)

-- what a line loads after so many events, and then what the lines after it do
abbrev pub load_then : Meaning → ℕ → List Reload → List Reload
load_then Nothing at after = after
load_then Unreadable at after = []
load_then (Says event) at after = after
load_then (Loads c) at after = record { at = at; config = c } ∷ after

-- what lines load, up to the first that can't be read, each after the events before it; so many events came before the lines
abbrev pub loaded : Addresses → ℕ → List (List ℕ) → List Reload
loaded used at [] = []
loaded used at (line ∷ lines) = load_then (line_means used line) at (loaded (used_after (line_means used line) used) (events_after (line_means used line) at) lines)

-- the servers known after all that was loaded
abbrev pub servers_known : Addresses → List Reload → Addresses
servers_known used [] = used
servers_known used (r ∷ rs) = servers_known r.config.servers rs

-- how many servers all configurations of a script have together
abbrev pub count_known : ConfiguredScript → ℕ
count_known script = length (servers_known script.config.servers script.reloads.items)

-- each list of servers begins with the one before it
abbrev pub AreChainedFrom : Addresses → List Reload → Type 0
AreChainedFrom used [] = Unit {0}
AreChainedFrom used (r ∷ rs) = AreKept used r.config.servers × AreChainedFrom r.config.servers rs

-- what the text of a script says: its configuration, the events and what is loaded before the first line that can't be read, and that line's number
pub record Told : Type 0 where
  pub configuration : Configuration
  pub said : List Numbered
  pub loads : List Reload
  pub unreadable : Option ℕ

-- what further lines say over a configuration; the first of them has this number
abbrev pub told_from : ℕ → Configuration → List (List ℕ) → Told
told_from first c lines = record { configuration = c; said = numbered c.servers first lines; loads = loaded c.servers 0 lines; unreadable = first_unreadable c.servers first lines }

-- what a first line and further lines say
abbrev pub told_after : Result Configuration WhyNot → List (List ℕ) → Result Told WhyNot
told_after (Ok c) further = Ok (told_from 2 c further)
told_after (Err why) further = Err why

-- what lines say; or why the first says no configuration
abbrev pub told_by : List (List ℕ) → Result Told WhyNot
told_by [] = Err BadFirstLine
told_by (first ∷ further) = told_after (first_said first) further

-- what a text says
abbrev pub text_told : List ℕ → Result Told WhyNot
text_told text = told_by (lines_of text)

-- what a text says of which each line is a further line, over a configuration from elsewhere
abbrev pub told_over : Configuration → List ℕ → Told
told_over c text = told_from 1 c (lines_of text)

-- the events alone
abbrev pub events_said : Told → List Scripted
events_said t = map (λ (x : Numbered). x.event) t.said

-- the numbers of the lines of the events
abbrev pub lines_said : Told → List ℕ
lines_said t = map (λ (x : Numbered). x.line) t.said

-- of events over so many servers, and the numbers of their lines: the line of the first event that can't be
abbrev pub bad_event_line : ℕ → List Scripted → List ℕ → Option ℕ
bad_event_line servers events lines = do
  at ← first_bad servers events
  slice_get lines at

-- the first of two that is there
abbrev pub either : Option ℕ → Option ℕ → Option ℕ
either None other = other
either (Some n) other = Some n

-- how many servers are known: those of the configuration and of each that was loaded
abbrev pub servers_said : Told → ℕ
servers_said t = length (servers_known t.configuration.servers t.loads)

-- the number of the first bad line: the first, that of an event that can't be, or else the one that can't be read; a configuration with a fault is no bad line
abbrev pub bad_line : Result Told WhyNot → Option ℕ
bad_line (Ok t) = either (bad_event_line (servers_said t) (events_said t) (lines_said t)) t.unreadable
bad_line (Err BadFirstLine) = Some 1
bad_line (Err (HasFault fault)) = None

-- some line can't be read
abbrev pub IsUnreadable : Result Told WhyNot → Type 0
IsUnreadable (Ok t) = IsSome t.unreadable
IsUnreadable (Err BadFirstLine) = Unit {0}
IsUnreadable (Err (HasFault fault)) = ⊥

-- a script that was read: each line can be, and these are the configuration, the events, what is loaded, and the events' lines
pub record IsScriptOf (t : Told) (s : ConfiguredScript) : Type 0 where
  pub whole : t.unreadable ≡ None
  pub configuration : s.config ≡ t.configuration
  pub events : map scripted_of s.script.events.items ≡ events_said t
  pub reloads : s.reloads.items ≡ t.loads
  pub lines : s.lines.items ≡ lines_said t

-- what `read_script` answers, by what the text says
abbrev pub ReadsScript : Result Told WhyNot → Result ConfiguredScript ScriptFault → Type 0
ReadsScript (Ok t) (Ok s) = IsScriptOf t s
ReadsScript (Err why) (Ok s) = ⊥
ReadsScript t (Err (Config fault)) = TellsFault t fault
ReadsScript t (Err (BadLine n)) = IsUnreadable t × (bad_line t ≡ Some n)
ReadsScript t (Err NoMemory) = Unit {0}

-- some text is read so
pub record IsReading (read : Result ConfiguredScript ScriptFault) : Type 0 where
  pub told : Result Told WhyNot
  pub reads : ReadsScript told read
