-- What is printed of a script that is run over TCP, by how that ends. No clause says what sockets carry: of a run it is said that the gate accepted its tree, and that
-- lines of what clients got and of what became of reloads were written, with the last one after them. Source: mcgate's own.
use Rattle.std.specs.Prelude.{◌≡◌, ℕ, ◌++◌, ◌⊎◌, List, length, map, Option, Some, None, Result, Ok}
use Rattle.std.specs.Io.KnownBytes.{Appends}
use Rattle.route_json.specs.Configuration.{Configuration}
use Rattle.gate_check.specs.Gate.{IsCertified}
use Rattle.script_events.specs.declared.script.Reload.{Reload}
use Rattle.script_events.specs.Scripted.{Scripted, scripted_of}
use Rattle.script_events.specs.Bad.{first_bad}
use Rattle.script_events.specs.FirstLine.{WhyNot}
use Rattle.script_events.specs.Told.{Told, text_told, bad_line, bad_event_line, servers_known, ReadsScript, count_known}
use Rattle.script_events.specs.declared.text.configured.ConfiguredScript.{ConfiguredScript}
use Rattle.script_events.specs.declared.text.configured.ScriptFault.{ScriptFault}
use Rattle.script_events.specs.Printed.{bad_line_line}
use Rattle.mcgate_check.specs.Checking.{PrintsRefused, HasFaultyConfig}
use Rattle.mcgate_lines.specs.declared.status.RunFault.{RunFault}
use Rattle.mcgate_lines.specs.declared.status.RunFault.TheVariants.{NoMemory, Writer, TooManyCalls}
use Rattle.mcgate_loopback.specs.declared.ends.Counts.{Counts}
use Rattle.mcgate_loopback.specs.declared.entries.RunEntry.{RunEntry}
use Rattle.mcgate_loopback.specs.Printed.{entry_lines, done_line}

-- ---- a script of which no line is bad

-- lines of what clients got and of what became of these reloads were written, and the last one
pub record WritesRun (reloads : List Reload) (old new : Option (List ℕ)) : Type 0 where
  pub shown : List RunEntry
  pub counts : Counts
  pub printed : Appends old new (entry_lines reloads shown ++ done_line counts)

-- lines of what clients got and of what became of some reloads were written
pub record WritesPart (old new : Option (List ℕ)) : Type 0 where
  pub reloads : List Reload
  pub shown : List RunEntry
  pub printed : Appends old new (entry_lines reloads shown)

-- memory was refused: before the run, and nothing was written; or during it. Nothing is said of a writer or a device that failed. It never is that there were too many calls
abbrev pub LoopbackBreaksOff : Option (List ℕ) → Option (List ℕ) → RunFault → Type 0
LoopbackBreaksOff old new NoMemory = (new ≡ old) ⊎ WritesPart old new
LoopbackBreaksOff old new Writer = Unit {0}
LoopbackBreaksOff old new TooManyCalls = ⊥

-- status 0: the gate accepted the configuration, and the script ran; status 1: it refused it, and that was written
abbrev pub LoopbackRuns : Configuration → List Reload → Option (List ℕ) → Option (List ℕ) → ℕ → Type 0
LoopbackRuns config reloads old new status = ((status ≡ 0) × IsCertified config.tree × WritesRun reloads old new) ⊎ ((status ≡ 1) × PrintsRefused config old new)

-- ---- a script that was read

-- the events of a script that was read
abbrev pub loopback_events : ConfiguredScript → List Scripted
loopback_events script = map scripted_of script.script.events.items

-- an event can't be, and the line of the first such was written
pub record HasBadEvent (script : ConfiguredScript) (old new : Option (List ℕ)) : Type 0 where
  pub line : ℕ
  pub bad : bad_event_line (count_known script) (loopback_events script) script.lines.items ≡ Some line
  pub printed : Appends old new (bad_line_line line)

-- each event of the script can be, and it ran or was refused; or one can't, and the line of the first was written
abbrev pub LoopbackRunsScript : ConfiguredScript → Option (List ℕ) → Option (List ℕ) → ℕ → Type 0
LoopbackRunsScript script old new status =
    ((first_bad (count_known script) (loopback_events script) ≡ None) × LoopbackRuns script.config script.reloads.items old new status)
    ⊎ ((status ≡ 2) × HasBadEvent script old new)

-- ---- what a text says

-- no line is bad, and the script ran or was refused
pub record Ran (t : Result Told WhyNot) (old new : Option (List ℕ)) (status : ℕ) : Type 0 where
  pub script : Told
  pub said : t ≡ Ok script
  pub good : bad_line (Ok script) ≡ None
  pub runs : LoopbackRuns script.configuration script.loads old new status

-- a line is bad, and that was written
pub record HasBadLine (t : Result Told WhyNot) (old new : Option (List ℕ)) : Type 0 where
  pub line : ℕ
  pub bad : bad_line t ≡ Some line
  pub printed : Appends old new (bad_line_line line)

-- status 0: it ran; status 1: the gate refused its tree; status 2: the configuration has a fault, or a line is bad
abbrev pub RunsTold : Result Told WhyNot → Option (List ℕ) → Option (List ℕ) → ℕ → Type 0
RunsTold t old new status = Ran t old new status ⊎ ((status ≡ 2) × (HasFaultyConfig t old new ⊎ HasBadLine t old new))

abbrev pub RunsLoopback : List ℕ → Option (List ℕ) → Option (List ℕ) → ℕ → Type 0
RunsLoopback text = RunsTold (text_told text)

-- ---- what was read of a text

-- what was read is run so of each text that is read so
abbrev pub RunsRead : Result ConfiguredScript ScriptFault → Option (List ℕ) → Option (List ℕ) → ℕ → Type 0
RunsRead read old new status = (t : Result Told WhyNot) → ReadsScript t read → RunsTold t old new status
