-- What a replay prints, by how it ends. Source: mcgate's own.
use Rattle.std.specs.Prelude.{◌≡◌, ℕ, ◌+◌, ◌-◌, Bool, true, false, ◌++◌, ◌⊎◌, List, [], ◌∷◌, length, map, take, drop, slice_get, Option, Some, None, Result, Ok, Err}
use Rattle.std.specs.Io.KnownBytes.{Appends}
use Rattle.route_json.specs.Configuration.{Configuration}
use Rattle.route_json.specs.Servers.{Addresses}
use Rattle.gate_check.specs.Gate.{IsCertified}
use Rattle.gate_check.specs.Sound.{trees_of}
use Rattle.script_events.specs.declared.servers.servers.ScriptServers.{ScriptServers}
use Rattle.script_events.specs.declared.script.Script.{Script}
use Rattle.script_events.specs.declared.script.Reload.{Reload}
use Rattle.script_events.specs.declared.script.Report.{Report}
use Rattle.script_events.specs.declared.script.DriveFault.{DriveFault}
use Rattle.script_events.specs.declared.script.DriveFault.TheVariants as drive_faults
use Rattle.script_events.specs.Scripted.{Scripted, Shown, scripted_of}
use Rattle.script_events.specs.Opening.{opening_of}
use Rattle.script_events.specs.Reloads.{ReloadsInOrder}
use Rattle.fresh_runs.specs.Overlap.{run_of}
use Rattle.fresh_runs.specs.Run.{IsFreshByNumber}
use Rattle.script_run.specs.Driving.{DrivesStepped, StepsPart, AreSpentIn, AreMarks}
use Rattle.script_run.specs.declared.accepted.judging.Loading.{Loading}
use Rattle.script_run.specs.declared.accepted.judging.Loading.TheVariants.{Loaded, Refused}
use Rattle.script_run.specs.Reloads.{loading_is_refused}
use Rattle.script_events.specs.FirstLine.{WhyNot}
use Rattle.script_events.specs.Events.{◌>>=◌}
use Rattle.script_events.specs.Told.{Told, text_told, told_over, bad_line, bad_event_line, either, events_said, lines_said, servers_known, AreChainedFrom, ReadsScript, count_known}
use Rattle.script_events.specs.declared.text.configured.ConfiguredScript.{ConfiguredScript}
use Rattle.script_events.specs.declared.text.configured.ScriptFault.{ScriptFault}
use Rattle.script_events.specs.Printed.{shown_lines, report_line, bad_line_line}
use Rattle.script_events.specs.Bad.{first_bad}
use Rattle.mcgate_check.specs.Checking.{PrintsRefused, HasFaultyConfig}
use Rattle.mcgate_lines.specs.Reloads.{loaded_line, unchecked_line, kept_line}
use Rattle.mcgate_lines.specs.declared.status.RunFault.{RunFault}
use Rattle.mcgate_lines.specs.declared.status.RunFault.TheVariants.{NoMemory, Writer, TooManyCalls}
use Rattle.gate_growth.specs.Grown.{AreSoundSince}
use Rattle.core_accepted.specs.Known.{Known, is_arbitrary, first_of}
use Rattle.mcgate_replay.specs.declared.judging.Judging.{Judging}
use Rattle.mcgate_replay.specs.declared.judging.Judging.TheVariants.{Any, Asked, Begun}
use Rattle.mcgate_replay.specs.Growing.{asks_no_gate, excluded_by, IsFew, MayNotFollowKnown, JudgesAll}
use Rattle.mcgate_replay.specs.Pairing.{ArePaired}

-- the events of a script
abbrev pub scripted : Script → List Scripted
scripted script = map scripted_of script.events.items

-- the events of a script that was read with its configuration
abbrev pub replayed_events : ConfiguredScript → List Scripted
replayed_events script = scripted script.script

-- the reloads of a script that was read
abbrev pub reloads_of : ConfiguredScript → List Reload
reloads_of script = script.reloads.items

-- ---- the lines of a transcript

-- the line of what the gate answered to a configuration of these servers
abbrev pub loading_line : Addresses → Loading → List ℕ
loading_line servers (Loaded generation) = loaded_line generation
loading_line servers (Refused fault) = kept_line servers fault

-- the line of a reload of this number, counted from 0: what the gate answered, or where it isn't asked that it is the next generation; the first configuration is generation 1
abbrev pub load_line : Bool → ℕ → Reload → Option Loading → List ℕ
load_line true number reload loading = unchecked_line (number + 2)
load_line false number reload None = []
load_line false number reload (Some loading) = loading_line reload.config.servers loading

-- the lines of reloads, of which the first has this number
abbrev pub load_lines : Bool → ℕ → List Reload → List Loading → List (List ℕ)
load_lines any number [] loadings = []
load_lines any number (reload ∷ reloads) loadings = load_line any number reload (slice_get loadings number) ∷ load_lines any (number + 1) reloads loadings

-- the lines of outputs and of reloads: each reload's stands before the output of its mark, counted from 0, or after the last; so many outputs stand before these. A reload without a mark has no line
abbrev pub with_loads : ℕ → List Shown → List ℕ → List (List ℕ) → List ℕ
with_loads before shown [] lines = shown_lines shown
with_loads before shown (mark ∷ marks) [] = shown_lines shown
with_loads before shown (mark ∷ marks) (line ∷ lines) = shown_lines (take (mark - before) shown) ++ line ++ with_loads mark (drop (mark - before) shown) marks lines

-- the lines of a run's transcript
abbrev pub transcript_lines : Bool → List Reload → List Loading → List Shown → List ℕ → List ℕ
transcript_lines any reloads loadings shown marks = with_loads 0 shown marks (load_lines any 0 reloads loadings)

-- ---- what was printed of a script by how it ran

-- it ran to its end, and these lines and that of the report were written
pub record Wrote (driven : Result Report DriveFault) (lines : List ℕ) (old new : Option (List ℕ)) : Type 0 where
  pub report : Report
  pub driven_is : driven ≡ Ok report
  pub printed : Appends old new (lines ++ report_line report)

-- what a fault of the driver is to the run. That an event can't be is told before the run begins, so it is none of its faults
abbrev pub run_fault_of : DriveFault → RunFault
run_fault_of (drive_faults.BadEvent index) = Writer
run_fault_of drive_faults.NoMemory = NoMemory
run_fault_of drive_faults.Spent = TooManyCalls

-- memory was refused, or calls had no more numbers, and these lines were written; nothing is said of a writer that failed
abbrev pub BrokeOff : Result Report DriveFault → List ℕ → Option (List ℕ) → Option (List ℕ) → RunFault → Type 0
BrokeOff driven lines old new NoMemory = (driven ≡ Err drive_faults.NoMemory) × Appends old new lines
BrokeOff driven lines old new TooManyCalls = (driven ≡ Err drive_faults.Spent) × Appends old new lines
BrokeOff driven lines old new Writer = Unit {0}

-- ---- a script through a configuration's tree and those that it loads, which are gated unless they may be any

-- what became of the reloads: the gate wasn't asked, and each is loaded; or it accepted the first configuration, and answered so of each reload's against all accepted before, of which so many are held at most, and all that it accepted cover each other, or are sound where servers began so
abbrev pub AreLoadings : Judging → Configuration → List Reload → List Loading → Type 0
AreLoadings Any config reloads loadings = loadings ≡ []
AreLoadings (Begun begun most) config reloads loadings =
    IsCertified config.tree × (known : Known) × JudgesAll (MayNotFollowKnown most) (first_of config begun) reloads loadings known
    × IsFew most (length known.configs) × AreSoundSince (is_arbitrary known) (trees_of known.configs)
AreLoadings (Asked most) config reloads loadings = IsCertified config.tree × ArePaired most config reloads loadings

-- the events ran, each command through the tree in use when it began, and the lines of the transcript and of the report were written. Where the gate was asked the run is fresh, and no reply is stale
pub record RunsEvents (judging : Judging) (config : Configuration) (reloads : List Reload) (events : List Scripted) (old new : Option (List ℕ)) : Type 0 where
  pub loadings : List Loading
  pub shown : List Shown
  pub marks : List ℕ
  pub report : Report
  pub drives : DrivesStepped config.tree (map loading_is_refused loadings) reloads events shown marks report
  pub marked : length marks ≡ length reloads
  pub within : AreMarks (length shown) marks
  pub printed : Appends old new (transcript_lines (asks_no_gate judging) reloads loadings shown marks ++ report_line report)
  pub are_loadings : AreLoadings judging config reloads loadings
  pub fresh : asks_no_gate judging ≡ false → IsFreshByNumber (opening_of events) (run_of drives.log)
  pub none_stale : asks_no_gate judging ≡ false → report.stale ≡ 0

-- a part of the events ran so, and left the servers so; the lines of its transcript were written
pub record PrintsPart (judging : Judging) (config : Configuration) (reloads : List Reload) (events : List Scripted) (old new : Option (List ℕ)) : Type 0 where
  pub loadings : List Loading
  pub shown : List Shown
  pub marks : List ℕ
  pub servers : ScriptServers
  pub part : StepsPart config.tree (map loading_is_refused loadings) reloads events shown marks servers
  pub within : AreMarks (length shown) marks
  pub printed : Appends old new (transcript_lines (asks_no_gate judging) reloads loadings shown marks)
  pub are_loadings : AreLoadings judging config reloads loadings
  pub fresh : asks_no_gate judging ≡ false → IsFreshByNumber (opening_of events) (run_of part.log)

-- a part of the events ran, until there were no more numbers for calls or commands; the lines of its transcript were written
pub record PrintsSpent (judging : Judging) (config : Configuration) (reloads : List Reload) (events : List Scripted) (old new : Option (List ℕ)) : Type 0 where
  pub prints : PrintsPart judging config reloads events old new
  pub spent : AreSpentIn prints.part.log

-- memory was refused before the run, and nothing was written; or during it, and the transcript so far was, as it was where there were too
-- many calls. Nothing is said of a writer that failed
abbrev pub BreaksTreeOff : Judging → Configuration → List Reload → List Scripted → Option (List ℕ) → Option (List ℕ) → RunFault → Type 0
BreaksTreeOff judging config reloads events old new NoMemory = (new ≡ old) ⊎ PrintsPart judging config reloads events old new
BreaksTreeOff judging config reloads events old new TooManyCalls = PrintsSpent judging config reloads events old new
BreaksTreeOff judging config reloads events old new Writer = Unit {0}

-- status 0: it ran; status 1: the gate was asked, it refused the first configuration, and that was written
abbrev pub RunsGood : Judging → Configuration → List Reload → List Scripted → Option (List ℕ) → Option (List ℕ) → ℕ → Type 0
RunsGood judging config reloads events old new status =
    ((status ≡ 0) × RunsEvents judging config reloads events old new) ⊎ ((status ≡ 1) × (asks_no_gate judging ≡ false) × PrintsRefused config old new)

-- ---- a script that was read

-- each of its events can be, and it ran or was refused
pub record RanScript (judging : Judging) (script : ConfiguredScript) (old new : Option (List ℕ)) (status : ℕ) : Type 0 where
  pub good : first_bad (count_known script) (replayed_events script) ≡ None
  pub fits : excluded_by judging script.config (replayed_events script) ≡ None
  pub runs : RunsGood judging script.config (reloads_of script) (replayed_events script) old new status

-- of events and the numbers of their lines: the line of the first that puts on a server what that can't have held at first
abbrev pub excluded_line : Judging → Configuration → List Scripted → List ℕ → Option ℕ
excluded_line judging config events lines = do
  at ← excluded_by judging config events
  slice_get lines at

-- one can't, or where each can puts on a server what that can't have held at first, and the line of the first was written
pub record HasBadEventBy (judging : Judging) (script : ConfiguredScript) (old new : Option (List ℕ)) : Type 0 where
  pub line : ℕ
  pub bad : either (bad_event_line (count_known script) (replayed_events script) script.lines.items) (excluded_line judging script.config (replayed_events script) script.lines.items) ≡ Some line
  pub printed : Appends old new (bad_line_line line)

abbrev pub RunsScript : Judging → ConfiguredScript → Option (List ℕ) → Option (List ℕ) → ℕ → Type 0
RunsScript judging script old new status = RanScript judging script old new status ⊎ ((status ≡ 2) × HasBadEventBy judging script old new)

abbrev pub BreaksScriptOff : Judging → ConfiguredScript → Option (List ℕ) → Option (List ℕ) → RunFault → Type 0
BreaksScriptOff judging script old new fault = BreaksTreeOff judging script.config (reloads_of script) (replayed_events script) old new fault

-- a script's reloads stand in the order of their places, and each list of servers begins with the one before it
pub record HasReloads (script : ConfiguredScript) : Type 0 where
  pub order : ReloadsInOrder (length script.script.events.items) (count_known script) 0 (reloads_of script)
  pub chained : AreChainedFrom script.config.servers (reloads_of script)

-- ---- what a text says

-- the number of the first bad line; where there is none, of the first that puts on a server what that can't have held at first
abbrev pub bad_line_by : Judging → Result Told WhyNot → Option ℕ
bad_line_by judging (Ok t) = either (bad_line (Ok t)) (excluded_line judging t.configuration (events_said t) (lines_said t))
bad_line_by judging (Err why) = bad_line (Err why)

-- no line is bad, and the script ran or was refused
pub record RanBy (judging : Judging) (t : Result Told WhyNot) (old new : Option (List ℕ)) (status : ℕ) : Type 0 where
  pub script : Told
  pub said : t ≡ Ok script
  pub good : bad_line_by judging (Ok script) ≡ None
  pub runs : RunsGood judging script.configuration script.loads (events_said script) old new status

-- a line is bad, and that was written
pub record HasBadLineBy (judging : Judging) (t : Result Told WhyNot) (old new : Option (List ℕ)) : Type 0 where
  pub line : ℕ
  pub bad : bad_line_by judging t ≡ Some line
  pub printed : Appends old new (bad_line_line line)

-- status 0: it ran; status 1: the gate refused its tree; status 2: the configuration has a fault, or a line is bad
abbrev pub ReplaysTold : Judging → Result Told WhyNot → Option (List ℕ) → Option (List ℕ) → ℕ → Type 0
ReplaysTold judging t old new status = RanBy judging t old new status ⊎ ((status ≡ 2) × (HasFaultyConfig t old new ⊎ HasBadLineBy judging t old new))

-- the script ran in part
pub record RanInPart (judging : Judging) (t : Result Told WhyNot) (old new : Option (List ℕ)) : Type 0 where
  pub script : Told
  pub said : t ≡ Ok script
  pub prints : PrintsPart judging script.configuration script.loads (events_said script) old new

-- the script ran in part, and had more calls than are counted
pub record Overran (judging : Judging) (t : Result Told WhyNot) (old new : Option (List ℕ)) : Type 0 where
  pub script : Told
  pub said : t ≡ Ok script
  pub prints : PrintsSpent judging script.configuration script.loads (events_said script) old new

-- memory was refused before the run, and nothing was written; or during it
abbrev pub IsBrokenOff : Judging → Result Told WhyNot → Option (List ℕ) → Option (List ℕ) → Type 0
IsBrokenOff judging t old new = (new ≡ old) ⊎ RanInPart judging t old new

abbrev pub ReplayBreaksOff : Judging → Result Told WhyNot → Option (List ℕ) → Option (List ℕ) → RunFault → Type 0
ReplayBreaksOff judging t old new NoMemory = IsBrokenOff judging t old new
ReplayBreaksOff judging t old new TooManyCalls = Overran judging t old new
ReplayBreaksOff judging t old new Writer = Unit {0}

-- ---- what was read of a text

-- each text that is read so is replayed, with this status
abbrev pub ReplaysRead : Judging → Result ConfiguredScript ScriptFault → Option (List ℕ) → Option (List ℕ) → ℕ → Type 0
ReplaysRead judging read old new status = (t : Result Told WhyNot) → ReadsScript t read → ReplaysTold judging t old new status

abbrev pub BreaksReadOff : Judging → Result ConfiguredScript ScriptFault → Option (List ℕ) → Option (List ℕ) → RunFault → Type 0
BreaksReadOff judging read old new fault = (t : Result Told WhyNot) → ReadsScript t read → ReplayBreaksOff judging t old new fault

-- ---- a text

-- the text is a script with its configuration, and was replayed with this status
abbrev pub Replays : Judging → List ℕ → Option (List ℕ) → Option (List ℕ) → ℕ → Type 0
Replays judging text = ReplaysTold judging (text_told text)

-- the text is a script of events alone, and was replayed over a configuration from elsewhere with this status
abbrev pub ReplaysOver : Judging → Configuration → List ℕ → Option (List ℕ) → Option (List ℕ) → ℕ → Type 0
ReplaysOver judging config text = ReplaysTold judging (Ok (told_over config text))
