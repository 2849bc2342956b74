-- What the program prints on standard output of an input, and how it ends. Source: mcgate's own.
use Rattle.std.specs.Prelude.{◌≡◌, ℕ, ◌≤◌, List, Option, Some, None, Result, Ok, Err, String, string_bytes}
use Rattle.std.specs.declared.alloc.Global.{Global}
use Rattle.serde_json.specs.Read.{read}
use Rattle.route_json.specs.Configs.{read_or}
use Rattle.route_json.specs.Configuration.{Configuration}
use Rattle.mcgate_lines.specs.Faults.{PrintsFault}
use Rattle.mcgate_check.specs.Reporting.{Checks}
use Rattle.script_events.specs.Told.{text_told}
use Rattle.mcgate_replay.specs.Replay.{Replays, Overran, IsBrokenOff as IsCutShort}
use Rattle.mcgate_args.specs.declared.arguments.Task.{Task}
use Rattle.mcgate_args.specs.declared.arguments.Task.TheVariants as tasks
use Rattle.mcgate_ends.specs.declared.input_text.reading.InputFault.{InputFault}
use Rattle.mcgate_ends.specs.declared.ends.Stop.{Stop}
use Rattle.mcgate_ends.specs.Ends.{BreaksRunOff, RunsText, Declines, AnswersBy}

-- what a task does with a text, and the status of that
abbrev pub DoesTask : Task → List ℕ → Option (List ℕ) → Option (List ℕ) → ℕ → Type 0
DoesTask (tasks.Check form) text old new status = Checks form text old new status
DoesTask (tasks.Replay judging) text old new status = Replays judging text old new status

-- what it wrote of a text where memory was refused: of a configuration nothing, of a script nothing or the transcript of a part of its run
abbrev pub MemoryRefused : Task → List ℕ → Option (List ℕ) → Option (List ℕ) → Type 0
MemoryRefused (tasks.Check form) text old new = new ≡ old
MemoryRefused (tasks.Replay judging) text old new = IsCutShort judging (text_told text) old new

-- what it wrote of a text where there were too many calls; a check makes none
abbrev pub Overruns : Task → List ℕ → Option (List ℕ) → Option (List ℕ) → Type 0
Overruns (tasks.Check form) text old new = ⊥
Overruns (tasks.Replay judging) text old new = Overran judging (text_told text) old new

-- where memory was refused nothing was written of what is judged alone
abbrev pub WritesNothing : List ℕ → Option (List ℕ) → Option (List ℕ) → Type 0
WritesNothing text old new = new ≡ old

-- what its call answers: a status, or that memory or the writer failed, or that there were too many calls
pub record AnswersTask (task : Task) (text : List ℕ) (old new : Option (List ℕ)) (answer : ℕ) : Type 0 where
  pub few : answer ≤ 5
  pub does : answer ≤ 2 → DoesTask task text old new answer
  pub refused : answer ≡ 3 → MemoryRefused task text old new
  pub too_many : answer ≡ 5 → Overruns task text old new

-- the task was done with a text; or memory was refused, or it had too many calls; or the writer failed
abbrev pub RunsTask : Task → List ℕ → Option (List ℕ) → Option (List ℕ) → Result ℕ Stop → Type 0
RunsTask task = RunsText (DoesTask task) (MemoryRefused task) (Overruns task)

abbrev pub AnswersInput : Task → Result (String Global) InputFault → Option (List ℕ) → Option (List ℕ) → Result ℕ Stop → Type 0
AnswersInput task = AnswersBy (DoesTask task) (MemoryRefused task) (Overruns task)

-- the configuration of a text, and nothing was written; or its first fault was; or memory was refused, and nothing was written; or the writer failed
abbrev pub GivesConfig : List ℕ → Option (List ℕ) → Option (List ℕ) → Result (Option Configuration) Stop → Type 0
GivesConfig text old new (Ok (Some config)) = (read_or (read text) ≡ Ok (config.tree, config.servers)) × (new ≡ old)
GivesConfig text old new (Ok None) = PrintsFault text old new
GivesConfig text old new (Err stop) = BreaksRunOff (new ≡ old) ⊥ stop

-- an input that was not read gives no configuration
abbrev pub GivesNoConfig : InputFault → Option (List ℕ) → Option (List ℕ) → Result (Option Configuration) Stop → Type 0
GivesNoConfig fault old new (Ok (Some config)) = ⊥
GivesNoConfig fault old new (Ok None) = Declines fault old new (Ok 2)
GivesNoConfig fault old new (Err stop) = Declines fault old new (Err stop)

-- the configuration of an input, or what was written of it
abbrev pub ReadsConfig : Result (String Global) InputFault → Option (List ℕ) → Option (List ℕ) → Result (Option Configuration) Stop → Type 0
ReadsConfig (Ok text) old new given = GivesConfig (string_bytes text) old new given
ReadsConfig (Err fault) old new given = GivesNoConfig fault old new given
