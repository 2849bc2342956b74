-- What is said of a bad line on standard error. Source: mcgate's own.
use Rattle.std.specs.Prelude.{◌≡◌, ℕ, List, Option, None, Result, Ok, Err, String, string_bytes}
use Rattle.std.specs.declared.alloc.Global.{Global}
use Rattle.route_json.specs.Configuration.{Configuration}
use Rattle.script_events.specs.Lines.{lines_of}
use Rattle.fault_words.specs.Finding.{IsWrong, FindsBadLine}
use Rattle.fault_words.specs.declared.script.finding.BadLine.{BadLine}
use Rattle.mcgate_args.specs.declared.arguments.Task.{Task}
use Rattle.mcgate_args.specs.declared.arguments.Task.TheVariants as tasks
use Rattle.mcgate_ends.specs.declared.input_text.reading.InputFault.{InputFault}

-- what is found in an input is found so in its text; in one that was not read nothing is
abbrev pub FindsBy : (List ℕ → Option BadLine → Type 0) → Result (String Global) InputFault → Option BadLine → Type 0
FindsBy P (Ok text) found = P (string_bytes text) found
FindsBy P (Err fault) found = found ≡ None

-- in a script with its configuration its first bad line; in a configuration alone nothing
abbrev pub FindsInTask : Task → Result (String Global) InputFault → Option BadLine → Type 0
FindsInTask (tasks.Check form) input found = found ≡ None
FindsInTask (tasks.Replay judging) input found = FindsBy FindsBadLine input found

-- in events over a configuration their first bad line
abbrev pub FindsInEvents : Configuration → Result (String Global) InputFault → Option BadLine → Type 0
FindsInEvents config input found = FindsBy (λ text bad. IsWrong 1 (lines_of text) config bad) input found
