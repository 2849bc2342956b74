-- The lines that a run prints. Source: mcgate's own.
use Rattle.std.specs.Prelude.{ℕ, List, ◌++◌, codes, decimal, flat_map}
use Rattle.script_events.specs.Scripted.{Shown}
use Rattle.script_events.specs.declared.script.Report.{Report}
use Rattle.script_events.specs.Escapes.{escaped}

-- one entry of the transcript: < C TEXT
abbrev pub shown_line : Shown → List ℕ
shown_line s = codes "< " ++ decimal s.client ++ codes " " ++ escaped s.bytes ++ codes "\n"

-- the lines of a transcript
abbrev pub shown_lines : List Shown → List ℕ
shown_lines shown = flat_map shown_line shown

-- the last line of a run
abbrev pub report_line : Report → List ℕ
report_line r = codes "done " ++ decimal r.commands ++ codes " commands " ++ decimal r.calls ++ codes " calls " ++ decimal r.stale ++ codes " stale\n"

-- the line of a script that is bad
abbrev pub bad_line_line : ℕ → List ℕ
bad_line_line n = codes "script: bad line " ++ decimal n ++ codes "\n"
